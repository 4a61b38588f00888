use Rattle.std.proofs.Common.{◌≡◌, length}
use Rattle.rht_check.specs.ClaimLines.{owners_of}
use Rattle.rht_check.proofs.OwnersRead.{with_front}
use Rattle.rht_check.proofs.reader.owners.Given as goal

-- the owners so far, and those of the words that are left, are the owners of all words
abbrev pub invariant-loop-word : goal.invariant-loop-word
invariant-loop-word l = with_front l.owners (owners_of l.words) ≡ owners_of l.initial.words

-- the words that are left
abbrev pub decreases-loop-word : goal.decreases-loop-word
decreases-loop-word l = length l.words
