use Rattle.std.proofs.Common.{◌≡◌, ℕ, List, length, take}
use Rattle.std.specs.Slots.{slots_items}
use Rattle.rht_run.specs.Layout.{IsLaidOut}
use Rattle.rht_run.proofs.closing.read_words.Given as goal

-- the words before this place are read
abbrev pub invariant-loop-place : goal.invariant-loop-place
invariant-loop-place l = record {
  limit : l.into.limit ≡ l.count;
  count : length l.into.items ≡ l.place;
  words : (words : List ℕ) → IsLaidOut (slots_items l.closed.words) words → length words ≡ l.count
      → l.into.items ≡ take l.place words;
}
