use Rattle.std.proofs.Common.{◌≡◌}
use Rattle.rht_grace.specs.Batch.{first_odd}
use Rattle.rht_grace.proofs.batch.first_odd.Given as goal

-- no odd word was seen so far
abbrev pub invariant-loop-other : goal.invariant-loop-other
invariant-loop-other l = first_odd l.kept l.caller ≡ first_odd l.kept l.other
