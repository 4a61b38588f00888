use Rattle.std.proofs.Common.{◌≡◌}
use Rattle.rht_core_tests.proofs.runs.closing.closed_after.Given as goal

-- the table has one caller
abbrev pub invariant-loop-asked : goal.invariant-loop-asked
invariant-loop-asked g l = l.state.env.geometry.callers ≡ 1
