use Rattle.std.proofs.Common.{◌≡◌}
use Rattle.rht_core_tests.proofs.runs.reply_to.Given as goal

-- the table is the one that it was
abbrev pub invariant-loop : goal.invariant-loop
invariant-loop g l = l.state.env ≡ l.fn.state.env
