use Rattle.std.proofs.Common.{◌≤◌}
use Rattle.rht_bench.specs.Ready.{IsReady}
use Rattle.rht_bench.proofs.loops.binds.Given as goal

-- no more than one call for each port so far was right
abbrev pub invariant-loop-index : goal.invariant-loop-index
invariant-loop-index g l = IsReady g.M.Mix.mix_of l.table l.pass × (l.right ≤ l.index)
