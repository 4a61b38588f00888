use Rattle.std.proofs.Common.{◌*◌, ◌≤◌}
use Rattle.rht_bench.specs.Ready.{IsReady}
use Rattle.rht_bench.proofs.loops.churn.Given as goal

-- no more than two calls for each port so far were right
abbrev pub invariant-loop-index : goal.invariant-loop-index
invariant-loop-index g l = IsReady g.M.Mix.mix_of l.table l.pass × (l.right ≤ 2 * l.index)
