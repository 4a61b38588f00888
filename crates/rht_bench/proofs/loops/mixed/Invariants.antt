use Rattle.std.proofs.Common.{◌*◌, ◌≤◌}
use Rattle.rht_bench.specs.Ready.{IsReady}
use Rattle.rht_bench.proofs.loops.mixed.Given as goal

-- no more than twenty calls in each block so far were right
abbrev pub invariant-loop-block : goal.invariant-loop-block
invariant-loop-block g l = IsReady g.M.Mix.mix_of l.table l.pass × (l.right ≤ l.block * 20)
