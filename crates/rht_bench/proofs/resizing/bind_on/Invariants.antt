use Rattle.rht_bench.specs.Ready.{IsReady}
use Rattle.rht_bench.proofs.resizing.bind_on.Given as goal

-- the pass is in no call
abbrev pub invariant-loop-index : goal.invariant-loop-index
invariant-loop-index g l = IsReady g.M.Mix.mix_of l.table l.pass
