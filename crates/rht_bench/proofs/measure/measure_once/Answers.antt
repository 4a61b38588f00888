use Rattle.rht_bench.proofs.ReadyPasses.{AreNew-IsReady}
use Rattle.rht_bench.proofs.measure.measure_once.Goals as goal

pub resizer-beside-requires : goal.resizer-beside-requires
resizer-beside-requires g c =
    AreNew-IsReady g.M.Mix.mix_of c.in_ok-table.table 0 c.in_ok-table.passes.items c.in_ok-table.ensures.passes
