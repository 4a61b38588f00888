use Rattle.std.proofs.Common.{length, ap, arith}
use Rattle.rht_run.proofs.BatchCounts.{fits}
use Rattle.rht_run.proofs.pass.node_count.Goals as goal

pub overflow_cast-result : goal.overflow_cast-result
overflow_cast-result c =
    let few = fits c.args.batch.now c.geometry-geometry.ensures.sound in
    let fresh = ap length c.fresh.ensures in
    let waiting = ap length c.waiting.ensures in
    omega (arith, few, fresh, waiting)
