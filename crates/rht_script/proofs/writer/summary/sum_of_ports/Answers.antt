use Rattle.std.proofs.Common.{arith}
use Rattle.rht_script.proofs.Summaries.{sum_of_ports-more}
use Rattle.rht_script.proofs.writer.summary.sum_of_ports.Goals as goal

pub loop-i-preserved : goal.loop-i-preserved
loop-i-preserved c =
    let more = sum_of_ports-more c.args.bindings.now.pairs c.loop-i.i c.port.result c.port.ensures in
    record {
      sum = omega (arith, more, c.loop-i.invariant.sum);
      most = omega arith;
    }
