use Rattle.std.proofs.Common.{arith}
use Rattle.rht_callers.specs.declared.local.Doing.TheVariants.{Finding}
use Rattle.rht_run.proofs.LookupCalls.{look_ends}
use Rattle.rht_run.proofs.table.Table.find_on.Goals as goal

pub unreachable-requires : goal.unreachable-requires
unreachable-requires g c =
    let is = c.loop-rounds.invariant in
    look_ends g.M.Mix.mix_of c.args.self.now g.K.Ride.riding (Finding c.loop-rounds.find) c.loop-rounds.seat c.args.port
    c.requires.call is.0 (omega (arith, is.1, c.loop-rounds-test.false))
