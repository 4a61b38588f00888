use Rattle.std.proofs.Common.{arith}
use Rattle.rht_run.proofs.Rides.{riding_few}
use Rattle.rht_run.proofs.table.Table.close_rebound.Goals as goal

pub section-requires : goal.section-requires
section-requires g c =
    omega (arith, c.requires.in_range.same_caller, riding_few g.M.Mix.mix_of c.args.self.now g.K.Ride.riding _ c.args.seat.now c.requires)
