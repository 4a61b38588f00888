use Rattle.std.proofs.Common.{arith}
use Rattle.rht_run.proofs.Rides.{before_few}
use Rattle.rht_run.proofs.table.Table.drive_bind.Goals as goal

pub section-requires : goal.section-requires
section-requires g c =
    omega (arith, c.requires.number, before_few g.M.Mix.mix_of c.args.self.now g.K.Ride.riding c.args.seat.now c.requires.before)
