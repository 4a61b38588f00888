use Rattle.std.proofs.Common.{arith}
use Rattle.rht_run.proofs.Rides.{before_few}
use Rattle.rht_run.proofs.table.Table.drive_release.Goals as goal

pub new-release-requires : goal.new-release-requires
new-release-requires g c =
    omega (arith, c.requires.number, before_few g.M.Mix.mix_of c.args.self.now g.K.Ride.riding c.args.seat.now c.requires.before)

pub section-requires : goal.section-requires
section-requires g c =
    omega (arith, c.requires.number, before_few g.M.Mix.mix_of c.args.self.now g.K.Ride.riding c.args.seat.now c.requires.before)
