use Rattle.std.proofs.Common.{arith}
use Rattle.rht_find.specs.Find.{locating}
use Rattle.rht_run.specs.PieceFrames.{find_at}
use Rattle.rht_run.proofs.LookupCalls.{look_ends}
use Rattle.rht_run.proofs.Rides.{before_few}
use Rattle.rht_run.proofs.table.Table.drive_find.Goals as goal

pub new-find-requires : goal.new-find-requires
new-find-requires g c =
    omega (arith, c.requires.number, before_few g.M.Mix.mix_of c.args.self.now g.K.Ride.riding c.args.seat.now c.requires.before)

pub section-requires : goal.section-requires
section-requires g c =
    omega (arith, c.requires.number, before_few g.M.Mix.mix_of c.args.self.now g.K.Ride.riding c.args.seat.now c.requires.before)

pub unreachable-requires : goal.unreachable-requires
unreachable-requires g c =
    let is = c.loop-rounds.invariant in
    look_ends g.M.Mix.mix_of c.args.self.now g.K.Ride.riding
    (find_at c.args.self.now.env c.args.number c.args.port (locating c.args.self.now.env c.loop-rounds.table)) c.loop-rounds.seat
    c.args.port c.requires.call is.riding (omega (arith, is.made, c.loop-rounds-test.false))
