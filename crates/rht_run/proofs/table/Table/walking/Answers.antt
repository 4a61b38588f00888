use Rattle.std.proofs.Common.{sym, ap, refl, arith}
use Rattle.std.specs.Prelude.{Some, None}
use Rattle.rht_callers.specs.declared.local.Doing.TheVariants.{Walking}
use Rattle.rht_run.specs.Walking.{walk_now}
use Rattle.rht_run.proofs.Performed.{place_small}
use Rattle.rht_run.proofs.Rides.{may_perform}
use Rattle.rht_run.proofs.table.Table.walking.Goals as goal

pub physical-place-requires : goal.physical-place-requires
physical-place-requires g c =
    let can = may_perform g.M.Mix.mix_of c.args.self.now g.K.Ride.riding c.args.seat.now
    (Walking (walk_now c.args.walker c.args.room.now c.args.at)) c.args.op c.requires.riding refl (ap Some (sym c.requires.op)) in
    omega (arith, c.place.ensures, place_small g.row.M.Denot g.M.Mix.mix_of None c.args.self.now c.args.seat.now c.args.op can)
