use Rattle.std.proofs.Common.{sym, ap, refl}
use Rattle.std.specs.Prelude.{Some}
use Rattle.rht_callers.specs.declared.local.Doing.TheVariants.{Walking}
use Rattle.rht_run.specs.Walking.{walk_now}
use Rattle.rht_run.proofs.Rides.{may_perform}
use Rattle.rht_run.proofs.WalkRides.{walk_stepped}
use Rattle.rht_run.proofs.table.Table.walking_at.Goals as goal

pub perform-requires-clause-can : goal.perform-requires-clause-can
perform-requires-clause-can g c =
    may_perform g.M.Mix.mix_of c.args.self.now g.K.Ride.riding c.args.seat.now
    (Walking (walk_now c.args.walker c.args.room.now c.args.at)) c.args.op c.requires.riding refl (ap Some (sym c.requires.op))

pub returns : goal.returns
returns g c =
    walk_stepped g.M.Mix.mix_of c.args.self.now g.K.Ride.riding (walk_now c.args.walker c.args.room.now c.args.at) c.args.seat.now
    c.perform.new.seat c.perform.result c.requires.riding c.perform.ensures.seat c.perform.ensures.went
