use Rattle.std.proofs.Common.{◌∙◌, sym, ap, arith}
use Rattle.std.specs.Prelude.{Some, None}
use Rattle.rht_run.proofs.Rides.{may_perform}
use Rattle.rht_run.proofs.Performed.{place_small}
use Rattle.rht_run.proofs.table.Table.operate.Goals as goal

pub physical-at-requires : goal.physical-at-requires
physical-at-requires g c =
    let can = may_perform g.M.Mix.mix_of c.args.self.now g.K.Ride.riding c.args.seat.now
    (g.F.Frame.holding c.args.frame.now c.args.piece.now) _ c.requires (g.F.Frame.busy _ _)
    (g.met.F.Frame.plans c.args.frame.now c.args.piece.now ∙ ap Some (sym c.planned-op.ensures)) in
    omega (arith, c.place.ensures, place_small g.row.M.Denot g.M.Mix.mix_of None c.args.self.now c.args.seat.now _ can)
