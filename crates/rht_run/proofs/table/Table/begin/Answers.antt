use Rattle.std.proofs.Common.{◌∙◌, sym, ap}
use Rattle.std.specs.Prelude.{Some}
use Rattle.rht_run.proofs.Rides.{may_begin, has_begun, of_piece}
use Rattle.rht_run.proofs.table.Table.begin.Goals as goal

pub perform-requires-clause-can : goal.perform-requires-clause-can
perform-requires-clause-can g c =
    may_begin g.M.Mix.mix_of c.args.self.now g.K.Ride.riding c.args.seat.now (g.F.Frame.holding c.args.frame.now c.args.piece.now)
    _ c.requires.before c.requires.begins c.requires.admitted
    (g.met.F.Frame.plans c.args.frame.now c.args.piece.now ∙ ap Some (sym c.planned-op.ensures))

pub returns-clause-doing : goal.returns-clause-doing
returns-clause-doing g c =
    has_begun g.M.Mix.mix_of c.args.self.now g.K.Ride.riding c.args.seat.now (g.F.Frame.holding c.args.frame.now c.args.piece.now)
    c.perform.new.seat c.perform.result c.requires.before c.requires.begins
    (λ room. g.F.Frame.empties c.args.frame.now c.args.piece.now room)
    (λ room. g.met.F.Frame.keeps c.args.frame.now c.args.piece.now room c.perform.result)
    (λ batch. g.F.Frame.beside c.args.frame.now c.args.piece.now batch)
    (λ room. g.F.Frame.pairs c.args.frame.now c.args.piece.now room)
    c.perform.ensures.seat c.perform.ensures.went

pub returns-clause-piece : goal.returns-clause-piece
returns-clause-piece g c =
    of_piece g.M.Mix.mix_of c.args.self.now g.K.Ride.riding (λ p. g.F.Frame.holding c.args.frame.now p)
    (λ a. g.F.Frame.behind c.args.frame.now a) _ _ c.perform.new.seat
    (g.met.F.Frame.goes c.args.frame.now c.args.piece.now c.perform.result)
    (has_begun g.M.Mix.mix_of c.args.self.now g.K.Ride.riding c.args.seat.now (g.F.Frame.holding c.args.frame.now c.args.piece.now)
    c.perform.new.seat c.perform.result c.requires.before c.requires.begins
    (λ room. g.F.Frame.empties c.args.frame.now c.args.piece.now room)
    (λ room. g.met.F.Frame.keeps c.args.frame.now c.args.piece.now room c.perform.result)
    (λ batch. g.F.Frame.beside c.args.frame.now c.args.piece.now batch)
    (λ room. g.F.Frame.pairs c.args.frame.now c.args.piece.now room)
    c.perform.ensures.seat c.perform.ensures.went)
