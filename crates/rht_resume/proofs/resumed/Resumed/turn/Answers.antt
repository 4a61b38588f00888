use Rattle.std.proofs.Common.{ℕ, Some, [], ◌∙◌, ap}
use Rattle.rht_model.specs.Rooms.{Kept}
use Rattle.rht_resume.specs.Pieces.{Walking, start}
use Rattle.rht_resume.proofs.WalkSteps.{HasTurned-walked, HasTurned-again}
use Rattle.rht_resume.proofs.resumed.Resumed.turn.Goals as goal

pub returns-in-Walked : goal.returns-in-Walked
returns-in-Walked g c =
    HasTurned-walked g.M.Mix.mix_of c.args.table.now c.args.limit c.args.spot c.args.self.now c.take.new.self c.take.result c.args.pass.now
    c.walk.new.pass c.in-Walked.len c.in-Walked.next c.pairs.result.now c.requires.pairs c.in-Walked.ensures.called c.in-Walked.ensures.cause
    c.pairs.ensures.pairs c.take.ensures

pub returns-in-Again : goal.returns-in-Again
returns-in-Again g c =
    HasTurned-again g.M.Mix.mix_of c.args.table.now c.args.limit c.args.spot c.args.self.now _ c.args.pass.now c.walk.new.pass
    c.in-Again.table c.in-Again.ensures.called c.in-Again.ensures.cause
    (ap (λ (k : Kept (ℕ × ℕ)). record { spot = Some start; pairs = k.items; nodes = k.limit }) c.clear.ensures
    ∙ ap (λ (w : Walking). record { spot = Some start; pairs = []; nodes = w.nodes }) c.self.view_is)
