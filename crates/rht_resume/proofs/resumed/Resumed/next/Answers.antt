use Rattle.std.proofs.Common.{◌≡◌, ℕ, ◌<◌, Some, refl, ◌∙◌, ap, rules, arith}
use Rattle.rht_model.specs.Rooms.{Kept}
use Rattle.rht_resume.specs.Pieces.{Walking, begun}
use Rattle.rht_resume.specs.ServedPieces.{most_buckets}
use Rattle.rht_resume.proofs.NextWalks.{begun-open, IsNextUnderway-none, IsNextUnderway-more, HasResumed-over, IsAgainCaused-over}
use Rattle.rht_resume.proofs.resumed.Resumed.next.Goals as goal

pub loop-init : goal.loop-init
loop-init g c =
    let walking = c.args.self.now in
    IsNextUnderway-none g.M.Mix.mix_of c.args.table.now c.args.limit (begun walking.spot) walking.nodes c.args.pass.now _
    (ap (λ (w : Walking). w.spot) c.self.view_is ∙ begun-open walking.spot c.requires.open)
    (ap (λ (k : Kept (ℕ × ℕ)). k.limit) c.clear.ensures ∙ ap (λ (w : Walking). w.nodes) c.self.view_is)
    (ap (λ (k : Kept (ℕ × ℕ)). k.items) c.clear.ensures) c.requires.pass c.requires.idle

pub returns-in-Some-turn-clause-resumed : goal.returns-in-Some-turn-clause-resumed
returns-in-Some-turn-clause-resumed g c =
    let walking = c.args.self.now in
    let is : c.loop.self.spot ≡ Some c.in-Some.spot = search rules in
    let few : c.loop.counter < most_buckets = omega (arith, c.loop-test.true) in
    HasResumed-over g.M.Mix.mix_of c.args.table.now c.args.limit (begun walking.spot) walking.nodes c.args.pass.now c.loop.counter c.loop.self
    c.turn.new.self c.loop.pass c.turn.new.pass c.loop.invariant walking c.in-Some-turn.piece refl refl few c.in-Some.spot is
    c.in-Some-turn.ensures

pub loop-preserved : goal.loop-preserved
loop-preserved g c =
    let walking = c.args.self.now in
    let is : c.loop.self.spot ≡ Some c.in-Some.spot = search rules in
    IsNextUnderway-more g.M.Mix.mix_of c.args.table.now c.args.limit (begun walking.spot) walking.nodes c.args.pass.now c.loop.counter c.loop.self
    c.turn.new.self c.loop.pass c.turn.new.pass c.loop.invariant c.in-Some.spot is c.in_default-turn.ensures

pub returns-in-Some-turn-clause-cause : goal.returns-in-Some-turn-clause-cause
returns-in-Some-turn-clause-cause g c =
    let walking = c.args.self.now in
    IsAgainCaused-over g.M.Mix.mix_of c.args.table.now c.args.limit (begun walking.spot) walking.nodes c.args.pass.now c.loop.counter c.loop.self
    c.turn.new.self c.loop.pass c.turn.new.pass c.loop.invariant c.in-Some.spot c.in-Some-turn.piece c.in-Some-turn.ensures
