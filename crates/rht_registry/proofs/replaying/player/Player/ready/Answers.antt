use Rattle.std.proofs.Common.{refl, sym, ◌∙◌, ap}
use Rattle.rht_core.specs.Locals.{is_idle}
use Rattle.rht_callers.specs.declared.local.Local.{Local}
use Rattle.rht_registry.specs.declared.replaying.player.Player.{Player}
use Rattle.rht_registry.proofs.PlayedEvents.{CanPlay-stays, readied-player}
use Rattle.rht_registry.proofs.replaying.player.Player.ready.Goals as goal

pub returns-in-Some-clause-playing : goal.returns-in-Some-clause-playing
returns-in-Some-clause-playing g c =
    let taken = c.take.new.self in
    let idle = ap (λ (l : Local g.row.M.Denot). is_idle l) (sym c.local.ensures.local) ∙ sym c.is_idle.ensures ∙ c.if-not-is_idle.false in
    let after : Player g.row.M.Denot =
    record { state = c.step.new.self; next = taken.next; made = taken.made; over = taken.over } in
    readied-player g.M.Mix.mix_of c.args.commands.now c.args.caller c.args.self.now taken after c.in-Some.call c.step.result idle
    c.in-Some.ensures.taken c.in-Some.ensures.state c.step.ensures refl refl refl

pub returns-in-Some-clause-can : goal.returns-in-Some-clause-can
returns-in-Some-clause-can g c =
    let taken = c.take.new.self in
    let after : Player g.row.M.Denot =
    record { state = c.step.new.self; next = taken.next; made = taken.made; over = taken.over } in
    CanPlay-stays taken after c.in-Some.ensures.can refl (ap (λ p. p.0.env) c.step.ensures)
