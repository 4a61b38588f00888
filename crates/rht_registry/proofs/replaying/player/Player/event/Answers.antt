use Rattle.std.proofs.Common.{◌+◌, ◌<◌, ◌≤◌, true, refl, ◌∙◌, ap, arith}
use Rattle.rht_core.specs.declared.event.Event.TheVariants.{Step}
use Rattle.rht_core.proofs.Events.ReachedStates.{event-env}
use Rattle.rht_registry.specs.declared.replaying.player.Player.{Player}
use Rattle.rht_registry.specs.Replays.{most_events}
use Rattle.rht_registry.proofs.PlayedEvents.{most_events-is, CanPlay-stays, event-limit, event-turn}
use Rattle.rht_registry.proofs.replaying.player.Player.event.Goals as goal

pub returns-then-self-ge-MOST_EVENTS-clause-event :
    goal.returns-then-self-ge-MOST_EVENTS-clause-event
returns-then-self-ge-MOST_EVENTS-clause-event g c =
    let before = c.args.self.now in
    let full : most_events ≤ before.made = omega (arith, most_events-is, c.if-self-ge-MOST_EVENTS.true) in
    let after : Player g.row.M.Denot = record { state = before.state; next = before.next; made = before.made; over = true } in
    event-limit g.M.Mix.mix_of c.args.commands.now c.args.caller before after full refl refl refl refl

pub returns-clause-event : goal.returns-clause-event
returns-clause-event g c =
    let before = c.args.self.now in
    let ready = c.ready.new.self in
    let more : before.made < most_events = omega (arith, most_events-is, c.if-self-ge-MOST_EVENTS.false) in
    let after : Player g.row.M.Denot =
    record { state = c.step.new.self; next = ready.next; made = ready.made + 1; over = ready.over } in
    event-turn g.M.Mix.mix_of c.args.commands.now c.args.caller before ready after c.step.result more c.ready.ensures.playing
    c.step.ensures refl refl refl

pub returns-clause-can : goal.returns-clause-can
returns-clause-can g c =
    let ready = c.ready.new.self in
    let after : Player g.row.M.Denot =
    record { state = c.step.new.self; next = ready.next; made = ready.made + 1; over = ready.over } in
    CanPlay-stays ready after c.ready.ensures.can refl
    (ap (λ p. p.0.env) c.step.ensures ∙ event-env g.row.M.Denot g.M.Mix.mix_of ready.state (Step c.args.caller))
