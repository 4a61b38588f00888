use Rattle.std.proofs.Common.{◌≡◌, ℕ, ◌+◌, ◌-◌, List, sym, ◌∙◌, ap}
use Rattle.rht_registry.specs.Replays.{Playing, event_text, and_then, times, stepping}
use Rattle.rht_registry.specs.Players.{playing_of}
use Rattle.rht_registry.proofs.PlayedParts.{times-still, times-next, to_play-as, to_play-next, to_play-failed, to_play-none, Plays-failed}
use Rattle.rht_registry.proofs.PlayedEvents.{stepping-event, stepping-over}
use Rattle.rht_registry.proofs.replaying.play_steps.Goals as goal

pub returns-then-player : goal.returns-then-player
returns-then-player g c =
    let mix = g.M.Mix.mix_of in
    let caller = c.args.worker - 1 in
    let part = stepping mix c.args.shown caller in
    let p : Playing g.row.M.Denot = playing_of c.args.commands.now c.loop.player in
    let whole = times c.args.number part (playing_of c.args.commands.now c.args.player.now) in
    let still = times-still part p (stepping-over mix caller p c.args.shown c.if-player.true) (c.args.number - c.loop.counter) in
    let done = to_play-none g.O.Sink.held g.O.Sink.faults c.args.out.now whole c.loop.out p _ c.loop.invariant.rest still in
    record { put = done.0; now = done.1; can = c.loop.invariant.can; env = c.loop.invariant.env }

pub returns-in_err-write_event : goal.returns-in_err-write_event
returns-in_err-write_event g c =
    let mix = g.M.Mix.mix_of in
    let held = g.O.Sink.held in
    let faults = g.O.Sink.faults in
    let commands = c.args.commands.now in
    let caller = c.args.worker - 1 in
    let part = stepping mix c.args.shown caller in
    let p : Playing g.row.M.Denot = playing_of commands c.loop.player in
    let after = c.event-event.new.self in
    let whole = times c.args.number part (playing_of commands c.args.player.now) in
    let next = times (c.args.number - (c.loop.counter + 1)) part in
    let first : Playing g.row.M.Denot × List ℕ =
    (playing_of commands after, event_text c.args.shown c.args.worker c.local.result.now c.event-event.result) in
    let is : first ≡ part p =
    stepping-event mix commands c.args.worker c.requires.first p after c.event-event.result c.local.result.now
    c.event-event.ensures.event c.local.ensures.local c.args.shown c.if-player.false in
    let to_play = to_play-as held faults c.args.out.now whole c.loop.out _ (and_then first next) c.loop.invariant.rest
    (times-next part c.args.number c.loop.counter p c.loop-test.true ∙ ap (λ f. and_then f next) (sym is)) in
    Plays-failed held faults c.args.out.now c.write_event.new.out c.from_residual.result commands whole c.args.player.now after
    (to_play-failed held faults c.args.out.now whole c.loop.out c.write_event.new.out c.in_err-write_event.field-0.0
    c.from_residual.result first next to_play c.in_err-write_event.ensures c.from_residual.ensures.0) c.from_residual.ensures.0

pub loop-preserved : goal.loop-preserved
loop-preserved g c =
    let mix = g.M.Mix.mix_of in
    let held = g.O.Sink.held in
    let faults = g.O.Sink.faults in
    let commands = c.args.commands.now in
    let caller = c.args.worker - 1 in
    let part = stepping mix c.args.shown caller in
    let p : Playing g.row.M.Denot = playing_of commands c.loop.player in
    let after = c.event-event.new.self in
    let whole = times c.args.number part (playing_of commands c.args.player.now) in
    let next = times (c.args.number - (c.loop.counter + 1)) part in
    let first : Playing g.row.M.Denot × List ℕ =
    (playing_of commands after, event_text c.args.shown c.args.worker c.local.result.now c.event-event.result) in
    let is : first ≡ part p =
    stepping-event mix commands c.args.worker c.requires.first p after c.event-event.result c.local.result.now
    c.event-event.ensures.event c.local.ensures.local c.args.shown c.if-player.false in
    let to_play = to_play-as held faults c.args.out.now whole c.loop.out _ (and_then first next) c.loop.invariant.rest
    (times-next part c.args.number c.loop.counter p c.loop-test.true ∙ ap (λ f. and_then f next) (sym is)) in
    record {
      rest = to_play-next held faults c.args.out.now whole c.loop.out c.write_event.new.out first next to_play c.in_ok-write_event.ensures;
      can = c.event-event.ensures.can;
      env = c.event-event.ensures.env ∙ c.loop.invariant.env;
    }
