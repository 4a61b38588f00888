use Rattle.std.proofs.Common.{◌≡◌, ℕ, ◌+◌, ◌-◌, ◌<◌, ◌≤◌, List, false, sym, ◌∙◌, ap, arith}
use Rattle.rht_registry.specs.Replays.{Playing, most_events, event_text, still_to_end, event_of, and_then, times, finishing, line_played}
use Rattle.rht_script.specs.declared.script.Sched.TheVariants as lines
use Rattle.rht_registry.specs.Players.{playing_of}
use Rattle.rht_registry.proofs.PlayedParts.{times-still, times-next, times-no_more, to_play-as, to_play-next, to_play-failed, to_play-none, Plays-failed}
use Rattle.rht_registry.proofs.PlayedEvents.{most_events-is, finishing-event, finishing-still}
use Rattle.rht_registry.proofs.replaying.play_finish.Goals as goal

pub returns-then-is_finished : goal.returns-then-is_finished
returns-then-is_finished g c =
    let mix = g.M.Mix.mix_of in
    let caller = c.args.worker - 1 in
    let part = finishing mix caller in
    let p : Playing g.row.M.Denot = playing_of c.args.commands.now c.loop.player in
    let whole = times (most_events + 1) part (c.args.number, playing_of c.args.commands.now c.args.player.now) in
    let test = sym c.is_finished.ensures.finished ∙ c.if-is_finished.true in
    let a : ℕ × Playing g.row.M.Denot = (c.loop.calls, p) in
    let still = times-still part a (finishing-still mix caller p c.loop.calls test) (most_events + 1 - c.loop.counter) in
    let done = to_play-none g.O.Sink.held g.O.Sink.faults c.args.out.now whole c.loop.out a _ c.loop.invariant.rest still in
    record {
      put = done.0;
      now = c.is_finished.ensures.playing ∙ ap (λ e. e.1) done.1;
      can = c.is_finished.ensures.can;
      env = ap (λ (q : Playing g.row.M.Denot). q.core.env) c.is_finished.ensures.playing ∙ c.loop.invariant.env;
    }

pub returns : goal.returns
returns g c =
    let mix = g.M.Mix.mix_of in
    let caller = c.args.worker - 1 in
    let part = finishing mix caller in
    let p : Playing g.row.M.Denot = playing_of c.args.commands.now c.loop.player in
    let whole = times (most_events + 1) part (c.args.number, playing_of c.args.commands.now c.args.player.now) in
    let a : ℕ × Playing g.row.M.Denot = (c.loop.calls, p) in
    let over : most_events + 1 ≤ c.loop.counter = omega (arith, most_events-is, c.loop-test.false) in
    let none = times-no_more part (most_events + 1) c.loop.counter a over in
    let done = to_play-none g.O.Sink.held g.O.Sink.faults c.args.out.now whole c.loop.out a _ c.loop.invariant.rest none in
    record { put = done.0; now = ap (λ e. e.1) done.1; can = c.loop.invariant.can; env = c.loop.invariant.env }

pub returns-in_err-write_event : goal.returns-in_err-write_event
returns-in_err-write_event g c =
    let mix = g.M.Mix.mix_of in
    let held = g.O.Sink.held in
    let faults = g.O.Sink.faults in
    let commands = c.args.commands.now in
    let caller = c.args.worker - 1 in
    let part = finishing mix caller in
    let p : Playing g.row.M.Denot = playing_of commands c.loop.player in
    let a : ℕ × Playing g.row.M.Denot = (c.loop.calls, p) in
    let after = c.event-event.new.self in
    let whole = times (most_events + 1) part (c.args.number, playing_of commands c.args.player.now) in
    let next = times (most_events + 1 - (c.loop.counter + 1)) part in
    let event = c.event-event.result in
    let first : (ℕ × Playing g.row.M.Denot) × List ℕ =
    ((still_to_end c.loop.calls event, playing_of commands after), event_text false c.args.worker c.local.result.now event) in
    let goes = sym c.is_finished.ensures.finished ∙ c.if-is_finished.false in
    let more : c.loop.counter < most_events + 1 = omega (arith, most_events-is, c.loop-test.true) in
    let made = c.event-event.ensures.event ∙ ap (λ (q : Playing g.row.M.Denot). event_of mix q caller) c.is_finished.ensures.playing in
    let is : first ≡ part a =
    finishing-event mix commands c.args.worker c.requires.first p after event c.local.result.now made c.local.ensures.local
    c.loop.calls goes in
    let to_play = to_play-as held faults c.args.out.now whole c.loop.out _ (and_then first next) c.loop.invariant.rest
    (times-next part (most_events + 1) c.loop.counter a more ∙ ap (λ f. and_then f next) (sym is)) in
    let played : Playing g.row.M.Denot × List ℕ =
    line_played mix (lines.Finish c.args.worker c.args.number) (playing_of commands c.args.player.now) in
    Plays-failed held faults c.args.out.now c.write_event.new.out c.from_residual.result commands played c.args.player.now after
    (to_play-failed held faults c.args.out.now whole c.loop.out c.write_event.new.out c.in_err-write_event.field-0.0
    c.from_residual.result first next to_play c.in_err-write_event.ensures c.from_residual.ensures.0) c.from_residual.ensures.0

pub loop-preserved : goal.loop-preserved
loop-preserved g c =
    let mix = g.M.Mix.mix_of in
    let held = g.O.Sink.held in
    let faults = g.O.Sink.faults in
    let commands = c.args.commands.now in
    let caller = c.args.worker - 1 in
    let part = finishing mix caller in
    let p : Playing g.row.M.Denot = playing_of commands c.loop.player in
    let a : ℕ × Playing g.row.M.Denot = (c.loop.calls, p) in
    let after = c.event-event.new.self in
    let whole = times (most_events + 1) part (c.args.number, playing_of commands c.args.player.now) in
    let next = times (most_events + 1 - (c.loop.counter + 1)) part in
    let event = c.event-event.result in
    let q : Playing g.row.M.Denot = playing_of commands after in
    let first : (ℕ × Playing g.row.M.Denot) × List ℕ =
    ((still_to_end c.loop.calls event, q), event_text false c.args.worker c.local.result.now event) in
    let goes = sym c.is_finished.ensures.finished ∙ c.if-is_finished.false in
    let more : c.loop.counter < most_events + 1 = omega (arith, most_events-is, c.loop-test.true) in
    let made = c.event-event.ensures.event ∙ ap (λ (q : Playing g.row.M.Denot). event_of mix q caller) c.is_finished.ensures.playing in
    let is : first ≡ part a =
    finishing-event mix commands c.args.worker c.requires.first p after event c.local.result.now made c.local.ensures.local
    c.loop.calls goes in
    let to_play = to_play-as held faults c.args.out.now whole c.loop.out _ (and_then first next) c.loop.invariant.rest
    (times-next part (most_events + 1) c.loop.counter a more ∙ ap (λ f. and_then f next) (sym is)) in
    let put = to_play-next held faults c.args.out.now whole c.loop.out c.write_event.new.out first next to_play c.in_ok-write_event.ensures in
    let env = ap (λ (q : Playing g.row.M.Denot). q.core.env) c.is_finished.ensures.playing ∙ c.loop.invariant.env in
    record {
      rest = to_play-as held faults c.args.out.now whole c.write_event.new.out _ _ put
          (ap (λ n. let b : ℕ × Playing g.row.M.Denot = (n, q) in next b) (sym c.still_to_end-calls.ensures));
      can = c.event-event.ensures.can;
      env = c.event-event.ensures.env ∙ env;
    }
