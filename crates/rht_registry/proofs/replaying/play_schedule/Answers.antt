use Rattle.std.proofs.Common.{◌≡◌, ℕ, ◌+◌, ◌∷◌, List, get_or, drop, drop-cons, add-one, length, ◌<◌, refl, sym, ◌∙◌, ap, arith}
use Rattle.rht_script.specs.declared.script.Sched.{Sched}
use Rattle.rht_script.specs.declared.script.Sched.TheVariants.{Step}
use Rattle.rht_registry.specs.Replays.{Playing, and_then, line_played, schedule_played}
use Rattle.rht_registry.specs.Players.{playing_of}
use Rattle.rht_registry.proofs.PlayedParts.{to_play-as, to_play-next, to_play-failed, Plays-failed}
use Rattle.rht_registry.proofs.replaying.play_schedule.Goals as goal

-- the next line, and those behind it
next_line : (schedule : List Sched) (i : ℕ) → i < length schedule
    → drop i schedule ≡ get_or schedule i (Step 0 0) ∷ drop (i + 1) schedule
next_line schedule i within = rw (add-one, drop-cons schedule i (Step 0 0)) refl

pub returns-in_err-play_line : goal.returns-in_err-play_line
returns-in_err-play_line g c =
    let mix = g.M.Mix.mix_of in
    let held = g.O.Sink.held in
    let faults = g.O.Sink.faults in
    let commands = c.args.commands.now in
    let schedule = c.args.schedule.now in
    let i = c.loop-line.line-index in
    let within : i < length schedule = omega arith in
    let p : Playing g.row.M.Denot = playing_of commands c.loop-line.player in
    let first = line_played mix (get_or schedule i (Step 0 0)) p in
    let next = schedule_played mix (drop (i + 1) schedule) in
    let whole = schedule_played mix schedule (playing_of commands c.args.player.now) in
    let to_play = to_play-as held faults c.args.out.now whole c.loop-line.out _ (and_then first next) c.loop-line.invariant.rest
    (ap (λ l. schedule_played mix l p) (next_line schedule i within)) in
    Plays-failed held faults c.args.out.now c.play_line.new.out c.from_residual.result commands whole c.args.player.now
    c.play_line.new.player
    (to_play-failed held faults c.args.out.now whole c.loop-line.out c.play_line.new.out c.in_err-play_line.field-0.0
    c.from_residual.result first next to_play c.in_err-play_line.ensures.put c.from_residual.ensures.0) c.from_residual.ensures.0

pub loop-line-preserved : goal.loop-line-preserved
loop-line-preserved g c =
    let mix = g.M.Mix.mix_of in
    let held = g.O.Sink.held in
    let faults = g.O.Sink.faults in
    let commands = c.args.commands.now in
    let schedule = c.args.schedule.now in
    let i = c.loop-line.line-index in
    let within : i < length schedule = omega arith in
    let p : Playing g.row.M.Denot = playing_of commands c.loop-line.player in
    let first = line_played mix (get_or schedule i (Step 0 0)) p in
    let next = schedule_played mix (drop (i + 1) schedule) in
    let whole = schedule_played mix schedule (playing_of commands c.args.player.now) in
    let to_play = to_play-as held faults c.args.out.now whole c.loop-line.out _ (and_then first next) c.loop-line.invariant.rest
    (ap (λ l. schedule_played mix l p) (next_line schedule i within)) in
    let put = to_play-next held faults c.args.out.now whole c.loop-line.out c.play_line.new.out first next to_play
    c.in_ok-play_line.ensures.put in
    record {
      rest = to_play-as held faults c.args.out.now whole c.play_line.new.out _ _ put (ap next (sym c.in_ok-play_line.ensures.now));
      can = c.in_ok-play_line.ensures.can;
      env = c.in_ok-play_line.ensures.env ∙ c.loop-line.invariant.env;
    }
