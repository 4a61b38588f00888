use Rattle.std.proofs.Common.{sym, subst}
use Rattle.rht_script.specs.declared.script.Sched.{Sched}
use Rattle.rht_registry.specs.Replays.{line_played}
use Rattle.rht_registry.specs.Players.{playing_of, Plays}
use Rattle.rht_registry.proofs.replaying.play_line.Goals as goal

pub returns-in-Step : goal.returns-in-Step
returns-in-Step g c =
    subst (λ (l : Sched). Plays g.O.Sink.held g.O.Sink.faults c.args.out.now c.play_steps.new.out c.play_steps.result
    c.args.commands.now (line_played g.M.Mix.mix_of l (playing_of c.args.commands.now c.args.player.now)) c.args.player.now
    c.play_steps.new.player) (sym c.in-Step.is) c.play_steps.ensures

pub returns-in-Skip : goal.returns-in-Skip
returns-in-Skip g c =
    subst (λ (l : Sched). Plays g.O.Sink.held g.O.Sink.faults c.args.out.now c.play_steps-in-Skip.new.out c.play_steps-in-Skip.result
    c.args.commands.now (line_played g.M.Mix.mix_of l (playing_of c.args.commands.now c.args.player.now)) c.args.player.now
    c.play_steps-in-Skip.new.player) (sym c.in-Skip.is) c.play_steps-in-Skip.ensures

pub returns-in-Finish : goal.returns-in-Finish
returns-in-Finish g c =
    subst (λ (l : Sched). Plays g.O.Sink.held g.O.Sink.faults c.args.out.now c.play_finish.new.out c.play_finish.result
    c.args.commands.now (line_played g.M.Mix.mix_of l (playing_of c.args.commands.now c.args.player.now)) c.args.player.now
    c.play_finish.new.player) (sym c.in-Finish.is) c.play_finish.ensures
