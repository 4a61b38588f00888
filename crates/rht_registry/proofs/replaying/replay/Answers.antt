use Rattle.std.proofs.Common.{ℕ, List, ◌++◌, ap, subst}
use Rattle.std.proofs.lemmas.Result.{err_from_is_err_and}
use Rattle.rht_policy.specs.Mix.{mix_named}
use Rattle.rht_registry.specs.Replays.{Playing, schedule_played, end_text, replay_text}
use Rattle.rht_registry.specs.Players.{playing_of, Writes}
use Rattle.rht_io.proofs.ToldLemmas.{Puts-longer}
use Rattle.rht_registry.proofs.PlayedParts.{Writes-failed, Writes-after, Writes-nothing}
use Rattle.rht_registry.proofs.ReplayEnds.{env_of, env_of-config, env_of-ways, lines-for, replay_text-one, replay_text-is, replay-in_run}
use Rattle.rht_registry.proofs.replaying.replay.Goals as goal

pub returns-in_err-player : goal.returns-in_err-player
returns-in_err-player g c =
    let script = c.args.script.now in
    let env = env_of script.config c.requires.sound.settled in
    let p = err_from_is_err_and c.from_residual.result c.from_residual.ensures.1 in
    record {
      env = env;
      config_same = env_of-config script.config c.requires.sound.settled;
      ways_plain = env_of-ways script.config c.requires.sound.settled;
      text = Writes-nothing g.O.Sink.held g.O.Sink.faults c.args.out.now c.from_residual.result
          (replay_text g.row.M.Denot (mix_named script.config) env script) c.from_residual.ensures.0
          (λ is. let e = p.1 in let m = p.2 in cc);
      in_run =
          replay-in_run g.row.M.Denot (mix_named script.config) env script
          (env_of-config script.config c.requires.sound.settled) c.requires.sound;
      one_text = replay_text-one g.row.M.Denot (mix_named script.config) script env
          (env_of-config script.config c.requires.sound.settled) (env_of-ways script.config c.requires.sound.settled);
    }

pub play_schedule-requires-clause-can : goal.play_schedule-requires-clause-can
play_schedule-requires-clause-can g c =
    let script = c.args.script.now in
    let player = c.in_ok-player.player in
    record {
      places = c.in_ok-player.ensures.places;
    }

pub play_schedule-requires-clause-lines : goal.play_schedule-requires-clause-lines
play_schedule-requires-clause-lines g c =
    let script = c.args.script.now in
    lines-for script.config c.in_ok-player.player.state.env script.schedule.items c.deref-2.result.now c.in_ok-player.ensures.config
    c.deref-2.ensures.value c.requires.sound.schedule

pub returns-in_err-play_schedule : goal.returns-in_err-play_schedule
returns-in_err-play_schedule g c =
    let script = c.args.script.now in
    let mix = g.M.Mix.mix_of in
    let player = c.in_ok-player.player in
    let env = player.state.env in
    let commands = c.deref.result.now in
    let schedule = c.deref-2.result.now in
    let played : Playing g.row.M.Denot × List ℕ = schedule_played mix schedule (playing_of commands player) in
    let is = replay_text-is mix (mix_named script.config) env script commands schedule player c.requires.mix c.deref.ensures.value
    c.deref-2.ensures.value (c.in_ok-player.ensures.playing commands) in
    let e = c.in_err-play_schedule.field-0.0 in
    record {
      env = env;
      config_same = c.in_ok-player.ensures.config;
      ways_plain = c.in_ok-player.ensures.ways;
      text = subst (Writes g.O.Sink.held g.O.Sink.faults c.args.out.now c.play_schedule.new.out
          c.from_residual-in_err-play_schedule.result) is
          (Writes-failed g.O.Sink.held g.O.Sink.faults c.args.out.now c.play_schedule.new.out e
          c.from_residual-in_err-play_schedule.result (played.1 ++ end_text played.0.core)
          (Puts-longer g.O.Sink.held g.O.Sink.faults c.args.out.now c.play_schedule.new.out e played.1 (end_text played.0.core)
          c.in_err-play_schedule.ensures.put) c.from_residual-in_err-play_schedule.ensures.0);
      in_run =
          replay-in_run g.row.M.Denot (mix_named script.config) env script c.in_ok-player.ensures.config c.requires.sound;
      one_text = replay_text-one g.row.M.Denot (mix_named script.config) script env c.in_ok-player.ensures.config
          c.in_ok-player.ensures.ways;
    }

pub returns : goal.returns
returns g c =
    let script = c.args.script.now in
    let mix = g.M.Mix.mix_of in
    let player = c.in_ok-player.player in
    let env = player.state.env in
    let commands = c.deref.result.now in
    let schedule = c.deref-2.result.now in
    let played : Playing g.row.M.Denot × List ℕ = schedule_played mix schedule (playing_of commands player) in
    let is = replay_text-is mix (mix_named script.config) env script commands schedule player c.requires.mix c.deref.ensures.value
    c.deref-2.ensures.value (c.in_ok-player.ensures.playing commands) in
    let last = ap (λ (p : Playing g.row.M.Denot). end_text p.core) c.in_ok-play_schedule.ensures.now in
    record {
      env = env;
      config_same = c.in_ok-player.ensures.config;
      ways_plain = c.in_ok-player.ensures.ways;
      text = subst (Writes g.O.Sink.held g.O.Sink.faults c.args.out.now c.write_end.new.out c.write_end.result) is
          (Writes-after g.O.Sink.held g.O.Sink.faults c.args.out.now c.play_schedule.new.out c.write_end.new.out c.write_end.result
          played.1 (end_text played.0.core) c.in_ok-play_schedule.ensures.put
          (subst (Writes g.O.Sink.held g.O.Sink.faults c.play_schedule.new.out c.write_end.new.out c.write_end.result) last
          c.write_end.ensures));
      in_run =
          replay-in_run g.row.M.Denot (mix_named script.config) env script c.in_ok-player.ensures.config c.requires.sound;
      one_text = replay_text-one g.row.M.Denot (mix_named script.config) script env c.in_ok-player.ensures.config
          c.in_ok-player.ensures.ways;
    }
