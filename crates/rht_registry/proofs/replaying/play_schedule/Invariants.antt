use Rattle.std.proofs.Common.{◌≡◌, drop}
use Rattle.rht_registry.specs.Replays.{schedule_played}
use Rattle.rht_registry.specs.Players.{playing_of, CanPlay}
use Rattle.rht_registry.proofs.PlayedParts.{StillToPlay}
use Rattle.rht_registry.proofs.replaying.play_schedule.Given as goal

-- some lines were played, and the others are still to be
abbrev pub invariant-loop-line : goal.invariant-loop-line
invariant-loop-line g l = record {
  rest : StillToPlay g.O.Sink.held g.O.Sink.faults l.initial.out l.out
      (schedule_played g.M.Mix.mix_of l.schedule (playing_of l.commands l.initial.player))
      (schedule_played g.M.Mix.mix_of (drop l.line-index l.schedule) (playing_of l.commands l.player));
  can : CanPlay l.player;
  env : l.player.state.env ≡ l.initial.player.state.env;
}
