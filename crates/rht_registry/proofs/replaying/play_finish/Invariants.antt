use Rattle.std.proofs.Common.{◌≡◌, ◌+◌, ◌-◌}
use Rattle.rht_registry.specs.Replays.{most_events, times, finishing}
use Rattle.rht_registry.specs.Players.{playing_of, CanPlay}
use Rattle.rht_registry.proofs.PlayedParts.{StillToPlay}
use Rattle.rht_registry.proofs.replaying.play_finish.Given as goal

-- some events were played, and the others are still to be
abbrev pub invariant-loop : goal.invariant-loop
invariant-loop g l = record {
  rest : StillToPlay g.O.Sink.held g.O.Sink.faults l.initial.out l.out
      (times (most_events + 1) (finishing g.M.Mix.mix_of (l.worker - 1)) (l.number, playing_of l.commands l.initial.player))
      (times (most_events + 1 - l.counter) (finishing g.M.Mix.mix_of (l.worker - 1)) (l.calls, playing_of l.commands l.player));
  can : CanPlay l.player;
  env : l.player.state.env ≡ l.initial.player.state.env;
}
