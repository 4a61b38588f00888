use Rattle.std.proofs.Common.{◌≡◌, ◌-◌}
use Rattle.rht_registry.specs.Replays.{times, stepping}
use Rattle.rht_registry.specs.Players.{playing_of, CanPlay}
use Rattle.rht_registry.proofs.PlayedParts.{StillToPlay}
use Rattle.rht_registry.proofs.replaying.play_steps.Given as goal

-- some events were played, and the others are still to be
abbrev pub invariant-loop : goal.invariant-loop
invariant-loop g l = record {
  rest : StillToPlay g.O.Sink.held g.O.Sink.faults l.initial.out l.out
      (times l.number (stepping g.M.Mix.mix_of l.shown (l.worker - 1)) (playing_of l.commands l.initial.player))
      (times (l.number - l.counter) (stepping g.M.Mix.mix_of l.shown (l.worker - 1)) (playing_of l.commands l.player));
  can : CanPlay l.player;
  env : l.player.state.env ≡ l.initial.player.state.env;
}
