use Rattle.std.proofs.Common.{◌≡◌, ◌-◌}
use Rattle.rht_words.specs.Settled.{plain_ways}
use Rattle.rht_registry.proofs.Enrolling.{Enrolls}
use Rattle.rht_registry.proofs.replaying.player.enrolled.Given as goal

-- some have enrolled, and the others are still to
abbrev pub invariant-loop : goal.invariant-loop
invariant-loop g l = record {
  config : l.state.env.config ≡ l.fn.config;
  ways : l.state.env.ways ≡ plain_ways;
  rest : Enrolls g.row.M.Denot g.M.Mix.mix_of l.state (l.end - l.counter);
}
