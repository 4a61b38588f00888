use Rattle.std.proofs.Common.{◌∙◌, ap}
use Rattle.rht_registry.proofs.Enrolling.{enrolls-next}
use Rattle.rht_registry.proofs.replaying.player.enrolled.Goals as goal

pub loop-preserved : goal.loop-preserved
loop-preserved g c = record {
  config = ap (λ p. p.0.env.config) c.step.ensures ∙ c.loop.invariant.config;
  ways = ap (λ p. p.0.env.ways) c.step.ensures ∙ c.loop.invariant.ways;
  rest = enrolls-next g.row.M.Denot g.M.Mix.mix_of c.loop.state c.step.new.self c.step.result c.args.config.callers c.loop.counter
      c.loop-test.true c.step.ensures c.loop.invariant.rest;
}
