use Rattle.std.proofs.Common.{ap, ◌∙◌}
use Rattle.rht_core.proofs.Events.ReachedStates.{event-env}
use Rattle.rht_core_tests.proofs.runs.assert_told.Goals as goal

pub returns : goal.returns
returns g c =
    ap (λ p. p.0.env) c.step-stepped.ensures ∙ event-env g.row.M.Denot g.M.Mix.mix_of c.args.state.now _
