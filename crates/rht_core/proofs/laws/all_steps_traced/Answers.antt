use Rattle.rht_core.proofs.Tracing.StepsInTraces.{all_steps_traced}
use Rattle.rht_core.proofs.laws.all_steps_traced.Goals as goal

pub returns : goal.returns
returns g c = all_steps_traced g.row.M.Denot g.M.Mix.mix_of
