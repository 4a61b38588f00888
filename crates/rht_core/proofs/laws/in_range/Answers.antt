use Rattle.rht_core.proofs.Events.BatchesInRuns.{all_in_range}
use Rattle.rht_core.proofs.laws.in_range.Goals as goal

pub returns : goal.returns
returns g c = all_in_range g.row.M.Denot g.M.Mix.mix_of
