use Rattle.rht_core.proofs.Events.RangesInRuns.{enrolled}
use Rattle.rht_core.proofs.laws.enrolled.Goals as goal

pub returns : goal.returns
returns g c = enrolled g.row.M.Denot g.M.Mix.mix_of
