use Rattle.rht_core.proofs.Returning.RemovalsInRuns.{grace}
use Rattle.rht_core.proofs.laws.grace.Goals as goal

pub returns : goal.returns
returns g c = grace g.row.M.Denot g.M.Mix.mix_of
