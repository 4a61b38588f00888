use Rattle.rht_core.proofs.Histories.ToldHistories.{told}
use Rattle.rht_core.proofs.laws.told.Goals as goal

pub returns : goal.returns
returns g c = told g.row.M.Denot g.M.Mix.mix_of
