use Rattle.rht_resume.proofs.FewWalks.{few_walks}
use Rattle.rht_resume.proofs.laws.few_walks.Goals as goal

pub returns : goal.returns
returns g c = few_walks g.row.M.Denot g.M.Mix.mix_of
