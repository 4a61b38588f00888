use Rattle.rht_core.proofs.Reasons.ListingsKept.{listed_owners}
use Rattle.rht_core.proofs.laws.listed.Goals as goal

pub returns : goal.returns
returns g c = listed_owners g.row.M.Denot g.M.Mix.mix_of
