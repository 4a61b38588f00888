use Rattle.rht_model.proofs.OneListing.{Lists-unique}
use Rattle.rht_model.proofs.laws.listed_once.Goals as goal

pub returns : goal.returns
returns c = Lists-unique
