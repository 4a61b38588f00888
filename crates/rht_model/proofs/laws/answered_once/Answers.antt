use Rattle.rht_model.proofs.Agreements.{IsAnswered-unique}
use Rattle.rht_model.proofs.laws.answered_once.Goals as goal

pub returns : goal.returns
returns c = IsAnswered-unique
