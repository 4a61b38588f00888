use Rattle.rht_model.proofs.Refusals.{IsAnswered-not_refused}
use Rattle.rht_model.proofs.laws.answered_or_refused.Goals as goal

pub returns : goal.returns
returns c = IsAnswered-not_refused
