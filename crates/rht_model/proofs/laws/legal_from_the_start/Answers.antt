use Rattle.rht_model.specs.Multimap.{unbound}
use Rattle.rht_model.proofs.LongerHistories.{IsLegalFrom-parts}
use Rattle.rht_model.proofs.laws.legal_from_the_start.Goals as goal

pub returns : goal.returns
returns c kind history more legal = (IsLegalFrom-parts kind unbound history more legal).0
