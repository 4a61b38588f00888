use Rattle.rht_model.specs.Multimap.{unbound}
use Rattle.rht_model.proofs.LongerHistories.{IsLegalFrom-push}
use Rattle.rht_model.proofs.laws.extended_by_one.Goals as goal

pub returns : goal.returns
returns c kind history entry = IsLegalFrom-push kind unbound history entry
