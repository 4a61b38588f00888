use Rattle.rht_lease.proofs.ScriptLaws.{as_model}
use Rattle.rht_lease.proofs.laws.small.Goals as goal

pub returns : goal.returns
returns c = as_model
