use Rattle.rht_lease.proofs.ScriptLaws.{takes_all}
use Rattle.rht_lease.proofs.laws.roomy.Goals as goal

pub returns : goal.returns
returns c = takes_all
