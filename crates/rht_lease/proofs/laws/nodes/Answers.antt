use Rattle.rht_lease.proofs.ScriptLaws.{outnumbers}
use Rattle.rht_lease.proofs.laws.nodes.Goals as goal

pub returns : goal.returns
returns c = outnumbers
