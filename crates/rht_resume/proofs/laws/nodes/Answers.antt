use Rattle.rht_resume.proofs.ScriptLaws.{outnumbers}
use Rattle.rht_resume.proofs.laws.nodes.Goals as goal

pub returns : goal.returns
returns c = outnumbers
