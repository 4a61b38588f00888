use Rattle.rht_resume.proofs.ScriptLaws.{takes_all}
use Rattle.rht_resume.proofs.laws.roomy.Goals as goal

pub returns : goal.returns
returns c = takes_all
