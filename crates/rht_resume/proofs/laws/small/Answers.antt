use Rattle.rht_resume.proofs.ScriptLaws.{as_model}
use Rattle.rht_resume.proofs.laws.small.Goals as goal

pub returns : goal.returns
returns c = as_model
