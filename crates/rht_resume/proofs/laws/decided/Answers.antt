use Rattle.rht_resume.proofs.DecidedAnswers.{finished-decide}
use Rattle.rht_resume.proofs.laws.decided.Goals as goal

pub returns : goal.returns
returns c = finished-decide
