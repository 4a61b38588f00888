use Rattle.rht_resume.proofs.PieceLaws.{begins_anew}
use Rattle.rht_resume.proofs.laws.begun_anew.Goals as goal

pub returns : goal.returns
returns c = begins_anew
