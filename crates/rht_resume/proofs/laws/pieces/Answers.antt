use Rattle.rht_resume.proofs.PieceLaws.{cuts}
use Rattle.rht_resume.proofs.laws.pieces.Goals as goal

pub returns : goal.returns
returns c = cuts
