use Rattle.rht_resume.proofs.QuietWalks.{quiet}
use Rattle.rht_resume.proofs.laws.quiet.Goals as goal

pub returns : goal.returns
returns g c = quiet g.row.M.Denot g.M.Mix.mix_of
