use Rattle.rht_resume.proofs.BoundPieces.{shows_bound}
use Rattle.rht_resume.proofs.laws.bound.Goals as goal

pub returns : goal.returns
returns g c = shows_bound g.row.M.Denot g.M.Mix.mix_of
