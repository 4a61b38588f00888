use Rattle.rht_core.proofs.Reasons.CausesInRuns.{causes}
use Rattle.rht_core.proofs.laws.causes.Goals as goal

pub returns : goal.returns
returns g c = causes g.row.M.Denot g.M.Mix.mix_of
