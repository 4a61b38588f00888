use Rattle.rht_core.proofs.Reasons.KicksInRuns.{kicks}
use Rattle.rht_core.proofs.laws.kicks.Goals as goal

pub returns : goal.returns
returns g c = kicks g.row.M.Denot g.M.Mix.mix_of
