use Rattle.rht_core.proofs.Counting.CountedRuns.{counted}
use Rattle.rht_core.proofs.laws.counted.Goals as goal

pub returns : goal.returns
returns g c = counted g.row.M.Denot g.M.Mix.mix_of
