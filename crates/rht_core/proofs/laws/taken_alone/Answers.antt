use Rattle.rht_core.proofs.Counting.NodesTaken.{taken_alone}
use Rattle.rht_core.proofs.laws.taken_alone.Goals as goal

pub returns : goal.returns
returns g c = taken_alone g.row.M.Denot g.M.Mix.mix_of
