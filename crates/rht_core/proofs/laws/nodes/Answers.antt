use Rattle.rht_core.proofs.Counting.NodesUsed.{nodes}
use Rattle.rht_core.proofs.laws.nodes.Goals as goal

pub returns : goal.returns
returns g c = nodes g.row.M.Denot g.M.Mix.mix_of
