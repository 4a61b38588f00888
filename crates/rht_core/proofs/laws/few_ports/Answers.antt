use Rattle.rht_core.proofs.Counting.FewPorts.{few_ports}
use Rattle.rht_core.proofs.laws.few_ports.Goals as goal

pub returns : goal.returns
returns g c = few_ports g.row.M.Denot g.M.Mix.mix_of
