use Rattle.rht_core.proofs.Counting.OneCaller.{one_caller}
use Rattle.rht_core.proofs.laws.one_caller.Goals as goal

pub returns : goal.returns
returns g c = one_caller g.row.M.Denot g.M.Mix.mix_of
