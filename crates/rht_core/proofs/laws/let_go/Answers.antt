use Rattle.rht_core.proofs.Undoing.LocksLetGo.{let_go}
use Rattle.rht_core.proofs.laws.let_go.Goals as goal

pub returns : goal.returns
returns g c = let_go g.row.M.Denot g.M.Mix.mix_of
