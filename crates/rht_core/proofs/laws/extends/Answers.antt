use Rattle.rht_core.proofs.Events.Worlds.{extends}
use Rattle.rht_core.proofs.laws.extends.Goals as goal

pub returns : goal.returns
returns g c = extends g.row.M.Denot g.M.Mix.mix_of
