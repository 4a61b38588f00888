use Rattle.rht_core.proofs.Histories.AloneLaw.{alone}
use Rattle.rht_core.proofs.laws.alone.Goals as goal

pub returns : goal.returns
returns g c = alone g.row.M.Denot g.M.Mix.mix_of
