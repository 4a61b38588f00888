use Rattle.rht_core.proofs.Reasons.SectionsLooked.{awaited}
use Rattle.rht_core.proofs.laws.awaited.Goals as goal

pub returns : goal.returns
returns g c = awaited g.row.M.Denot g.M.Mix.mix_of
