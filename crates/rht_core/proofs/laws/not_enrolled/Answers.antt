use Rattle.rht_core.proofs.Events.CallersNotEnrolled.{not_enrolled}
use Rattle.rht_core.proofs.laws.not_enrolled.Goals as goal

pub returns : goal.returns
returns g c = not_enrolled g.row.M.Denot g.M.Mix.mix_of
