use Rattle.rht_lease.proofs.ScriptLaws.{history_fits}
use Rattle.rht_lease.proofs.laws.history_fits.Goals as goal

pub returns : goal.returns
returns g c = history_fits g.row.M.Denot
