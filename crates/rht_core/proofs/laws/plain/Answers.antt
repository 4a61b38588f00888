use Rattle.rht_core.proofs.Events.PlainStarts.{plain_runs}
use Rattle.rht_core.proofs.laws.plain.Goals as goal

pub returns : goal.returns
returns g c = plain_runs g.row.M.Denot g.M.Mix.mix_of
