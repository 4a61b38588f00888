use Rattle.rht_core.proofs.Undoing.RefusedCalls.{refused}
use Rattle.rht_core.proofs.laws.refused.Goals as goal

pub returns : goal.returns
returns g c = refused g.row.M.Denot g.M.Mix.mix_of
