use Rattle.rht_core.proofs.Returning.InsideInRuns.{inside}
use Rattle.rht_core.proofs.laws.inside.Goals as goal

pub returns : goal.returns
returns g c = inside g.row.M.Denot g.M.Mix.mix_of
