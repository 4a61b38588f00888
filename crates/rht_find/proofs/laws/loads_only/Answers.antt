use Rattle.rht_find.proofs.FindBounds.{loads_only}
use Rattle.rht_find.proofs.laws.loads_only.Goals as goal

pub returns : goal.returns
returns c = loads_only
