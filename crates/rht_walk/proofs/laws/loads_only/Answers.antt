use Rattle.rht_walk.proofs.WalkPlanned.{loads_only}
use Rattle.rht_walk.proofs.laws.loads_only.Goals as goal

pub returns : goal.returns
returns c = loads_only
