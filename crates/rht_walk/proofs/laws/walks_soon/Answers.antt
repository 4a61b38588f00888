use Rattle.rht_walk.proofs.WalkBounds.{walks_soon}
use Rattle.rht_walk.proofs.laws.walks_soon.Goals as goal

pub returns : goal.returns
returns c = walks_soon
