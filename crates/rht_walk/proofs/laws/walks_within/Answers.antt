use Rattle.rht_walk.proofs.WalkPlanned.{walks_within}
use Rattle.rht_walk.proofs.laws.walks_within.Goals as goal

pub returns : goal.returns
returns c = walks_within
