use Rattle.rht_walk.proofs.WalkAnswers.{walks_rightly}
use Rattle.rht_walk.proofs.laws.walks_rightly.Goals as goal

pub returns : goal.returns
returns c = walks_rightly
