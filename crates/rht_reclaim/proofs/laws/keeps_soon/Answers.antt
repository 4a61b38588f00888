use Rattle.rht_reclaim.proofs.KeepsSections.{keeps_soon}
use Rattle.rht_reclaim.proofs.laws.keeps_soon.Goals as goal

pub returns : goal.returns
returns c = keeps_soon
