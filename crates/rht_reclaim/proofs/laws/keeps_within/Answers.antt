use Rattle.rht_reclaim.proofs.KeepsSections.{keeps_within}
use Rattle.rht_reclaim.proofs.laws.keeps_within.Goals as goal

pub returns : goal.returns
returns c = keeps_within
