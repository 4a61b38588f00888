use Rattle.rht_grace.proofs.TidyPlanned.{tidies_within}
use Rattle.rht_grace.proofs.laws.tidies_within.Goals as goal

pub returns : goal.returns
returns c = tidies_within
