use Rattle.rht_grace.proofs.TidyBounds.{tidies_soon}
use Rattle.rht_grace.proofs.laws.tidies_soon.Goals as goal

pub returns : goal.returns
returns c = tidies_soon
