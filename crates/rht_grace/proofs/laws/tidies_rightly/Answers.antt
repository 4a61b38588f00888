use Rattle.rht_grace.proofs.TidyAnswers.{tidies_rightly}
use Rattle.rht_grace.proofs.laws.tidies_rightly.Goals as goal

pub returns : goal.returns
returns c = tidies_rightly
