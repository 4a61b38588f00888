use Rattle.rht_reclaim.proofs.KeepsSections.{keeps_sections}
use Rattle.rht_reclaim.proofs.laws.keeps_sections.Goals as goal

pub returns : goal.returns
returns c = keeps_sections
