use Rattle.rht_grace.proofs.SectionsTurned.{turn_sections}
use Rattle.rht_grace.proofs.laws.turn_sections.Goals as goal

pub returns : goal.returns
returns c = turn_sections
