use Rattle.rht_core.proofs.Events.SectionsInRuns.{sections, own_sections}
use Rattle.rht_core.proofs.laws.sections.Goals as goal

pub returns-clause-idle : goal.returns-clause-idle
returns-clause-idle g c = sections g.row.M.Denot g.M.Mix.mix_of

pub returns-clause-own : goal.returns-clause-own
returns-clause-own g c = own_sections g.row.M.Denot g.M.Mix.mix_of
