use Rattle.rht_core.proofs.Finding.LookupLaws.{takes_effect, finds_what_stays}
use Rattle.rht_core.proofs.laws.found.Goals as goal

pub returns-clause-moment : goal.returns-clause-moment
returns-clause-moment g c = takes_effect g.row.M.Denot g.M.Mix.mix_of

pub returns-clause-throughout : goal.returns-clause-throughout
returns-clause-throughout g c = finds_what_stays g.row.M.Denot g.M.Mix.mix_of
