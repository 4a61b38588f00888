use Rattle.rht_core.proofs.Finding.LookupLaws.{bounded, meets_few}
use Rattle.rht_core.proofs.Tracing.TidiesInRuns.{tidies_soon}
use Rattle.rht_core.proofs.Tracing.WalksInRuns.{walks_soon}
use Rattle.rht_core.proofs.laws.bounded.Goals as goal

pub returns-clause-lookups : goal.returns-clause-lookups
returns-clause-lookups g c = bounded g.row.M.Denot g.M.Mix.mix_of

pub returns-clause-tidyings : goal.returns-clause-tidyings
returns-clause-tidyings g c = tidies_soon g.row.M.Denot g.M.Mix.mix_of

pub returns-clause-walks : goal.returns-clause-walks
returns-clause-walks g c = walks_soon g.row.M.Denot g.M.Mix.mix_of

pub returns-clause-tables : goal.returns-clause-tables
returns-clause-tables g c = meets_few g.row.M.Denot g.M.Mix.mix_of
