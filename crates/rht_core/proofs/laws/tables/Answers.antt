use Rattle.rht_core.proofs.Counting.NumberedTables.{never_again}
use Rattle.rht_core.proofs.Counting.OwnPages.{own_pages}
use Rattle.rht_core.proofs.Counting.PlacedNodes.{placed}
use Rattle.rht_core.proofs.Counting.TablesInRuns.{tables}
use Rattle.rht_core.proofs.laws.tables.Goals as goal

pub returns-clause-each : goal.returns-clause-each
returns-clause-each g c = tables g.row.M.Denot g.M.Mix.mix_of

pub returns-clause-never_again : goal.returns-clause-never_again
returns-clause-never_again g c = never_again g.row.M.Denot g.M.Mix.mix_of

pub returns-clause-placed : goal.returns-clause-placed
returns-clause-placed g c = placed g.row.M.Denot g.M.Mix.mix_of

pub returns-clause-pages : goal.returns-clause-pages
returns-clause-pages g c = own_pages g.row.M.Denot g.M.Mix.mix_of
