use Rattle.rht_core.proofs.Histories.SettledTables.{worked}
use Rattle.rht_core.proofs.Histories.ReturnedTables.{gives_retired_back}
use Rattle.rht_core.proofs.laws.worked.Goals as goal

pub returns-clause-alone : goal.returns-clause-alone
returns-clause-alone g c = worked g.row.M.Denot g.M.Mix.mix_of

pub returns-clause-returned : goal.returns-clause-returned
returns-clause-returned g c = gives_retired_back g.row.M.Denot g.M.Mix.mix_of
