use Rattle.rht_core.proofs.Counting.CountedRuns.{at_rest, own_batches}
use Rattle.rht_core.proofs.laws.at_rest.Goals as goal

pub returns-clause-rest : goal.returns-clause-rest
returns-clause-rest g c = at_rest g.row.M.Denot g.M.Mix.mix_of

pub returns-clause-batches : goal.returns-clause-batches
returns-clause-batches g c = own_batches g.row.M.Denot g.M.Mix.mix_of
