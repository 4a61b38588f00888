use Rattle.rht_core.proofs.Histories.NeverRefused.{roomy_takes_all, one_worker_as_model}
use Rattle.rht_core.proofs.laws.never_refused.Goals as goal

pub returns-clause-workers : goal.returns-clause-workers
returns-clause-workers g c = roomy_takes_all g.row.M.Denot g.M.Mix.mix_of

pub returns-clause-one_worker : goal.returns-clause-one_worker
returns-clause-one_worker g c = one_worker_as_model g.row.M.Denot g.M.Mix.mix_of
