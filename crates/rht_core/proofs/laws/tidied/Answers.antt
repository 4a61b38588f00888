use Rattle.rht_core.proofs.Tracing.KeptBatches.{kept}
use Rattle.rht_core.proofs.Tracing.TidiesInRuns.{tidied, rests}
use Rattle.rht_core.proofs.laws.tidied.Goals as goal

pub returns-clause-tidied : goal.returns-clause-tidied
returns-clause-tidied g c = tidied g.row.M.Denot g.M.Mix.mix_of

pub returns-clause-rests : goal.returns-clause-rests
returns-clause-rests g c = rests g.row.M.Denot g.M.Mix.mix_of

pub returns-clause-kept : goal.returns-clause-kept
returns-clause-kept g c = kept g.row.M.Denot g.M.Mix.mix_of
