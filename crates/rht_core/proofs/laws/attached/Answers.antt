use Rattle.rht_core.proofs.Reasons.AttachedInRuns.{attached}
use Rattle.rht_core.proofs.Reasons.RetiredKept.{kept_at_retiring}
use Rattle.rht_core.proofs.laws.attached.Goals as goal

pub returns-clause-changes : goal.returns-clause-changes
returns-clause-changes g c = attached g.row.M.Denot g.M.Mix.mix_of

pub returns-clause-kept : goal.returns-clause-kept
returns-clause-kept g c = kept_at_retiring g.row.M.Denot g.M.Mix.mix_of
