use Rattle.rht_core.proofs.Returning.SafeInRuns.{safe, never_free}
use Rattle.rht_core.proofs.laws.safe.Goals as goal

pub returns-clause-given : goal.returns-clause-given
returns-clause-given g c = safe g.row.M.Denot g.M.Mix.mix_of

pub returns-clause-taken : goal.returns-clause-taken
returns-clause-taken g c = never_free g.row.M.Denot g.M.Mix.mix_of
