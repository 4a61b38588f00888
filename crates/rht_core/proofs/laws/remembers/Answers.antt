use Rattle.rht_core.proofs.Tracing.TracesInRuns.{remembers}
use Rattle.rht_core.proofs.laws.remembers.Goals as goal

pub returns : goal.returns
returns g c = remembers g.row.M.Denot g.M.Mix.mix_of
