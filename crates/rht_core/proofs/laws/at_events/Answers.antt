use Rattle.rht_core.proofs.Tracing.TracesAtEvents.{at_events}
use Rattle.rht_core.proofs.laws.at_events.Goals as goal

pub returns : goal.returns
returns g c = at_events g.row.M.Denot g.M.Mix.mix_of
