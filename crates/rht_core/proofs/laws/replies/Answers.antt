use Rattle.rht_core.proofs.Tracing.RepliesInRuns.{replies}
use Rattle.rht_core.proofs.laws.replies.Goals as goal

pub returns : goal.returns
returns g c = replies g.row.M.Denot g.M.Mix.mix_of
