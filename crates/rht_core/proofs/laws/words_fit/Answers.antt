use Rattle.rht_core.proofs.Events.RangesInRuns.{words_fit}
use Rattle.rht_core.proofs.laws.words_fit.Goals as goal

pub returns : goal.returns
returns g c = words_fit g.row.M.Denot g.M.Mix.mix_of
