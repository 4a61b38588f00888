use Rattle.rht_core.proofs.Walking.ShownLaw.{shown, shown_whole, shown_bound}
use Rattle.rht_core.proofs.laws.shown.Goals as goal

pub returns-clause-rightly : goal.returns-clause-rightly
returns-clause-rightly g c = shown g.row.M.Denot g.M.Mix.mix_of

pub returns-clause-whole : goal.returns-clause-whole
returns-clause-whole g c = shown_whole g.row.M.Denot g.M.Mix.mix_of

pub returns-clause-bound : goal.returns-clause-bound
returns-clause-bound g c = shown_bound g.row.M.Denot g.M.Mix.mix_of
