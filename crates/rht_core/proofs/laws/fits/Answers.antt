use Rattle.rht_core.proofs.Histories.FittingRuns.{fits}
use Rattle.rht_core.proofs.laws.fits.Goals as goal

pub returns : goal.returns
returns g c = fits g.row.M.Denot g.M.Mix.mix_of
