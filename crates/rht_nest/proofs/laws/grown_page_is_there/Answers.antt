use Rattle.rht_nest.proofs.GrowsEnter.{grown_page_is_there}
use Rattle.rht_nest.proofs.laws.grown_page_is_there.Goals as goal

pub returns : goal.returns
returns c = grown_page_is_there
