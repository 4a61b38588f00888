use Rattle.rht_nest.proofs.GrowsEnter.{none_where_pages_taken}
use Rattle.rht_nest.proofs.laws.none_where_pages_taken.Goals as goal

pub returns : goal.returns
returns c = none_where_pages_taken
