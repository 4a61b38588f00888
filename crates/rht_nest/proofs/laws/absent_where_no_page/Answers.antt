use Rattle.rht_nest.proofs.PlacesRead.{absent_where_no_page}
use Rattle.rht_nest.proofs.laws.absent_where_no_page.Goals as goal

pub returns : goal.returns
returns c = absent_where_no_page
