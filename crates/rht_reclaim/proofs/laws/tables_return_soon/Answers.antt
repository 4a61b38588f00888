use Rattle.rht_reclaim.proofs.ReturnsDone.{tables_return_soon}
use Rattle.rht_reclaim.proofs.laws.tables_return_soon.Goals as goal

pub returns : goal.returns
returns c = tables_return_soon
