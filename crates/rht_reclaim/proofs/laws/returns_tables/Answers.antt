use Rattle.rht_reclaim.proofs.ReturnsDone.{returns_tables}
use Rattle.rht_reclaim.proofs.laws.returns_tables.Goals as goal

pub returns : goal.returns
returns c = returns_tables
