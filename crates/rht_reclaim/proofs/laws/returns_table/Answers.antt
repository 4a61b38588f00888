use Rattle.rht_reclaim.proofs.GivesReturn.{returns_table}
use Rattle.rht_reclaim.proofs.laws.returns_table.Goals as goal

pub returns : goal.returns
returns c = returns_table
