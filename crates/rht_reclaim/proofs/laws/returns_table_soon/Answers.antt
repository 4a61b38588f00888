use Rattle.rht_reclaim.proofs.GivesEnd.{returns_soon}
use Rattle.rht_reclaim.proofs.laws.returns_table_soon.Goals as goal

pub returns : goal.returns
returns c = returns_soon
