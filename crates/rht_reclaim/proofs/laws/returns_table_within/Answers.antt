use Rattle.rht_reclaim.proofs.GivesEnd.{returns_within}
use Rattle.rht_reclaim.proofs.laws.returns_table_within.Goals as goal

pub returns : goal.returns
returns c = returns_within
