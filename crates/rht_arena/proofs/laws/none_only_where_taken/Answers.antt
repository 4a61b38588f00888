use Rattle.rht_arena.proofs.NodesInTurn.{none_only_where_taken}
use Rattle.rht_arena.proofs.laws.none_only_where_taken.Goals as goal

pub returns : goal.returns
returns c = none_only_where_taken
