use Rattle.rht_arena.proofs.NodesInTurn.{words_in_order}
use Rattle.rht_arena.proofs.laws.words_in_order.Goals as goal

pub returns : goal.returns
returns c = words_in_order
