use Rattle.rht_arena.proofs.TakenWereFree.{giving_sets_one_bit}
use Rattle.rht_arena.proofs.laws.giving_sets_one_bit.Goals as goal

pub returns : goal.returns
returns c = giving_sets_one_bit
