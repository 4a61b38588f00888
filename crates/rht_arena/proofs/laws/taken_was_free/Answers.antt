use Rattle.rht_arena.proofs.TakenWereFree.{taken_was_free}
use Rattle.rht_arena.proofs.laws.taken_was_free.Goals as goal

pub returns : goal.returns
returns c = taken_was_free
