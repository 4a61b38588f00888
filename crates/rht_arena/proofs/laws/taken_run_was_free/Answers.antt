use Rattle.rht_arena.proofs.RunsTaken.{taken_run_was_free}
use Rattle.rht_arena.proofs.laws.taken_run_was_free.Goals as goal

pub returns : goal.returns
returns c = taken_run_was_free
