use Rattle.rht_arena.proofs.NodesSeen.{answers_say_what_was_done}
use Rattle.rht_arena.proofs.laws.answers_say_what_was_done.Goals as goal

pub returns : goal.returns
returns c = answers_say_what_was_done
