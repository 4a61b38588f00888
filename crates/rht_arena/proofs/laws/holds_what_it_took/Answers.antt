use Rattle.rht_arena.proofs.RunsHeld.{holds_what_it_took}
use Rattle.rht_arena.proofs.laws.holds_what_it_took.Goals as goal

pub returns : goal.returns
returns c = holds_what_it_took
