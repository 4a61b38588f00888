use Rattle.rht_move.proofs.HeldTables.{holds_what_was_made}
use Rattle.rht_move.proofs.laws.holds_what_was_made.Goals as goal

pub returns : goal.returns
returns c = holds_what_was_made
