use Rattle.rht_arena.proofs.RunsSeen.{none_where_runs_taken_in_turn}
use Rattle.rht_arena.proofs.laws.none_where_runs_taken_in_turn.Goals as goal

pub returns : goal.returns
returns c = none_where_runs_taken_in_turn
