use Rattle.rht_arena.proofs.RunsSeen.{none_only_where_runs_taken}
use Rattle.rht_arena.proofs.laws.none_only_where_runs_taken.Goals as goal

pub returns : goal.returns
returns c = none_only_where_runs_taken
