use Rattle.rht_nest.proofs.MakesInTurn.{none_where_slots_or_runs_taken}
use Rattle.rht_nest.proofs.laws.none_where_slots_or_runs_taken.Goals as goal

pub returns : goal.returns
returns c = none_where_slots_or_runs_taken
