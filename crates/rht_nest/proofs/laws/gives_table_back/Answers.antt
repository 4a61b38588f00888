use Rattle.rht_nest.proofs.UnmakesGive.{gives_table_back}
use Rattle.rht_nest.proofs.laws.gives_table_back.Goals as goal

pub returns : goal.returns
returns c = gives_table_back
