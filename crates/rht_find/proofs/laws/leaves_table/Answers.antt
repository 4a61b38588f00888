use Rattle.rht_find.proofs.FindBounds.{leaves_table}
use Rattle.rht_find.proofs.laws.leaves_table.Goals as goal

pub returns : goal.returns
returns c = leaves_table
