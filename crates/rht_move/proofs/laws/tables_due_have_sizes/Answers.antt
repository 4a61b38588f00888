use Rattle.rht_move.proofs.DueSizes.{tables_due_have_sizes}
use Rattle.rht_move.proofs.laws.tables_due_have_sizes.Goals as goal

pub returns : goal.returns
returns c = tables_due_have_sizes
