use Rattle.rht_words.proofs.StartingSizes.{tables_start_within}
use Rattle.rht_words.proofs.laws.tables_start_within.Goals as goal

pub returns : goal.returns
returns c = tables_start_within
