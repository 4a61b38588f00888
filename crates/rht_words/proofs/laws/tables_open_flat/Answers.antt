use Rattle.rht_words.proofs.OpeningLaws.{opens_flat}
use Rattle.rht_words.proofs.laws.tables_open_flat.Goals as goal

pub returns : goal.returns
returns c = opens_flat
