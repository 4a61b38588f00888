use Rattle.rht_words.proofs.BitChanges.{changes_one_bit}
use Rattle.rht_words.proofs.laws.masks_change_one_bit.Goals as goal

pub returns : goal.returns
returns c = changes_one_bit
