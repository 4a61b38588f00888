use Rattle.rht_words.proofs.WordChanges.{changes_one_word}
use Rattle.rht_words.proofs.laws.operations_change_one_word.Goals as goal

pub returns : goal.returns
returns c = changes_one_word
