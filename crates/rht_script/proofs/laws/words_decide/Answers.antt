use Rattle.rht_script.proofs.Meanings.{words_decide}
use Rattle.rht_script.proofs.laws.words_decide.Goals as goal

pub returns : goal.returns
returns c = words_decide
