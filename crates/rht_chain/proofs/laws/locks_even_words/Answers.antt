use Rattle.rht_chain.proofs.LocksTaken.{locks_even_words}
use Rattle.rht_chain.proofs.laws.locks_even_words.Goals as goal

pub returns : goal.returns
returns c = locks_even_words
