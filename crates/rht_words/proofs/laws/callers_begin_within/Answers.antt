use Rattle.rht_words.proofs.WordsBegun.{callers_begin_within}
use Rattle.rht_words.proofs.laws.callers_begin_within.Goals as goal

pub returns : goal.returns
returns c = callers_begin_within
