use Rattle.rht_words.proofs.OpeningLaws.{stand_in_place}
use Rattle.rht_words.proofs.laws.words_open.Goals as goal

pub returns : goal.returns
returns c = stand_in_place
