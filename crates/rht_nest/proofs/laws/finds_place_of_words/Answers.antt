use Rattle.rht_nest.proofs.PlacesRead.{finds_place_of_words}
use Rattle.rht_nest.proofs.laws.finds_place_of_words.Goals as goal

pub returns : goal.returns
returns c = finds_place_of_words
