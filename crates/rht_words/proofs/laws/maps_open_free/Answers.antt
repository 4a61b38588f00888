use Rattle.rht_words.proofs.OpeningLaws.{opens_free}
use Rattle.rht_words.proofs.laws.maps_open_free.Goals as goal

pub returns : goal.returns
returns c = opens_free
