use Rattle.rht_words.proofs.PlacesApart.{places_stand_apart}
use Rattle.rht_words.proofs.laws.places_never_meet.Goals as goal

pub returns : goal.returns
returns c = places_stand_apart
