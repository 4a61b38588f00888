use Rattle.rht_words.specs.Places.{NodeMap}
use Rattle.rht_words.proofs.PlacesApart.{place_of-below}
use Rattle.rht_words.proofs.geometry.Geometry.node_map.Goals as goal

pub returns-clause-within : goal.returns-clause-within
returns-clause-within c = λ below. place_of-below c.args.self (NodeMap c.args.index) below
