use Rattle.std.proofs.Common.{arith}
use Rattle.rht_words.specs.Places.{PageMap}
use Rattle.rht_words.proofs.PlacesApart.{place_of-below}
use Rattle.rht_words.proofs.geometry.Geometry.page_map.Goals as goal

pub returns-clause-within : goal.returns-clause-within
returns-clause-within c =
    λ below. omega (
      arith,
      c.page_map_start.ensures.place,
      place_of-below c.args.self
          (PageMap c.args.index) below,
    )
