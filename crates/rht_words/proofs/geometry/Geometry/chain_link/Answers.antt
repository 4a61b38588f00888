use Rattle.std.proofs.Common.{arith}
use Rattle.rht_words.specs.Places.{Node, ChainLink}
use Rattle.rht_words.proofs.PlacesApart.{place_of-below}
use Rattle.rht_words.proofs.geometry.Geometry.chain_link.Goals as goal

pub returns-clause-within : goal.returns-clause-within
returns-clause-within c =
    λ below. omega (
      arith,
      c.node_start.ensures.place,
      place_of-below c.args.self
          (Node c.args.node ChainLink) below,
    )
