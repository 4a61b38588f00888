-- The memory that a closing takes beforehand.
use Rattle.std.specs.Prelude.{◌≡◌, List, []}
use Rattle.rht_words.specs.declared.geometry.Geometry.{Geometry}
use Rattle.rht_words.specs.Places.{words_in}
use Rattle.rht_core.specs.Closing.{IsRoomFor}
use Rattle.rht_run.specs.declared.closing.ClosingSpace.{ClosingSpace}

-- there is room for all words of a table of this geometry, none is in it yet, and there is room for what they say
pub record IsSpaceFor (g : Geometry) (space : ClosingSpace) : Type 0 where
  pub empty : space.words.items ≡ []
  pub limit : space.words.limit ≡ words_in g
  pub room : IsRoomFor g space.room
