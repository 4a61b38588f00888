-- Where a listing stands in each of its states: beside its way, at a node of the port's list.
use Rattle.std.specs.Prelude.{[], ◌∷◌}
use Rattle.rht_words.specs.Standing.{Standing, stands_nowhere, stands_in}
use Rattle.rht_release.specs.SeekStanding.{standing_of_seek, at_found}
use Rattle.rht_release.specs.declared.all.AllAt.{AllAt}
use Rattle.rht_release.specs.declared.all.AllAt.TheVariants as at

abbrev pub standing_of_all : AllAt → Standing
standing_of_all at.Opening = stands_nowhere
standing_of_all (at.Seeking seek) = standing_of_seek seek.at
standing_of_all (at.Owner found node) = at_found found (node ∷ [])
standing_of_all (at.ListLink found node) = at_found found (node ∷ [])
standing_of_all (at.Unlocking table unlock) = stands_in (table ∷ [])
standing_of_all at.Closing = stands_nowhere
