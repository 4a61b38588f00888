-- Where a rebind stands in each of its states: beside its way, at nodes of the port's list. A node of its own isn't among these.
use Rattle.std.specs.Prelude.{[], ◌∷◌}
use Rattle.rht_words.specs.Standing.{Standing, stands_nowhere, stands_in, if_one}
use Rattle.rht_release.specs.SeekStanding.{standing_of_seek, at_found, at_relink, nodes_of_search}
use Rattle.rht_release.specs.declared.rebind.RebindAt.{RebindAt}
use Rattle.rht_release.specs.declared.rebind.RebindAt.TheVariants as at

abbrev pub standing_of_rebind : RebindAt → Standing
standing_of_rebind (at.Filling new) = stands_nowhere
standing_of_rebind (at.Opening node) = stands_nowhere
standing_of_rebind (at.Seeking node seek) = standing_of_seek seek.at
standing_of_rebind (at.Searching node found search) = at_found found (nodes_of_search search)
standing_of_rebind (at.LinkBehind node found old before) = at_found found (old ∷ if_one before)
standing_of_rebind (at.OwnListLink node found old before link) = at_found found (old ∷ if_one before)
standing_of_rebind (at.Swapping node found old before) = at_found found (old ∷ before ∷ [])
standing_of_rebind (at.ChainLink node found) = at_found found []
standing_of_rebind (at.Link node found link) = at_found found []
standing_of_rebind (at.Replacing node found relink) = at_relink found relink
standing_of_rebind (at.Unlocking table unlock end) = stands_in (table ∷ [])
standing_of_rebind (at.Closing end) = stands_nowhere
standing_of_rebind (at.Giving give) = stands_nowhere
