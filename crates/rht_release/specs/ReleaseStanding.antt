-- Where a release stands in each of its states: beside its way, at nodes of the port's list.
use Rattle.std.specs.Prelude.{[], ◌∷◌}
use Rattle.rht_words.specs.Standing.{Standing, stands_nowhere, stands_in, if_one}
use Rattle.rht_release.specs.SeekStanding.{standing_of_seek, at_found, at_relink, nodes_of_search}
use Rattle.rht_release.specs.declared.release.ReleaseAt.{ReleaseAt}
use Rattle.rht_release.specs.declared.release.ReleaseAt.TheVariants as at

abbrev pub standing_of_release : ReleaseAt → Standing
standing_of_release at.Opening = stands_nowhere
standing_of_release (at.Seeking seek) = standing_of_seek seek.at
standing_of_release (at.Searching found search) = at_found found (nodes_of_search search)
standing_of_release (at.LinkBehind found node before) = at_found found (node ∷ if_one before)
standing_of_release (at.CuttingOut found node before link) = at_found found (node ∷ before ∷ [])
standing_of_release (at.ChainLink found second) = at_found found (if_one second)
standing_of_release (at.SecondLink found second link) = at_found found (second ∷ [])
standing_of_release (at.Promoting found relink) = at_relink found relink
standing_of_release (at.Unlinking found relink) = at_relink found relink
standing_of_release (at.Lowering node shape) = stands_nowhere
standing_of_release (at.Unlocking table unlock removed) = stands_in (table ∷ [])
standing_of_release (at.Closing reply removed) = stands_nowhere
