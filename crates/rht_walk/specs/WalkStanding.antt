-- Where a walk stands in each of its states: at the table that it walks, and at a node of a chain.
use Rattle.std.specs.Prelude.{[], ◌∷◌}
use Rattle.rht_words.specs.Standing.{Standing, stands_nowhere, stands_in, stands_at}
use Rattle.rht_walk.specs.declared.walk.WalkAt.{WalkAt}
use Rattle.rht_walk.specs.declared.walk.WalkAt.TheVariants as at

abbrev pub standing_of_walk : WalkAt → Standing
standing_of_walk at.Opening = stands_nowhere
standing_of_walk at.CurrentTable = stands_nowhere
standing_of_walk (at.Serial table) = stands_in (table ∷ [])
standing_of_walk (at.Shape table serial) = stands_in (table ∷ [])
standing_of_walk (at.Entry visit way) = stands_in (visit.table ∷ [])
standing_of_walk (at.Heading visit place) = stands_in (visit.table ∷ [])
standing_of_walk (at.Key chain node) = stands_at (chain.visit.table ∷ []) (node ∷ [])
standing_of_walk (at.Owner chain node port) = stands_at (chain.visit.table ∷ []) (node ∷ [])
standing_of_walk (at.Link chain node) = stands_at (chain.visit.table ∷ []) (node ∷ [])
standing_of_walk (at.StrangeEnd visit) = stands_in (visit.table ∷ [])
standing_of_walk (at.TableEnd table) = stands_in (table ∷ [])
standing_of_walk (at.Closing end) = stands_nowhere
