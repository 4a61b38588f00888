-- Where a look-up stands in each of its states: at the table that it looks through, and at a node. Once it has found the port's node it looks
-- through no table.
use Rattle.std.specs.Prelude.{[], ◌∷◌}
use Rattle.rht_words.specs.Standing.{Standing, stands_nowhere, stands_in, stands_at}
use Rattle.rht_find.specs.declared.find.FindAt.{FindAt}
use Rattle.rht_find.specs.declared.find.FindAt.TheVariants as at

abbrev pub standing_of_find : FindAt → Standing
standing_of_find at.Opening = stands_nowhere
standing_of_find at.CurrentTable = stands_nowhere
standing_of_find (at.Locating reach) = stands_in (reach.table ∷ [])
standing_of_find (at.Heading head) = stands_in (head.table ∷ [])
standing_of_find (at.Key head node visited) = stands_at (head.table ∷ []) (node ∷ [])
standing_of_find (at.Link head node visited) = stands_at (head.table ∷ []) (node ∷ [])
standing_of_find (at.Future table) = stands_in (table ∷ [])
standing_of_find (at.Owner node) = stands_at [] (node ∷ [])
standing_of_find (at.Closing reply) = stands_nowhere
