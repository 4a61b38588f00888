-- Where a bind stands in each of its states: at the table that it looks through, and at the one behind it, once it has come to that. And at
-- nodes of the chain that it has locked. A node or a table of its own isn't among these.
use Rattle.std.specs.Prelude.{ℕ, List, [], ◌∷◌}
use Rattle.rht_words.specs.Standing.{Standing, stands_nowhere, stands_in, stands_at, if_one}
use Rattle.rht_nest.specs.LocateTables.{tables_of_locate}
use Rattle.rht_chain.specs.ChainNodes.{nodes_of_probe, nodes_of_relink}
use Rattle.rht_chain.specs.declared.locked.Then.{Then}
use Rattle.rht_chain.specs.declared.locked.Then.TheVariants.{Table, Answer}
use Rattle.rht_model.specs.declared.history.Reply.{Reply}
use Rattle.rht_bind.specs.declared.bind.FoundList.{FoundList}
use Rattle.rht_bind.specs.declared.bind.BindAt.{BindAt}
use Rattle.rht_bind.specs.declared.bind.BindAt.TheVariants as at

-- the table in which it goes on, where it does
abbrev pub table_behind : Then Reply → List ℕ
table_behind (Table table) = table ∷ []
table_behind (Answer reply) = []

-- the first node of the list that it found, and the one before that in the chain
abbrev pub at_list : FoundList → Standing
at_list list = stands_at (list.claimed.table ∷ []) (list.first ∷ if_one list.before)

abbrev pub standing_of_bind : BindAt → Standing
standing_of_bind (at.Filling new) = stands_nowhere
standing_of_bind (at.Opening attempt) = stands_nowhere
standing_of_bind (at.CurrentTable attempt) = stands_nowhere
standing_of_bind (at.Locating attempt locate) = stands_in (tables_of_locate locate)
standing_of_bind (at.Entering attempt table shape place grow) = stands_in (table ∷ [])
standing_of_bind (at.Probing attempt table shape probe) = stands_at (table ∷ []) (nodes_of_probe probe.at)
standing_of_bind (at.FoundOwner claimed found) = stands_at (claimed.table ∷ []) (found ∷ [])
standing_of_bind (at.ListLink list) = at_list list
standing_of_bind (at.ChainLink list) = at_list list
standing_of_bind (at.LinkBehind list link) = at_list list
standing_of_bind (at.Replacing list relink) = stands_at (list.claimed.table ∷ []) (nodes_of_relink relink.at)
standing_of_bind (at.Future claimed length) = stands_in (claimed.table ∷ [])
standing_of_bind (at.Count claimed) = stands_in (claimed.table ∷ [])
standing_of_bind (at.Link claimed) = stands_in (claimed.table ∷ [])
standing_of_bind (at.Raise claimed) = stands_in (claimed.table ∷ [])
standing_of_bind (at.Publish node table relink kick) = stands_at (table ∷ []) (nodes_of_relink relink.at)
standing_of_bind (at.Unlocking attempt table unlock next) = stands_in (table ∷ table_behind next)
standing_of_bind (at.UnlockingFull growing unlock) = stands_in (growing.table ∷ [])
standing_of_bind (at.Root growing) = stands_in (growing.table ∷ [])
standing_of_bind (at.GrowthCount growing root) = stands_in (growing.table ∷ [])
standing_of_bind (at.Making growing size make) = stands_in (growing.table ∷ [])
standing_of_bind (at.FutureAgain growing refusal) = stands_in (growing.table ∷ [])
standing_of_bind (at.Attaching growing slot shape) = stands_in (growing.table ∷ [])
standing_of_bind (at.Unmaking attempt unmake answer) = stands_nowhere
standing_of_bind (at.Closing ending) = stands_nowhere
standing_of_bind (at.Giving give reply) = stands_nowhere
