-- Where a call stands on its way to a port, and once it has found it. It stands at the table that it looks through, and at the one behind it,
-- once it has come to that; and at nodes of the chain that it has locked.
use Rattle.std.specs.Prelude.{ℕ, List, [], ◌∷◌}
use Rattle.rht_words.specs.Standing.{Standing, stands_nowhere, stands_in, stands_at, if_one}
use Rattle.rht_nest.specs.LocateTables.{tables_of_locate}
use Rattle.rht_chain.specs.ChainNodes.{nodes_of_probe, nodes_of_relink}
use Rattle.rht_chain.specs.Relink.{RelinkModel}
use Rattle.rht_release.specs.declared.found_port.FoundPort.{FoundPort}
use Rattle.rht_release.specs.declared.list_search.ListSearch.{ListSearch}
use Rattle.rht_release.specs.declared.list_search.ListSearch.TheVariants as searches
use Rattle.rht_release.specs.declared.seek.SeekAt.{SeekAt}
use Rattle.rht_release.specs.declared.seek.SeekAt.TheVariants as at

abbrev pub standing_of_seek : SeekAt → Standing
standing_of_seek at.CurrentTable = stands_nowhere
standing_of_seek (at.Locating locate) = stands_in (tables_of_locate locate)
standing_of_seek (at.Probing table shape probe) = stands_at (table ∷ []) (nodes_of_probe probe.at)
standing_of_seek (at.Future table bucket) = stands_in (table ∷ [])
standing_of_seek (at.Leaving table unlock future) = stands_in (table ∷ if_one future)

-- at the first node of the port's list and at the one before it in the chain, and at these nodes of the list
abbrev pub at_found : FoundPort → List ℕ → Standing
at_found found listed =
    record { tables = found.table ∷ []; nodes = found.node ∷ if_one found.before; listed = listed }

-- at the node that gets another link
abbrev pub at_relink : FoundPort → RelinkModel → Standing
at_relink found relink = stands_at (found.table ∷ []) (nodes_of_relink relink.at)

-- at the node of the list that it looks at, and at the one before
abbrev pub nodes_of_search : ListSearch → List ℕ
nodes_of_search (searches.Owner node before) = node ∷ if_one before
nodes_of_search (searches.ListLink node) = node ∷ []
