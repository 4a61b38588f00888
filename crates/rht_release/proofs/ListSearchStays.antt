-- Whatever words it is told, the search of a list stays in its table, and what it finds is the table's: a case a state. Links are read
-- totally, so what they name is there or is none. It works on words of nodes.
use Rattle.std.proofs.Common.{ℕ, ◌<◌}
use Rattle.std.specs.Prelude.{◌==◌, Bool, true, false, Option, Some, None, IfSome}
use Rattle.rht_words.specs.declared.geometry.Geometry.{Geometry}
use Rattle.rht_words.specs.declared.machine.Next.{Next}
use Rattle.rht_words.specs.declared.machine.Next.TheVariants.{Go, Done}
use Rattle.rht_words.specs.Links.{node_of}
use Rattle.rht_words.specs.Places.{Node, OwnerWord, ListLink}
use Rattle.rht_words.specs.Planned.{IsPlannedIn}
use Rattle.rht_words.specs.Ports.{owner_of}
use Rattle.rht_words.proofs.LinksRead.{node_of-in}
use Rattle.rht_words.proofs.PlannedWords.{planned_load}
use Rattle.rht_chain.specs.LockedWalk.{IsNodeOrNone}
use Rattle.rht_release.specs.ListSearch.{search_plan, search_after, owner_compared, list_followed, IsListPlaceIn, IsSearchIn}
use Rattle.rht_release.specs.declared.list_search.ListPlace.{ListPlace}
use Rattle.rht_release.specs.declared.list_search.ListSearch.{ListSearch}
use Rattle.rht_release.specs.declared.list_search.ListSearch.TheVariants as at

-- what it has found are nodes of the table, where it has
abbrev pub IsSearchEndIn : Geometry → Next (Option ListPlace) → Type 0
IsSearchEndIn g Go = Unit {0}
IsSearchEndIn g (Done end) = IfSome end (λ place. IsListPlaceIn g place)

-- the state stays in this table, and so is what was found
pub record SearchStays (g : Geometry) (next : ListSearch × Next (Option ListPlace)) : Type 0 where
  pub search_in : IsSearchIn g next.0
  pub end_in : IsSearchEndIn g next.1

module _ (g : Geometry) where
  owner_compared-in : (node : ℕ) (before : Option ℕ) (equal : Bool)
      → IsListPlaceIn g (record { node = node; before = before })
      → SearchStays g (owner_compared node before equal)
  owner_compared-in node before true within = record { search_in = within; end_in = within }
  owner_compared-in node before false within = record { search_in = within.node_in; end_in = tt }

  list_followed-in : (node : ℕ) (next : Option ℕ) → node < g.nodes → IsNodeOrNone g next
      → SearchStays g (list_followed node next)
  list_followed-in node None within next_in = record { search_in = within; end_in = tt }
  list_followed-in node (Some next) within next_in =
      record { search_in = record { node_in = next_in; before_in = within }; end_in = tt }

  pub search_stays : (owner : ℕ) (search : ListSearch) (word : ℕ) → IsSearchIn g search
      → SearchStays g (search_after g owner search word)
  search_stays owner (at.Owner node before) word within =
      owner_compared-in node before (owner_of word == owner) within
  search_stays owner (at.ListLink node) word within =
      list_followed-in node (node_of g.nodes word) within (node_of-in g word)

  pub planned_search : (search : ListSearch) → IsSearchIn g search → IsPlannedIn g (search_plan g search)
  planned_search (at.Owner node before) within = planned_load g (Node node OwnerWord) within.node_in tt
  planned_search (at.ListLink node) within = planned_load g (Node node ListLink) within tt
