-- The search of a port's list for the first node with an owner, while the port's bucket is locked: what each state performs, and what comes
-- after it.
use Rattle.std.specs.Prelude.{ℕ, ◌<◌, ◌==◌, Bool, Option, None, Some, if◌then◌else◌}
use Rattle.rht_words.specs.declared.op.Op.{Op}
use Rattle.rht_words.specs.declared.op.Op.TheVariants.{Load}
use Rattle.rht_words.specs.declared.machine.Next.{Next}
use Rattle.rht_words.specs.declared.machine.Next.TheVariants.{Go, Done}
use Rattle.rht_words.specs.declared.geometry.Geometry.{Geometry}
use Rattle.rht_words.specs.Links.{node_of}
use Rattle.rht_words.specs.Ports.{owner_of}
use Rattle.rht_words.specs.Places.{Node, OwnerWord, ListLink, place_of}
use Rattle.rht_chain.specs.LockedWalk.{IsNodeOrNone}
use Rattle.rht_release.specs.declared.list_search.ListPlace.{ListPlace}
use Rattle.rht_release.specs.declared.list_search.ListSearch.{ListSearch}
use Rattle.rht_release.specs.declared.list_search.ListSearch.TheVariants as at

-- it begins at the first node of the list
abbrev pub search_new : ℕ → ListSearch
search_new first = at.Owner first None

-- the state's one operation
abbrev pub search_plan : Geometry → ListSearch → Op
search_plan g (at.Owner node before) = Load (place_of g (Node node OwnerWord))
search_plan g (at.ListLink node) = Load (place_of g (Node node ListLink))

-- a node with the owner is the one, and behind another one the list goes on
abbrev pub owner_compared : ℕ → Option ℕ → Bool → ListSearch × Next (Option ListPlace)
owner_compared node before equal =
    if equal then (at.Owner node before, Done (Some (record { node = node; before = before })))
    else (at.ListLink node, Go)

-- the next node of the list is looked at; behind the last one, no node has the owner
abbrev pub list_followed : ℕ → Option ℕ → ListSearch × Next (Option ListPlace)
list_followed node None = (at.ListLink node, Done None)
list_followed node (Some next) = (at.Owner next (Some node), Go)

-- where the search stands after a state that found this word, and what it says
abbrev pub search_after : Geometry → ℕ → ListSearch → ℕ → ListSearch × Next (Option ListPlace)
search_after g owner (at.Owner node before) word = owner_compared node before (owner_of word == owner)
search_after g owner (at.ListLink node) word = list_followed node (node_of g.nodes word)

-- ---- what a search names

-- the node, and the one before it in the list, are nodes of the table
pub record IsListPlaceIn (g : Geometry) (place : ListPlace) : Type 0 where
  pub node_in : place.node < g.nodes
  pub before_in : IsNodeOrNone g place.before

abbrev pub IsSearchIn : Geometry → ListSearch → Type 0
IsSearchIn g (at.Owner node before) = IsListPlaceIn g (record { node = node; before = before })
IsSearchIn g (at.ListLink node) = node < g.nodes
