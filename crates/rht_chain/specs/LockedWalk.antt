-- Walking a bucket's chain under its lock: what each state performs, and what comes after it.
use Rattle.std.specs.Prelude.{◌≡◌, ℕ, ◌+◌, ◌-◌, ◌^◌, ◌<◌, ◌==◌, min, Option, None, Some, IfSome, if◌then◌else◌}
use Rattle.rht_words.specs.declared.op.Op.{Op}
use Rattle.rht_words.specs.declared.op.Op.TheVariants.{Load}
use Rattle.rht_words.specs.declared.machine.Next.{Next}
use Rattle.rht_words.specs.declared.machine.Next.TheVariants.{Go, Done}
use Rattle.rht_words.specs.declared.machine.Start.{Start}
use Rattle.rht_words.specs.declared.machine.Start.TheVariants as starts
use Rattle.rht_words.specs.declared.geometry.Geometry.{Geometry}
use Rattle.rht_words.specs.Links.{head_of, node_of, link_of}
use Rattle.rht_words.specs.Places.{Node, KeyWord, ChainLink, place_of}
use Rattle.rht_chain.specs.declared.locked_walk.LockedWalkAt.{LockedWalkAt}
use Rattle.rht_chain.specs.declared.locked_walk.LockedWalkAt.TheVariants as at
use Rattle.rht_chain.specs.declared.locked_walk.Seen.{Seen}

-- what contracts see of the machine: the node before the one at which it stands, and how many keys it has loaded
pub record LockedWalkModel : Type 0 where
  pub geometry : Geometry
  pub key : ℕ
  pub before : Option ℕ
  pub length : ℕ
  pub at : LockedWalkAt

-- a chain without the key: its last node, how many nodes it has, and its end
abbrev pub not_found : Option ℕ → ℕ → ℕ → Seen
not_found last length end = record { found = None; before = last; length = length; end = end }

-- it begins with the first node, where there is one
abbrev pub walk_from : Geometry → ℕ → ℕ → Option ℕ → Start LockedWalkModel Seen
walk_from g key first None = starts.Done (not_found None 0 first)
walk_from g key first (Some node) =
    starts.Running (record { geometry = g; key = key; before = None; length = 0; at = at.Key node })

abbrev pub locked_walk_new : Geometry → ℕ → ℕ → ℕ → Start LockedWalkModel Seen
locked_walk_new g place word key = walk_from g key (head_of place word) (node_of g.nodes (head_of place word))

-- the state's one operation
abbrev pub walk_plan_at : Geometry → LockedWalkAt → Op
walk_plan_at g (at.Key node) = Load (place_of g (Node node KeyWord))
walk_plan_at g (at.ChainLink node) = Load (place_of g (Node node ChainLink))

abbrev pub locked_walk_plan : LockedWalkModel → Op
locked_walk_plan m = walk_plan_at m.geometry m.at

-- a number that stays at the greatest of 32 bits
abbrev pub one_more : ℕ → ℕ
one_more length = min (length + 1) (2 ^ 32 - 1)

-- a walk that has loaded one more key
abbrev pub counted : LockedWalkModel → LockedWalkModel
counted m = record m { length = one_more m.length }

-- this node has the key
abbrev pub found_at : LockedWalkModel → ℕ → Seen
found_at m node = record { found = Some node; before = m.before; length = m.length; end = link_of node }

-- where the node has the key the walk ends, and else its link is loaded
abbrev pub compared : LockedWalkModel → ℕ → ℕ → LockedWalkModel × Next Seen
compared m node key = if key == m.key then (m, Done (found_at m node)) else
    (record m { at = at.ChainLink node }, Go)

-- behind this node the walk goes on with the next one, where the link leads to one
abbrev pub followed : LockedWalkModel → ℕ → ℕ → Option ℕ → LockedWalkModel × Next Seen
followed m node link None = (record m { before = Some node }, Done (not_found (Some node) m.length link))
followed m node link (Some next) = (record m { before = Some node; at = at.Key next }, Go)

-- what comes after a state that found this word
abbrev pub walk_after_at : LockedWalkModel → LockedWalkAt → ℕ → LockedWalkModel × Next Seen
walk_after_at m (at.Key node) key = compared (counted m) node key
walk_after_at m (at.ChainLink node) link = followed m node link (node_of m.geometry.nodes link)

abbrev pub locked_walk_after : LockedWalkModel → ℕ → LockedWalkModel × Next Seen
locked_walk_after m word = walk_after_at m m.at word

-- it is one of the nodes, where it is one
abbrev pub IsNodeOrNone : Geometry → Option ℕ → Type 0
IsNodeOrNone g found = IfSome found (λ node. node < g.nodes)

-- the walk stands at one of the nodes
abbrev pub IsWalkAtIn : Geometry → Option ℕ → LockedWalkAt → Type 0
IsWalkAtIn g before (at.Key node) = (node < g.nodes) × IsNodeOrNone g before
IsWalkAtIn g before (at.ChainLink node) = (node < g.nodes) × IsNodeOrNone g before

-- the walk is in this table, and stands at one of its nodes
pub record IsWalkIn (g : Geometry) (m : LockedWalkModel) : Type 0 where
  pub geometry_same : m.geometry ≡ g
  pub at_in : IsWalkAtIn g m.before m.at

-- what was seen are nodes of the table
pub record IsSeenIn (g : Geometry) (seen : Seen) : Type 0 where
  pub found_in : IsNodeOrNone g seen.found
  pub before_in : IsNodeOrNone g seen.before

abbrev pub IsStartIn : Geometry → Start LockedWalkModel Seen → Type 0
IsStartIn g (starts.Running walk) = walk.geometry ≡ g
IsStartIn g (starts.Done seen) = IsSeenIn g seen

abbrev pub IsNextIn : Geometry → Next Seen → Type 0
IsNextIn g Go = Unit {0}
IsNextIn g (Done seen) = IsSeenIn g seen
