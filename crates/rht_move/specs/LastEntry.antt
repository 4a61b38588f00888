-- Finding the last node of a locked bucket's chain: what its one state performs, and what comes after it.
use Rattle.std.specs.Prelude.{◌≡◌, ℕ, ◌<◌, Option, None, Some}
use Rattle.rht_words.specs.declared.op.Op.{Op}
use Rattle.rht_words.specs.declared.op.Op.TheVariants.{Load}
use Rattle.rht_words.specs.declared.machine.Next.{Next}
use Rattle.rht_words.specs.declared.machine.Next.TheVariants.{Go, Done}
use Rattle.rht_words.specs.declared.geometry.Geometry.{Geometry}
use Rattle.rht_words.specs.Links.{node_of}
use Rattle.rht_words.specs.Places.{Node, ChainLink, place_of}
use Rattle.rht_chain.specs.LockedWalk.{IsNodeOrNone}
use Rattle.rht_move.specs.declared.last_entry.Entry.{Entry}

-- what contracts see of the machine: the node at which it stands, and the one before it
pub record LastEntryModel : Type 0 where
  pub geometry : Geometry
  pub node : ℕ
  pub before : Option ℕ

-- it begins at the chain's first node
abbrev pub last_entry_new : Geometry → ℕ → LastEntryModel
last_entry_new g first = record { geometry = g; node = first; before = None }

-- its operation loads the link behind the node
abbrev pub last_entry_plan : LastEntryModel → Op
last_entry_plan m = Load (place_of m.geometry (Node m.node ChainLink))

-- where the link leads to a node that one comes next, and else this one is the last
abbrev pub followed : LastEntryModel → Option ℕ → LastEntryModel × Next Entry
followed m None = (m, Done (record { node = m.node; before = m.before }))
followed m (Some next) = (record m { node = next; before = Some m.node }, Go)

abbrev pub last_entry_after : LastEntryModel → ℕ → LastEntryModel × Next Entry
last_entry_after m word = followed m (node_of m.geometry.nodes word)

-- the machine stands at a node of this table
pub record IsLastEntryIn (g : Geometry) (m : LastEntryModel) : Type 0 where
  pub geometry_same : m.geometry ≡ g
  pub node_in : m.node < g.nodes
  pub before_in : IsNodeOrNone g m.before

-- and so does what it has found
pub record IsEntryIn (g : Geometry) (entry : Entry) : Type 0 where
  pub node_in : entry.node < g.nodes
  pub before_in : IsNodeOrNone g entry.before

abbrev pub IsEntryEndIn : Geometry → Next Entry → Type 0
IsEntryEndIn g Go = Unit {0}
IsEntryEndIn g (Done entry) = IsEntryIn g entry
