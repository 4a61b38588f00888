-- How many operations a look-up takes in one table, whatever it finds.
use Rattle.std.specs.Prelude.{◌⊎◌, ◌≡◌, ℕ, ◌+◌, ◌*◌, ◌-◌, ◌<◌, ◌≤◌, List, [], ◌∷◌, length, if◌then◌else◌}
use Rattle.std.specs.List.{All}
use Rattle.rht_words.specs.declared.op.Op.{Op}
use Rattle.rht_words.specs.declared.op.Op.TheVariants.{Load}
use Rattle.rht_words.specs.declared.env.Env.{Env}
use Rattle.rht_words.specs.declared.geometry.Geometry.{Geometry}
use Rattle.rht_words.specs.Planned.{IsWord}
use Rattle.rht_nest.specs.declared.reach.ReachAt.{ReachAt}
use Rattle.rht_nest.specs.declared.reach.ReachAt.TheVariants as reaches
use Rattle.rht_grace.specs.Sections.{turning}
use Rattle.rht_find.specs.Find.{plan_at, goes, locating}
use Rattle.rht_find.specs.declared.find.FindAt.{FindAt}
use Rattle.rht_find.specs.declared.find.FindAt.TheVariants as at

-- ---- it only loads

-- the operation loads a word, or turns the section word of this caller
abbrev pub IsLookOp : Env → ℕ → Op → Type 0
IsLookOp env caller op = ((place : ℕ) × (op ≡ Load place)) ⊎ (op ≡ turning caller)

-- so it is in each state whatsoever
abbrev pub LoadsOnly : Type 0
LoadsOnly = (env : Env) (caller : ℕ) (state : FindAt) → IsLookOp env caller (plan_at env caller state)

-- ---- how many operations it takes

-- a walk of one chain: the bucket's word, and of each node its key and its link
abbrev pub walk_steps : Geometry → ℕ
walk_steps g = 1 + 2 * g.nodes

-- the way to a bucket: the shape, the seed, and at most two entries
abbrev pub reach_left : ReachAt → ℕ
reach_left reaches.Shape = 4
reach_left (reaches.Seed shape) = 3
reach_left (reaches.Entry place) = if place.deep then 2 else 1

-- so many walks
abbrev pub walks_left : Env → ℕ → ℕ
walks_left env left = left * walk_steps env.geometry

-- at most so many operations are left in a table, before the load of its future, or of the owner of the node that was found
abbrev pub left_in_table : Env → FindAt → ℕ
left_in_table env at.Opening = 0
left_in_table env at.CurrentTable = 0
left_in_table env (at.Locating reach) = reach_left reach.at + walks_left env (env.config.rewalks + 1)
left_in_table env (at.Heading head) = walks_left env (head.left + 1)
left_in_table env (at.Key head node visited) = 2 * (env.geometry.nodes - visited) + walks_left env head.left
left_in_table env (at.Link head node visited) = 2 * (env.geometry.nodes - visited) + 1 + walks_left env head.left
left_in_table env (at.Future table) = 0
left_in_table env (at.Owner node) = 0
left_in_table env (at.Closing reply) = 0

-- it is in a table, and neither at its future nor at the owner
abbrev pub IsInTable : FindAt → Type 0
IsInTable at.Opening = ⊥
IsInTable at.CurrentTable = ⊥
IsInTable (at.Locating reach) = Unit {0}
IsInTable (at.Heading head) = Unit {0}
IsInTable (at.Key head node visited) = Unit {0}
IsInTable (at.Link head node visited) = Unit {0}
IsInTable (at.Future table) = ⊥
IsInTable (at.Owner node) = ⊥
IsInTable (at.Closing reply) = ⊥

module _ (mix : ℕ → ℕ → ℕ → ℕ) (env : Env) (port : ℕ) where
  -- it finds these words one after another, and is in a table before each
  abbrev pub StaysInTable : FindAt → List ℕ → Type 0
  StaysInTable state [] = Unit {0}
  StaysInTable state (word ∷ words) = IsInTable state × StaysInTable (goes mix env port state word) words

-- so many operations it takes in one table at most, before the load of the table's future, or of an owner
abbrev pub table_steps : Env → ℕ
table_steps env = 4 + (env.config.rewalks + 1) * walk_steps env.geometry

-- so many operations a look-up takes at most in all, in at most eight tables
abbrev pub find_bound : Env → ℕ
find_bound env = 4 + 8 * (4 + (env.config.rewalks + 1) * (4 + 2 * env.geometry.nodes))

-- whatever words it finds, a look-up that comes to a table is on the way to a bucket there, or in its chain, for at most so many operations
abbrev pub LeavesTable : Type 0
LeavesTable =
    (mix : ℕ → ℕ → ℕ → ℕ) (env : Env) (port table : ℕ) (words : List ℕ) → table < 8 → All IsWord words
    → StaysInTable mix env port (locating env table) words
    → length words ≤ table_steps env
