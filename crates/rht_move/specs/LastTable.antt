-- Finding the last table behind another one: what each state performs, and what comes after it.
use Rattle.std.specs.Prelude.{◌≡◌, ℕ, ◌<◌, Option, None, Some}
use Rattle.rht_words.specs.declared.op.Op.{Op}
use Rattle.rht_words.specs.declared.op.Op.TheVariants.{Load}
use Rattle.rht_words.specs.declared.machine.Next.{Next}
use Rattle.rht_words.specs.declared.machine.Next.TheVariants.{Go, Done}
use Rattle.rht_words.specs.declared.geometry.Geometry.{Geometry}
use Rattle.rht_words.specs.Links.{slot_of}
use Rattle.rht_words.specs.Places.{Slot, ShapeWord, FutureWord, place_of}
use Rattle.rht_words.specs.Planned.{IsWord}
use Rattle.rht_move.specs.declared.last_table.Last.{Last}
use Rattle.rht_move.specs.declared.last_table.LastTableAt.{LastTableAt}
use Rattle.rht_move.specs.declared.last_table.LastTableAt.TheVariants as at

-- what contracts see of the machine
pub record LastTableModel : Type 0 where
  pub geometry : Geometry
  pub at : LastTableAt

-- it begins with the future of this slot's table
abbrev pub last_table_new : Geometry → ℕ → LastTableModel
last_table_new g table = record { geometry = g; at = at.Future table }

-- the state's one operation
abbrev pub last_table_plan_at : Geometry → LastTableAt → Op
last_table_plan_at g (at.Future table) = Load (place_of g (Slot table FutureWord))
last_table_plan_at g (at.Shape table) = Load (place_of g (Slot table ShapeWord))

abbrev pub last_table_plan : LastTableModel → Op
last_table_plan m = last_table_plan_at m.geometry m.at

-- behind a table with a future the search goes on; one without is the last, and its shape is loaded
abbrev pub next_or_shape : ℕ → Option ℕ → LastTableAt
next_or_shape table None = at.Shape table
next_or_shape table (Some next) = at.Future next

-- what comes after a state that found this word
abbrev pub last_table_after_at : LastTableModel → LastTableAt → ℕ → LastTableModel × Next Last
last_table_after_at m (at.Future table) word = (record m { at = next_or_shape table (slot_of word) }, Go)
last_table_after_at m (at.Shape table) word = (m, Done (record { table = table; shape = word }))

abbrev pub last_table_after : LastTableModel → ℕ → LastTableModel × Next Last
last_table_after m word = last_table_after_at m m.at word

-- the state names a slot
abbrev pub IsLastTableAtIn : LastTableAt → Type 0
IsLastTableAtIn (at.Future table) = table < 8
IsLastTableAtIn (at.Shape table) = table < 8

-- the machine works in this table of words
pub record IsLastTableIn (g : Geometry) (m : LastTableModel) : Type 0 where
  pub geometry_same : m.geometry ≡ g
  pub at_in : IsLastTableAtIn m.at

-- what it has found is a slot, and the shape is a word
pub record IsLastIn (last : Last) : Type 0 where
  pub table_in : last.table < 8
  pub shape_in : IsWord last.shape

abbrev pub IsLastEndIn : Next Last → Type 0
IsLastEndIn Go = Unit {0}
IsLastEndIn (Done last) = IsLastIn last
