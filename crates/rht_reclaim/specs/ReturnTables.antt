-- Giving back the retired tables over which no section is open any more: what each state performs, and what comes after it. The slots are
-- gone through in order. Of a retired table the word that was kept for each caller is looked at. An even one is of a caller that was in no
-- section. With an odd one the caller's section word is compared. While that is the same the section may still be open, and the table stays.
use Rattle.std.specs.Prelude.{◌≡◌, ℕ, ◌+◌, ◌%◌, ◌<◌, ◌==◌, nat_lt, if◌then◌else◌}
use Rattle.rht_words.specs.declared.op.Op.{Op}
use Rattle.rht_words.specs.declared.op.Op.TheVariants.{Load}
use Rattle.rht_words.specs.declared.machine.Next.{Next}
use Rattle.rht_words.specs.declared.machine.Next.TheVariants.{Go, Done}
use Rattle.rht_words.specs.declared.geometry.Geometry.{Geometry}
use Rattle.rht_words.specs.Places.{Slot, StateWord, LoadedSection, place_of}
use Rattle.rht_reclaim.specs.GiveTable.{GiveTableModel, give_table_new, give_table_plan, give_table_after, IsGiveTableIn}
use Rattle.rht_reclaim.specs.KeepSections.{section_load}
use Rattle.rht_reclaim.specs.declared.return_tables.ReturnTablesAt.{ReturnTablesAt}
use Rattle.rht_reclaim.specs.declared.return_tables.ReturnTablesAt.TheVariants as at

-- what contracts see of the machine
pub record ReturnTablesModel : Type 0 where
  pub geometry : Geometry
  pub at : ReturnTablesAt

-- it begins with the first slot
abbrev pub return_tables_new : Geometry → ReturnTablesModel
return_tables_new g = record { geometry = g; at = at.State 0 }

-- the load of a slot's state, and of the word that was kept there for a caller
abbrev pub state_load : Geometry → ℕ → Op
state_load g slot = Load (place_of g (Slot slot StateWord))

abbrev pub kept_load : Geometry → ℕ → ℕ → Op
kept_load g slot caller = Load (place_of g (Slot slot (LoadedSection caller)))

-- the state's one operation
abbrev pub return_tables_plan_at : Geometry → ReturnTablesAt → Op
return_tables_plan_at g (at.State slot) = state_load g slot
return_tables_plan_at g (at.KeptWord slot caller) = kept_load g slot caller
return_tables_plan_at g (at.SectionWord slot caller kept) = section_load g caller
return_tables_plan_at g (at.Giving give) = give_table_plan give

abbrev pub return_tables_plan : ReturnTablesModel → Op
return_tables_plan m = return_tables_plan_at m.geometry m.at

-- behind a slot comes the next one, and behind the last one the machine ends in the state in which it is
abbrev pub next_slot : ReturnTablesAt → ℕ → ReturnTablesAt × Next (Unit {0})
next_slot state slot = if nat_lt (slot + 1) 8 then (at.State (slot + 1), Go) else (state, Done tt)

-- behind a caller comes the next one; behind the last one the table is given back
abbrev pub next_caller : Geometry → ℕ → ℕ → ReturnTablesAt × Next (Unit {0})
next_caller g slot caller =
    if nat_lt (caller + 1) g.callers then (at.KeptWord slot (caller + 1), Go) else (at.Giving (give_table_new g slot), Go)

-- of a retired table the words that were kept are looked at
abbrev pub state_seen : ℕ → ℕ → ReturnTablesAt × Next (Unit {0})
state_seen slot state = if state == 2 then (at.KeptWord slot 0, Go) else next_slot (at.State slot) slot

-- an odd word is compared with the caller's section word
abbrev pub kept_seen : Geometry → ℕ → ℕ → ℕ → ReturnTablesAt × Next (Unit {0})
kept_seen g slot caller kept =
    if kept % 2 == 1 then (at.SectionWord slot caller kept, Go) else next_caller g slot caller

-- where it is that very word the table stays
abbrev pub section_seen : Geometry → ℕ → ℕ → ℕ → ℕ → ReturnTablesAt × Next (Unit {0})
section_seen g slot caller kept word =
    if word == kept then next_slot (at.SectionWord slot caller kept) slot else next_caller g slot caller

-- once a table is given back the next slot comes
abbrev pub given_back : GiveTableModel → Next (Unit {0}) → ReturnTablesAt × Next (Unit {0})
given_back give Go = (at.Giving give, Go)
given_back give (Done answer) = next_slot (at.Giving give) give.slot

-- what comes after a state that found this word
abbrev pub return_tables_after_at : Geometry → ReturnTablesAt → ℕ → ReturnTablesAt × Next (Unit {0})
return_tables_after_at g (at.State slot) old = state_seen slot old
return_tables_after_at g (at.KeptWord slot caller) old = kept_seen g slot caller old
return_tables_after_at g (at.SectionWord slot caller kept) old = section_seen g slot caller kept old
return_tables_after_at g (at.Giving give) old = given_back (give_table_after give old).0 (give_table_after give old).1

abbrev pub return_tables_after : ReturnTablesModel → ℕ → ReturnTablesModel × Next (Unit {0})
return_tables_after m old = (
  record m { at = (return_tables_after_at m.geometry m.at old).0 },
  (return_tables_after_at m.geometry m.at old).1,
)

-- ---- what keeps it in range

-- a slot, and a caller that there is
pub record IsAskedIn (g : Geometry) (slot caller : ℕ) : Type 0 where
  pub slot_in : slot < 8
  pub caller_in : caller < g.callers

abbrev pub IsReturnTablesAtIn : Geometry → ReturnTablesAt → Type 0
IsReturnTablesAtIn g (at.State slot) = slot < 8
IsReturnTablesAtIn g (at.KeptWord slot caller) = IsAskedIn g slot caller
IsReturnTablesAtIn g (at.SectionWord slot caller kept) = IsAskedIn g slot caller
IsReturnTablesAtIn g (at.Giving give) = IsGiveTableIn g give

-- the machine works in this table of words
pub record IsReturnTablesIn (g : Geometry) (m : ReturnTablesModel) : Type 0 where
  pub geometry_same : m.geometry ≡ g
  pub at_in : IsReturnTablesAtIn g m.at
