-- What a giving back of retired tables does, whatever words it finds.
use Rattle.std.specs.Prelude.{◌≡◌, ◌≢◌, ℕ, zero, suc, ◌+◌, ◌*◌, ◌%◌, ◌<◌, ◌⊎◌, List, [], ◌∷◌}
use Rattle.std.specs.List.{AllByRecursion}
use Rattle.rht_words.specs.declared.op.Op.{Op}
use Rattle.rht_words.specs.declared.machine.Next.TheVariants.{Done}
use Rattle.rht_words.specs.declared.geometry.Geometry.{Geometry}
use Rattle.rht_words.specs.Machines.{Performed, Ran, ran}
use Rattle.rht_words.specs.Planned.{IsPlannedIn}
use Rattle.rht_reclaim.specs.GiveTableLaws.{did, Joined, IsNothing, TableReturned, give_table_bound, EndsWithin, IsOfReturn}
use Rattle.rht_reclaim.specs.KeepSections.{section_load}
use Rattle.rht_reclaim.specs.ReturnTables.{return_tables_new, return_tables_plan, return_tables_after, state_load, kept_load}

-- the giving back, whose operations find these words
abbrev pub returning_ran : Geometry → List ℕ → Ran (Unit {0})
returning_ran g olds = ran return_tables_plan return_tables_after (return_tables_new g) olds

-- ---- what was found of one caller

-- an even word was kept, so it was in no section
pub record WasOutside (g : Geometry) (slot caller : ℕ) (steps : List Performed) : Type 0 where
  pub kept : ℕ
  pub even : kept % 2 ≡ 0
  pub are : steps ≡ did (kept_load g slot caller) kept ∷ []

-- an odd word was kept, and its section word is another one now, so it has left that section
pub record HasLeft (g : Geometry) (slot caller : ℕ) (steps : List Performed) : Type 0 where
  pub kept : ℕ
  pub now : ℕ
  pub odd : kept % 2 ≡ 1
  pub other : now ≢ kept
  pub are : steps ≡ did (kept_load g slot caller) kept ∷ did (section_load g caller) now ∷ []

-- an odd word was kept, and its section word is still that one
pub record IsStillReading (g : Geometry) (slot caller : ℕ) (steps : List Performed) : Type 0 where
  pub kept : ℕ
  pub odd : kept % 2 ≡ 1
  pub are : steps ≡ did (kept_load g slot caller) kept ∷ did (section_load g caller) kept ∷ []

-- so many callers from this one on can't read the table any more
abbrev pub AreOutside : Geometry → ℕ → ℕ → ℕ → List Performed → Type 0
AreOutside g slot caller zero steps = IsNothing steps
AreOutside g slot caller (suc count) steps =
    Joined (λ first. WasOutside g slot caller first ⊎ HasLeft g slot caller first)
    (AreOutside g slot (caller + 1) count) steps

-- ---- what was done with one slot

-- the table stays: some caller may still be in the section in which it was
pub record IsStaying (g : Geometry) (slot : ℕ) (steps : List Performed) : Type 0 where
  pub caller : ℕ
  pub there : caller < g.callers
  pub are : Joined (AreOutside g slot 0 caller) (IsStillReading g slot caller) steps

-- the table is given back: each caller was found outside before
abbrev pub SlotReturned : Geometry → ℕ → List Performed → Type 0
SlotReturned g slot steps = Joined (AreOutside g slot 0 g.callers) (TableReturned g slot) steps

-- what is done behind the load of the slot's state, which was this
abbrev pub IsDoneWith : Geometry → ℕ → ℕ → List Performed → Type 0
IsDoneWith g slot state steps =
    ((state ≢ 2) × IsNothing steps) ⊎ ((state ≡ 2) × (IsStaying g slot steps ⊎ SlotReturned g slot steps))

pub record SlotSeen (g : Geometry) (slot : ℕ) (steps : List Performed) : Type 0 where
  pub state : ℕ
  pub behind : List Performed
  pub is_done : IsDoneWith g slot state behind
  pub are : steps ≡ did (state_load g slot) state ∷ behind

-- so it was with so many slots in order, from this one on
abbrev pub AreSlotsSeen : Geometry → ℕ → ℕ → List Performed → Type 0
AreSlotsSeen g slot zero steps = IsNothing steps
AreSlotsSeen g slot (suc count) steps = Joined (SlotSeen g slot) (AreSlotsSeen g (slot + 1) count) steps

-- whatever words its operations find, a giving back of all tables that has ended has done this with each of the eight slots
abbrev pub ReturnsTables : Type 0
ReturnsTables =
    (g : Geometry) (olds : List ℕ) → (returning_ran g olds).next ≡ Done tt
    → AreSlotsSeen g 0 8 (returning_ran g olds).steps

-- ---- how long it takes, and where it works

-- one operation for each slot, two for each caller there, and those of the giving back of a table
abbrev pub return_tables_bound : Geometry → ℕ
return_tables_bound g = 8 * (1 + 2 * g.callers + give_table_bound)

abbrev pub TablesReturnSoon : Type 0
TablesReturnSoon = (g : Geometry) (olds : List ℕ) → EndsWithin (return_tables_bound g) olds (returning_ran g olds)

-- it loads the state of a slot, a word that was kept there, or a section word; or it is of the giving back of the slot's table
pub record IsReturningOp (g : Geometry) (op : Op) : Type 0 where
  pub slot : ℕ
  pub caller : ℕ
  pub slot_in : slot < 8
  pub caller_in : caller < g.callers
  pub either : (op ≡ state_load g slot) ⊎ (op ≡ kept_load g slot caller) ⊎ (op ≡ section_load g caller) ⊎ IsOfReturn g slot op

pub record IsReturningStep (g : Geometry) (step : Performed) : Type 0 where
  pub of_slot : IsReturningOp g step.op
  pub planned : IsPlannedIn g step.op

abbrev pub TablesReturnWithin : Type 0
TablesReturnWithin =
    (g : Geometry) (olds : List ℕ) → AllByRecursion (IsReturningStep g) (returning_ran g olds).steps
