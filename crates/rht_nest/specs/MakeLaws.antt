-- What the machines that attach tables rely on.
use Rattle.std.specs.Prelude.{◌≡◌, ◌≢◌, ◌↔◌, ℕ, Bool, true, false, ◌<◌, ◌⊎◌, Option, None, Some, List, [], ◌∷◌, ◌++◌}
use Rattle.std.specs.List.{Any}
use Rattle.rht_words.specs.declared.op.Op.{Op}
use Rattle.rht_words.specs.declared.op.Op.TheVariants.{Store, Exchange, Add}
use Rattle.rht_words.specs.declared.machine.Next.TheVariants.{Done}
use Rattle.rht_words.specs.declared.geometry.Geometry.{Geometry}
use Rattle.rht_words.specs.Places.{NextSerial, Slot, SlotWord, ShapeWord, SeedWord, FutureWord, SerialWord, StateWord, place_of}
use Rattle.rht_words.specs.Machines.{Performed, Ran, ran}
use Rattle.rht_arena.specs.RunLaws.{IsOfRun, RunWasTaken, AreRunsSeenInTurn, GivesPage}
use Rattle.rht_nest.specs.Tables.{exponent_made, flat_shape, run_first, run_pages, table_seed}
use Rattle.rht_nest.specs.Laws.{IsFlatIn}
use Rattle.rht_nest.specs.Make.{make_new, make_plan, make_after, may_nest, made_pages, made_shape, pages_taken}
use Rattle.rht_nest.specs.Unmake.{unmake_new, unmake_plan, unmake_after}

-- the making of a table of this size, whose operations find these words
abbrev pub making_ran : Geometry → ℕ → ℕ → Bool → List ℕ → Ran (Option (ℕ × ℕ))
making_ran g size seed allowed olds = ran make_plan make_after (make_new g size seed allowed) olds

-- the pages that its run has where it is flat
abbrev pub pages_for : ℕ → ℕ
pages_for size = made_pages (exponent_made size)

-- the exchange that takes a slot where it is free
abbrev pub slot_taking : Geometry → ℕ → Op
slot_taking g slot = Exchange (place_of g (Slot slot StateWord)) 0 1

-- the operation took the slot, which was free until then
pub record TakesSlot (g : Geometry) (slot : ℕ) (step : Performed) : Type 0 where
  pub taking : step.op ≡ slot_taking g slot
  pub free : step.old ≡ 0

-- the operation found that the slot isn't free
pub record SeesSlotTaken (g : Geometry) (slot : ℕ) (step : Performed) : Type 0 where
  pub looks : step.op ≡ slot_taking g slot
  pub taken : step.old ≢ 0

-- each slot was found not to be free
abbrev pub AreSlotsSeenTaken : Geometry → List Performed → Type 0
AreSlotsSeenTaken g steps = (slot : ℕ) → slot < 8 → Any (SeesSlotTaken g slot) steps

-- each run of so many pages was seen taken in its turn, and by the operations behind that each page in its
pub record AreRunsThenPagesSeen (g : Geometry) (pages : ℕ) (steps : List Performed) : Type 0 where
  pub before : List Performed
  pub behind : List Performed
  pub are : steps ≡ before ++ behind
  pub runs : AreRunsSeenInTurn g pages 0 before
  pub tops : AreRunsSeenInTurn g 1 0 behind

-- no pages were to be had for a table that takes so many, or one where it may be nested
abbrev pub AreNoPagesSeen : Geometry → ℕ → Bool → List Performed → Type 0
AreNoPagesSeen g pages false steps = AreRunsSeenInTurn g pages 0 steps
AreNoPagesSeen g pages true steps = AreRunsThenPagesSeen g pages steps

-- a making that has ended answers none exactly where each slot was found not to be free, or each run of pages was seen
-- taken in its turn and, where the table may be nested, each page in its turn after that
abbrev pub NoneWhereSlotsOrRunsTaken : Type 0
NoneWhereSlotsOrRunsTaken =
    (g : Geometry) (size seed : ℕ) (allowed : Bool) (olds : List ℕ) (answer : Option (ℕ × ℕ))
    → (making_ran g size seed allowed olds).next ≡ Done answer
    → (answer ≡ None)
    ↔ (AreSlotsSeenTaken g (making_ran g size seed allowed olds).steps
    ⊎ AreNoPagesSeen g (pages_for size) (may_nest (exponent_made size) allowed) (making_ran g size seed allowed olds).steps)

-- ---- a table that was made

-- the operation stored this in a word of the slot
abbrev pub StoresInSlot : Geometry → ℕ → SlotWord → ℕ → Performed → Type 0
StoresInSlot g slot word value step = step.op ≡ Store (place_of g (Slot slot word)) value

-- the operation raised the next serial by 1, and found this one
pub record TakesSerial (g : Geometry) (serial : ℕ) (step : Performed) : Type 0 where
  pub raises : step.op ≡ Add (place_of g NextSerial) 1
  pub found : step.old ≡ serial

-- a nested table of this size may be made, and each run of pages for a flat one was seen taken in its turn
pub record IsNestedFor (g : Geometry) (size : ℕ) (allowed : Bool) (steps : List Performed) : Type 0 where
  pub may : may_nest (exponent_made size) allowed ≡ true
  pub no_run : AreRunsSeenInTurn g (pages_for size) 0 steps

-- a flat table's buckets are words of the pages, and a nested one is made only where there is no flat one
abbrev pub IsKindMade : Geometry → ℕ → Bool → Bool → ℕ → List Performed → Type 0
IsKindMade g size allowed false page steps = IsFlatIn g (flat_shape (exponent_made size) page)
IsKindMade g size allowed true page steps = IsNestedFor g size allowed steps

-- The slot and the pages of the table's run, or the top page of a nested one, were free until an operation of the machine's own
-- took them, its serial is the one that it found, and what it stored in the slot are the shape, the seed with the serial, no
-- future, and the serial.
pub record TableWasMade (g : Geometry) (size seed : ℕ) (allowed : Bool) (slot shape : ℕ) (steps : List Performed) : Type 0
  where
    pub nested : Bool
    pub page : ℕ
    pub serial : ℕ
    pub slot_in : slot < 8
    pub kind : IsKindMade g size allowed nested page steps
    pub shape_is : shape ≡ made_shape (exponent_made size) nested page
    pub took_slot : Any (TakesSlot g slot) steps
    pub took_run : RunWasTaken g (pages_taken (exponent_made size) nested) page steps
    pub took_serial : Any (TakesSerial g serial) steps
    pub stored_shape : Any (StoresInSlot g slot ShapeWord shape) steps
    pub stored_seed : Any (StoresInSlot g slot SeedWord (table_seed seed serial)) steps
    pub stored_future : Any (StoresInSlot g slot FutureWord 0) steps
    pub stored_serial : Any (StoresInSlot g slot SerialWord serial) steps

-- whatever words its operations find, a table that is answered was made of what was free
abbrev pub MadeOfWhatWasFree : Type 0
MadeOfWhatWasFree =
    (g : Geometry) (size seed : ℕ) (allowed : Bool) (olds : List ℕ) (slot shape : ℕ)
    → (making_ran g size seed allowed olds).next ≡ Done (Some (slot, shape))
    → TableWasMade g size seed allowed slot shape (making_ran g size seed allowed olds).steps

-- ---- a table that is given back

-- the last operation stored that the slot is free
pub record EndsWithSlot (g : Geometry) (slot : ℕ) (steps : List Performed) : Type 0 where
  pub before : List Performed
  pub old : ℕ
  pub are : steps ≡ before ++ record { op = Store (place_of g (Slot slot StateWord)) 0; old = old } ∷ []

-- each page of the table's run, or the top page of a nested one, was given back, and the slot last
pub record TableWasGiven (g : Geometry) (slot shape : ℕ) (steps : List Performed) : Type 0 where
  pub pages_given :
      (page : ℕ) → IsOfRun (run_first g shape) (run_pages g shape) page → Any (GivesPage g page) steps
  pub slot_given : EndsWithSlot g slot steps

-- a giving back that has ended gave back what the table of this shape has
abbrev pub GivesTableBack : Type 0
GivesTableBack =
    (g : Geometry) (slot shape : ℕ) (olds : List ℕ)
    → (ran unmake_plan unmake_after (unmake_new g slot shape) olds).next ≡ Done tt
    → TableWasGiven g slot shape (ran unmake_plan unmake_after (unmake_new g slot shape) olds).steps
