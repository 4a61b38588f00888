-- What a giving back of a retired table does, whatever words it finds.
use Rattle.std.specs.Prelude.{◌≡◌, ◌≢◌, ℕ, zero, suc, Bool, true, false, ◌+◌, ◌-◌, ◌*◌, ◌/◌, ◌<◌, ◌≤◌, ◌⊎◌, ◌==◌, ◌&&◌, nat_le, List, [], ◌∷◌, ◌++◌, length, map, None, Some}
use Rattle.std.specs.List.{AllByRecursion, range_with_len}
use Rattle.std.specs.Int.{bit_at}
use Rattle.rht_words.specs.declared.op.Op.{Op}
use Rattle.rht_words.specs.declared.op.Op.TheVariants.{Load, Store, Exchange, Add, Sub, And, Or}
use Rattle.rht_words.specs.declared.machine.Next.TheVariants.{Go, Done}
use Rattle.rht_words.specs.declared.geometry.Geometry.{Geometry}
use Rattle.rht_words.specs.Links.{entry_of, page_of}
use Rattle.rht_words.specs.Machines.{Performed, Ran, ran}
use Rattle.rht_words.specs.Places.{PageMap, Slot, ShapeWord, StateWord, place_of, pages_at}
use Rattle.rht_words.specs.Planned.{IsPlannedIn}
use Rattle.rht_arena.specs.PageRuns.{run_bits, is_in_run}
use Rattle.rht_arena.specs.RunLaws.{page_place, page_bit}
use Rattle.rht_nest.specs.Tables.{is_nested, run_first, run_pages}
use Rattle.rht_nest.specs.Place.{top_page, top_entries, is_deep}
use Rattle.rht_reclaim.specs.GiveTable.{give_table_new, give_table_plan, give_table_after, give_page, entry_at}

-- the giving back of the table in this slot, whose operations find these words
abbrev pub table_giving_ran : Geometry → ℕ → List ℕ → Ran (Unit {0})
table_giving_ran g slot olds = ran give_table_plan give_table_after (give_table_new g slot) olds

-- this operation, which found this word
abbrev pub did : Op → ℕ → Performed
did op old = record { op = op; old = old }

-- the operations are some, and then others
pub record Joined (First Rest : List Performed → Type 0) (steps : List Performed) : Type 0 where
  pub first : List Performed
  pub rest : List Performed
  pub is_first : First first
  pub is_rest : Rest rest
  pub are : steps ≡ first ++ rest

-- there was no operation
abbrev pub IsNothing : List Performed → Type 0
IsNothing steps = steps ≡ []

-- ---- an entry, and the page to which it leads

-- the entry was loaded, and leads to no page
pub record EntryPassed (g : Geometry) (page index : ℕ) (steps : List Performed) : Type 0 where
  pub found : ℕ
  pub none : page_of g.pages found ≡ None
  pub are : steps ≡ did (Load (entry_at g page index)) found ∷ []

-- The entry was loaded, and leads to a page. Then came what there was to do below it, then 0 was stored in the entry, and last
-- the page was given back.
pub record EntryWithdrawn (g : Geometry) (Below : ℕ → List Performed → Type 0) (page index : ℕ) (steps : List Performed) :
    Type 0 where
  pub found : ℕ
  pub led : ℕ
  pub leads : page_of g.pages found ≡ Some led
  pub below : List Performed
  pub is_below : Below led below
  pub cleared : ℕ
  pub given : ℕ
  pub are : steps
      ≡ did (Load (entry_at g page index)) found
      ∷ (below ++ did (Store (entry_at g page index) 0) cleared ∷ did (give_page g led) given ∷ [])

abbrev pub EntryDone : Geometry → (ℕ → List Performed → Type 0) → ℕ → ℕ → List Performed → Type 0
EntryDone g Below page index steps = EntryPassed g page index steps ⊎ EntryWithdrawn g Below page index steps

-- so it was done with so many entries of the page in order, from this one on
abbrev pub AreEntriesDone : Geometry → (ℕ → List Performed → Type 0) → ℕ → ℕ → ℕ → List Performed → Type 0
AreEntriesDone g Below page index zero steps = IsNothing steps
AreEntriesDone g Below page index (suc count) steps =
    Joined (EntryDone g Below page index) (AreEntriesDone g Below page (index + 1) count) steps

-- below an entry of the top page are, with two levels, the 64 entries of the page to which it leads
abbrev pub AreLeavesDone : Geometry → Bool → ℕ → List Performed → Type 0
AreLeavesDone g true page steps = AreEntriesDone g (λ led nothing. IsNothing nothing) page 0 64 steps
AreLeavesDone g false page steps = IsNothing steps

-- ---- all of a table

-- the words of the page map that have bits of the run, of which the first is that of its first page
abbrev pub run_words : ℕ → ℕ → ℕ
run_words first pages = (first + pages - 1) / 64 + 1 - first / 64

abbrev pub give_word : Geometry → ℕ → ℕ → ℕ → Op
give_word g first pages index = Or (place_of g (PageMap index)) (run_bits first pages index)

-- the bits of a run were set, by one operation for each word of the map in rising order
abbrev pub IsRunGiven : Geometry → ℕ → ℕ → List Performed → Type 0
IsRunGiven g first pages steps =
    map (λ step. step.op) steps
    ≡ map (give_word g first pages) (range_with_len (first / 64) (run_words first pages))

-- the page was given back, and nothing else was done
pub record IsPageGiven (g : Geometry) (page : ℕ) (steps : List Performed) : Type 0 where
  pub given : ℕ
  pub are : steps ≡ did (give_page g page) given ∷ []

-- a flat table's run was given; of a nested one it was done with each entry of the top page in use, and then that page was given
abbrev pub ArePagesGiven : Geometry → ℕ → Bool → List Performed → Type 0
ArePagesGiven g shape false steps = IsRunGiven g (run_first g shape) (run_pages g shape) steps
ArePagesGiven g shape true steps =
    Joined (AreEntriesDone g (AreLeavesDone g (is_deep shape)) (top_page g shape) 0 (top_entries shape))
    (IsPageGiven g (top_page g shape)) steps

-- the shape was loaded first, and last 0 was stored in the slot's state
pub record TableReturned (g : Geometry) (slot : ℕ) (steps : List Performed) : Type 0 where
  pub shape : ℕ
  pub pages : List Performed
  pub state : ℕ
  pub given : ArePagesGiven g shape (is_nested shape) pages
  pub are : steps
      ≡ did (Load (place_of g (Slot slot ShapeWord))) shape
      ∷ (pages ++ did (Store (place_of g (Slot slot StateWord)) 0) state ∷ [])

-- whatever words its operations find, a giving back that has ended has done this
abbrev pub ReturnsTable : Type 0
ReturnsTable =
    (g : Geometry) (slot : ℕ) (olds : List ℕ)
    → (table_giving_ran g slot olds).next ≡ Done tt
    → TableReturned g slot (table_giving_ran g slot olds).steps

-- ---- how often a page is given

-- the operation sets the page's bit
abbrev pub sets_bit : Geometry → ℕ → Op → Bool
sets_bit g page (Load place) = false
sets_bit g page (Store place value) = false
sets_bit g page (Exchange place before after) = false
sets_bit g page (Add place by) = false
sets_bit g page (Sub place by) = false
sets_bit g page (And place mask) = false
sets_bit g page (Or place mask) = (place == page_place g page) && (bit_at mask (page_bit page) == 1)

-- the operation loaded a word of the pages, and found the entry that leads to this page
abbrev pub finds_entry : Geometry → ℕ → Op → ℕ → Bool
finds_entry g page (Load place) old = nat_le (pages_at g) place && (old == entry_of page)
finds_entry g page (Store place value) old = false
finds_entry g page (Exchange place before after) old = false
finds_entry g page (Add place by) old = false
finds_entry g page (Sub place by) old = false
finds_entry g page (And place mask) old = false
finds_entry g page (Or place mask) old = false

abbrev pub once_if : Bool → ℕ
once_if true = 1
once_if false = 0

abbrev pub times_given : Geometry → ℕ → List Performed → ℕ
times_given g page [] = 0
times_given g page (step ∷ steps) = once_if (sets_bit g page step.op) + times_given g page steps

abbrev pub times_found : Geometry → ℕ → List Performed → ℕ
times_found g page [] = 0
times_found g page (step ∷ steps) = once_if (finds_entry g page step.op step.old) + times_found g page steps

-- A flat table's pages are each given once, and no others. Of a nested one each page is given as often as an entry was found that
-- leads to it, and the top page once more.
abbrev pub IsGivenRightly : Geometry → ℕ → Bool → ℕ → List Performed → Type 0
IsGivenRightly g shape false page steps =
    times_given g page steps
    ≡ once_if (is_in_run (run_first g shape) (run_pages g shape) page)
IsGivenRightly g shape true page steps =
    times_given g page steps ≡ times_found g page steps + once_if (page == top_page g shape)

pub record GivesOnce (g : Geometry) (slot page : ℕ) (steps : List Performed) : Type 0 where
  pub shape : ℕ
  pub rest : List Performed
  pub loads : steps ≡ did (Load (place_of g (Slot slot ShapeWord))) shape ∷ rest
  pub rightly : IsGivenRightly g shape (is_nested shape) page steps

-- so it is of each page, once the giving back has ended
abbrev pub GivesEachOnce : Type 0
GivesEachOnce =
    (g : Geometry) (slot : ℕ) (olds : List ℕ) (page : ℕ) → slot < 8 → page < g.pages
    → (table_giving_ran g slot olds).next ≡ Done tt
    → GivesOnce g slot page (table_giving_ran g slot olds).steps

-- ---- how long it takes, and where it works

-- As many operations as it makes at most. For each of 64 entries of the top page these are its load, its clearing and the giving of
-- its page, and between these the same for each of the 64 entries of that page. There are three more.
abbrev pub give_table_bound : ℕ
give_table_bound = 64 * (3 + 64 * 3) + 3

pub record EndsWithin (bound : ℕ) {R : Type 0} (olds : List ℕ) (run : Ran R) : Type 0 where
  pub few : length run.steps ≤ bound
  pub ends : bound ≤ length olds → run.next ≢ Go

abbrev pub ReturnsSoon : Type 0
ReturnsSoon =
    (g : Geometry) (slot : ℕ) (olds : List ℕ) → EndsWithin give_table_bound olds (table_giving_ran g slot olds)

-- the operation is on an entry of a page that there is
pub record IsOnEntry (g : Geometry) (place : ℕ) : Type 0 where
  pub page : ℕ
  pub index : ℕ
  pub page_in : page < g.pages
  pub index_in : index < 64
  pub at : place ≡ entry_at g page index

-- the operation is on the word of the page map that has the bit of a page that there is
pub record IsOnPageMap (g : Geometry) (place : ℕ) : Type 0 where
  pub page : ℕ
  pub page_in : page < g.pages
  pub at : place ≡ place_of g (PageMap (page / 64))

-- it loads an entry or stores 0 there, sets bits in a word of the page map, loads the slot's shape, or stores 0 in its state
abbrev pub IsOfReturn : Geometry → ℕ → Op → Type 0
IsOfReturn g slot (Load place) = IsOnEntry g place ⊎ (place ≡ place_of g (Slot slot ShapeWord))
IsOfReturn g slot (Store place value) =
    (value ≡ 0) × (IsOnEntry g place ⊎ (place ≡ place_of g (Slot slot StateWord)))
IsOfReturn g slot (Exchange place before after) = ⊥
IsOfReturn g slot (Add place by) = ⊥
IsOfReturn g slot (Sub place by) = ⊥
IsOfReturn g slot (And place mask) = ⊥
IsOfReturn g slot (Or place mask) = IsOnPageMap g place

pub record IsReturnStep (g : Geometry) (slot : ℕ) (step : Performed) : Type 0 where
  pub of_return : IsOfReturn g slot step.op
  pub planned : IsPlannedIn g step.op

abbrev pub ReturnsWithin : Type 0
ReturnsWithin =
    (g : Geometry) (slot : ℕ) (olds : List ℕ) → slot < 8
    → AllByRecursion (IsReturnStep g slot) (table_giving_ran g slot olds).steps
