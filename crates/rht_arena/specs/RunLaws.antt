-- What the machines that take and give back runs of pages rely on.
use Rattle.std.specs.Prelude.{◌≡◌, ◌↔◌, ℕ, Bool, false, not, ◌+◌, ◌*◌, ◌/◌, ◌%◌, ◌<◌, ◌≤◌, ◌⊎◌, ◌==◌, ◌&&◌, ◌||◌, Option, None, Some, List, [], ◌∷◌}
use Rattle.std.specs.List.{Any}
use Rattle.std.specs.Int.{bit_at}
use Rattle.rht_words.specs.declared.op.Op.{Op}
use Rattle.rht_words.specs.declared.op.Op.TheVariants.{Load, Store, Exchange, Add, Sub, And, Or}
use Rattle.rht_words.specs.declared.machine.Next.{Next}
use Rattle.rht_words.specs.declared.machine.Next.TheVariants.{Go, Done}
use Rattle.rht_words.specs.declared.geometry.Geometry.{Geometry}
use Rattle.rht_words.specs.Places.{PageMap, place_of}
use Rattle.rht_words.specs.Operations.{op_place, word_after}
use Rattle.rht_words.specs.Machines.{Performed, Ran, ran}
use Rattle.rht_arena.specs.PageRuns.{is_in_run, IsRunIn}
use Rattle.rht_arena.specs.TakeRun.{TakeRunModel, first_run, take_run_plan, take_run_after, has_page, IsTakeRunAtIn}
use Rattle.rht_arena.specs.GiveRun.{GiveRunModel, give_run_new, give_run_plan, give_run_after}
use Rattle.rht_arena.specs.Laws.{IsLook}

-- the word of the page map with the page's bit, and which bit of the word that is
abbrev pub page_place : Geometry → ℕ → ℕ
page_place g page = place_of g (PageMap (page / 64))

abbrev pub page_bit : ℕ → ℕ
page_bit page = page % 64

-- the page is one of the run's
pub record IsOfRun (first pages page : ℕ) : Type 0 where
  pub from : first ≤ page
  pub below : page < first + pages

-- the taking of a run of so many pages, whose operations find these words
abbrev pub run_taking_ran : Geometry → ℕ → List ℕ → Ran (Option ℕ)
run_taking_ran g pages olds = ran take_run_plan take_run_after (first_run g pages) olds

-- ---- what was taken

-- the operation took the page: it found its bit set, and cleared it
pub record TakesPage (g : Geometry) (page : ℕ) (step : Performed) : Type 0 where
  pub place : op_place step.op ≡ page_place g page
  pub free : bit_at step.old (page_bit page) ≡ 1
  pub clears : bit_at (word_after step.old step.op) (page_bit page) ≡ 0

-- the run is the table's and begins at a multiple of its length, and each page of it was taken by some operation
pub record RunWasTaken (g : Geometry) (pages first : ℕ) (steps : List Performed) : Type 0 where
  pub run : IsRunIn g first pages
  pub multiple : ℕ
  pub aligned : first ≡ multiple * pages
  pub taken : (page : ℕ) → IsOfRun first pages page → Any (TakesPage g page) steps

-- whatever words its operations find, a run that is answered was taken page by page, each of which was free until then
abbrev pub TakenRunWasFree : Type 0
TakenRunWasFree =
    (g : Geometry) (pages : ℕ) (olds : List ℕ) (first : ℕ) → IsRunIn g 0 pages
    → (run_taking_ran g pages olds).next ≡ Done (Some first)
    → RunWasTaken g pages first (run_taking_ran g pages olds).steps

-- ---- where there is none

-- the operation looks at the word with the page's bit, and found the page taken
pub record SeesPageTaken (g : Geometry) (page : ℕ) (step : Performed) : Type 0 where
  pub looks : IsLook step.op
  pub place : op_place step.op ≡ page_place g page
  pub taken : bit_at step.old (page_bit page) ≡ 0

-- the operation sees a page of the run taken
pub record SeesRunTaken (g : Geometry) (pages first : ℕ) (step : Performed) : Type 0 where
  pub page : ℕ
  pub of_run : IsOfRun first pages page
  pub sees : SeesPageTaken g page step

-- none is answered only where of each run that begins at a multiple of its length a page was seen taken, by some operation
abbrev pub NoneOnlyWhereRunsTaken : Type 0
NoneOnlyWhereRunsTaken =
    (g : Geometry) (pages : ℕ) (olds : List ℕ) → IsRunIn g 0 pages
    → (run_taking_ran g pages olds).next ≡ Done None
    → (multiple : ℕ) → IsRunIn g (multiple * pages) pages
    → Any (SeesRunTaken g pages (multiple * pages)) (run_taking_ran g pages olds).steps

-- the operation sees the next run taken, and what is said of the runs behind is so from the one behind it on; or it isn't
-- one that counts, and is so from this one on
abbrev pub SeesNextRun : Geometry → ℕ → ℕ → Performed → (ℕ → Type 0) → Type 0
SeesNextRun g pages next step Behind = Behind next ⊎ (SeesRunTaken g pages next step × Behind (next + pages))

-- from this run on each is seen taken in its turn, by an operation of its own
abbrev pub AreRunsSeenInTurn : Geometry → ℕ → ℕ → List Performed → Type 0
AreRunsSeenInTurn g pages next [] = g.pages < next + pages
AreRunsSeenInTurn g pages next (step ∷ steps) =
    SeesNextRun g pages next step (λ first. AreRunsSeenInTurn g pages first steps)

-- where the machine has ended, it answers none exactly where each run was seen taken in its turn
abbrev pub NoneWhereRunsTakenInTurn : Type 0
NoneWhereRunsTakenInTurn =
    (g : Geometry) (pages : ℕ) (olds : List ℕ) (answer : Option ℕ) → IsRunIn g 0 pages
    → (run_taking_ran g pages olds).next ≡ Done answer
    → (answer ≡ None) ↔ AreRunsSeenInTurn g pages 0 (run_taking_ran g pages olds).steps

-- ---- what the taking holds

-- Whether a caller that has cleared the page's bit, or not, has cleared it and not given it back after an operation that
-- found this word: an And that clears the bit, and found it set, takes it; an Or that sets it gives it back.
abbrev pub has_after : Geometry → ℕ → Bool → ℕ → Op → Bool
has_after g page has old (Load place) = has
has_after g page has old (Store place value) = has
has_after g page has old (Exchange place before after) = has
has_after g page has old (Add place by) = has
has_after g page has old (Sub place by) = has
has_after g page has old (And place mask) =
    has
    || ((place == page_place g page) && ((bit_at mask (page_bit page) == 0) && (bit_at old (page_bit page) == 1)))
has_after g page has old (Or place mask) =
    has && not ((place == page_place g page) && (bit_at mask (page_bit page) == 1))

-- and after an operation of the taking of a run; once it has ended those of the run that it answers
abbrev pub has_next : ℕ → TakeRunModel × Next (Option ℕ) → ℕ → Bool
has_next pages (m, Go) page = has_page pages m.at page
has_next pages (m, Done None) page = false
has_next pages (m, Done (Some first)) page = is_in_run first pages page

-- each operation changes what the machine holds as it changes the bits; so where none is answered nothing is held
abbrev pub HoldsWhatItTook : Type 0
HoldsWhatItTook =
    (m : TakeRunModel) (old page : ℕ) → IsTakeRunAtIn m.geometry m.pages m.at
    → has_next m.pages (take_run_after m old) page
    ≡ has_after m.geometry page (has_page m.pages m.at page) old (take_run_plan m)

-- ---- giving back

-- the giving back of a run, whose operations find these words
abbrev pub run_giving_ran : Geometry → ℕ → ℕ → List ℕ → Ran (Unit {0})
run_giving_ran g first pages olds = ran give_run_plan give_run_after (give_run_new g first pages) olds

-- the operation set the page's bit
pub record GivesPage (g : Geometry) (page : ℕ) (step : Performed) : Type 0 where
  pub place : op_place step.op ≡ page_place g page
  pub sets : bit_at (word_after step.old step.op) (page_bit page) ≡ 1

-- giving a run back sets the bits of its pages, each by an operation, and no operation of it changes another page's bit
pub record GivingRunSetsItsBits : Type 0 where
  pub sets :
      (g : Geometry) (first pages : ℕ) (olds : List ℕ)
      → (run_giving_ran g first pages olds).next ≡ Done tt
      → (page : ℕ) → IsOfRun first pages page → Any (GivesPage g page) (run_giving_ran g first pages olds).steps
  pub leaves :
      (m : GiveRunModel) (old page : ℕ)
      → op_place (give_run_plan m) ≡ page_place m.geometry page
      → (IsOfRun m.first m.pages page → ⊥)
      → bit_at (word_after old (give_run_plan m)) (page_bit page) ≡ bit_at old (page_bit page)
