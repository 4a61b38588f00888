-- What comes of entering a page where an entry of a nested table leads to none.
use Rattle.std.specs.Prelude.{◌≡◌, ◌≢◌, ◌↔◌, ℕ, ◌<◌, ◌⊎◌, Option, None, Some, List, [], ◌∷◌, ◌++◌}
use Rattle.std.specs.List.{Any}
use Rattle.rht_words.specs.declared.op.Op.{Op}
use Rattle.rht_words.specs.declared.op.Op.TheVariants.{Exchange}
use Rattle.rht_words.specs.declared.machine.Next.TheVariants.{Done}
use Rattle.rht_words.specs.declared.geometry.Geometry.{Geometry}
use Rattle.rht_words.specs.Links.{entry_of}
use Rattle.rht_words.specs.Machines.{Performed, Ran, ran}
use Rattle.rht_arena.specs.RunLaws.{TakesPage, GivesPage, AreRunsSeenInTurn}
use Rattle.rht_nest.specs.Grow.{grow_new, grow_plan, grow_after, page_there}

-- the growing at this entry, whose operations find these words
abbrev pub growing_ran : Geometry → ℕ → List ℕ → Ran (Option ℕ)
growing_ran g entry olds = ran grow_plan grow_after (grow_new g entry) olds

-- the exchange that enters a page where the entry leads to none
abbrev pub entering : ℕ → ℕ → Op
entering entry page = Exchange entry 0 (entry_of page)

-- ---- a page that is answered

-- the page was free until one of these operations took it
pub record PageWasTaken (g : Geometry) (page : ℕ) (steps : List Performed) : Type 0 where
  pub page_in : page < g.pages
  pub taken : Any (TakesPage g page) steps

-- the page was taken, and then the last operation entered it: the entry led to none until then
pub record PageWasEntered (g : Geometry) (entry page : ℕ) (steps : List Performed) : Type 0 where
  pub before : List Performed
  pub taken : PageWasTaken g page before
  pub are : steps ≡ before ++ record { op = entering entry page; old = 0 } ∷ []

-- a page of the machine's own was taken; then the exchange found that the entry leads to this one; and the last operation gave
-- the own one back
pub record PageWasThere (g : Geometry) (entry page : ℕ) (steps : List Performed) : Type 0 where
  pub before : List Performed
  pub own : ℕ
  pub found : ℕ
  pub giving : Performed
  pub taken : PageWasTaken g own before
  pub leads : found ≢ 0
  pub there : page ≡ page_there g found
  pub given : GivesPage g own giving
  pub are : steps ≡ before ++ record { op = entering entry own; old = found } ∷ giving ∷ []

-- whatever words its operations find, a page that is answered is there: the machine has entered it, or has found it and given
-- its own back
abbrev pub GrownPageIsThere : Type 0
GrownPageIsThere =
    (g : Geometry) (entry : ℕ) (olds : List ℕ) (page : ℕ)
    → (growing_ran g entry olds).next ≡ Done (Some page)
    → PageWasEntered g entry page (growing_ran g entry olds).steps
    ⊎ PageWasThere g entry page (growing_ran g entry olds).steps

-- ---- where there is none

-- each page was seen taken in its turn, as a run of its own
abbrev pub ArePagesSeenInTurn : Geometry → List Performed → Type 0
ArePagesSeenInTurn g steps = AreRunsSeenInTurn g 1 0 steps

-- a growing that has ended answers none exactly where each page was seen taken in its turn
abbrev pub NoneWherePagesTaken : Type 0
NoneWherePagesTaken =
    (g : Geometry) (entry : ℕ) (olds : List ℕ) (answer : Option ℕ)
    → (growing_ran g entry olds).next ≡ Done answer
    → (answer ≡ None) ↔ ArePagesSeenInTurn g (growing_ran g entry olds).steps
