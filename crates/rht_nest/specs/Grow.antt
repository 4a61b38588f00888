-- Entering a page where an entry of a nested table leads to none: what each state performs, and what comes after it.
use Rattle.std.specs.Prelude.{◌≡◌, ℕ, ◌-◌, ◌<◌, ◌==◌, min, List, [], ◌∷◌, Option, None, Some, if◌then◌else◌}
use Rattle.rht_words.specs.declared.op.Op.{Op}
use Rattle.rht_words.specs.declared.op.Op.TheVariants.{Exchange}
use Rattle.rht_words.specs.declared.machine.Next.{Next}
use Rattle.rht_words.specs.declared.machine.Next.TheVariants.{Go, Done}
use Rattle.rht_words.specs.declared.geometry.Geometry.{Geometry}
use Rattle.rht_words.specs.Links.{entry_of}
use Rattle.rht_words.specs.Places.{IsBucketPlace}
use Rattle.rht_arena.specs.TakeRun.{TakeRunModel, first_run, take_run_plan, take_run_after, pages_of_take_run, IsTakeRunIn}
use Rattle.rht_arena.specs.GiveRun.{GiveRunModel, give_run_new, give_run_plan, give_run_after, pages_of_give_run, IsGiveRunIn}
use Rattle.rht_nest.specs.declared.grow.GrowAt.{GrowAt}
use Rattle.rht_nest.specs.declared.grow.GrowAt.TheVariants as at

-- what contracts see of the machine: the place of the entry, and where its growing stands
pub record GrowModel : Type 0 where
  pub geometry : Geometry
  pub entry : ℕ
  pub at : GrowAt

-- it begins with the taking of a page
abbrev pub grow_new : Geometry → ℕ → GrowModel
grow_new g entry = record { geometry = g; entry = entry; at = at.Taking (first_run g 1) }

-- the state's one operation
abbrev pub grow_plan_at : ℕ → GrowAt → Op
grow_plan_at entry (at.Taking take) = take_run_plan take
grow_plan_at entry (at.Entering page) = Exchange entry 0 (entry_of page)
grow_plan_at entry (at.Giving there give) = give_run_plan give

abbrev pub grow_plan : GrowModel → Op
grow_plan m = grow_plan_at m.entry m.at

-- a page that was taken is entered; where none was free the machine ends
abbrev pub page_taken : TakeRunModel → Next (Option ℕ) → GrowAt × Next (Option ℕ)
page_taken take Go = (at.Taking take, Go)
page_taken take (Done None) = (at.Taking take, Done None)
page_taken take (Done (Some page)) = (at.Entering page, Go)

-- the page to which an entry leads that isn't 0; one past the last page is read as the last
abbrev pub page_there : Geometry → ℕ → ℕ
page_there g entry = min (entry - 1) (g.pages - 1)

-- The exchange found this entry: 0 where the page was entered. Else another caller has entered one before, which the entry leads
-- to, and this page is given back.
abbrev pub page_entered : Geometry → ℕ → ℕ → GrowAt × Next (Option ℕ)
page_entered g page entry =
    if entry == 0 then (at.Entering page, Done (Some page))
    else (at.Giving (page_there g entry) (give_run_new g page 1), Go)

-- with the page given back the machine ends with the one that is there
abbrev pub page_given : ℕ → GiveRunModel → Next (Unit {0}) → GrowAt × Next (Option ℕ)
page_given there give Go = (at.Giving there give, Go)
page_given there give (Done answer) = (at.Giving there give, Done (Some there))

-- what comes after a state that found this word
abbrev pub grow_after_at : Geometry → GrowAt → ℕ → GrowAt × Next (Option ℕ)
grow_after_at g (at.Taking take) word = page_taken (take_run_after take word).0 (take_run_after take word).1
grow_after_at g (at.Entering page) word = page_entered g page word
grow_after_at g (at.Giving there give) word = page_given there (give_run_after give word).0 (give_run_after give word).1

abbrev pub grow_after : GrowModel → ℕ → GrowModel × Next (Option ℕ)
grow_after m word =
    (record m { at = (grow_after_at m.geometry m.at word).0 }, (grow_after_at m.geometry m.at word).1)

-- the pages that it has taken, and has neither entered nor given back
abbrev pub pages_of_grow : GrowAt → List ℕ
pages_of_grow (at.Taking take) = pages_of_take_run take
pages_of_grow (at.Entering page) = page ∷ []
pages_of_grow (at.Giving there give) = pages_of_give_run give

-- ---- what keeps it in range

-- a run of one page is taken
pub record IsTakingPage (g : Geometry) (take : TakeRunModel) : Type 0 where
  pub one : take.pages ≡ 1
  pub take_in : IsTakeRunIn g take

-- and given back, where another page is there
pub record IsGivingPage (g : Geometry) (there : ℕ) (give : GiveRunModel) : Type 0 where
  pub there_in : there < g.pages
  pub give_in : IsGiveRunIn g give

abbrev pub IsGrowAtIn : Geometry → GrowAt → Type 0
IsGrowAtIn g (at.Taking take) = IsTakingPage g take
IsGrowAtIn g (at.Entering page) = page < g.pages
IsGrowAtIn g (at.Giving there give) = IsGivingPage g there give

-- the machine works in this table of words, at an entry, which is a word of the pages
pub record IsGrowIn (g : Geometry) (m : GrowModel) : Type 0 where
  pub geometry_same : m.geometry ≡ g
  pub entry_in : IsBucketPlace g m.entry
  pub at_in : IsGrowAtIn g m.at

-- the page that is there is one of the table's
abbrev pub IsGrowEndIn : Geometry → Next (Option ℕ) → Type 0
IsGrowEndIn g Go = Unit {0}
IsGrowEndIn g (Done None) = Unit {0}
IsGrowEndIn g (Done (Some page)) = page < g.pages
