-- Giving the pages and the slot of a table back: what each state performs, and what comes after it.
use Rattle.std.specs.Prelude.{◌≡◌, ℕ, ◌<◌, List, []}
use Rattle.rht_words.specs.declared.op.Op.{Op}
use Rattle.rht_words.specs.declared.op.Op.TheVariants.{Store}
use Rattle.rht_words.specs.declared.machine.Next.{Next}
use Rattle.rht_words.specs.declared.machine.Next.TheVariants.{Go, Done}
use Rattle.rht_words.specs.declared.geometry.Geometry.{Geometry}
use Rattle.rht_words.specs.Places.{Slot, StateWord, place_of}
use Rattle.rht_arena.specs.GiveRun.{GiveRunModel, give_run_new, give_run_plan, give_run_after, pages_of_give_run, IsGiveRunIn}
use Rattle.rht_nest.specs.Tables.{run_first, run_pages}
use Rattle.rht_nest.specs.declared.unmake.UnmakeAt.{UnmakeAt}
use Rattle.rht_nest.specs.declared.unmake.UnmakeAt.TheVariants as at

-- what contracts see of the machine
pub record UnmakeModel : Type 0 where
  pub geometry : Geometry
  pub slot : ℕ
  pub at : UnmakeAt

-- it begins with the run of the table of this shape
abbrev pub unmake_new : Geometry → ℕ → ℕ → UnmakeModel
unmake_new g slot shape =
    record { geometry = g; slot = slot; at = at.Giving (give_run_new g (run_first g shape) (run_pages g shape)) }

-- the state's one operation
abbrev pub unmake_plan_at : Geometry → ℕ → UnmakeAt → Op
unmake_plan_at g slot (at.Giving give) = give_run_plan give
unmake_plan_at g slot at.SlotBack = Store (place_of g (Slot slot StateWord)) 0

abbrev pub unmake_plan : UnmakeModel → Op
unmake_plan m = unmake_plan_at m.geometry m.slot m.at

-- once all pages are given back the slot is
abbrev pub run_given : GiveRunModel → Next (Unit {0}) → UnmakeAt
run_given give Go = at.Giving give
run_given give (Done answer) = at.SlotBack

-- what comes after a state, whatever it found
abbrev pub unmake_after_at : UnmakeAt → ℕ → UnmakeAt × Next (Unit {0})
unmake_after_at (at.Giving give) word = (run_given (give_run_after give word).0 (give_run_after give word).1, Go)
unmake_after_at at.SlotBack word = (at.SlotBack, Done tt)

abbrev pub unmake_after : UnmakeModel → ℕ → UnmakeModel × Next (Unit {0})
unmake_after m word = (record m { at = (unmake_after_at m.at word).0 }, (unmake_after_at m.at word).1)

-- the pages that it has still to give back. The slot is given back last
abbrev pub pages_of_unmake : UnmakeAt → List ℕ
pages_of_unmake (at.Giving give) = pages_of_give_run give
pages_of_unmake at.SlotBack = []

-- the pages that are given back are the table's
abbrev pub IsUnmakeAtIn : Geometry → UnmakeAt → Type 0
IsUnmakeAtIn g (at.Giving give) = IsGiveRunIn g give
IsUnmakeAtIn g at.SlotBack = Unit {0}

-- the machine works in this table of words, at one of its slots
pub record IsUnmakeIn (g : Geometry) (m : UnmakeModel) : Type 0 where
  pub geometry_same : m.geometry ≡ g
  pub slot_in : m.slot < 8
  pub at_in : IsUnmakeAtIn g m.at
