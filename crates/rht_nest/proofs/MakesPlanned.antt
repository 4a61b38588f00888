-- On which words the making and the giving back of a table work: those of its slot, the next serial, and those of the map
-- of pages.
use Rattle.std.proofs.Common.{ℕ, Bool, true, false, ◌<◌, ◌≤◌, refl, sym, subst, arith}
use Rattle.rht_words.specs.declared.geometry.Geometry.{Geometry}
use Rattle.rht_words.specs.Places.{NextSerial, Slot, ShapeWord, SeedWord, FutureWord, SerialWord, StateWord}
use Rattle.rht_words.specs.Planned.{IsWord, IsPlannedIn}
use Rattle.rht_words.proofs.PlannedWords.{planned-at}
use Rattle.rht_arena.proofs.RunsPlanned.{planned_take_run, planned_give_run}
use Rattle.rht_nest.specs.Make.{MakeModel, make_plan, make_plan_at, made_shape, IsMakeAtIn, IsMakeIn}
use Rattle.rht_nest.specs.declared.make.MakeAt.{MakeAt}
use Rattle.rht_nest.specs.declared.make.MakeAt.TheVariants as at
use Rattle.rht_nest.specs.Unmake.{UnmakeModel, unmake_plan, unmake_plan_at, IsUnmakeAtIn, IsUnmakeIn}
use Rattle.rht_nest.specs.declared.unmake.UnmakeAt.{UnmakeAt}
use Rattle.rht_nest.specs.declared.unmake.UnmakeAt.TheVariants as gives

-- the shape that is made is a word's
made_shape-fits : (exponent : ℕ) (nested : Bool) (page : ℕ) → exponent ≤ 17 → page < 65536
    → IsWord (made_shape exponent nested page)
made_shape-fits exponent true page few within = omega (arith, few, within)
made_shape-fits exponent false page few within = omega (arith, few, within)

module _ (g : Geometry) where
  pub planned_make_at : (exponent seed : ℕ) (allowed : Bool) (at : MakeAt) → exponent ≤ 17
      → IsMakeAtIn g exponent allowed at → IsPlannedIn g (make_plan_at g exponent seed at)
  planned_make_at exponent seed allowed (at.Slot slot) few here =
      planned-at g _ (Slot slot StateWord) (here, tt) tt refl (omega arith)
  planned_make_at exponent seed allowed (at.Taking slot take) few here = planned_take_run g take here.take_in
  planned_make_at exponent seed allowed (at.TakingTop slot take) few here = planned_take_run g take here.taking.take_in
  planned_make_at exponent seed allowed (at.SlotBack slot) few here =
      planned-at g _ (Slot slot StateWord) (here, tt) tt refl (omega arith)
  planned_make_at exponent seed allowed (at.NextSerial slot nested page) few here =
      planned-at g _ NextSerial tt tt refl (omega arith)
  planned_make_at exponent seed allowed (at.Shape slot nested page serial) few here =
      let run = here.taken.run_in in
      let few_pages = g.within.pages_within in
      planned-at g _ (Slot slot ShapeWord) (here.taken.slot_in, tt) tt refl
      (made_shape-fits exponent nested page few (omega (arith, run.within, run.some, few_pages)))
  planned_make_at exponent seed allowed (at.Seed slot nested page serial) few here =
      planned-at g _ (Slot slot SeedWord) (here.taken.slot_in, tt) tt refl (omega arith)
  planned_make_at exponent seed allowed (at.Future slot nested page serial) few here =
      planned-at g _ (Slot slot FutureWord) (here.taken.slot_in, tt) tt refl (omega arith)
  planned_make_at exponent seed allowed (at.Serial slot nested page serial) few here =
      planned-at g _ (Slot slot SerialWord) (here.taken.slot_in, tt) tt refl here.serial_in

  -- what the making performs is on words of the table
  pub planned_make : (m : MakeModel) → IsMakeIn g m → IsPlannedIn g (make_plan m)
  planned_make m within =
      subst (λ (h : Geometry). IsPlannedIn g (make_plan_at h m.exponent m.seed m.at)) (sym within.geometry_same)
      (planned_make_at m.exponent m.seed m.nested m.at within.greatest within.at_in)

  planned_unmake_at : (slot : ℕ) (at : UnmakeAt) → slot < 8 → IsUnmakeAtIn g at
      → IsPlannedIn g (unmake_plan_at g slot at)
  planned_unmake_at slot (gives.Giving give) slot_in here = planned_give_run g give here
  planned_unmake_at slot gives.SlotBack slot_in here =
      planned-at g _ (Slot slot StateWord) (slot_in, tt) tt refl (omega arith)

  -- and so is what the giving back performs
  pub planned_unmake : (m : UnmakeModel) → IsUnmakeIn g m → IsPlannedIn g (unmake_plan m)
  planned_unmake m within =
      subst (λ (h : Geometry). IsPlannedIn g (unmake_plan_at h m.slot m.at)) (sym within.geometry_same)
      (planned_unmake_at m.slot m.at within.slot_in within.at_in)
