-- Only a resizing that gives retired tables back withdraws pages from one, or takes one back. Whoever does so has the work lock. Behind a
-- withdrawing it has a page and no slot. And what it does else with no slot, while it may be refused, is on no word of the map of pages.
use Rattle.std.proofs.Common.{◌≡◌, ℕ, ◌<◌, Bool, true, false, [], Option, Some, None, refl, sym, ap, ◌∙◌, subst, inr, arith}
use Rattle.std.specs.Prelude.{if◌then◌else◌}
use Rattle.rht_words.specs.declared.env.Env.{Env}
use Rattle.rht_words.specs.declared.geometry.Geometry.{Geometry}
use Rattle.rht_words.specs.declared.machine.Next.{Next}
use Rattle.rht_words.specs.declared.machine.Next.TheVariants.{Go, Done}
use Rattle.rht_words.specs.declared.op.Op.{Op}
use Rattle.rht_words.specs.Members.{In}
use Rattle.rht_words.specs.Operations.{op_place}
use Rattle.rht_words.specs.Places.{PageMap, place_of}
use Rattle.rht_words.proofs.PlacesApart.{parts_in_order}
use Rattle.rht_model.specs.declared.history.Call.TheVariants.{Work}
use Rattle.rht_model.specs.Endings.{Ending}
use Rattle.rht_arena.specs.GiveRun.{pages_of_give_run}
use Rattle.rht_nest.specs.Make.{make_plan_at, slot_of_make, pages_of_make, IsMakeAtIn}
use Rattle.rht_nest.specs.declared.make.MakeAt.{MakeAt}
use Rattle.rht_nest.specs.declared.make.MakeAt.TheVariants as makes
use Rattle.rht_reclaim.specs.ReturnHeld.{is_first_word, slot_of_give_table, pages_of_give_table, slot_of_returning, pages_of_returning}
use Rattle.rht_reclaim.specs.declared.give_table.GiveTableAt.{GiveTableAt}
use Rattle.rht_reclaim.specs.declared.give_table.GiveTableAt.TheVariants as gives
use Rattle.rht_reclaim.specs.declared.return_tables.ReturnTablesAt.{ReturnTablesAt}
use Rattle.rht_reclaim.specs.declared.return_tables.ReturnTablesAt.TheVariants as returning
use Rattle.rht_move.specs.LastTable.{last_table_plan_at, IsLastTableAtIn}
use Rattle.rht_move.specs.declared.last_table.LastTableAt.{LastTableAt}
use Rattle.rht_move.specs.declared.last_table.LastTableAt.TheVariants as seeks
use Rattle.rht_move.specs.Work.{plan_at, IsWorkAtIn}
use Rattle.rht_move.specs.WorkHeld.{held_of_work}
use Rattle.rht_move.specs.declared.work.WorkAt.{WorkAt}
use Rattle.rht_move.specs.declared.work.WorkAt.TheVariants as at
use Rattle.rht_core.specs.Jobs.{Job, works, call_of, job_plan, job_after, told, held_of, held_next}
use Rattle.rht_ghost.proofs.Theory.Steps.{Holding, Does, Withdraws, TakesBack}
use Rattle.rht_core.proofs.Events.JobsOfCallers.{same_call}
use Rattle.rht_core.proofs.Machines.JobSteps.{JobIn}
use Rattle.rht_core.proofs.Machines.NeverHeld.{worker_works}
use Rattle.rht_core.proofs.Undoing.PastRefusal.{is_past}
use Rattle.rht_core.proofs.Undoing.RefusableJobs.{IsEarlyWork, at_lock, at_returning, at_opening, at_current, at_last, at_count, at_making, at_future, at_end, at_idle, closing_end, closing_idle, early_work}
use Rattle.rht_core.proofs.Undoing.WorkStages.{Stage, Gives, work_stage, give_stage, return_stage, stage_of, stage_now, GoesTo, takes_lock, refused, opened, stays, asks_on, to_shape, asked_all, loaded, gives_on, freed, freed_last, stage_goes, is_returning, return_in}

-- ---- a page and no slot

-- whoever has that gives a table back
pub record GivesSome (stage : Stage) : Type 0 where
  pub slot : ℕ
  pub state : GiveTableAt
  pub is : stage ≡ Gives slot state

give_page_only : (page slot : ℕ) (state : GiveTableAt) → In page (pages_of_give_table state) → slot_of_give_table slot state ≡ None
    → GivesSome (give_stage slot state)
give_page_only page slot (gives.Run give) i none = absurd (run_none (is_first_word give) i none)
  where
    run_none : (first : Bool) → In page (if first then [] else pages_of_give_run give)
        → ◌≡◌ {A = Option ℕ} (if first then None else Some slot) None → ⊥
    run_none true i none = i
    run_none false i none = cc
give_page_only page slot (gives.GiveLeaf shape top p leaf below) i none = record { slot = slot; state = gives.GiveLeaf shape top p leaf below; is = refl }
give_page_only page slot (gives.GivePage shape top p) i none = record { slot = slot; state = gives.GivePage shape top p; is = refl }
give_page_only page slot _ i none = absurd i

return_page_only : (page : ℕ) (state : ReturnTablesAt) → In page (pages_of_returning state) → slot_of_returning state ≡ None
    → GivesSome (return_stage state)
return_page_only page (returning.Giving give) i none = give_page_only page give.slot give.at i none
return_page_only page _ i none = absurd i

make_page_only : (page exponent : ℕ) (state : MakeAt) → In page (pages_of_make exponent state) → slot_of_make state ≡ None → ⊥
make_page_only page exponent (makes.Slot slot) i none = i
make_page_only page exponent _ i none = cc

work_page_only : (page : ℕ) (state : WorkAt) → In page (held_of_work state).pages → (held_of_work state).slot ≡ None
    → GivesSome (work_stage state)
work_page_only page (at.Returning returns) i none = return_page_only page returns.at i none
work_page_only page (at.Making wanted make) i none = absurd (make_page_only page make.exponent make.at i none)
work_page_only page (at.Attaching root last slot shape) i none = absurd (cc)
work_page_only page (at.Unmaking root unmake) i none = absurd (cc)
work_page_only page _ i none = absurd i

next_page_only : (page : ℕ) (r : Job × Next Ending) → call_of r.0 ≡ Work → In page (held_next r).pages → (held_next r).slot ≡ None
    → GivesSome (stage_now (told r).0)
next_page_only page (works state, Go) same i none = work_page_only page state i none
next_page_only page (job, Go) same i none = absurd (cc)
next_page_only page (job, Done ending) same i none = absurd i

-- behind another operation it isn't so
comes_only : (g : Geometry) (old : ℕ) (from to : Stage) → GoesTo g old from to → GivesSome to → is_returning from ≡ true
comes_only g old _ _ (takes_lock free) some = let is = some.is in cc
comes_only g old _ _ refused some = let is = some.is in cc
comes_only g old _ _ opened some = let is = some.is in cc
comes_only g old _ _ stays some = let is = some.is in cc
comes_only g old _ _ asks_on some = refl
comes_only g old _ _ (to_shape slot) some = refl
comes_only g old _ _ asked_all some = refl
comes_only g old _ _ (loaded slot) some = refl
comes_only g old _ _ (gives_on slot state other) some = refl
comes_only g old _ _ (freed slot) some = refl
comes_only g old _ _ (freed_last slot) some = refl

module _ (env : Env) (mix : ℕ → ℕ → ℕ → ℕ) (c : ℕ) (job : Job) (op : Op) (old : ℕ) (within : JobIn env mix c job) where
  -- so a page is withdrawn while tables are given back
  pub withdraws_returning : (j p : ℕ) → Does env mix (Withdraws j p) op old (held_of job) (held_next (job_after mix env job old))
      → is_returning (stage_of job) ≡ true
  withdraws_returning j p does =
      let next = job_after mix env job old in
      let none : (held_next next).slot ≡ None = ap (λ (x : Holding). x.slot) does.holds ∙ does.none in
      comes_only env.geometry old (stage_of job) (stage_now (told next).0) (stage_goes mix env c job old within)
      (next_page_only p next (same_call mix env job old ∙ worker_works job does.works) ((does.pages p).1 (inr refl)) none)

-- ---- the words on which operations are made

module _ (env : Env) (mix : ℕ → ℕ → ℕ → ℕ) (c : ℕ) (few : c < 16) where
  make_low : (h : Geometry) (exponent seed : ℕ) (allowed : Bool) (state : MakeAt) → IsMakeAtIn h exponent allowed state
      → slot_of_make state ≡ None → op_place (make_plan_at h exponent seed state) < 280
  make_low h exponent seed allowed (makes.Slot slot) within none = omega (arith, within)
  make_low h exponent seed allowed _ within none = absurd (cc)

  last_low : (h : Geometry) (state : LastTableAt) → IsLastTableAtIn state → op_place (last_table_plan_at h state) < 280
  last_low h (seeks.Future table) within = omega (arith, within)
  last_low h (seeks.Shape table) within = omega (arith, within)

  work_low : (state : WorkAt) → IsEarlyWork state → IsWorkAtIn env state → is_returning (work_stage state) ≡ false
      → (held_of_work state).slot ≡ None → op_place (plan_at env c state) < 280
  work_low _ at_lock within out none = omega arith
  work_low _ (at_returning returns) within out none = absurd (let both = sym (return_in returns.at) ∙ out in cc)
  work_low _ at_opening within out none = omega (arith, few)
  work_low _ at_current within out none = omega arith
  work_low _ (at_last root seek) within out none = last_low seek.geometry seek.at within.seek_in.at_in
  work_low _ (at_count root last) within out none = omega arith
  work_low _ (at_making wanted make) within out none =
      make_low make.geometry make.exponent make.seed make.nested make.at
      (subst (λ h. IsMakeAtIn h make.exponent make.nested make.at) (sym within.make_in.geometry_same) within.make_in.at_in) none
  work_low _ (at_future root) within out none = omega (arith, within)
  work_low _ (at_end size) within out none = omega arith
  work_low _ at_idle within out none = omega arith
  work_low _ (closing_end size) within out none = omega (arith, few)
  work_low _ closing_idle within out none = omega (arith, few)

  -- whoever does the work works
  job_low : (job : Job) → is_past job ≡ false → JobIn env mix c job → is_returning (stage_of job) ≡ false → call_of job ≡ Work
      → (held_of job).slot ≡ None → op_place (job_plan env c job) < 280
  job_low (works state) may within out asked none = work_low state (early_work state may) within out none
  job_low _ may within out asked none = absurd (cc)

  -- so while a call may be refused a table is taken back only while tables are given back
  pub takes_back_none : (job : Job) (op : Op) (old : ℕ) (h' : Holding) → is_past job ≡ false → JobIn env mix c job
      → is_returning (stage_of job) ≡ false → op ≡ job_plan env c job → (slot index bits : ℕ)
      → Does env mix (TakesBack slot index bits) op old (held_of job) h' → ⊥
  takes_back_none job op old h' may within out is slot index bits does =
      let low = job_low job may within out (worker_works job does.works) does.none in
      let on : op_place (job_plan env c job) ≡ place_of env.geometry (PageMap index) = sym (ap op_place is) ∙ does.sets.on in
      let order = parts_in_order env.geometry in
      absurd (omega (arith, low, on, order.page_map))
