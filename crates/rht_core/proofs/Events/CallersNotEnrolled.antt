-- In every run a caller that isn't enrolled is in no call and has made none.
-- There are never fewer enrolled callers than before, and an event of a caller that isn't one does nothing.
use Rattle.std.proofs.Common.{◌≡◌, ℕ, ◌+◌, ◌≤◌, List, refl, ap, ◌∙◌, arith}
use Rattle.std.specs.Prelude.{Option, Some, None, max, nat_lt}
use Rattle.std.proofs.lemmas.Bool.{cond_both}
use Rattle.rht_words.specs.declared.op.Op.{Op}
use Rattle.rht_words.specs.declared.env.Env.{Env}
use Rattle.rht_words.specs.Operations.{old_of}
use Rattle.rht_words.proofs.EachElement.{each_replicate}
use Rattle.rht_model.specs.declared.history.Call.{Call}
use Rattle.rht_core.specs.declared.event.Event.{Event}
use Rattle.rht_core.specs.declared.event.Event.TheVariants.{Enroll, Begin, Step}
use Rattle.rht_callers.specs.declared.local.Local.{Local}
use Rattle.rht_callers.specs.declared.local.Doing.{Doing}
use Rattle.rht_callers.specs.Locals.{fresh}
use Rattle.rht_core.specs.Runs.{World, View, view_of, new_book, beginning_in, planned_in, enrolling, enrolled_after, world_step, run_of, opening}
use Rattle.rht_core.specs.Laws.{NotEnrolled}
use Rattle.rht_core.proofs.Events.Worlds.{beginning-some, planned-some, begin_none, begin_other, step_none, step_other, run_keeps}
use Rattle.rht_core.proofs.Events.SoundRuns.{step-count}

-- an enrolling takes no caller away
enrolled_after-rises : (env : Env) (enrolled old : ℕ) → enrolled ≤ enrolled_after env enrolled old
enrolled_after-rises env enrolled old =
    cond_both (nat_lt old env.geometry.callers) (max enrolled (old + 1)) enrolled (λ n. enrolled ≤ n)
    (λ t. omega arith) (λ f. omega arith)

module _ (M : Type 0) (mix : ℕ → ℕ → ℕ → ℕ) (env : Env) where
  -- it is in no call and has made none
  abbrev IsFresh : World M → ℕ → Type 0
  IsFresh w c = view_of w c ≡ record { local = fresh env; book = new_book }

  abbrev OthersFresh : World M → Type 0
  OthersFresh w = (c : ℕ) → w.core.enrolled ≤ c → IsFresh w c

  begins-fresh : (w : World M) (c : ℕ) (call : Call) (start : ℕ) (machine : Option (Doing M))
      → beginning_in w.core c call start ≡ machine → OthersFresh w
      → (k : ℕ) → w.core.enrolled ≤ k → IsFresh (world_step mix w (Begin c call start)) k
  begins-fresh w c call start None is fresh k past =
      ap (λ (v : World M). view_of v k) (begin_none M mix w c call start is) ∙ fresh k past
  begins-fresh w c call start (Some machine) is fresh k past =
      let can = beginning-some w.core.env w.core.enrolled w.core.locals c call start machine is in
      begin_other M mix w c call start k (λ same. omega (arith, can.below)) ∙ fresh k past

  steps-fresh : (w : World M) (c : ℕ) (op : Option Op) → planned_in w.core c ≡ op
      → OthersFresh w
      → (k : ℕ) → w.core.enrolled ≤ k → IsFresh (world_step mix w (Step c)) k
  steps-fresh w c None is fresh k past = ap (λ (v : World M). view_of v k) (step_none M mix w c is)
      ∙ fresh k past
  steps-fresh w c (Some op) is fresh k past =
      let can = planned-some w.core.env w.core.enrolled w.core.locals c op is in
      step_other M mix w c k (λ same. omega (arith, can.below)) ∙ fresh k past

  pub event-fresh : (w : World M) (event : Event) → OthersFresh w → OthersFresh (world_step mix w event)
  event-fresh w Enroll fresh k past =
      let rises = enrolled_after-rises w.core.env w.core.enrolled
      (old_of w.core.words (enrolling w.core.env)) in
      fresh k (omega (arith, rises, past))
  event-fresh w (Begin c call start) fresh k past =
      begins-fresh w c call start (beginning_in w.core c call start) refl fresh k past
  event-fresh w (Step c) fresh k past =
      let count = step-count M mix w.core.env w.core c (planned_in w.core c) in
      steps-fresh w c (planned_in w.core c) refl fresh k (omega (arith, count, past))

  -- what a caller sees that does this and has made no call
  abbrev alone : Local M → View M
  alone local = record { local = local; book = new_book }

  pub all-fresh : (events : List Event) → OthersFresh (run_of mix env events)
  all-fresh events =
      let opens : OthersFresh (opening env) = λ c past.
      each_replicate (λ (local : Local M). alone local ≡ alone (fresh env))
      env.geometry.callers c (fresh env) refl in
      run_keeps M mix OthersFresh event-fresh (opening env) events opens

pub not_enrolled : (M : Type 0) (mix : ℕ → ℕ → ℕ → ℕ) → NotEnrolled M mix
not_enrolled M mix env events admitted = all-fresh M mix env events
