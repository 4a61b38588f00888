-- What each event keeps of callers and of the ghost: it is enough to look at a call that begins, and at an operation.
use Rattle.std.proofs.Common.{◌≡◌, ℕ, refl, sym, subst, inl, inr}
use Rattle.std.specs.Prelude.{Option, Some, None}
use Rattle.std.proofs.lemmas.Bool.{cases_eq}
use Rattle.rht_words.specs.declared.op.Op.{Op}
use Rattle.rht_words.specs.declared.env.Env.{Env}
use Rattle.rht_words.specs.Operations.{old_of}
use Rattle.rht_model.specs.declared.history.Call.{Call}
use Rattle.rht_callers.specs.declared.local.Doing.{Doing}
use Rattle.rht_core.specs.declared.event.Event.{Event}
use Rattle.rht_core.specs.declared.event.Event.TheVariants.{Enroll, Begin, Step}
use Rattle.rht_core.specs.Laws.{view_begun, view_stepped}
use Rattle.rht_core.specs.Runs.{World, View, local_of, planned_in, beginning_in, view_of, world_step}
use Rattle.rht_ghost.proofs.Theory.Ghosts.{Ghost}
use Rattle.rht_ghost.proofs.Theory.Steps.{ghost_after}
use Rattle.rht_core.proofs.Events.Worlds.{beginning-some, planned-some, begin_none, begin_self, begin_other, step_none, step_self, step_other}
use Rattle.rht_core.proofs.Events.SoundRuns.{StaysIn, has_place, made_in}
use Rattle.rht_core.proofs.Events.RangesInRuns.{AllIn}
use Rattle.rht_core.proofs.Events.JobsOfCallers.{IsFirst, first_job-machine}
use Rattle.rht_core.proofs.Events.Invariants.{Inv, StepOf, kept}

module _ (L : Type 0) (mix : ℕ → ℕ → ℕ → ℕ) (env : Env) (w : World L) where
  module _ (So : View L → Type 0) (stays : StaysIn L mix env w.core) (was : (c : ℕ) → So (view_of w c))
      (begins : (c : ℕ) (call : Call) (machine : Doing L) → IsFirst env call machine
      → So (view_begun call machine (view_of w c)))
      (steps : (c : ℕ) (op : Op) → planned_in w.core c ≡ Some op
      → So (view_stepped mix (old_of w.core.words op) (view_of w c)))
    where
      begun : (c : ℕ) (call : Call) (start : ℕ) (machine : Option (Doing L)) → beginning_in w.core c call start ≡ machine
          → So (view_of (world_step mix w (Begin c call start)) c)
      begun c call start None is = subst (λ (v : World L). So (view_of v c)) (sym (begin_none L mix w c call start is)) (was c)
      begun c call start (Some machine) is =
          let can = beginning-some w.core.env w.core.enrolled w.core.locals c call start machine is in
          subst So (sym (begin_self L mix w c call start machine is (has_place L mix env w.core c stays can.below)))
          (begins c call machine (first_job-machine env c (local_of w.core c).batch start call machine (made_in L mix env w.core c call start machine stays can)))

      stepped : (c : ℕ) (plan : Option Op) → planned_in w.core c ≡ plan → So (view_of (world_step mix w (Step c)) c)
      stepped c None is = subst (λ (v : World L). So (view_of v c)) (sym (step_none L mix w c is)) (was c)
      stepped c (Some op) is =
          let can = planned-some w.core.env w.core.enrolled w.core.locals c op is in
          subst So (sym (step_self L mix w c op is (has_place L mix env w.core c stays can.below))) (steps c op is)

      pub views_kept : (event : Event) (k : ℕ) → So (view_of (world_step mix w event) k)
      views_kept Enroll k = was k
      views_kept (Begin c call start) k = elim (cases_eq k c) [
        | inl e ↦ subst (λ d. So (view_of (world_step mix w (Begin c call start)) d)) (sym e) (begun c call start (beginning_in w.core c call start) refl)
        | inr ne ↦ subst So (sym (begin_other L mix w c call start k ne)) (was k)
      ]
      views_kept (Step c) k = elim (cases_eq k c) [
        | inl e ↦ subst (λ d. So (view_of (world_step mix w (Step c)) d)) (sym e) (stepped c (planned_in w.core c) refl)
        | inr ne ↦ subst So (sym (step_other L mix w c k ne)) (was k)
      ]

  module _ (So : Ghost → Type 0) (G : Ghost) (all : AllIn L mix env w.core) (inv : Inv env mix L w.core G) (was : So G)
      (moves : (c : ℕ) (op : Op) (of : StepOf env mix L w.core G c op) → So (ghost_after env mix c of.step.move G))
    where
      pub ghosts_kept : (event : Event) → So (kept env mix L w.core G event all inv).ghost
      ghosts_kept Enroll = subst So (sym (kept env mix L w.core G Enroll all inv).ghost_kept) was
      ghosts_kept (Begin c call start) = subst So (sym (kept env mix L w.core G (Begin c call start) all inv).ghost_kept) was
      ghosts_kept (Step c) = go (planned_in w.core c) refl
        where
          go : (plan : Option Op) → planned_in w.core c ≡ plan → So (kept env mix L w.core G (Step c) all inv).ghost
          go None is = subst So (sym ((kept env mix L w.core G (Step c) all inv).ghost_kept.none is)) was
          go (Some op) is =
              let then = (kept env mix L w.core G (Step c) all inv).ghost_kept.some op is in
              subst So (sym then.1) (moves c op then.0)
