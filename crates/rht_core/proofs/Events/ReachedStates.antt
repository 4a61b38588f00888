-- What holds of words and callers that a run has reached: they are sound, who isn't enrolled is idle, and after one more
-- admitted event a run has reached them too.
use Rattle.std.proofs.Common.{◌≡◌, ℕ, ◌<◌, ◌≤◌, Bool, true, List, [], ◌∷◌, ◌++◌, length, refl, sym, ap, ◌∙◌, subst, arith, lt-ltb}
use Rattle.std.specs.Prelude.{Option, Some, None, nat_lt, cond, slice_index_or, slice_set}
use Rattle.std.proofs.lemmas.List.{get_or_read}
use Rattle.rht_words.specs.declared.op.Op.{Op}
use Rattle.rht_words.specs.declared.env.Env.{Env}
use Rattle.rht_words.proofs.EachElement.{AllByRecursion-append}
use Rattle.rht_core.specs.declared.event.Event.{Event}
use Rattle.rht_core.specs.declared.event.Event.TheVariants.{Enroll, Begin, Step}
use Rattle.rht_core.specs.declared.event.Stepped.{Stepped}
use Rattle.rht_callers.specs.declared.local.Local.{Local}
use Rattle.rht_callers.specs.Batches.{CanPut, out_of}
use Rattle.rht_callers.specs.Locals.{fresh, is_idle, plan_of, local_after}
use Rattle.rht_words.specs.Operations.{old_of, applied}
use Rattle.rht_model.specs.declared.history.Reply.{Reply}
use Rattle.rht_core.specs.Runs.{Core, World, View, core_of, has_done, planned, local_of, planned_in, with_step, core_step, run_of, IsSound, MayPut, IsAdmittedEvent, IsReached}
use Rattle.rht_core.proofs.Events.BatchesInRuns.{may_put}
use Rattle.rht_core.proofs.Events.Worlds.{run_of-push}
use Rattle.rht_core.proofs.Events.SoundRuns.{runs-in, IsSound-stays}
use Rattle.rht_core.proofs.Events.CallersNotEnrolled.{all-fresh}

module _ (M : Type 0) (mix : ℕ → ℕ → ℕ → ℕ) where
  pub IsSound-reached : (core : Core M) → IsReached mix core → IsSound core
  IsSound-reached core reached =
      subst (λ (k : Core M). IsSound k) reached.same
      (IsSound-stays M mix core.env (run_of mix core.env reached.events).core
      (runs-in M mix core.env reached.events))

  pub MayPut-reached : (core : Core M) → IsReached mix core → MayPut mix core
  MayPut-reached core reached =
      subst (λ (k : Core M). MayPut mix k) reached.same
      (λ c op plan. may_put core.env mix M reached.events reached.admitted c op plan)

  -- as is said of the caller in its place, of what it plans and of the word that it finds
  pub put_now : (env : Env) (words : List ℕ) (enrolled : ℕ) (locals : List (Local M)) (c old : ℕ) (local : Local M) (op : Op)
      → MayPut mix (core_of env words enrolled locals) → c < enrolled → c < length locals → local ≡ slice_index_or locals c local
      → plan_of local ≡ Some op → old ≡ old_of words op → CanPut local.batch (out_of mix local.doing old)
  put_now env words enrolled locals c old local op may low place read plan found =
      let core : Core M = core_of env words enrolled locals in
      let same : local ≡ local_of core c = get_or_read locals c local place read (fresh env) in
      let enrolled_is : nat_lt c enrolled ≡ true = lt-ltb c enrolled low in
      let plans : planned_in core c ≡ Some op =
      ap (λ (b : Bool). cond b (plan_of (local_of core c)) None) enrolled_is ∙ ap plan_of (sym same) ∙ plan in
      subst (λ (l : Local M). CanPut l.batch (out_of mix l.doing old)) (sym same)
      (subst (λ word. CanPut (local_of core c).batch (out_of mix (local_of core c).doing word)) (sym found) (may c op plans))

  -- so what it performs is its step
  pub stepped_now : (env : Env) (words : List ℕ) (enrolled : ℕ) (locals : List (Local M)) (c old : ℕ) (local : Local M) (op : Op)
      (after : List ℕ) (next : Local M) (reply : Option Reply)
      → c < enrolled → c < length locals → local ≡ slice_index_or locals c local
      → plan_of local ≡ Some op → old ≡ old_of words op → after ≡ applied words op → (next, reply) ≡ local_after mix local old
      → (core_of env after enrolled (slice_set locals c next), has_done op old reply)
      ≡ with_step mix (core_of env words enrolled locals) c (planned env enrolled locals c)
  stepped_now env words enrolled locals c old local op after next reply low place read plan found left becomes =
      let core : Core M = core_of env words enrolled locals in
      let same : local ≡ local_of core c = get_or_read locals c local place read (fresh env) in
      let plans : planned_in core c ≡ Some op =
      ap (λ (b : Bool). cond b (plan_of (local_of core c)) None) (lt-ltb c enrolled low) ∙ ap plan_of (sym same) ∙ plan in
      ap (λ ws. (core_of env ws enrolled (slice_set locals c next), has_done op old reply)) left
      ∙ ap (λ (p : Local M × Option Reply). (core_of env (applied words op) enrolled (slice_set locals c p.0), has_done op old p.1)) becomes
      ∙ ap (λ o. let p = local_after mix local o in (core_of env (applied words op) enrolled (slice_set locals c p.0), has_done op o p.1)) found
      ∙ ap (λ (l : Local M). let p = local_after mix l (old_of words op) in
      (core_of env (applied words op) enrolled (slice_set locals c p.0), has_done op (old_of words op) p.1)) same
      ∙ sym (ap (with_step mix core c) plans)

  -- a caller that there may be has a place
  pub place-reached : (core : Core M) (c : ℕ) → IsReached mix core → c < core.env.geometry.callers
      → c < length core.locals
  place-reached core c reached low = omega (arith, (IsSound-reached core reached).all_locals)

  -- what is read at its place is that caller, and one that isn't enrolled is idle
  pub read-reached : (core : Core M) (c : ℕ) (local : Local M) → IsReached mix core
      → c < core.env.geometry.callers
      → local ≡ slice_index_or core.locals c local
      → local ≡ local_of core c
  read-reached core c local reached low read =
      get_or_read core.locals c local (place-reached core c reached low) read (fresh core.env)

  pub idle-reached : (core : Core M) (c : ℕ) → IsReached mix core → core.enrolled ≤ c
      → is_idle (local_of core c) ≡ true
  idle-reached core c reached =
      subst (λ (k : Core M). k.enrolled ≤ c → is_idle (local_of k c) ≡ true) reached.same
      (λ past. ap (λ (s : View M). is_idle s.local) (all-fresh M mix core.env reached.events c past))

  -- no event changes the environment
  step-env : (core : Core M) (c : ℕ) (op : Option Op) → (with_step mix core c op).0.env ≡ core.env
  step-env core c None = refl
  step-env core c (Some op) = refl

  pub event-env : (core : Core M) (event : Event) → (core_step mix core event).0.env ≡ core.env
  event-env core Enroll = refl
  event-env core (Begin c call start) = refl
  event-env core (Step c) = step-env core c (planned_in core c)

  core_step-reached : (core : Core M) (event : Event) → IsAdmittedEvent event
      → IsReached mix core
      → IsReached mix (core_step mix core event).0
  core_step-reached core event more reached =
      let after = (core_step mix core event).0 in
      let events = reached.events ++ event ∷ [] in
      let env = sym (event-env core event) in
      let same : (run_of {M = M} mix core.env events).core ≡ after =
      ap (λ (w : World M). w.core) (run_of-push M mix core.env reached.events event)
      ∙ ap (λ (k : Core M). (core_step mix k event).0) reached.same in
      record {
        events = events;
        admitted = AllByRecursion-append IsAdmittedEvent reached.events (event ∷ []) reached.admitted (more, tt);
        same = subst (λ (e : Env). (run_of {M = M} mix e events).core ≡ after) env same;
      }

  -- what has become of it by one more event
  pub IsReached-more : (core after : Core M) (event : Event) (stepped : Stepped)
      → IsAdmittedEvent event → (after, stepped) ≡ core_step mix core event
      → IsReached mix core
      → IsReached mix after
  IsReached-more core after event stepped more is reached =
      subst (λ (k : Core M). IsReached mix k) (sym (ap (λ p. p.0) is))
      (core_step-reached core event more reached)
