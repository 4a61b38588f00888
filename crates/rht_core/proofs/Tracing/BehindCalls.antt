-- Behind a call that has ended its caller is in no call: the call's last operation gave it a reply. So it is in no read section there.
use Rattle.std.proofs.Common.{◌≡◌, ℕ, suc, ◌+◌, Bool, true, false, List, Some, None, take, refl, sym, ap, ◌∙◌, subst, arith}
use Rattle.std.specs.Prelude.{Option}
use Rattle.std.specs.List.{AllByRecursion}
use Rattle.rht_words.specs.declared.env.Env.{Env}
use Rattle.rht_words.specs.declared.op.Op.{Op}
use Rattle.rht_words.specs.Operations.{old_of}
use Rattle.rht_words.proofs.EachElement.{AllByRecursion-last}
use Rattle.rht_callers.specs.declared.local.Local.{Local}
use Rattle.rht_callers.specs.Locals.{is_idle, plan_of, local_after}
use Rattle.rht_callers.proofs.CallBeginnings.{idle_plans}
use Rattle.rht_core.specs.declared.event.Event.{Event}
use Rattle.rht_core.specs.declared.event.Event.TheVariants.{Step}
use Rattle.rht_core.specs.Runs.{World, View, local_of, run_of, with_step, IsAdmitted, IsAdmittedEvent}
use Rattle.rht_core.specs.Traces.{Past, behind_steps, behind_call}
use Rattle.rht_core.specs.Laws.{IsRecorded, IsPastCall}
use Rattle.rht_core.specs.Seen.{words_before}
use Rattle.rht_core.specs.Sections.{IsInNoSection}
use Rattle.rht_core.proofs.Events.Worlds.{CanStep, planned-some, step_self, run_of-next}
use Rattle.rht_core.proofs.Events.SoundRuns.{has_place, runs-in}
use Rattle.rht_core.proofs.Events.BusyCallers.{ends}
use Rattle.rht_core.proofs.Events.SectionsInRuns.{in_no_section}
use Rattle.rht_core.proofs.Counting.FullTables.{taken}
use Rattle.rht_core.proofs.Tracing.TracesAtEvents.{behind_steps-push}

module _ (M : Type 0) (mix : ℕ → ℕ → ℕ → ℕ) (env : Env) (events : List Event) (c : ℕ) (past : Past)
    (past_call : IsPastCall M mix env events c past) where
  -- the run behind so many events
  abbrev behind : ℕ → World M
  behind n = run_of mix env (take n events)

  -- who plans an operation is in a call
  busy_planned : (local : Local M) (op : Op) → plan_of local ≡ Some op → is_idle local ≡ false
  busy_planned local op plan = go (is_idle local) refl
    where
      go : (idle : Bool) → is_idle local ≡ idle → idle ≡ false
      go false is = refl
      go true is = let none : ◌≡◌ {A = Option Op} None (Some op) = sym (idle_plans M local is) ∙ plan in absurd (cc)

  -- the last operation, which answered the call, is the event before its end
  ends_at : past_call.answered.last.index + 1 ≡ behind_call past
  ends_at =
      let answered = past_call.answered in
      sym (ap (behind_steps (past.begin + 1)) answered.steps_are
      ∙ behind_steps-push (past.begin + 1) answered.before answered.last)

  -- it was recorded there
  recorded_last : IsRecorded M mix env events c past_call.answered.last
  recorded_last =
      let answered = past_call.answered in
      AllByRecursion-last (IsRecorded M mix env events c) answered.before answered.last
      (subst (AllByRecursion (IsRecorded M mix env events c)) answered.steps_are past_call.steps)

  -- and its caller could perform it
  can_step : let w = behind past_call.answered.last.index in
      CanStep w.core.env w.core.enrolled w.core.locals c past_call.answered.last.op
  can_step =
      let w = behind past_call.answered.last.index in
      planned-some w.core.env w.core.enrolled w.core.locals c past_call.answered.last.op recorded_last.plan

  pub idle_behind : is_idle (local_of (behind (behind_call past)).core c) ≡ true
  idle_behind =
      let answered = past_call.answered in
      let last = answered.last in
      let w = behind last.index in
      let place = has_place M mix env w.core c (runs-in M mix env (take last.index events)) can_step.below in
      let found = old_of w.core.words last.op in
      let now = ap (λ (v : View M). v.local) (step_self M mix w c last.op recorded_last.plan place) in
      let reply : (local_after mix (local_of w.core c) found).1 ≡ Some past.done.reply =
      sym (ap (λ (o : Option Op). (with_step mix w.core c o).1.reply) recorded_last.plan) ∙ answered.reply in
      let local = local_of w.core c in
      let ended = ends M mix local found past.done.reply (busy_planned local last.op can_step.plan) reply in
      let next : suc last.index ≡ behind_call past = omega (arith, ends_at) in
      subst (λ n. is_idle (local_of (behind n).core c) ≡ true) next
      (ap (λ (v : World M). is_idle (local_of v.core c)) (run_of-next M mix env events last.index (Step c) recorded_last.event)
      ∙ ap is_idle now ∙ ended)

  pub section_left : IsAdmitted events
      → IsInNoSection env.geometry (words_before M mix env events (behind_call past)) c
  section_left admitted =
      let stays = runs-in M mix env (take past_call.answered.last.index events) in
      let few = stays.few_enrolled in
      let below = can_step.below in
      in_no_section env mix M (take (behind_call past) events)
      (taken IsAdmittedEvent (behind_call past) events admitted) c (omega (arith, below, few)) idle_behind
