-- In every run there is a history that fits it, by induction over the events. What an operation of a caller says of bindings and of
-- its call's answer is what the history needs: an operation that changes bindings has its entry put behind all others.
use Rattle.rht_core.proofs.Machines.HeldSteps.{soft-old}
use Rattle.rht_core.specs.Jobs.{job_plan}
use Rattle.std.proofs.Common.{◌≡◌, ◌≢◌, ℕ, ◌+◌, ◌<◌, List, [], ◌∷◌, ◌++◌, length, Option, Some, None, Bool, true, false, cond, refl, sym, ap, ◌∙◌, subst, inl, inr, arith}
use Rattle.std.specs.List.{AllByRecursion, Any}
use Rattle.std.proofs.lemmas.Bool.{cases_eq}
use Rattle.std.proofs.lemmas.List.{length_push, append-nil}
use Rattle.rht_words.specs.declared.op.Op.{Op}
use Rattle.rht_words.specs.declared.env.Env.{Env}
use Rattle.rht_words.specs.declared.config.Kind.{Kind}
use Rattle.rht_words.specs.declared.machine.Next.{Next}
use Rattle.rht_words.specs.declared.machine.Next.TheVariants.{Go, Done}
use Rattle.rht_words.specs.Operations.{old_of, applied}
use Rattle.rht_words.specs.Opening.{opening_words}
use Rattle.rht_words.proofs.EachElement.{AllByRecursion-cut, AllByRecursion-push, AllByRecursion-weaker, each_replicate}
use Rattle.rht_model.specs.declared.history.Call.{Call}
use Rattle.rht_model.specs.Endings.{Ending}
use Rattle.rht_model.specs.Multimap.{Multimap, Agree, unbound}
use Rattle.rht_core.specs.declared.event.Event.{Event}
use Rattle.rht_core.specs.declared.event.Event.TheVariants.{Enroll, Begin, Step}
use Rattle.rht_core.specs.declared.book.Book.{Book}
use Rattle.rht_callers.specs.declared.local.Local.{Local}
use Rattle.rht_callers.specs.declared.local.Doing.{Doing}
use Rattle.rht_callers.specs.Locals.{fresh, local_after, ending_of}
use Rattle.rht_core.specs.Jobs.{Job, call_of, job_of, job_after, told, held_of, held_next}
use Rattle.rht_core.specs.Runs.{World, View, IsAdmitted, IsAdmittedEvent, local_of, planned_in, beginning_in}
use Rattle.rht_core.specs.Traces.{Did, Past, Trace, Traced, trace_begun, trace_did, traces_after, traced_step, traced_of}
use Rattle.rht_stands.specs.StandsFor.{stands_for}
use Rattle.rht_core.specs.Numbered.{Numbered, entries_of}
use Rattle.rht_core.specs.Alone.{bindings_at}
use Rattle.rht_core.specs.RunHistories.{ChangesBindings, AreInProgress, AreOfCalls, about_bindings, HasFittingHistory}
use Rattle.rht_core.proofs.Events.Worlds.{induct_by_last, beginning-some, planned-some, begin_none, begin_self, begin_other, step_none, step_self, step_other, step_words}
use Rattle.rht_core.proofs.Events.JobsOfCallers.{is_no_job, same_call, nothing-job, first_unknown, first_not_early, first_job-machine, local_after-job}
use Rattle.rht_core.proofs.Events.SoundRuns.{has_place, made_in}
use Rattle.rht_core.proofs.Tracing.TracedRuns.{count-traced_of, traced_of-push, trace_begin_none, trace_begin_self, trace_begin_other, trace_step_none, trace_step_self, trace_step_other}
use Rattle.rht_core.proofs.Tracing.TracedCallers.{inv_now, stays_in}
use Rattle.rht_core.proofs.Tracing.TracedJobs.{busy-none, IsAtJob}
use Rattle.rht_core.proofs.Tracing.RepliesInRuns.{Holds, Answered, runs-right}
use Rattle.rht_ghost.proofs.Theory.Answering.{ClaimsAnswer, KnowsEarly, Says}
use Rattle.rht_ghost.proofs.Theory.Steps.{mem, owners, ghost_after}
use Rattle.rht_core.proofs.Machines.JobSteps.{IsThereNext}
use Rattle.rht_core.proofs.Events.Invariants.{StepOf, step_of}
use Rattle.rht_core.proofs.Events.PagesThere.{stepped-there}
use Rattle.rht_core.proofs.Events.InvariantRuns.{HasInv, opening_ghost, opening_whole}
use Rattle.rht_core.proofs.Finding.LookupsInRuns.{claim_is}
use Rattle.rht_core.proofs.Meaning.BoundPorts.{stands_for_bound}
use Rattle.rht_core.proofs.Histories.NumberedEntries.{AllBelow}
use Rattle.rht_core.proofs.Histories.Behind.{Any-none}
use Rattle.rht_core.proofs.Histories.GoodHistories.{good-quiet}
use Rattle.rht_core.proofs.Histories.CallerEntries.{IsSaid, IsEarly, IsTail, early-next, IsNext, next_history}
use Rattle.rht_core.proofs.Histories.CallEnds.{AreEnded, end_history}
use Rattle.rht_core.proofs.Histories.FittingCallers.{IsThereAt, IsWorking, IsAt, IsOfCaller, AreOfCallers, IsFitting, there-next, there-same, of-more, quiet-fits, end-is, end-next, enroll-agree, enroll-stays, same-agree}

-- all entries of a caller are below what all entries are below
below-own : (bound c : ℕ) (history : List Numbered) → AllBelow bound history
    → AllBelow bound (entries_of c history)
below-own bound c [] below = tt
below-own bound c (x ∷ xs) below = go _ (below-own bound c xs below.1)
  where
    go : (t : Bool) → AllBelow bound (entries_of c xs)
        → AllBelow bound (cond t (x ∷ entries_of c xs) (entries_of c xs))
    go true rest = (below.0, rest)
    go false rest = rest

-- entries of calls that have ended, and then of the call in progress
of_calls : (Change : Type 0) (call : Option Call) (begin count : ℕ) (calls : List Past)
    (es xs : List Numbered) → AreEnded calls es
    → AreInProgress Change call begin count xs → AreOfCalls Change call begin count calls (es ++ xs)
of_calls Change call begin count [] [] xs ended progress = progress
of_calls Change call begin count [] (e ∷ es) xs ended progress = absurd ended
of_calls Change call begin count (past ∷ calls) [] xs ended progress = absurd ended
of_calls Change call begin count (past ∷ calls) (e ∷ es) xs ended progress =
    (ended.0, of_calls Change call begin count calls es xs ended.1 progress)

module _ (M : Type 0) (mix : ℕ → ℕ → ℕ → ℕ) (env : Env) where
  abbrev kind : Kind
  kind = env.config.kind

  abbrev R : List Event → Traced M
  R events = traced_of mix env events

  abbrev at_end : List Event → Multimap
  at_end events = bindings_at M mix env events

  -- ---- a call begins

  begin-fits : (events : List Event) (c : ℕ) (call : Call) (start : ℕ) (machine : Option (Doing M))
      → IsAdmitted events
      → beginning_in (R events).world.core c call start ≡ machine → IsFitting M mix env events (R events)
      → IsFitting M mix env (events ++ Begin c call start ∷ []) (traced_step mix (R events) (Begin c call start))
  begin-fits events c call start None admitted is fitting =
      let r = R events in
      let same = begin_none M mix r.world c call start is in
      quiet-fits M mix env events (Begin c call start) (same-agree M mix env events (Begin c call start) refl)
      (λ d. ap (λ (w : World M). job_of (local_of w.core d).doing) same)
      (λ d. ap (λ (t : ℕ → Trace). t d) (trace_begin_none M mix r c call start is))
      (λ d. there-same M mix env events (Begin c call start) refl _) fitting
  begin-fits events c call start (Some machine) admitted is fitting =
      let r = R events in
      let more = events ++ Begin c call start ∷ [] in
      let can = beginning-some r.world.core.env r.world.core.enrolled r.world.core.locals c call start machine is in
      let stays = stays_in M mix env events in
      let place = has_place M mix env r.world.core c stays can.below in
      let first = first_job-machine env c (local_of r.world.core c).batch start call machine
      (made_in M mix env r.world.core c call start machine stays can) in
      let here = begin_self M mix r.world c call start machine is place in
      let was = fitting.callers c in
      let none : entries_of c fitting.history ≡ was.es = idle_at events c _ (r.traces c) was.es _
      (sym (nothing-job (local_of r.world.core c).doing) ∙ can.idle) was.now in
      let longer = length_push events (Begin c call start) in
      record {
        history = fitting.history;
        good = good-quiet M mix env events (Begin c call start) fitting.history fitting.good
            (same-agree M mix env events (Begin c call start) refl);
        callers = λ d. elim (cases_eq d c) [
          | inl same ↦
              subst (λ k. IsOfCaller M mix env more k (job_of (local_of
              (traced_step mix r (Begin c call start)).world.core k).doing)
              (traces_after mix r (Begin c call start) k) (entries_of k fitting.history)) (sym same)
              (subst (λ (s : View M). IsOfCaller M mix env more c (job_of s.local.doing)
              (traces_after mix r (Begin c call start) c) (entries_of c fitting.history)) (sym here)
              (subst (λ (t : Trace). IsOfCaller M mix env more c (job_of machine) t (entries_of c fitting.history))
              (sym (trace_begin_self M mix r c call start machine is))
              (subst (λ (j : Option Job). IsOfCaller M mix env more c j (trace_begun r.count (r.traces c))
              (entries_of c fitting.history)) (sym first.does)
              (record {
                es = was.es;
                ended = was.ended;
                now = record {
                  begun = (let n = count-traced_of M mix env events in omega (arith, longer, n));
                  made = tt;
                  below = subst (λ n. AllBelow n was.es) (sym (count-traced_of M mix env events))
                      (subst (AllBelow (length events)) none
                      (below-own (length events) c fitting.history fitting.good.below));
                  tail = inl (record {
                    none = none;
                    same = Any-none (ChangesBindings M mix env more);
                    still = rw (first_unknown env call first.job first.first) tt;
                  });
                  early = λ answer known. absurd
                      (let none = sym (first_not_early env call first.job first.first) ∙ known in cc);
                };
              }))))
          | inr other ↦
              of-more M mix env events (Begin c call start) d _ _ _ _ _ _
              (ap (λ (s : View M). job_of s.local.doing) (begin_other M mix r.world c call start d other))
              (trace_begin_other M mix r c call start d other) refl (there-same M mix env events (Begin c call start) refl _)
              (fitting.callers d)
        ];
      }
    where
      idle_at : (past : List Event) (k : ℕ) (job : Option Job) (trace : Trace) (es own : List Numbered)
          → is_no_job job ≡ true
          → IsAt M mix env past k job trace es own → own ≡ es
      idle_at past k None trace es own none at = at
      idle_at past k (Some job) trace es own none at = absurd (cc)

  -- ---- an operation

  module _ (events : List Event) (c : ℕ) (op : Op) (admitted : IsAdmitted events)
      (is : planned_in (R events).world.core c ≡ Some op) (fitting : IsFitting M mix env events (R events)) where
    abbrev r : Traced M
    r = R events

    abbrev event : Event
    event = Step c

    abbrev after_it : List Event
    after_it = events ++ event ∷ []

    abbrev words : List ℕ
    words = r.world.core.words

    abbrev has : HasInv env mix M r.world.core
    has = inv_now M mix env events admitted

    abbrev of : StepOf env mix M r.world.core has.ghost c op
    of = step_of env mix M r.world.core has.ghost c op has.all has.inv is

    abbrev job : Job
    job = of.job

    abbrev old : ℕ
    old = old_of words op

    abbrev next_job : Job × Next Ending
    next_job = job_after mix env job old

    abbrev did : Did
    did = record { index = r.count; op = op; old = old }

    abbrev trace : Trace
    trace = r.traces c

    abbrev history : List Numbered
    history = fitting.history

    longer : length after_it ≡ length events + 1
    longer = length_push events event

    place : c < length r.world.core.locals
    place = has_place M mix env r.world.core c has.all.stays
        (planned-some r.world.core.env r.world.core.enrolled r.world.core.locals c op is).below

    -- what its caller was in the middle of
    working : (own : IsOfCaller M mix env events c (job_of (local_of r.world.core c).doing) trace
        (entries_of c history))
        → IsAt M mix env events c (Some job) trace own.es (entries_of c history)
    working own = subst (λ (j : Option Job). IsAt M mix env events c j trace own.es (entries_of c history)) of.is
        own.now

    -- the bindings before it, and those after it, as the ghost has them
    before-is : owners env mix (mem env mix words) has.ghost ≡ at_end events
    before-is = (λ i p. sym (stands_for_bound env mix words has.ghost has.inv.whole p) i) ∙ sym (end-is M mix env events)

    after-is : owners env mix (mem env mix (applied words op)) (ghost_after env mix c of.step.move has.ghost)
        ≡ at_end after_it
    after-is =
        let G' = ghost_after env mix c of.step.move has.ghost in
        (λ i p. sym (stands_for_bound env mix (applied words op) G' of.step.made.whole p) i)
        ∙ ap (stands_for env.geometry) (sym (step_words M mix r.world c op is))
        ∙ sym (end-next M mix env events event)

    -- what it says of the bindings and of the answer
    says : Says kind c (call_of job) (held_of job).early (IsThereAt M mix env events job) (at_end events) (at_end after_it)
        (held_of job).answer (held_next next_job).answer
    says =
        subst (λ (b : Multimap). Says kind c (call_of job) (held_of job).early (IsThereAt M mix env events job) b
        (at_end after_it) (held_of job).answer (held_next next_job).answer) before-is
        (subst (λ (b : Multimap). Says kind c (call_of job) (held_of job).early (IsThereAt M mix env events job)
        (owners env mix (mem env mix words) has.ghost) b (held_of job).answer
        (held_next next_job).answer) after-is of.step.says)

    -- what is known early after it
    knows : KnowsEarly kind c (call_of job) (IsThereAt M mix env events job)
        (IsThereNext next_job (mem env mix (applied words op)))
        (at_end after_it) (held_of job).early (held_next next_job).early
    knows = subst (λ (b : Multimap). KnowsEarly kind c (call_of job) (IsThereAt M mix env events job)
        (IsThereNext next_job (mem env mix (applied words op))) b (held_of job).early
        (held_next next_job).early) after-is of.step.early

    -- the call of its book, and what is left of the job and of the call
    asked : (r.world.books c).call ≡ Some (call_of job)
    asked =
        let kept = runs-right M mix env events c admitted in
        (subst (λ (j : Option Job). IsAtJob M mix env (Holds M mix env) (Answered M mix env) j
        (r.world.books c) trace.steps) of.is kept.now).call

    left : let after = local_after mix (local_of r.world.core c) old in
        ◌≡◌ {A = Option Job × Option Ending} (job_of after.0.doing, ending_of after.0 after.1) (told next_job)
    left =
        let local = local_of r.world.core c in
        let kept = runs-right M mix env events c admitted in
        let none = busy-none local (r.world.books c) (nothing-job local.doing
        ∙ ap is_no_job of.is) kept.lists in
        local_after-job mix env local job old none (has.all.stays.locals_of c) of.is

    job-now : job_of (local_of (traced_step mix r event).world.core c).doing ≡ (told next_job).0
    job-now = ap (λ (s : View M). job_of s.local.doing) (step_self M mix r.world c op is place)
        ∙ ap (λ l. l.0) left

    trace-now : traces_after mix r event c ≡ trace_did (Some (call_of job)) did (told next_job).1 trace
    trace-now =
        trace_step_self M mix r c op is
        ∙ ap (λ (o : Option Call). trace_did o did
        (ending_of (local_after mix (local_of r.world.core c) old).0
        (local_after mix (local_of r.world.core c) old).1) trace) asked
        ∙ ap (λ l. trace_did (Some (call_of job)) did l.1 trace) left

    made_now : AllByRecursion (λ (d : Did). d.index < length events) trace.steps
        → AllByRecursion (λ (d : Did). d.index < length after_it) (trace.steps ++ did ∷ [])
    made_now made =
        AllByRecursion-push (λ (d : Did). d.index < length after_it) trace.steps did
        (AllByRecursion-weaker (λ (d : Did). d.index < length events)
        (λ (d : Did). d.index < length after_it) (λ d l. omega (arith, longer, l)) trace.steps made)
        (let n = count-traced_of M mix env events in omega (arith, longer, n))

    -- the others are where they were
    others-now : (next : List Numbered) → ((d : ℕ) → d ≢ c → entries_of d next ≡ entries_of d history)
        → (d : ℕ) → d ≢ c
        → IsOfCaller M mix env after_it d (job_of (local_of (traced_step mix r event).world.core d).doing)
        (traces_after mix r event d) (entries_of d next)
    others-now next same d other =
        of-more M mix env events event d _ _ _ _ _ _
        (ap (λ (s : View M). job_of s.local.doing) (step_other M mix r.world c d other))
        (trace_step_other M mix r c d other) (same d other)
        (λ job is_at there. there-next M mix env events event (applied words op) (step_words M mix r.world c op is) job
        (stepped-there env mix M r.world.core has.ghost has.inv d job is_at c op of other there))
        (fitting.callers d)

    -- all callers, where this one is so
    all-now : (next : List Numbered) → ((d : ℕ) → d ≢ c → entries_of d next ≡ entries_of d history)
        → IsOfCaller M mix env after_it c (told next_job).0 (trace_did (Some (call_of job)) did (told next_job).1
        trace) (entries_of c next)
        → AreOfCallers M mix env after_it (traced_step mix r event) next
    all-now next same own d = elim (cases_eq d c) [
      | inl here ↦
          subst (λ k. IsOfCaller M mix env after_it k (job_of (local_of (traced_step mix r event).world.core
          k).doing) (traces_after mix r event k) (entries_of k next)) (sym here)
          (subst (λ (j : Option Job). IsOfCaller M mix env after_it c j (traces_after mix r event c)
          (entries_of c next)) (sym job-now)
          (subst (λ (t : Trace). IsOfCaller M mix env after_it c (told next_job).0 t (entries_of c next))
          (sym trace-now) own))
      | inr other ↦ others-now next same d other
    ]

    op-fits : IsFitting M mix env after_it (traced_step mix r event)
    op-fits = go next_job refl
      where
        own : IsOfCaller M mix env events c (job_of (local_of r.world.core c).doing) trace (entries_of c history)
        own = fitting.callers c

        at : IsWorking M mix env events c job trace own.es (entries_of c history)
        at = working own

        -- what a look-up answers was so
        claimed : (claims : ClaimsAnswer kind c (call_of job) (held_of job).answer (held_next next_job).answer)
            → IsSaid M mix env after_it c (call_of job) trace.begin claims.answer
        claimed =
            subst (λ o. (claims : ClaimsAnswer kind c (call_of job) (held_of job).answer
            (held_next (job_after mix env job o)).answer)
            → IsSaid M mix env after_it c (call_of job) trace.begin claims.answer)
            (sym (ap (old_of words) of.plan ∙ soft-old (local_of r.world.core c).held (job_plan env c job) words))
            (claim_is M mix env events c of.low admitted job of.is of.within)

        step : IsNext M mix env events event c (call_of job) trace.begin at.begun trace.steps at.made did
            (count-traced_of M mix env events) history (held_next next_job).answer own.es
        step =
            next_history M mix env events event c (call_of job) trace.begin at.begun trace.steps at.made
            did (count-traced_of M mix env events)
            (held_of job).early (IsThereAt M mix env events job) history (held_of job).answer (held_next next_job).answer
            own.es fitting.good claimed says at.early at.tail

        early : IsEarly M mix env after_it c (call_of job) trace.begin
            (IsThereNext next_job (mem env mix (applied words op))) (held_next next_job).early
        early =
            early-next M mix env events event c (call_of job) trace.begin at.begun trace.steps at.made did
            (count-traced_of M mix env events) (IsThereAt M mix env events job)
            (IsThereNext next_job (mem env mix (applied words op)))
            (held_of job).early (held_next next_job).early knows at.early

        -- where the job goes on
        early_now : (after : Job) → next_job ≡ (after, Go) → call_of after ≡ call_of job
            → IsEarly M mix env after_it c (call_of after) trace.begin (IsThereAt M mix env after_it after) (held_of after).early
        early_now after e same answer known =
            let here = subst (λ (q : Job × Next Ending). IsEarly M mix env after_it c (call_of job) trace.begin
            (IsThereNext q (mem env mix (applied words op))) (held_next q).early) e early in
            elim (here answer known) [
              | inl there ↦ inl (there-next M mix env events event (applied words op) (step_words M mix r.world c op is) after there)
              | inr said ↦ inr (subst (λ (a : Call). IsSaid M mix env after_it c a trace.begin answer) (sym same) said)
            ]

        go : (q : Job × Next Ending) → next_job ≡ q → IsFitting M mix env after_it (traced_step mix r event)
        go (after, Go) e =
            let same : call_of after ≡ call_of job = ap (λ q. call_of q.0) (sym e)
            ∙ same_call mix env job old in
            let here : IsWorking M mix env after_it c after (trace_did (Some (call_of job)) did None trace) own.es (entries_of c step.next) = record {
              begun = (let b = at.begun in omega (arith, longer, b));
              made = made_now at.made;
              below = at.below;
              tail =
                  subst (λ (a : Call). IsTail M mix env after_it c a trace.begin
                  (trace.steps ++ did ∷ []) (held_of after).answer own.es (entries_of c step.next))
                  (sym same)
                  (subst (λ (q : Job × Next Ending). IsTail M mix env after_it c (call_of job)
                  trace.begin (trace.steps ++ did ∷ []) (held_next q).answer own.es
                  (entries_of c step.next)) e step.tail);
              early = early_now after e same;
            } in
            record {
              history = step.next;
              good = step.good;
              callers = all-now step.next step.others
                  (subst (λ (q : Job × Next Ending). IsOfCaller M mix env after_it c (told q).0
                  (trace_did (Some (call_of job)) did (told q).1 trace) (entries_of c step.next)) (sym e)
                  (record { es = own.es; ended = own.ended; now = here }));
            }
        go (after, Done ending) e =
            let tail = subst (λ (q : Job × Next Ending). IsTail M mix env after_it c (call_of job)
            trace.begin (trace.steps ++ did ∷ []) (held_next q).answer own.es
            (entries_of c step.next)) e step.tail in
            let index : did.index + 1 ≡ length after_it =
            (let n = count-traced_of M mix env events in omega (arith, longer, n)) in
            let ends = end_history M mix env after_it c (call_of job) trace.begin trace.steps did index
            ending step.next trace.past own.es step.good own.ended at.below tail in
            record {
              history = ends.next;
              good = ends.good;
              callers = all-now ends.next (λ d ne. ends.others d ne ∙ step.others d ne)
                  (subst (λ (q : Job × Next Ending). IsOfCaller M mix env after_it c (told q).0
                  (trace_did (Some (call_of job)) did (told q).1 trace) (entries_of c ends.next)) (sym e)
                  (record { es = ends.es; ended = ends.ended; now = ends.own }));
            }

  step-fits : (events : List Event) (c : ℕ) (op : Option Op) → IsAdmitted events
      → planned_in (R events).world.core c ≡ op
      → IsFitting M mix env events (R events) → IsFitting M mix env (events ++ Step c ∷ []) (traced_step mix (R events) (Step c))
  step-fits events c None admitted is fitting =
      let r = R events in
      let same = step_none M mix r.world c is in
      quiet-fits M mix env events (Step c) (same-agree M mix env events (Step c) (ap (λ (w : World M). w.core.words) same))
      (λ d. ap (λ (w : World M). job_of (local_of w.core d).doing) same)
      (λ d. ap (λ (t : ℕ → Trace). t d) (trace_step_none M mix r c is))
      (λ d. there-same M mix env events (Step c) (ap (λ (w : World M). w.core.words) same) _) fitting
  step-fits events c (Some op) admitted is fitting = op-fits events c op admitted is fitting

  event-fits : (events : List Event) (event : Event) → IsAdmitted events → IsFitting M mix env events (R events)
      → IsFitting M mix env (events ++ event ∷ []) (traced_step mix (R events) event)
  event-fits events Enroll admitted fitting =
      quiet-fits M mix env events Enroll (enroll-agree M mix env events admitted) (λ d. refl) (λ d. refl) (enroll-stays M mix env events admitted) fitting
  event-fits events (Begin c call start) admitted fitting =
      begin-fits events c call start (beginning_in (R events).world.core c call start) admitted refl fitting
  event-fits events (Step c) admitted fitting = step-fits events c (planned_in (R events).world.core c)
      admitted refl fitting

  -- ---- runs

  -- at opening nothing is bound
  pub opening-agree : Agree unbound (at_end [])
  opening-agree p = sym (stands_for_bound env mix (opening_words env) (opening_ghost env)
      (opening_whole env mix) p)

  opening-fits : IsFitting M mix env [] (R [])
  opening-fits = record {
    history = [];
    good = record {
      legal = tt;
      rising = tt;
      below = tt;
      now = opening-agree;
      agrees = λ i l. absurd
          (omega (arith, l));
    };
    callers = λ c. rw (each_replicate (λ (local : Local M). local ≡ fresh env) env.geometry.callers c
        (fresh env) refl) (record { es = []; ended = tt; now = refl });
  }

  runs-fit : (events : List Event) → IsAdmitted events → IsFitting M mix env events (R events)
  runs-fit =
      induct_by_last (λ events. IsAdmitted events → IsFitting M mix env events (R events)) (λ none. opening-fits)
      (λ events event each all.
      let admitted = (AllByRecursion-cut IsAdmittedEvent events (event ∷ []) all).0 in
      subst (IsFitting M mix env (events ++ event ∷ [])) (sym (traced_of-push M mix env events event))
      (event-fits events event admitted (each admitted)))

  -- ---- the history fits

  module _ (events : List Event) (admitted : IsAdmitted events) (c : ℕ) (own : List Numbered) where
    abbrev Change : Type 0
    Change = Any (ChangesBindings M mix env events) ((R events).traces c).steps

    fits-calls : (job : Option Job) (trace : Trace) (book : Book)
        → IsAtJob M mix env (Holds M mix env) (Answered M mix env) job book trace.steps
        → IsOfCaller M mix env events c job trace own
        → AreOfCalls (Any (ChangesBindings M mix env events) trace.steps) book.call trace.begin
        (length events) (about_bindings trace.past) own
    fits-calls None trace book at is =
        subst (AreOfCalls (Any (ChangesBindings M mix env events) trace.steps) book.call trace.begin
        (length events) (about_bindings trace.past))
        (append-nil is.es ∙ sym is.now)
        (of_calls (Any (ChangesBindings M mix env events) trace.steps) book.call trace.begin
        (length events) (about_bindings trace.past) is.es [] is.ended
        (rw at.call refl))
    fits-calls (Some job) trace book at is = elim is.now.tail [
      | inl still ↦
          subst (AreOfCalls (Any (ChangesBindings M mix env events) trace.steps) book.call trace.begin
          (length events) (about_bindings trace.past))
          (append-nil is.es ∙ sym still.none)
          (of_calls (Any (ChangesBindings M mix env events) trace.steps) book.call trace.begin
          (length events) (about_bindings trace.past) is.es [] is.ended
          (rw at.call still.same))
      | inr changed ↦
          subst (AreOfCalls (Any (ChangesBindings M mix env events) trace.steps) book.call trace.begin
          (length events) (about_bindings trace.past))
          (sym changed.one)
          (of_calls (Any (ChangesBindings M mix env events) trace.steps) book.call trace.begin
          (length events) (about_bindings trace.past) is.es (changed.entry ∷ []) is.ended
          (rw at.call (
            changed.changed,
            record {
              same_call = changed.pending.same_call;
              begun =
                  changed.pending.begun;
              so_far = changed.pending.so_far;
            },
            refl,
          )))
    ]

pub fits : (M : Type 0) (mix : ℕ → ℕ → ℕ → ℕ) → HasFittingHistory M mix
fits M mix env events admitted =
    let fitting = runs-fit M mix env events admitted in
    let r : Traced M = traced_of mix env events in (
      fitting.history,
      record {
        legal = fitting.good.legal;
        rising = fitting.good.rising;
        calls = λ c.
            fits-calls M mix env events admitted c (entries_of c fitting.history)
            (job_of (local_of r.world.core c).doing) (r.traces c) (r.world.books c)
            (runs-right M mix env events c admitted).now (fitting.callers c);
        agrees = fitting.good.agrees;
      },
    )
