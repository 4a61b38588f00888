-- What is kept of each caller's entries in a history beside a run, and that it outlives an event that says nothing of the caller: the
-- enrolling of one more caller, the beginning of a call, and what others do.
use Rattle.std.proofs.Common.{◌≡◌, ℕ, ◌<◌, ◌≤◌, List, [], ◌∷◌, ◌++◌, length, Option, Some, None, refl, sym, ap, ◌∙◌, subst, arith}
use Rattle.std.specs.List.{AllByRecursion}
use Rattle.std.proofs.lemmas.List.{length_push}
use Rattle.rht_words.specs.declared.env.Env.{Env}
use Rattle.rht_words.specs.Operations.{applied}
use Rattle.rht_words.proofs.EachElement.{AllByRecursion-weaker}
use Rattle.rht_model.specs.Multimap.{Multimap, Agree}
use Rattle.rht_core.specs.declared.event.Event.{Event}
use Rattle.rht_core.specs.declared.event.Event.TheVariants.{Enroll}
use Rattle.rht_core.specs.Jobs.{Job, call_of, job_of, held_of}
use Rattle.rht_core.specs.Runs.{World, IsAdmitted, local_of, enrolling, world_step}
use Rattle.rht_core.specs.Traces.{Did, Trace, Traced, traces_after, traced_step, traced_of}
use Rattle.rht_stands.specs.StandsFor.{stands_for}
use Rattle.rht_core.specs.Numbered.{Numbered, entries_of}
use Rattle.rht_core.specs.Alone.{bindings_at}
use Rattle.rht_core.specs.RunHistories.{about_bindings}
use Rattle.rht_core.proofs.Events.Worlds.{run_of-push}
use Rattle.rht_core.proofs.Tracing.TracedRuns.{world-traced_of, traced_of-push}
use Rattle.rht_core.proofs.Tracing.TracedCallers.{inv_now}
use Rattle.rht_ghost.proofs.Theory.Frames.{Made}
use Rattle.rht_ghost.proofs.Theory.Steps.{mem, owners-stay}
use Rattle.rht_core.proofs.Machines.JobSteps.{IsThere}
use Rattle.rht_core.proofs.Events.Invariants.{enrolled}
use Rattle.rht_core.proofs.Events.PagesThere.{enrolled-there}
use Rattle.rht_core.proofs.Meaning.BoundPorts.{stands_for_bound}
use Rattle.rht_core.proofs.Histories.NumberedEntries.{AllBelow}
use Rattle.rht_core.proofs.Histories.GoodHistories.{IsGood, good-quiet}
use Rattle.rht_core.proofs.Histories.CallerEntries.{IsEarly, early-more, IsTail, tail-more}
use Rattle.rht_core.proofs.Histories.CallEnds.{AreEnded}

module _ (M : Type 0) (mix : ℕ → ℕ → ℕ → ℕ) (env : Env) where
  abbrev R : List Event → Traced M
  R events = traced_of mix env events

  abbrev at_end : List Event → Multimap
  at_end events = bindings_at M mix env events

  -- ---- what is kept

  -- the page that a job may miss is there behind these events
  abbrev pub IsThereAt : List Event → Job → Type 0
  IsThereAt events job = IsThere job (mem env mix (R events).world.core.words)

  pub record IsWorking (events : List Event) (c : ℕ) (job : Job) (trace : Trace)
      (es own : List Numbered) : Type 0 where
    pub begun : trace.begin ≤ length events
    pub made : AllByRecursion (λ did. did.index < length events) trace.steps
    pub below : AllBelow trace.begin es
    pub tail : IsTail M mix env events c (call_of job) trace.begin trace.steps (held_of job).answer es own
    pub early : IsEarly M mix env events c (call_of job) trace.begin (IsThereAt events job) (held_of job).early

  abbrev pub IsAt : List Event → ℕ → Option Job → Trace → List Numbered → List Numbered → Type 0
  IsAt events c None trace es own = own ≡ es
  IsAt events c (Some job) trace es own = IsWorking events c job trace es own

  -- the entries of a caller in a history beside these events
  pub record IsOfCaller (events : List Event) (c : ℕ) (job : Option Job) (trace : Trace)
      (own : List Numbered) : Type 0 where
    pub es : List Numbered
    pub ended : AreEnded (about_bindings trace.past) es
    pub now : IsAt events c job trace es own

  abbrev pub AreOfCallers : List Event → Traced M → List Numbered → Type 0
  AreOfCallers events r history =
      (c : ℕ) → IsOfCaller events c (job_of (local_of r.world.core c).doing) (r.traces c)
      (entries_of c history)

  pub record IsFitting (events : List Event) (r : Traced M) : Type 0 where
    pub history : List Numbered
    pub good : IsGood M mix env events history
    pub callers : AreOfCallers events r history

  -- ---- one event more

  module _ (events : List Event) (event : Event) where
    abbrev more : List Event
    more = events ++ event ∷ []

    -- the page that a job may miss stays once it is there
    abbrev pub Stays : Option Job → Type 0
    Stays job = (now : Job) → job ≡ Some now → IsThereAt events now → IsThereAt more now

    -- it does where it is there in the words that the event leaves
    pub there-next : (words : List ℕ) → (world_step mix (R events).world event).core.words ≡ words → (job : Job)
        → IsThere job (mem env mix words) → IsThereAt more job
    there-next words same job there =
        let after = ap (λ (r : Traced M). r.world.core.words) (traced_of-push M mix env events event) in
        subst (λ ws. IsThere job (mem env mix ws)) (sym (after ∙ same)) there

    -- so it does where the event leaves the words
    pub there-same : (world_step mix (R events).world event).core.words ≡ (R events).world.core.words
        → (job : Option Job) → Stays job
    there-same same job now is there = there-next (R events).world.core.words same now there

    at-more : (c : ℕ) (job : Option Job) (trace : Trace) (es own : List Numbered)
        → Stays job → IsAt events c job trace es own
        → IsAt more c job trace es own
    at-more c None trace es own stays at = at
    at-more c (Some job) trace es own stays at =
        let longer = length_push events event in
        record {
          begun = (let b = at.begun in omega (arith, longer, b));
          made = AllByRecursion-weaker (λ (d : Did). d.index < length events)
              (λ (d : Did). d.index < length more)
              (λ d l. omega (arith, longer, l)) trace.steps at.made;
          below = at.below;
          tail = tail-more M mix env events event c (call_of job) trace.begin trace.steps
              (held_of job).answer es own at.made at.tail;
          early = early-more M mix env events event c (call_of job) trace.begin (IsThereAt events job)
              (IsThereAt more job) (held_of job).early (stays job refl) at.early;
        }

    -- a caller of which the event says nothing
    pub of-more : (c : ℕ) (job job' : Option Job) (trace trace' : Trace) (own own' : List Numbered)
        → job' ≡ job → trace' ≡ trace → own' ≡ own → Stays job
        → IsOfCaller events c job trace own → IsOfCaller more c job' trace' own'
    of-more c job job' trace trace' own own' same_job same_trace same_own stays is =
        subst (λ o. IsOfCaller more c job' trace' o) (sym same_own)
        (subst (λ (t : Trace). IsOfCaller more c job' t own) (sym same_trace)
        (subst (λ (j : Option Job). IsOfCaller more c j trace own) (sym same_job)
        (record { es = is.es; ended = is.ended; now = at-more c job trace is.es own stays is.now })))

  -- an event that leaves all callers and the bindings
  pub quiet-fits : (events : List Event) (event : Event) → Agree (at_end (events ++ event ∷ [])) (at_end events)
      → ((c : ℕ) → job_of (local_of (traced_step mix (R events) event).world.core c).doing ≡ job_of
      (local_of (R events).world.core c).doing)
      → ((c : ℕ) → traces_after mix (R events) event c ≡ (R events).traces c)
      → ((c : ℕ) → Stays events event (job_of (local_of (R events).world.core c).doing))
      → IsFitting events (R events) → IsFitting (events ++ event ∷ []) (traced_step mix (R events) event)
  quiet-fits events event agree jobs traces stays fitting = record {
    history = fitting.history;
    good = good-quiet M mix env events event fitting.history fitting.good agree;
    callers = λ c. of-more events event c _ _ _ _ _ _ (jobs c) (traces c) refl (stays c) (fitting.callers c);
  }

  -- ---- the words

  -- the run's words are those of the run with its traces
  pub end-is : (events : List Event) → at_end events ≡ stands_for env.geometry (R events).world.core.words
  end-is events = ap (λ (w : World M). stands_for env.geometry w.core.words)
      (sym (world-traced_of M mix env events))

  pub end-next : (events : List Event) (event : Event)
      → at_end (events ++ event ∷ []) ≡ stands_for env.geometry
      (world_step mix (R events).world event).core.words
  end-next events event =
      ap (λ (w : World M). stands_for env.geometry w.core.words) (run_of-push M mix env events event)
      ∙ ap (λ (w : World M). stands_for env.geometry (world_step mix w event).core.words)
      (sym (world-traced_of M mix env events))

  -- an enrolling leaves the bindings
  pub enroll-agree : (events : List Event) → IsAdmitted events
      → Agree (at_end (events ++ Enroll ∷ [])) (at_end events)
  enroll-agree events admitted p =
      let core = (R events).world.core in
      let has = inv_now M mix env events admitted in
      let G = has.ghost in
      let words' = applied core.words (enrolling core.env) in
      let kept = enrolled env mix M core G has.all has.inv in
      let made : Made env mix 0 (mem env mix core.words) G (mem env mix words') G =
      record { whole = kept.0; others = λ k ne. kept.1 k; stale = kept.2 _ } in
      ap (λ (b : Multimap). b p) (end-next events Enroll)
      ∙ stands_for_bound env mix words' G kept.0 p
      ∙ owners-stay env mix 0 (mem env mix core.words) (mem env mix words')
      G G has.inv.whole made p refl
      ∙ sym (stands_for_bound env mix core.words G has.inv.whole p)
      ∙ sym (ap (λ (b : Multimap). b p) (end-is events))

  -- nor does it take away a page that is there
  pub enroll-stays : (events : List Event) → IsAdmitted events
      → (c : ℕ) → Stays events Enroll (job_of (local_of (R events).world.core c).doing)
  enroll-stays events admitted c job is there =
      let core = (R events).world.core in
      let has = inv_now M mix env events admitted in
      there-next events Enroll (applied core.words (enrolling core.env)) refl job
      (enrolled-there env mix M core has.ghost has.inv c job is has.all there)

  -- and so does the beginning of a call, and an event that does nothing
  pub same-agree : (events : List Event) (event : Event)
      → (world_step mix (R events).world event).core.words ≡ (R events).world.core.words
      → Agree (at_end (events ++ event ∷ [])) (at_end events)
  same-agree events event same p =
      ap (λ (b : Multimap). b p) (end-next events event ∙ ap (stands_for env.geometry) same
      ∙ sym (end-is events))
