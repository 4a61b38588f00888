-- What each caller keeps of itself and of its trace holds of every caller in every run, where it is kept by a
-- caller that begins a call, by one that makes an operation, and by one that sees another event come.
-- It may speak of the events so far. What holds of callers one at a time is shown by this one induction
-- over the events: no event of another caller is seen, and what is recorded at an event was so there.
use Rattle.std.proofs.Common.{◌≡◌, ℕ, inl, inr, true, List, [], ◌∷◌, ◌++◌, ◌<◌, ◌≢◌, length, take, refl, sym, ap, ◌∙◌, subst, arith}
use Rattle.std.specs.Prelude.{Option, Some, None}
use Rattle.std.specs.List.{slice_get}
use Rattle.std.proofs.lemmas.Bool.{cases_eq}
use Rattle.rht_words.specs.declared.op.Op.{Op}
use Rattle.rht_words.specs.declared.env.Env.{Env}
use Rattle.rht_words.specs.declared.op.Op.TheVariants.{Add}
use Rattle.rht_words.specs.Operations.{old_of, applied}
use Rattle.rht_words.specs.Places.{Section, place_of, word_at}
use Rattle.rht_words.proofs.EachElement.{AllByRecursion-cut, each_replicate, slice_get-push_last}
use Rattle.rht_model.specs.declared.history.Call.{Call}
use Rattle.rht_model.specs.declared.history.Reply.{Reply}
use Rattle.rht_core.specs.declared.event.Event.{Event}
use Rattle.rht_core.specs.declared.event.Event.TheVariants.{Enroll, Begin, Step}
use Rattle.rht_callers.specs.declared.local.Local.{Local}
use Rattle.rht_callers.specs.declared.local.Doing.{Doing}
use Rattle.rht_callers.specs.Locals.{fresh, is_idle, machine_from, plan_of, local_after, ending_of, IsLocalOf}
use Rattle.rht_core.specs.Runs.{Core, World, View, IsAdmitted, IsAdmittedEvent, view_of, local_of, new_book, beginning_in, planned_in, with_step, core_step, world_step, run_of}
use Rattle.rht_core.specs.Traces.{Did, Trace, Traced, trace_begun, trace_did, traces_after, traced_step, traced_of}
use Rattle.rht_core.specs.Laws.{IsRecorded, view_begun, view_stepped}
use Rattle.rht_core.specs.Seen.{words_before}
use Rattle.rht_core.proofs.Events.Worlds.{induct_by_last, take-push_all, beginning-some, planned-some, begin_none, begin_self, begin_other, step_none, step_self, step_other}
use Rattle.rht_core.proofs.Events.SoundRuns.{StaysIn, runs-in, made_in, has_place}
use Rattle.rht_ghost.proofs.Theory.Ghosts.{Ghost}
use Rattle.rht_core.proofs.Events.Invariants.{Inv, StepOf, step_of}
use Rattle.rht_core.proofs.Events.InvariantRuns.{HasInv, has_inv}
use Rattle.rht_core.proofs.Events.RangesInRuns.{AllIn, event-all}
use Rattle.rht_core.proofs.Events.TablesThere.{TablesStayed, has_tables}
use Rattle.rht_core.proofs.Returning.SectionWords.{step_same, IsOthers, others_same}
use Rattle.rht_core.proofs.Tracing.TracedRuns.{no_trace, traced_of-push, world-traced_of, count-traced_of, trace_with, trace_begin_none, trace_begin_self, trace_begin_other, trace_step_none, trace_step_self, trace_step_other}

module _ (M : Type 0) (mix : ℕ → ℕ → ℕ → ℕ) (env : Env) where
  -- the run of these events, with its traces
  abbrev R : List Event → Traced M
  R events = traced_of mix env events

  -- the operation that a caller plans in a world, and the reply that its step gives there
  abbrev planned_by : ℕ → World M → Option Op
  planned_by c w = planned_in w.core c

  abbrev pub reply_of : ℕ → World M → Option Reply
  reply_of c w = (core_step mix w.core (Step c)).1.reply

  -- ---- the operation at the last event

  -- in this core of a run the caller does this and makes a step with this operation, which found what it found
  pub record IsKnown (c : ℕ) (local : Local M) (did : Did) : Type 0 where
    pub core : Core M
    pub here : local_of core c ≡ local
    pub ghost : Ghost
    pub inv : Inv env mix M core ghost
    pub step : StepOf env mix M core ghost c did.op
    pub found : did.old ≡ old_of core.words did.op

  -- behind these events a caller that does this makes this operation, in the core of their run, and the run remembers it
  pub record IsMade (events : List Event) (c : ℕ) (local : Local M) (did : Did) : Type 0 where
    pub plan : plan_of local ≡ Some did.op
    pub table : IsLocalOf env local
    pub known : IsKnown c local did
    pub now : ◌≡◌ {A = Core M} known.core (run_of {M = M} mix env events).core
    pub index : did.index ≡ length events
    pub recorded : IsRecorded M mix env (events ++ Step c ∷ []) c did
    pub reply :
        reply_of c (run_of mix env (take did.index (events ++ Step c ∷ []))) ≡ (local_after mix local
        did.old).1
    -- the caller's section word stays, unless the operation turns it
    pub section : did.op ≢ Add (place_of env.geometry (Section c)) 1
        → word_at env.geometry (applied known.core.words did.op) (Section c) ≡ word_at env.geometry known.core.words (Section c)
    -- each slot that had a table to which the caller's section comes has it
    pub stayed : TablesStayed env mix (words_before M mix env events) c known.ghost (length events)

  -- before the last event the world is the one that the events before it leave
  world_now : (events : List Event) (event : Event)
      → ◌≡◌ {A = World M} (run_of mix env (take (R events).count (events ++ event ∷ []))) (R events).world
  world_now events event =
      ap (λ n. run_of {M = M} mix env (take n (events ++ event ∷ []))) (count-traced_of M mix env events)
      ∙ ap (run_of {M = M} mix env) (take-push_all events event) ∙ sym (world-traced_of M mix env events)

  pub stays_in : (events : List Event) → StaysIn M mix env (R events).world.core
  stays_in events =
      subst (λ (w : World M). StaysIn M mix env w.core) (sym (world-traced_of M mix env events))
      (runs-in M mix env events)

  pub inv_now : (events : List Event) → IsAdmitted events
      → HasInv env mix M (R events).world.core
  inv_now events admitted =
      subst (λ (w : World M). HasInv env mix M w.core) (sym (world-traced_of M mix env events))
      (has_inv env mix M events admitted)

  -- the operation that is made next
  abbrev did_next : List Event → Op → Did
  did_next events op = record {
    index = (R events).count;
    op = op;
    old = old_of
        (R events).world.core.words op;
  }

  did_next-made : (events : List Event) (c : ℕ) (op : Op) → IsAdmitted events
      → planned_by c (R events).world ≡ Some op
      → IsMade events c (local_of (R events).world.core c) (did_next events op)
  did_next-made events c op admitted is =
      let core = (R events).world.core in
      let has = has_tables env mix M events admitted in
      let same = sym (world-traced_of M mix env events) in
      let inv = subst (λ (w : World M). Inv env mix M w.core has.ghost) same has.inv in
      let all = subst (λ (w : World M). AllIn M mix env w.core) same has.all in
      record {
        plan = (planned-some core.env core.enrolled core.locals c op is).plan;
        table = (stays_in events).locals_of c;
        known = record {
          core = core;
          here = refl;
          ghost = has.ghost;
          inv = inv;
          step = step_of env mix M core has.ghost c op all inv is;
          found = refl;
        };
        now = ap (λ (w : World M). w.core) (world-traced_of M mix env events);
        index = count-traced_of M mix env events;
        recorded = record {
          event =
              ap (slice_get (events ++ Step c ∷ [])) (count-traced_of M mix env events)
              ∙ slice_get-push_last events (Step c);
          plan = subst (λ (w : World M). planned_by c w ≡ Some op) (sym (world_now events (Step c))) is;
          found = ap (λ (w : World M). old_of w.core.words op) (world_now events (Step c));
        };
        reply =
            ap (reply_of c) (world_now events (Step c))
            ∙ ap (λ (o : Option Op). (with_step mix core c o).1.reply) is;
        section = λ apart.
            let of = step_of env mix M core has.ghost c op all inv is in
            step_same env mix M core has.ghost c op all (event-all M mix env (R events).world (Step c) (let few = of.few in omega (arith, few)) all) of is c of.few
            (λ same. apart);
        stayed = has.stayed c (step_of env mix M core has.ghost c op all inv is).few;
      }

  -- the event leaves the caller's section word
  abbrev pub SectionStays : List Event → Event → ℕ → Type 0
  SectionStays events event c =
      c < 16
      → word_at env.geometry (world_step mix (R events).world event).core.words (Section c)
      ≡ word_at env.geometry (R events).world.core.words (Section c)

  -- as each does that is none of its operations
  pub section_stays : (events : List Event) → IsAdmitted events → (event : Event) → IsAdmittedEvent event → (c : ℕ)
      → IsOthers env mix M (R events).world.core event c → SectionStays events event c
  section_stays events admitted event may c others few =
      let has = inv_now events admitted in
      others_same env mix M (R events).world.core has.ghost event has.all (event-all M mix env (R events).world event may has.all)
      has.inv c few others

  -- ---- what callers keep

  module _ (P : List Event → ℕ → View M → Trace → Type 0) where
    -- what is kept of a caller and its trace behind these events, where the event that comes next is none of its operations
    pub record IsKeptBeside : Type 0 where
      pub opens : (c : ℕ) → P [] c (record { local = fresh env; book = new_book }) no_trace
      pub stays : (events : List Event) (event : Event) (c : ℕ) (view : View M) (trace : Trace)
          → IsAdmitted events → IsAdmittedEvent event
          → IsOthers env mix M (R events).world.core event c → view ≡ view_of (R events).world c → P events c view trace
          → P (events ++ event ∷ []) c view trace
      pub begins : (events : List Event) (c : ℕ) (call : Call) (start : ℕ) (machine : Doing M) (index : ℕ)
          (view : View M) (trace : Trace)
          → index ≡ length events → view_of (R events).world c ≡ view
          → is_idle view.local ≡ true → machine_from env c view.local.batch call start ≡ Some machine
          → P events c view trace
          → P (events ++ Begin c call start ∷ []) c (view_begun call machine view) (trace_begun index trace)
      pub steps : (events : List Event) (c : ℕ) (did : Did) (view : View M) (trace : Trace)
          → IsMade events c view.local did
          → P events c view trace
          → let next = local_after mix view.local did.old in
          P (events ++ Step c ∷ []) c (view_stepped mix did.old view)
          (trace_did view.book.call did (ending_of next.0 next.1) trace)

    abbrev AllKeep : List Event → Traced M → Type 0
    AllKeep events r = (k : ℕ) → P events k (view_of r.world k) (r.traces k)

    module _ (kept : IsKeptBeside) (events : List Event) (admitted : IsAdmitted events)
        (each : AllKeep events (R events)) where
      abbrev r : Traced M
      r = R events

      -- where the caller and its trace have become these
      put : (more : List Event) (c : ℕ) (here : View M) (before : View M) (was : Trace) (trace : Trace)
          → before ≡ here → was ≡ trace
          → P more c here trace → P more c before was
      put more c here before was trace seen_is trace_is p =
          subst (P more c before) (sym trace_is) (subst (λ s. P more c s trace) (sym seen_is) p)

      -- where they are as before
      stay : (event : Event) → IsAdmittedEvent event → (k : ℕ) (here : View M) (trace : Trace)
          → IsOthers env mix M r.world.core event k → here ≡ view_of r.world k
          → trace ≡ r.traces k
          → P (events ++ event ∷ []) k here trace
      stay event may k here trace others seen_is trace_is =
          put (events ++ event ∷ []) k (view_of r.world k) here trace (r.traces k) seen_is trace_is
          (kept.stays events event k (view_of r.world k) (r.traces k) admitted may others refl (each k))

      begins : (c : ℕ) (call : Call) (start : ℕ) (machine : Option (Doing M)) → IsAdmittedEvent (Begin c call start)
          → beginning_in r.world.core c call start ≡ machine
          → AllKeep (events ++ Begin c call start ∷ []) (traced_step mix r (Begin c call start))
      begins c call start None may is k =
          stay (Begin c call start) may k _ _ tt (ap (λ (v : World M). view_of v k) (begin_none M mix r.world c call start is))
          (ap (λ (t : ℕ → Trace). t k) (trace_begin_none M mix r c call start is))
      begins c call start (Some machine) may is k =
          let more = events ++ Begin c call start ∷ [] in
          let can = beginning-some r.world.core.env r.world.core.enrolled r.world.core.locals c call start
          machine is in
          let made = made_in M mix env r.world.core c call start machine (stays_in events) can in
          let place = has_place M mix env r.world.core c (stays_in events) can.below in
          elim (cases_eq k c) [
            | inl same ↦
                subst
                (λ j. P more j (view_of (world_step mix r.world (Begin c call start)) j)
                (traces_after mix r (Begin c call start) j))
                (sym same)
                (put more c (view_begun call machine (view_of r.world c)) _ _
                (trace_begun r.count (r.traces c))
                (begin_self M mix r.world c call start machine is place)
                (trace_begin_self M mix r c call start machine is)
                (kept.begins events c call start machine r.count (view_of r.world c) (r.traces c)
                (count-traced_of M mix env events) refl can.idle made (each c)))
            | inr other ↦
                stay (Begin c call start) may k _ _ tt (begin_other M mix r.world c call start k other)
                (trace_begin_other M mix r c call start k other)
          ]

      steps : (c : ℕ) (op : Option Op) → IsAdmittedEvent (Step c) → planned_by c r.world ≡ op
          → AllKeep (events ++ Step c ∷ []) (traced_step mix r (Step c))
      steps c None may is k =
          stay (Step c) may k _ _ (inr is) (ap (λ (v : World M). view_of v k) (step_none M mix r.world c is))
          (ap (λ (t : ℕ → Trace). t k) (trace_step_none M mix r c is))
      steps c (Some op) may is k =
          let more = events ++ Step c ∷ [] in
          let can = planned-some r.world.core.env r.world.core.enrolled r.world.core.locals c op is in
          let did = did_next events op in
          let place = has_place M mix env r.world.core c (stays_in events) can.below in
          elim (cases_eq k c) [
            | inl same ↦
                subst (λ j. P more j (view_of (world_step mix r.world (Step c)) j)
                (traces_after mix r (Step c) j))
                (sym same)
                (put more c (view_stepped mix did.old (view_of r.world c)) _ _ (trace_with M mix r c op)
                (step_self M mix r.world c op is place) (trace_step_self M mix r c op is)
                (kept.steps events c did (view_of r.world c) (r.traces c)
                (did_next-made events c op admitted is) (each c)))
            | inr other ↦
                stay (Step c) may k _ _ (inl other) (step_other M mix r.world c k other) (trace_step_other M mix r c k other)
          ]

      -- an event keeps it of every caller
      event_keeps : (event : Event) → IsAdmittedEvent event → AllKeep (events ++ event ∷ []) (traced_step mix r event)
      event_keeps Enroll may k = stay Enroll may k _ _ tt refl refl
      event_keeps (Begin c call start) may k =
          begins c call start (beginning_in r.world.core c call start) may refl k
      event_keeps (Step c) may k = steps c (planned_by c r.world) may refl k

    -- so it holds of every caller in every run
    pub traced_callers_keep_beside : IsKeptBeside → (events : List Event) (c : ℕ) → IsAdmitted events
        → P events c (view_of (R events).world c) ((R events).traces c)
    traced_callers_keep_beside kept events c admitted =
        induct_by_last (λ es. IsAdmitted es → AllKeep es (R es))
        (λ none k.
        each_replicate (λ (local : Local M). P [] k (record { local = local; book = new_book }) no_trace)
        env.geometry.callers k (fresh env)
        (kept.opens k))
        (λ es event each all.
        let parts = AllByRecursion-cut IsAdmittedEvent es (event ∷ []) all in
        subst (AllKeep (es ++ event ∷ [])) (sym (traced_of-push M mix env es event))
        (event_keeps kept es parts.0 (each parts.0) event parts.1.0))
        events admitted c

    -- where it is enough that such an event leaves the caller's section word
    pub record IsKeptTraced : Type 0 where
      pub opens : (c : ℕ) → P [] c (record { local = fresh env; book = new_book }) no_trace
      pub stays : (events : List Event) (event : Event) (c : ℕ) (view : View M) (trace : Trace)
          → SectionStays events event c → P events c view trace → P (events ++ event ∷ []) c view trace
      pub begins : (events : List Event) (c : ℕ) (call : Call) (start : ℕ) (machine : Doing M) (index : ℕ)
          (view : View M) (trace : Trace)
          → index ≡ length events → view_of (R events).world c ≡ view
          → is_idle view.local ≡ true → machine_from env c view.local.batch call start ≡ Some machine
          → P events c view trace
          → P (events ++ Begin c call start ∷ []) c (view_begun call machine view) (trace_begun index trace)
      pub steps : (events : List Event) (c : ℕ) (did : Did) (view : View M) (trace : Trace)
          → IsMade events c view.local did
          → P events c view trace
          → let next = local_after mix view.local did.old in
          P (events ++ Step c ∷ []) c (view_stepped mix did.old view)
          (trace_did view.book.call did (ending_of next.0 next.1) trace)

    pub traced_callers_keep : IsKeptTraced → (events : List Event) (c : ℕ) → IsAdmitted events
        → P events c (view_of (R events).world c) ((R events).traces c)
    traced_callers_keep kept =
        traced_callers_keep_beside record {
          opens = kept.opens;
          stays = λ events event c view trace admitted may others here p.
              kept.stays events event c view trace (section_stays events admitted event may c others) p;
          begins = kept.begins;
          steps = kept.steps;
        }
