-- In every run each look-up knows, in each of its states, what it needs for its answer: that answer was right at an event of its call.
--
-- It is one induction over the events, beside the places of nodes and what open sections may meet. These three go together: a node is given
-- back that no section has met, so its places can be forgotten; and a look-up stands at nodes that its section has met.
use Rattle.std.proofs.Common.{◌≡◌, ◌≢◌, ℕ, ◌+◌, ◌%◌, ◌<◌, Bool, false, List, [], ◌∷◌, ◌++◌, length, Option, Some, None, refl, sym, ◌∙◌, ap, subst, inl, inr, arith}
use Rattle.std.proofs.lemmas.Bool.{cases_eq}
use Rattle.rht_words.specs.declared.op.Op.{Op}
use Rattle.rht_words.specs.declared.env.Env.{Env}
use Rattle.rht_core.proofs.Machines.HeldSteps.{soft-old}
use Rattle.rht_words.specs.declared.config.Kind.{Kind}
use Rattle.rht_words.specs.declared.machine.Next.{Next}
use Rattle.rht_words.specs.declared.machine.Next.TheVariants.{Go, Done}
use Rattle.rht_words.specs.Operations.{old_of}
use Rattle.rht_words.proofs.EachElement.{AllByRecursion-cut, AllByRecursion-push}
use Rattle.rht_words.specs.Places.{Section}
use Rattle.rht_words.proofs.OpeningLaws.{stand_in_place}
use Rattle.rht_words.proofs.Memory.{Memory}
use Rattle.rht_model.specs.declared.history.Call.{Call}
use Rattle.rht_model.specs.declared.history.Call.TheVariants as calls
use Rattle.rht_model.specs.declared.history.Reply.{Reply}
use Rattle.rht_model.specs.Answers.{Answer, plain}
use Rattle.rht_model.specs.Endings.{Ending, plain_ending}
use Rattle.rht_find.specs.Find.{plan_at, goes, says}
use Rattle.rht_find.specs.FindHeld.{held_of_find}
use Rattle.rht_find.specs.declared.find.FindAt.{FindAt}
use Rattle.rht_find.specs.declared.find.FindAt.TheVariants as at
use Rattle.rht_callers.specs.declared.local.Local.{Local}
use Rattle.rht_callers.specs.declared.local.Doing.{Doing}
use Rattle.rht_callers.specs.Batches.{nodes_held}
use Rattle.rht_callers.specs.Locals.{local_after, ending_of}
use Rattle.rht_core.specs.declared.event.Event.{Event}
use Rattle.rht_core.specs.declared.event.Event.TheVariants.{Enroll, Begin, Step}
use Rattle.rht_core.specs.Jobs.{Job, finds, job_of, job_plan, job_next, job_after, told, held_of, held_next, call_of}
use Rattle.rht_core.specs.Runs.{Core, World, View, IsAdmitted, IsAdmittedEvent, local_of, beginning_in, planned_in, world_step}
use Rattle.rht_core.specs.Reach.{ComesTo}
use Rattle.rht_core.specs.Standings.{standing, standing_with}
use Rattle.rht_core.specs.Traces.{Did, Trace, Traced, trace_begun, trace_did, traces_after, traced_step, traced_of}
use Rattle.rht_ghost.proofs.Theory.Ghosts.{Ghost}
use Rattle.rht_ghost.proofs.Theory.Frames.{GoesBack}
use Rattle.rht_ghost.proofs.Theory.Steps.{ReturnsNode, mem, ghost_after}
use Rattle.rht_core.proofs.Events.Worlds.{induct_by_last, run_of-push, beginning-some, planned-some, begin_none, begin_self, begin_other, step_none, step_self, step_other}
use Rattle.rht_core.proofs.Events.SoundRuns.{has_place, made_in}
use Rattle.rht_core.proofs.Events.JobsOfCallers.{is_no_job, first_job-machine, nothing-job, local_after-job, first-of}
use Rattle.rht_core.proofs.Events.Invariants.{StepOf, step_of, kept}
use Rattle.rht_core.proofs.Events.SectionsInRuns.{AreRight, section_parity}
use Rattle.rht_core.proofs.Events.InvariantRuns.{idle_at_opening}
use Rattle.rht_core.proofs.Machines.JobSteps.{JobIn}
use Rattle.rht_ghost.proofs.Theory.Answering.{ClaimsAnswer}
use Rattle.rht_core.proofs.Histories.CallerEntries.{IsSaid}
use Rattle.rht_core.proofs.Histories.FittingCallers.{end-is}
use Rattle.rht_core.proofs.Tracing.TracedRuns.{world-traced_of, count-traced_of, traced_of-push, trace_begin_none, trace_begin_self, trace_begin_other, trace_step_none, trace_step_self, trace_step_other}
use Rattle.rht_core.proofs.Tracing.TracedJobs.{busy-none, IsAtJob}
use Rattle.rht_core.proofs.Tracing.RepliesInRuns.{Holds, Answered, runs-right}
use Rattle.rht_core.proofs.Finding.Places.{Places}
use Rattle.rht_core.proofs.Finding.GivenBack.{IsUnmet}
use Rattle.rht_core.proofs.Finding.LookupsAtEvents.{SaysOf, Looks, JobLooks, AreLooking, SeesOn, Turns, EachLooks, LooksThen, met_now, ApartNow, placed', as_before, found_with, pasts-later, first-looks, own, known_next}
use Rattle.rht_core.proofs.Finding.PlacesInRuns.{Placed, EventMakes, event_makes, event-ghost, next, placed_opening, opening-closed}
use Rattle.rht_core.proofs.Finding.Lookups.{LookMeans}
use Rattle.rht_core.proofs.Returning.ComingJobs.{KnowsLook, job_comes}
use Rattle.rht_core.proofs.Returning.GoneBack.{gives_back}
use Rattle.rht_core.proofs.Returning.Meeting.{Leads, MeetsRight, stands_next, next_job, event_leads, stands_outside, reader_then, meets_then, stands_from, stood, will_stand, turns}
use Rattle.rht_core.proofs.Returning.Batches.{AreOut}
use Rattle.rht_core.proofs.Returning.MetBySome.{met-of, apart-unmet}
use Rattle.rht_core.proofs.Returning.SectionWords.{event_turns}
use Rattle.rht_core.proofs.Returning.WaitingBatches.{waits_stay}
use Rattle.rht_core.proofs.Returning.WaitingEvents.{Waits, AllWait, tidies-of, event_waits, given_apart}
use Rattle.rht_core.proofs.Returning.Readers.{Reader, ReaderRight, reads_nothing, reader-leaves}
use Rattle.rht_core.proofs.Returning.TiedJobs.{tied_with}

module _ (L : Type 0) (mix : ℕ → ℕ → ℕ → ℕ) (env : Env) where
  abbrev R : List Event → Traced L
  R events = traced_of mix env events

  abbrev kind : Kind
  kind = env.config.kind

  -- ---- each event

  pub begin-looks : (events : List Event) (c : ℕ) (call : Call) (start : ℕ) (machine : Option (Doing L)) (looking : AreLooking L mix env events (R events))
      → (turn : Turns L mix env events (Begin c call start) looking)
      → beginning_in (R events).world.core c call start ≡ machine → EachLooks L mix env events (Begin c call start) looking turn
  begin-looks events c call start None looking turn is = λ d.
      let r = R events in
      as_before L mix env events (Begin c call start) looking turn d
      (ap (λ (w : World L). job_of (local_of w.core d).doing) (begin_none L mix r.world c call start is))
      (ap (λ (t : ℕ → Trace). t d) (trace_begin_none L mix r c call start is))
  begin-looks events c call start (Some machine) looking turn is = λ d.
      let r = R events in
      let event = Begin c call start in
      let sound = looking.placed.all in
      let can = beginning-some r.world.core.env r.world.core.enrolled r.world.core.locals c call start machine is in
      let place = has_place L mix env r.world.core c sound.stays can.below in
      let low : c < env.geometry.callers = omega (arith, can.below, sound.stays.few_enrolled) in
      let first = first_job-machine env c (local_of r.world.core c).batch start call machine (made_in L mix env r.world.core c call start machine sound.stays can) in
      elim (cases_eq d c) [
        | inl same ↦
            subst (λ k. LooksThen L mix env events event looking turn k (traces_after mix r event k)
            (job_of (local_of (world_step mix r.world event).core k).doing)) (sym same)
            (found_with L mix env events event looking turn c (trace_begun (length events) (r.traces c)) _ (Some first.job) _
            (trace_begin_self L mix r c call start machine is
            ∙ ap (λ n. trace_begun n (r.traces c)) (count-traced_of L mix env events))
            (ap (λ (s : View L). job_of s.local.doing) (begin_self L mix r.world c call start machine is place) ∙ first.does)
            (record {
              past = pasts-later L mix env events event looking turn c (r.traces c).past (looking.looks c).past;
              now = first-of (λ job. JobLooks L mix env (events ++ event ∷ []) (world_step mix r.world event).core
                  (placed' L mix env events event looking turn) (turn.then c) c (length events) [] (Some job)) env call first.job
                  (first-looks L mix env events event looking turn c low call) first.first;
            }))
        | inr other ↦
            as_before L mix env events event looking turn d
            (ap (λ (s : View L). job_of s.local.doing) (begin_other L mix r.world c call start d other))
            (trace_begin_other L mix r c call start d other)
      ]

  pub step-looks : (events : List Event) (c : ℕ) (plan : Option Op) → IsAdmitted events → (looking : AreLooking L mix env events (R events))
      → (turn : Turns L mix env events (Step c) looking)
      → planned_in (R events).world.core c ≡ plan → EachLooks L mix env events (Step c) looking turn
  step-looks events c None admitted looking turn is = λ d.
      let r = R events in
      as_before L mix env events (Step c) looking turn d
      (ap (λ (w : World L). job_of (local_of w.core d).doing) (step_none L mix r.world c is))
      (ap (λ (t : ℕ → Trace). t d) (trace_step_none L mix r c is))
  step-looks events c (Some op) admitted looking turn is = λ d.
      let r = R events in
      let core = r.world.core in
      let sound = looking.placed.all in
      let place = has_place L mix env core c sound.stays
      (planned-some core.env core.enrolled core.locals c op is).below in
      let of = step_of env mix L core looking.placed.ghost c op sound looking.placed.inv is in
      let old = old_of core.words op in
      let local = local_of core c in
      let kept = runs-right L mix env events c admitted in
      let none = busy-none local (r.world.books c) (nothing-job local.doing ∙ ap is_no_job of.is) kept.lists in
      let left : ◌≡◌ {A = Option Job × Option Ending}
      (job_of (local_after mix local old).0.doing, ending_of (local_after mix local old).0 (local_after mix local old).1)
      (told (job_after mix env of.job old)) =
      local_after-job mix env local of.job old none (sound.stays.locals_of c) of.is in
      let asked : (r.world.books c).call ≡ Some (call_of of.job) =
      (subst (λ (j : Option Job). IsAtJob L mix env (Holds L mix env) (Answered L mix env) j (r.world.books c) (r.traces c).steps)
      of.is kept.now).call in
      let did : Did = record { index = r.count; op = op; old = old } in
      let does : job_of (local_of (world_step mix r.world (Step c)).core c).doing ≡ (told (job_after mix env of.job old)).0 =
      ap (λ (s : View L). job_of s.local.doing) (step_self L mix r.world c op is place) ∙ ap (λ l. l.0) left in
      let found : old_of core.words op ≡ old_of core.words (job_plan env c of.job) =
      ap (old_of core.words) of.plan ∙ soft-old local.held (job_plan env c of.job) core.words in
      elim (cases_eq d c) [
        | inl same ↦
            subst (λ k. LooksThen L mix env events (Step c) looking turn k (traces_after mix r (Step c) k)
            (job_of (local_of (world_step mix r.world (Step c)).core k).doing)) (sym same)
            (found_with L mix env events (Step c) looking turn c
            (trace_did (Some (call_of of.job)) did (told (job_after mix env of.job old)).1 (r.traces c)) _
            (told (job_after mix env of.job old)).0 _
            (trace_step_self L mix r c op is
            ∙ ap (λ (o : Option Call). trace_did o did
            (ending_of (local_after mix local old).0 (local_after mix local old).1) (r.traces c)) asked
            ∙ ap (λ l. trace_did (Some (call_of of.job)) did l.1 (r.traces c)) left)
            does
            (subst (λ o. LooksThen L mix env events (Step c) looking turn c
            (trace_did (Some (call_of of.job)) did (told (job_after mix env of.job o)).1 (r.traces c))
            (told (job_after mix env of.job o)).0) (sym found)
            (own L mix env events (Step c) looking turn c (r.traces c) did (count-traced_of L mix env events) local.held of.job of.is of.within
            (looking.looks c).past
            (subst (JobLooks L mix env events core looking.placed (looking.readers c).chains c (r.traces c).begin (r.traces c).steps)
            of.is (looking.looks c).now) of.plan
            (does ∙ ap (λ o. (told (job_after mix env of.job o)).0) found))))
        | inr other ↦
            as_before L mix env events (Step c) looking turn d
            (ap (λ (s : View L). job_of s.local.doing) (step_other L mix r.world c d other))
            (trace_step_other L mix r c d other)
      ]

  -- ---- what an event makes

  module _ (events : List Event) (admitted : IsAdmitted events) (looking : AreLooking L mix env events (R events)) where
    abbrev r : Traced L
    r = R events

    abbrev core : Core L
    core = r.world.core

    abbrev placed : Placed env mix L events core
    placed = looking.placed

    abbrev G : Ghost
    G = placed.ghost

    parity : AreRight env mix L core
    parity =
        subst (λ (w : World L). AreRight env mix L w.core) (sym (world-traced_of L mix env events))
        (section_parity env mix L events admitted)

    -- what a look-up knows
    look_known : (c begin : ℕ) (steps : List Did) (job : Job)
        → JobLooks L mix env events core placed (looking.readers c).chains c begin steps (Some job)
        → KnowsLook env mix core.words G placed.inv.whole c (looking.readers c).chains (begin + 1)
        (λ port. SaysOf L mix env events c port begin) placed.places job
    look_known c begin steps (finds port state) looks = looks.means
    look_known c begin steps _ looks = tt

    -- a caller's operation leads where it could come to
    pub comes : (c : ℕ) (op : Op) → planned_in core c ≡ Some op
        → ComesTo env.geometry core.words (standing core c) (stands_next env mix L core c)
    comes c op plan =
        let of = step_of env mix L core G c op placed.all placed.inv plan in
        let trace = r.traces c in
        let looks = subst (JobLooks L mix env events core placed (looking.readers c).chains c trace.begin trace.steps) of.is (looking.looks c).now in
        let goes = job_comes env mix core.words G placed.inv.whole c (looking.readers c).chains (trace.begin + 1)
        (λ port. SaysOf L mix env events c port trace.begin) placed.places of.job of.within of.knows
        (subst (tied_with env mix G) of.is (looking.meets c of.low).tied)
        (look_known c trace.begin trace.steps of.job looks) in
        let same : old_of core.words op ≡ old_of core.words (job_plan env c of.job) =
        ap (old_of core.words) of.plan ∙ soft-old (local_of core c).held (job_plan env c of.job) core.words in
        subst (ComesTo env.geometry core.words (standing core c))
        (sym (ap standing_with (next_job env mix L core G placed.all placed.inv c op plan)
        ∙ ap (λ old. standing_with (told (job_after mix env of.job old)).0) same))
        (subst (λ at. ComesTo env.geometry core.words at
        (standing_with (told (job_after mix env of.job (old_of core.words (job_plan env c of.job)))).0)) (sym (ap standing_with of.is)) goes)

    -- a node that is given back no section has met
    pub unmet : (c : ℕ) (op : Op) (of : StepOf env mix L core G c op) (n : ℕ) → planned_in core c ≡ Some op
        → of.step.move ≡ ReturnsNode n
        → IsUnmet env (mem env mix core.words) (met_now L mix env looking) n × ApartNow L mix env looking n
    unmet c op of n planned is =
        let right : (d : ℕ) → d < env.geometry.callers → ReaderRight env mix (mem env mix core.words) G d (looking.readers d) =
        λ d low. (looking.meets d low).right in
        let apart = given_apart env mix L core placed.all looking.readers G right c op of planned n is looking.waits in
        (apart-unmet env mix (mem env mix core.words) G env.geometry.callers looking.readers right n apart, apart)

    -- ---- behind it

    module _ (event : Event) (may : IsAdmittedEvent event) where
      abbrev core' : Core L
      core' = (world_step mix r.world event).core

      pub makes : EventMakes env mix L events core core' placed (met_now L mix env looking) (ApartNow L mix env looking)
      makes =
          event_makes env mix L events r.world (end-is L mix env events) placed (met_now L mix env looking) (ApartNow L mix env looking)
          unmet event may

      abbrev G' : Ghost
      G' = ghost_after env mix makes.caller makes.move G

      parity' : AreRight env mix L core'
      parity' =
          subst (λ (w : World L). AreRight env mix L w.core)
          (run_of-push L mix env events event ∙ ap (λ (w : World L). world_step mix w event) (sym (world-traced_of L mix env events)))
          (section_parity env mix L (events ++ event ∷ [])
          (AllByRecursion-push IsAdmittedEvent events event admitted may))

      leads : (c : ℕ) → c < env.geometry.callers → Leads env mix L core core' G c
      leads = event_leads env mix L core parity G placed.all placed.inv comes event

      abbrev pub readers' : ℕ → Reader
      readers' c = reader_then env mix L core core' c G' (looking.readers c)

      few : (c : ℕ) → c < env.geometry.callers → c < 16
      few c low = let callers = env.geometry.within.callers_within in omega (arith, low, callers.1)

      module _ (c : ℕ) (low : c < env.geometry.callers) where
        -- a node that goes back its section hasn't met
        not_met : (n : ℕ) → GoesBack env mix makes.caller G G' n → (looking.readers c).lists n ≡ false
        not_met n back =
            makes.apart n (gives_back env mix makes.caller (mem env mix core.words) G placed.inv.whole n back.was makes.move makes.ready
            back.now) c low

        pub meets_next : MeetsRight env mix L core' G' c (readers' c)
        meets_next =
            meets_then env mix L events core core' placed (met_now L mix env looking) (ApartNow L mix env looking) makes c
            (looking.readers c) (looking.meets c low) (leads c low) not_met parity' (few c low)

        pub sees_on : SeesOn L mix env core core' G (met_now L mix env looking) (looking.readers c).chains (readers' c).chains c
        sees_on = record {
          met_too = λ n is. met-of looking.readers env.geometry.callers c n low is;
          stood = stood env mix L events core core' placed (met_now L mix env looking) (ApartNow L mix env looking) makes c
              (looking.readers c) (looking.meets c low) (leads c low) not_met (stands_outside env mix L core parity c (few c low));
          stands = will_stand env mix L events core core' placed (met_now L mix env looking) (ApartNow L mix env looking) makes c
              (looking.readers c) (looking.meets c low) (leads c low) not_met;
          turns = turns env mix L events core core' placed (met_now L mix env looking) (ApartNow L mix env looking) makes c
              (looking.readers c) (looking.meets c low) (leads c low) not_met (stands_outside env mix L core' parity' c (few c low));
          tables = stands_from env mix L events core core' placed (met_now L mix env looking) (ApartNow L mix env looking) makes c
              (looking.readers c) (looking.meets c low) (leads c low) not_met;
        }

      -- what is kept for waiting nodes
      pub waits_next : AllWait env mix L core' readers' core'
      waits_next c low =
          waits_stay env mix L (mem env mix core.words) (mem env mix core'.words) looking.readers readers' G' c
          (λ d below. event_turns env mix L core G event placed.all makes.all placed.inv d (few d below)) (λ d. refl)
          (local_of core' c).doing (local_of core' c).batch (tidies-of env mix L c (local_of core' c).doing (makes.all.locals c).doing)
          (subst (λ K. AreOut c K (nodes_held (local_of core' c).doing (local_of core' c).batch)) makes.same (makes.inv.batches c).out)
          (event_waits env mix L core placed.all looking.readers event looking.waits c low)

      pub turn_at : Turns L mix env events event looking
      turn_at = record { makes = makes; then = λ c. (readers' c).chains; sees = sees_on }

      -- the ghost behind it is the invariant's
      pub turn-ghost : turn_at.makes.ghost ≡ (kept env mix L core G event placed.all placed.inv).ghost
      unfolding turn_at makes
      turn-ghost = event-ghost env mix L events r.world (end-is L mix env events) placed (met_now L mix env looking) (ApartNow L mix env looking)
          unmet event may

  -- ---- runs

  unfoldable pub event-looks : (events : List Event) (event : Event) → IsAdmitted events → IsAdmittedEvent event
      → AreLooking L mix env events (R events) → AreLooking L mix env (events ++ event ∷ []) (traced_step mix (R events) event)
  unfolding next turn_at makes
  event-looks events event admitted may looking = record {
    placed = placed' L mix env events event looking (turn_at events admitted looking event may);
    readers = readers' events admitted looking event may;
    meets = λ c low. meets_next events admitted looking event may c low;
    looks = each event (turn_at events admitted looking event may);
    waits = waits_next events admitted looking event may;
  }
    where
      each : (event : Event) → (turn : Turns L mix env events event looking) → EachLooks L mix env events event looking turn
      each Enroll turn = λ d. as_before L mix env events Enroll looking turn d refl refl
      each (Begin c call start) turn = begin-looks events c call start (beginning_in (R events).world.core c call start) looking turn refl
      each (Step c) turn = step-looks events c (planned_in (R events).world.core c) admitted looking turn refl

  unfoldable pub opening-looks : AreLooking L mix env [] (R [])
  opening-looks = record {
    placed = placed_opening env mix L;
    readers = λ c. reads_nothing;
    meets = λ c low. record {
      right = reader-leaves env mix _ _ c
          (ap (λ w. w % 2) ((stand_in_place env).each (Section c) (let callers = env.geometry.within.callers_within in omega (arith, low, callers.1))));
      from_is = sym (opening-closed env mix L c);
      stands = λ open_then. absurd (cc);
      tied = subst (λ (local : Local L). tied_with env mix (placed_opening env mix L).ghost (job_of local.doing))
          (sym (idle_at_opening env mix L c)) tt;
    };
    looks = λ c. record {
      past = tt;
      now = subst (λ (local : Local L). JobLooks L mix env [] (R []).world.core (placed_opening env mix L) (λ n. false) c 0 []
          (job_of local.doing)) (sym (idle_at_opening env mix L c)) tt;
    };
    waits = λ c. subst (Waits env mix L (R []).world.core (λ d. reads_nothing) c) (sym (idle_at_opening env mix L c))
        (λ low d below n there. absurd there);
  }

  pub has_looks : (events : List Event) → IsAdmitted events → AreLooking L mix env events (R events)
  has_looks =
      induct_by_last (λ events. IsAdmitted events → AreLooking L mix env events (R events))
      (λ none. opening-looks)
      (λ events event each all.
      let parts = AllByRecursion-cut IsAdmittedEvent events (event ∷ []) all in
      subst (AreLooking L mix env (events ++ event ∷ [])) (sym (traced_of-push L mix env events event))
      (event-looks events event parts.0 parts.1.0 (each parts.0)))

  -- ---- what a look-up claims

  -- what a look-up answers while it closes its section was so
  module _ (events : List Event) (c : ℕ) (low : c < env.geometry.callers) (admitted : IsAdmitted events) where
    abbrev looking : AreLooking L mix env events (R events)
    looking = has_looks events admitted

    abbrev turn : Turns L mix env events (Step c) looking
    turn = turn_at events admitted looking (Step c) (let few = env.geometry.within.callers_within in omega (arith, low, few.1))

    abbrev later : List Event
    later = events ++ Step c ∷ []

    abbrev begin : ℕ
    begin = ((R events).traces c).begin

    abbrev words : List ℕ
    words = (R events).world.core.words

    abbrev Said : ℕ → Answer → Type 0
    Said port answer = IsSaid L mix env later c (calls.Find port) begin answer

    -- an answer is known from the state before the last operation on
    done-known : (state : FindAt) (reply : Reply) → says state ≡ Done reply → (held_of_find state).answer ≢ None
    done-known (at.Closing told) reply is none = absurd (cc)
    done-known _ reply is none = absurd (cc)

    said_so : (M : Memory) (G : Ghost) (P : Places) (port : ℕ) (seen : ℕ → Bool) (state : FindAt) (answer : Answer)
        → LookMeans env mix port seen (begin + 1) (SaysOf L mix env later c port begin) M G P state
        → (held_of_find state).answer ≡ Some answer → Said port answer
    said_so M G P port seen (at.Closing reply) answer means known = let same : plain reply ≡ answer = cc in subst (Said port) same means
    said_so M G P port seen _ answer means known = absurd (cc)

    pub claim_is : (job : Job) → job_of (local_of (R events).world.core c).doing ≡ Some job → JobIn env mix c job
        → (claims : ClaimsAnswer kind c (call_of job) (held_of job).answer
        (held_next (job_after mix env job (old_of words (job_plan env c job)))).answer)
        → IsSaid L mix env later c (call_of job) begin claims.answer
    claim_is (finds port state) does within claims = go (says state) refl claims.known
      where
        steps : List Did
        steps = ((R events).traces c).steps

        looks : Looks L mix env events (R events).world.core looking.placed (looking.readers c).chains c port begin steps state
        looks = subst (JobLooks L mix env events (R events).world.core looking.placed (looking.readers c).chains c begin steps) does
            (looking.looks c).now

        after : FindAt
        after = goes mix env port state (old_of words (plan_at env c state))

        go : (next : Next Reply) → says state ≡ next
            → (held_next (job_next (finds port) plain_ending (after, next))).answer ≡ Some claims.answer
            → Said port claims.answer
        go Go is known =
            said_so _ _ _ port _ after claims.answer
            (known_next L mix env events (Step c) looking turn c port begin steps state looks within does) known
        go (Done reply) is known = absurd (done-known state reply is claims.unknown)
    claim_is job is within claims = absurd (let never = claims.may in cc)
