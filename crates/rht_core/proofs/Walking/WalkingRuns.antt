-- In every run each walk knows, in each of its states, what it needs for what it answers. It is an induction over the events, beside that
-- of look-ups, on the same ghost and the same places.
use Rattle.rht_core.specs.Jobs.{job_plan}
use Rattle.rht_core.proofs.Machines.HeldSteps.{soft-old}
use Rattle.std.proofs.Common.{◌≡◌, ℕ, ◌<◌, List, [], ◌∷◌, ◌++◌, length, Option, Some, None, refl, sym, ◌∙◌, ap, subst, inl, inr, arith}
use Rattle.std.proofs.lemmas.Bool.{cases_eq}
use Rattle.rht_words.specs.declared.op.Op.{Op}
use Rattle.rht_words.specs.declared.env.Env.{Env}
use Rattle.rht_words.specs.Operations.{old_of}
use Rattle.rht_words.proofs.EachElement.{AllByRecursion-cut}
use Rattle.rht_model.specs.declared.history.Call.{Call}
use Rattle.rht_model.specs.Endings.{Ending}
use Rattle.rht_callers.specs.declared.local.Local.{Local}
use Rattle.rht_callers.specs.declared.local.Doing.{Doing}
use Rattle.rht_callers.specs.Locals.{local_after, ending_of}
use Rattle.rht_core.specs.declared.event.Event.{Event}
use Rattle.rht_core.specs.declared.event.Event.TheVariants.{Enroll, Begin, Step}
use Rattle.rht_core.specs.ListedOwners.{owners_loaded}
use Rattle.rht_core.specs.Jobs.{Job, job_of, job_after, told, call_of}
use Rattle.rht_core.specs.Runs.{World, View, IsAdmitted, IsAdmittedEvent, local_of, beginning_in, planned_in, world_step}
use Rattle.rht_core.specs.Traces.{Did, Trace, Traced, trace_begun, trace_did, traces_after, traced_step, traced_of}
use Rattle.rht_core.proofs.Events.Worlds.{induct_by_last, beginning-some, planned-some, begin_none, begin_self, begin_other, step_none, step_self, step_other}
use Rattle.rht_core.proofs.Events.SoundRuns.{has_place, made_in}
use Rattle.rht_core.proofs.Events.JobsOfCallers.{is_no_job, first_job-machine, nothing-job, local_after-job, first-of}
use Rattle.rht_core.proofs.Events.Invariants.{step_of}
use Rattle.rht_core.proofs.Events.InvariantRuns.{idle_at_opening}
use Rattle.rht_core.proofs.Tracing.TracedRuns.{count-traced_of, traced_of-push, trace_begin_none, trace_begin_self, trace_begin_other, trace_step_none, trace_step_self, trace_step_other}
use Rattle.rht_core.proofs.Tracing.TracedJobs.{busy-none, IsAtJob}
use Rattle.rht_core.proofs.Tracing.RepliesInRuns.{Holds, Answered, runs-right}
use Rattle.rht_core.proofs.Finding.LookupsAtEvents.{Turns, placed'}
use Rattle.rht_core.proofs.Finding.LookupsInRuns.{event-looks, turn_at, opening-looks}
use Rattle.rht_core.proofs.Finding.PlacesInRuns.{next}
use Rattle.rht_core.proofs.Walking.MadeSerials.{made_then, made_opening}
use Rattle.rht_core.proofs.Walking.WalksAtEvents.{JobWalks, AreWalking, count', counted'}
use Rattle.rht_core.proofs.Walking.EndedWalks.{ports_then, pasts_later, WalksThen, own_walks, walks_stay, first_walks}

module _ (L : Type 0) (mix : ℕ → ℕ → ℕ → ℕ) (env : Env) where
  abbrev Rs : List Event → Traced L
  Rs events = traced_of mix env events

  -- ---- each event

  module _ (events : List Event) (event : Event) (walking : AreWalking L mix env events (Rs events))
      (turn : Turns L mix env events event walking.looking) where
    abbrev Then : ℕ → Trace → Option Job → Type 0
    Then = WalksThen L mix env events event walking.looking turn walking.of_ports walking.count walking.counted

    abbrev EachWalks : Type 0
    EachWalks = (c : ℕ) → Then c (traces_after mix (Rs events) event c) (job_of (local_of (world_step mix (Rs events).world event).core
        c).doing)

    found_with : (c : ℕ) (trace trace' : Trace) (job job' : Option Job) → trace' ≡ trace → job' ≡ job → Then c trace job
        → Then c trace' job'
    found_with c trace trace' job job' same does walks =
        subst (λ t. Then c t job') (sym same) (subst (Then c trace) (sym does) walks)

    -- who is as before knows it still
    as_before : (c : ℕ)
        → job_of (local_of (world_step mix (Rs events).world event).core c).doing ≡ job_of (local_of (Rs events).world.core c).doing
        → traces_after mix (Rs events) event c ≡ (Rs events).traces c
        → Then c (traces_after mix (Rs events) event c) (job_of (local_of (world_step mix (Rs events).world event).core c).doing)
    as_before c does same =
        let had = walking.walks c in
        found_with c ((Rs events).traces c) (traces_after mix (Rs events) event c) (job_of (local_of (Rs events).world.core c).doing) _
        same does
        (record {
          past = pasts_later L mix env events event walking.looking turn walking.of_ports walking.count walking.counted _ had.past;
          now = walks_stay L mix env events event walking.looking turn walking.of_ports walking.count walking.counted c
              ((Rs events).traces c).begin (owners_loaded env.geometry ((Rs events).traces c).steps)
              (job_of (local_of (Rs events).world.core c).doing) does
              refl had.now;
        })

  begin-walks : (events : List Event) (c : ℕ) (call : Call) (start : ℕ) (machine : Option (Doing L)) (walking : AreWalking L mix env events (Rs events))
      → (turn : Turns L mix env events (Begin c call start) walking.looking)
      → beginning_in (Rs events).world.core c call start ≡ machine → EachWalks events (Begin c call start) walking turn
  begin-walks events c call start None walking turn is = λ d.
      let r = Rs events in
      as_before events (Begin c call start) walking turn d
      (ap (λ (w : World L). job_of (local_of w.core d).doing) (begin_none L mix r.world c call start is))
      (ap (λ (t : ℕ → Trace). t d) (trace_begin_none L mix r c call start is))
  begin-walks events c call start (Some machine) walking turn is = λ d.
      let r = Rs events in
      let event = Begin c call start in
      let sound = walking.looking.placed.all in
      let can = beginning-some r.world.core.env r.world.core.enrolled r.world.core.locals c call start machine is in
      let place = has_place L mix env r.world.core c sound.stays can.below in
      let low : c < env.geometry.callers = omega (arith, can.below, sound.stays.few_enrolled) in
      let first = first_job-machine env c (local_of r.world.core c).batch start call machine
      (made_in L mix env r.world.core c call start machine sound.stays can) in
      elim (cases_eq d c) [
        | inl same ↦
            subst (λ k. Then events event walking turn k (traces_after mix r event k)
            (job_of (local_of (world_step mix r.world event).core k).doing)) (sym same)
            (found_with events event walking turn c (trace_begun (length events) (r.traces c)) _ (Some first.job) _
            (trace_begin_self L mix r c call start machine is
            ∙ ap (λ n. trace_begun n (r.traces c)) (count-traced_of L mix env events))
            (ap (λ (s : View L). job_of s.local.doing) (begin_self L mix r.world c call start machine is place) ∙ first.does)
            (record {
              past = pasts_later L mix env events event walking.looking turn walking.of_ports walking.count walking.counted _
                  (walking.walks c).past;
              now = first-of (λ job. JobWalks L mix env (events ++ event ∷ []) (world_step mix r.world event).core
                  (placed' L mix env events event walking.looking turn)
                  (count' L mix env events event walking.looking turn walking.of_ports walking.count walking.counted) (turn.then c) c
                  (length events) [] (Some job)) env call first.job
                  (first_walks L mix env events event walking.looking turn walking.of_ports walking.count walking.counted c low call)
                  first.first;
            }))
        | inr other ↦
            as_before events event walking turn d
            (ap (λ (s : View L). job_of s.local.doing) (begin_other L mix r.world c call start d other))
            (trace_begin_other L mix r c call start d other)
      ]

  step-walks : (events : List Event) (c : ℕ) (plan : Option Op) → IsAdmitted events
      → (walking : AreWalking L mix env events (Rs events))
      → (turn : Turns L mix env events (Step c) walking.looking)
      → planned_in (Rs events).world.core c ≡ plan → EachWalks events (Step c) walking turn
  step-walks events c None admitted walking turn is = λ d.
      let r = Rs events in
      as_before events (Step c) walking turn d
      (ap (λ (w : World L). job_of (local_of w.core d).doing) (step_none L mix r.world c is))
      (ap (λ (t : ℕ → Trace). t d) (trace_step_none L mix r c is))
  step-walks events c (Some op) admitted walking turn is = λ d.
      let r = Rs events in
      let core = r.world.core in
      let placed = walking.looking.placed in
      let sound = placed.all in
      let place = has_place L mix env core c sound.stays
      (planned-some core.env core.enrolled core.locals c op is).below in
      let of = step_of env mix L core placed.ghost c op sound placed.inv is in
      let old = old_of core.words op in
      let local = local_of core c in
      let kept = runs-right L mix env events c admitted in
      let none = busy-none local (r.world.books c) (nothing-job local.doing ∙ ap is_no_job of.is) kept.lists in
      let left : ◌≡◌ {A = Option Job × Option Ending}
      (job_of (local_after mix local old).0.doing, ending_of (local_after mix local old).0 (local_after mix local old).1)
      (told (job_after mix env of.job old)) =
      local_after-job mix env local of.job old none (sound.stays.locals_of c) of.is in
      let asked : (r.world.books c).call ≡ Some (call_of of.job) =
      (subst (λ (j : Option Job). IsAtJob L mix env (Holds L mix env) (Answered L mix env) j (r.world.books c) (r.traces c).steps)
      of.is kept.now).call in
      let did : Did = record { index = r.count; op = op; old = old } in
      let does : job_of (local_of (world_step mix r.world (Step c)).core c).doing ≡ (told (job_after mix env of.job old)).0 =
      ap (λ (s : View L). job_of s.local.doing) (step_self L mix r.world c op is place) ∙ ap (λ l. l.0) left in
      let found : old_of core.words op ≡ old_of core.words (job_plan env c of.job) =
      ap (old_of core.words) of.plan ∙ soft-old local.held (job_plan env c of.job) core.words in
      elim (cases_eq d c) [
        | inl same ↦
            subst (λ k. Then events (Step c) walking turn k (traces_after mix r (Step c) k)
            (job_of (local_of (world_step mix r.world (Step c)).core k).doing)) (sym same)
            (found_with events (Step c) walking turn c
            (trace_did (Some (call_of of.job)) did (told (job_after mix env of.job old)).1 (r.traces c)) _
            (told (job_after mix env of.job old)).0 _
            (trace_step_self L mix r c op is
            ∙ ap (λ (o : Option Call). trace_did o did
            (ending_of (local_after mix local old).0 (local_after mix local old).1) (r.traces c)) asked
            ∙ ap (λ l. trace_did (Some (call_of of.job)) did l.1 (r.traces c)) left)
            does
            (subst (λ o. Then events (Step c) walking turn c
            (trace_did (Some (call_of of.job)) did (told (job_after mix env of.job o)).1 (r.traces c))
            (told (job_after mix env of.job o)).0) (sym found)
            (own_walks L mix env events (Step c) walking.looking turn walking.of_ports walking.count walking.counted c (r.traces c) did
            (count-traced_of L mix env events) local.held of.job of.plan found of.is of.within (walking.walks c).past
            (subst (JobWalks L mix env events core placed walking.count (walking.looking.readers c).chains c (r.traces c).begin
            (owners_loaded env.geometry (r.traces c).steps))
            of.is (walking.walks c).now)
            (does ∙ ap (λ o. (told (job_after mix env of.job o)).0) found))))
        | inr other ↦
            as_before events (Step c) walking turn d
            (ap (λ (s : View L). job_of s.local.doing) (step_other L mix r.world c d other))
            (trace_step_other L mix r c d other)
      ]

  -- ---- runs

  event-walks : (events : List Event) (event : Event) → IsAdmitted events → IsAdmittedEvent event
      → AreWalking L mix env events (Rs events) → AreWalking L mix env (events ++ event ∷ []) (traced_step mix (Rs events) event)
  unfolding event-looks next
  event-walks events event admitted may walking =
      let turn = turn_at L mix env events admitted walking.looking event may in
      record {
        looking = event-looks L mix env events event admitted may walking.looking;
        of_ports = ports_then L mix env events event walking.looking turn walking.of_ports walking.count walking.counted;
        count = count' L mix env events event walking.looking turn walking.of_ports walking.count walking.counted;
        counted = counted' L mix env events event walking.looking turn walking.of_ports walking.count walking.counted;
        made = made_then L mix env events event admitted may walking.looking walking.made;
        walks = each event turn;
      }
    where
      each : (event : Event) → (turn : Turns L mix env events event walking.looking) → EachWalks events event walking turn
      each Enroll turn = λ d. as_before events Enroll walking turn d refl refl
      each (Begin c call start) turn = begin-walks events c call start (beginning_in (Rs events).world.core c call start) walking turn refl
      each (Step c) turn = step-walks events c (planned_in (Rs events).world.core c) admitted walking turn refl

  opening-walks : AreWalking L mix env [] (Rs [])
  opening-walks =
      let looking = opening-looks L mix env in
      let none : (i n p : ℕ) → looking.placed.places.place i n ≡ Some p → ⊥ = λ i n p is.
      (let early = (looking.placed.right.placed i n p is).early in omega (arith, early)) in
      record {
        looking = looking;
        of_ports = record {
          homes = λ i n p is. absurd (none i n p is);
          small = λ i n p is. absurd (none i n p is);
          died = λ i n p is. absurd (none i n p is);
          newest = λ i n m p q is. absurd (none i n p is);
          lower = λ i n p seatless is. absurd (none i n p is);
        };
        count = λ i. looking.placed.ghost.attached;
        counted = record { at_end = refl; rises = λ i k less most. omega arith };
        made = made_opening L mix env;
        walks = λ c. record {
          past = tt;
          now = subst (λ (local : Local L). JobWalks L mix env [] (Rs []).world.core looking.placed (λ i. looking.placed.ghost.attached)
              (looking.readers c).chains c 0 [] (job_of local.doing)) (sym (idle_at_opening env mix L c)) tt;
        };
      }

  pub has_walks : (events : List Event) → IsAdmitted events → AreWalking L mix env events (Rs events)
  has_walks =
      induct_by_last (λ events. IsAdmitted events → AreWalking L mix env events (Rs events))
      (λ none. opening-walks)
      (λ events event each all.
      let parts = AllByRecursion-cut IsAdmittedEvent events (event ∷ []) all in
      subst (AreWalking L mix env (events ++ event ∷ [])) (sym (traced_of-push L mix env events event))
      (event-walks events event parts.0 parts.1.0 (each parts.0)))
