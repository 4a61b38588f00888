-- In every run each table has a draw of a serial for its own, and so has each caller that is about to attach one.
--
-- By induction over the events, with the ghost: an operation draws a serial for its caller, or attaches the caller's table, which has the
-- caller's draw from then on, or leaves all draws.
use Rattle.std.proofs.Common.{◌≡◌, ℕ, ◌+◌, ◌⊎◌, cond, List, [], ◌∷◌, refl, sym, ap, ◌∙◌, subst, inl, inr, arith}
use Rattle.std.specs.Prelude.{Option, Some, None, ◌==◌}
use Rattle.std.proofs.lemmas.Bool.{cases_eq, eq-eqb}
use Rattle.rht_words.specs.declared.op.Op.{Op}
use Rattle.rht_words.specs.declared.op.Op.TheVariants.{Add}
use Rattle.rht_words.specs.declared.env.Env.{Env}
use Rattle.rht_words.specs.Operations.{old_of}
use Rattle.rht_words.specs.Places.{NextSerial, EnrolledCallers, word_at}
use Rattle.rht_words.proofs.Memory.{Memory, is_write}
use Rattle.rht_words.proofs.OpeningLaws.{stand_in_place}
use Rattle.rht_model.specs.declared.history.Call.{Call}
use Rattle.rht_callers.specs.declared.local.Doing.{Doing}
use Rattle.rht_core.specs.declared.event.Event.{Event}
use Rattle.rht_core.specs.declared.event.Event.TheVariants.{Enroll, Begin, Step}
use Rattle.rht_core.specs.Jobs.{job_of}
use Rattle.rht_core.specs.Runs.{World, View, enrolling, opening, local_of, planned_in, beginning_in, view_of, world_step, run_from, run_of, IsAdmitted, IsAdmittedEvent}
use Rattle.rht_core.specs.Tables.{next_serial, drawn_from}
use Rattle.rht_ghost.proofs.Theory.Ghosts.{Ghost}
use Rattle.rht_ghost.proofs.Theory.Steps.{mem}
use Rattle.rht_core.proofs.Events.Invariants.{Inv, StepOf, kept, enrolled}
use Rattle.rht_core.proofs.Events.InvariantRuns.{opening_ghost, opening_inv, idle_at_opening}
use Rattle.rht_core.proofs.Events.JobsOfCallers.{first_job-machine, left-job}
use Rattle.rht_core.proofs.Events.RangesInRuns.{opens-all, event-all}
use Rattle.rht_core.proofs.Events.SoundRuns.{has_place, made_in}
use Rattle.rht_core.proofs.Events.Worlds.{beginning-some, planned-some, begin_none, begin_self, begin_other, step_none, step_self, step_other, step_words}
use Rattle.rht_core.proofs.Counting.TableDraws.{AreDrawn, AreGrown, still-drawn, none-grown, grown-on}
use Rattle.rht_core.proofs.Counting.DrawnJobs.{DrawnLeft, begins-drawn}
use Rattle.rht_core.proofs.Counting.StepDraws.{left-still, memory_of, HasDrawn, recount, DrawsAt, IsLater, after, step-draws, step-grown, others-left}

module _ (env : Env) (mix : ℕ → ℕ → ℕ → ℕ) where
  module _ (L : Type 0) where
    module _ (w : World L) (drawn : ℕ) (has : HasDrawn env mix L w drawn) where
      abbrev M : Memory
      M = memory_of env mix L w

      -- ---- one event

      abbrev Counted : World L → Type 0
      Counted v = IsLater env mix L w drawn has v (drawn + cond (next_serial w == next_serial v) 0 1)

      serial-of : (v : World L) → v.core.env ≡ env → next_serial v ≡ memory_of env mix L v NextSerial
      serial-of v same = ap (λ (e : Env). word_at e.geometry v.core.words NextSerial) same

      -- an event that leaves the next serial counts for nothing
      same-counted : (v : World L) → next_serial v ≡ next_serial w → drawn ≡ drawn + cond (next_serial w == next_serial v) 0 1
      same-counted v same =
          let none : cond {A = ℕ} (next_serial w == next_serial v) 0 1 ≡ 0 =
          ap (λ t. cond {A = ℕ} t 0 1) (eq-eqb (next_serial w) (next_serial v) (sym same)) in
          omega (arith, none)

      nothing-drawn : (v : World L) → v ≡ w → Counted v
      nothing-drawn v same = subst Counted (sym same) (record {
        now = recount env mix L w drawn (drawn + cond (next_serial w == next_serial w) 0 1) (same-counted w refl) has;
        grown = none-grown has.ghost has.of_table;
      })

      enroll-drawn : IsAdmittedEvent Enroll → Counted (world_step mix w Enroll)
      enroll-drawn may =
          let v = world_step mix w Enroll in
          let k = kept env mix L w.core has.ghost Enroll has.all has.inv in
          let rely = (enrolled env mix L w.core has.ghost has.all has.inv).1 in
          let op = enrolling w.core.env in
          let same : memory_of env mix L v NextSerial ≡ M NextSerial =
          (is_write env.geometry w.core.words EnrolledCallers op has.all.stays.all_words tt refl).others NextSerial tt (λ e. cc) in
          let serials = serial-of v k.inv.same_env ∙ same ∙ sym (serial-of w has.inv.same_env) in
          record {
            now =
                record {
                  ghost = has.ghost;
                  inv = subst (Inv env mix L v.core) k.ghost_kept k.inv;
                  all = event-all L mix env w Enroll may has.all;
                  of_table = has.of_table;
                  of_caller = has.of_caller;
                  drawn_are = subst (λ n. AreDrawn n (memory_of env mix L v NextSerial) has.ghost has.of_table has.of_caller) (same-counted v serials)
                      (still-drawn drawn (M NextSerial) (memory_of env mix L v NextSerial) has.ghost has.ghost has.of_table has.of_caller same
                      (record { attached = refl; serials = λ τ. refl }) has.drawn_are);
                  jobs = λ c. left-still env mix c M (memory_of env mix L v) has.ghost has.ghost (rely c).holdings (has.of_caller c)
                      (job_of (view_of w c).local.doing) (has.inv.each c) (has.jobs c);
                };
            grown = none-grown has.ghost has.of_table;
          }

      begin-drawn : (c : ℕ) (call : Call) (start : ℕ) (machine : Option (Doing L)) → IsAdmittedEvent (Begin c call start)
          → beginning_in w.core c call start ≡ machine → Counted (world_step mix w (Begin c call start))
      begin-drawn c call start None may is = nothing-drawn (world_step mix w (Begin c call start)) (begin_none L mix w c call start is)
      begin-drawn c call start (Some machine) may is =
          let v = world_step mix w (Begin c call start) in
          let k = kept env mix L w.core has.ghost (Begin c call start) has.all has.inv in
          record {
            now =
                record {
                  ghost = has.ghost;
                  inv = subst (Inv env mix L v.core) k.ghost_kept k.inv;
                  all = event-all L mix env w (Begin c call start) may has.all;
                  of_table = has.of_table;
                  of_caller = has.of_caller;
                  drawn_are = subst (λ n. AreDrawn n (M NextSerial) has.ghost has.of_table has.of_caller) (same-counted v refl) has.drawn_are;
                  jobs = λ i. elim (cases_eq i c) [
                    | inl e ↦ subst (λ d. DrawnLeft M (has.of_caller d) (job_of (view_of v d).local.doing)) (sym e) self
                    | inr ne ↦ subst (λ (view : View L). DrawnLeft M (has.of_caller i) (job_of view.local.doing))
                        (sym (begin_other L mix w c call start i ne)) (has.jobs i)
                  ];
                };
            grown = none-grown has.ghost has.of_table;
          }
        where
          self : DrawnLeft M (has.of_caller c) (job_of (view_of (world_step mix w (Begin c call start)) c).local.doing)
          self =
              let can = beginning-some w.core.env w.core.enrolled w.core.locals c call start machine is in
              let place = has_place L mix env w.core c has.all.stays can.below in
              let first = first_job-machine env c (local_of w.core c).batch start call machine (made_in L mix env w.core c call start machine has.all.stays can) in
              subst (λ (view : View L). DrawnLeft M (has.of_caller c) (job_of view.local.doing))
              (sym (begin_self L mix w c call start machine is place))
              (subst (DrawnLeft M (has.of_caller c)) (sym first.does)
              (begins-drawn M (has.of_caller c) env call first.job first.first))

      step-count : (c : ℕ) (op : Op) → IsAdmittedEvent (Step c) → (is : planned_in w.core c ≡ Some op)
          → (of : StepOf env mix L w.core has.ghost c op)
          → (step-draws env mix L w drawn has c op is of).count ≡ drawn + cond (next_serial w == next_serial (world_step mix w (Step c))) 0 1
      step-count c op may is of =
          let v = world_step mix w (Step c) in
          let k = kept env mix L w.core has.ghost (Step c) has.all has.inv in
          let same : memory_of env mix L v NextSerial ≡ after env mix L w drawn has c op is of NextSerial = ap (λ ws. mem env mix ws NextSerial) (step_words L mix w c op is) in
          (step-draws env mix L w drawn has c op is of).counts
          ∙ ap (λ s. drawn + cond (s == after env mix L w drawn has c op is of NextSerial) 0 1) (sym (serial-of w has.inv.same_env))
          ∙ ap (λ s. drawn + cond (next_serial w == s) 0 1) (sym (serial-of v k.inv.same_env ∙ same))

      step-drawn : (c : ℕ) (plan : Option Op) → IsAdmittedEvent (Step c) → planned_in w.core c ≡ plan
          → Counted (world_step mix w (Step c))
      step-drawn c None may is = nothing-drawn (world_step mix w (Step c)) (step_none L mix w c is)
      step-drawn c (Some op) may is =
          let v = world_step mix w (Step c) in
          let k = kept env mix L w.core has.ghost (Step c) has.all has.inv in
          let moves = k.ghost_kept.some op is in
          let draws = step-draws env mix L w drawn has c op is moves.0 in
          let words = step_words L mix w c op is in
          let same : memory_of env mix L v NextSerial ≡ after env mix L w drawn has c op is moves.0 NextSerial = ap (λ ws. mem env mix ws NextSerial) words in
          let count = step-count c op may is moves.0 in
          record {
            now =
                record {
                  ghost = k.ghost;
                  inv = k.inv;
                  all = event-all L mix env w (Step c) may has.all;
                  of_table = draws.of_table;
                  of_caller = draws.of_caller;
                  drawn_are =
                      subst (λ n. AreDrawn n (memory_of env mix L v NextSerial) k.ghost draws.of_table draws.of_caller) count
                      (subst (λ s. AreDrawn draws.count s k.ghost draws.of_table draws.of_caller) (sym same)
                      (subst (λ H. AreDrawn draws.count (after env mix L w drawn has c op is moves.0 NextSerial) H draws.of_table draws.of_caller) (sym moves.1)
                      draws.drawn_are));
                  jobs = λ i.
                      subst (λ ws. DrawnLeft (mem env mix ws) (draws.of_caller i) (job_of (view_of v i).local.doing)) (sym words)
                      (elim (cases_eq i c) [
                        | inl e ↦ subst (λ d. DrawnLeft (after env mix L w drawn has c op is moves.0) (draws.of_caller d) (job_of (view_of v d).local.doing)) (sym e)
                            (self moves.0)
                        | inr ne ↦ subst (λ (view : View L). DrawnLeft (after env mix L w drawn has c op is moves.0) (draws.of_caller i) (job_of view.local.doing))
                            (sym (step_other L mix w c i ne)) (others-left env mix L w drawn has c op is moves.0 i ne)
                      ]);
                };
            grown = subst (λ H. AreGrown has.ghost has.of_table H draws.of_table) (sym moves.1) (step-grown env mix L w drawn has c op is moves.0);
          }
        where
          self : (of : StepOf env mix L w.core has.ghost c op)
              → DrawnLeft (after env mix L w drawn has c op is of) ((step-draws env mix L w drawn has c op is of).of_caller c) (job_of (view_of (world_step mix w (Step c)) c).local.doing)
          self of =
              let can = planned-some w.core.env w.core.enrolled w.core.locals c op is in
              let place = has_place L mix env w.core c has.all.stays can.below in
              let draws = step-draws env mix L w drawn has c op is of in
              let local = local_of w.core c in
              let left = left-job mix env local.doing of.job (old_of w.core.words op) (has.all.stays.locals_of c).doing of.is in
              subst (λ (view : View L). DrawnLeft (after env mix L w drawn has c op is of) (draws.of_caller c) (job_of view.local.doing))
              (sym (step_self L mix w c op is place))
              (subst (DrawnLeft (after env mix L w drawn has c op is of) (draws.of_caller c)) (sym left) draws.left)

      event-drawn : (event : Event) → IsAdmittedEvent event → Counted (world_step mix w event)
      event-drawn Enroll may = enroll-drawn may
      event-drawn (Begin c call start) may = begin-drawn c call start (beginning_in w.core c call start) may refl
      event-drawn (Step c) may = step-drawn c (planned_in w.core c) may refl

      -- ---- the same by the ghost that the event leaves

      -- this event adds one to the next serial
      abbrev pub DrawsOne : Event → Type 0
      DrawsOne event = (c : ℕ) × (event ≡ Step c) × (planned_in w.core c ≡ Some (Add 3 1))

      pub record EventDraws (event : Event) (H : Ghost) : Type 0 where
        pub count : ℕ
        pub at : DrawsAt env mix L (world_step mix w event).core H count
        pub by : (count ≡ drawn) ⊎ ((count ≡ drawn + 1) × DrawsOne event)

      same-draws : (v : World L) → v ≡ w → DrawsAt env mix L v.core has.ghost drawn
      same-draws v same = subst (λ (u : World L). DrawsAt env mix L u.core has.ghost drawn) (sym same) (record {
        of_table = has.of_table;
        of_caller = has.of_caller;
        drawn_are = has.drawn_are;
        jobs = has.jobs;
      })

      enroll-draws : IsAdmittedEvent Enroll → EventDraws Enroll has.ghost
      unfolding enroll-drawn
      enroll-draws may =
          let now = (enroll-drawn may).now in
          let v = world_step mix w Enroll in
          let k = kept env mix L w.core has.ghost Enroll has.all has.inv in
          let same : memory_of env mix L v NextSerial ≡ M NextSerial =
          (is_write env.geometry w.core.words EnrolledCallers (enrolling w.core.env) has.all.stays.all_words tt refl).others NextSerial tt
          (λ e. cc) in
          record {
            count = drawn + cond (next_serial w == next_serial v) 0 1;
            at = record { of_table = now.of_table; of_caller = now.of_caller; drawn_are = now.drawn_are; jobs = now.jobs };
            by = inl (sym (same-counted v (serial-of v k.inv.same_env ∙ same ∙ sym (serial-of w has.inv.same_env))));
          }

      begin-draws : (c : ℕ) (call : Call) (start : ℕ) (machine : Option (Doing L)) → IsAdmittedEvent (Begin c call start)
          → beginning_in w.core c call start ≡ machine → EventDraws (Begin c call start) has.ghost
      unfolding begin-drawn
      begin-draws c call start None may is = record {
        count = drawn;
        at = same-draws (world_step mix w (Begin c call start)) (begin_none L mix w c call start is);
        by = inl refl;
      }
      begin-draws c call start (Some machine) may is =
          let now = (begin-drawn c call start (Some machine) may is).now in
          let v = world_step mix w (Begin c call start) in
          record {
            count = drawn + cond (next_serial w == next_serial v) 0 1;
            at = record { of_table = now.of_table; of_caller = now.of_caller; drawn_are = now.drawn_are; jobs = now.jobs };
            by = inl (sym (same-counted v refl));
          }

      step-draws-at : (c : ℕ) (plan : Option Op) → IsAdmittedEvent (Step c) → planned_in w.core c ≡ plan
          → EventDraws (Step c) (kept env mix L w.core has.ghost (Step c) has.all has.inv).ghost
      unfolding step-drawn
      step-draws-at c None may is =
          let k = kept env mix L w.core has.ghost (Step c) has.all has.inv in
          record {
            count = drawn;
            at = subst (λ H. DrawsAt env mix L (world_step mix w (Step c)).core H drawn) (sym (k.ghost_kept.none is))
                (same-draws (world_step mix w (Step c)) (step_none L mix w c is));
            by = inl refl;
          }
      step-draws-at c (Some op) may is =
          let k = kept env mix L w.core has.ghost (Step c) has.all has.inv in
          let of = (k.ghost_kept.some op is).0 in
          let now = (step-drawn c (Some op) may is).now in
          let count = step-count c op may is of in
          record {
            count = drawn + cond (next_serial w == next_serial (world_step mix w (Step c))) 0 1;
            at = record { of_table = now.of_table; of_caller = now.of_caller; drawn_are = now.drawn_are; jobs = now.jobs };
            by = elim (step-draws env mix L w drawn has c op is of).by [
              | inl none ↦ inl (sym count ∙ none)
              | inr one ↦ inr (sym count ∙ one.0, (c, refl, is ∙ ap Some one.1))
            ];
          }

      pub event-draws : (event : Event) → IsAdmittedEvent event
          → EventDraws event (kept env mix L w.core has.ghost event has.all has.inv).ghost
      event-draws Enroll may =
          subst (EventDraws Enroll) (sym (kept env mix L w.core has.ghost Enroll has.all has.inv).ghost_kept) (enroll-draws may)
      event-draws (Begin c call start) may =
          subst (EventDraws (Begin c call start)) (sym (kept env mix L w.core has.ghost (Begin c call start) has.all has.inv).ghost_kept)
          (begin-draws c call start (beginning_in w.core c call start) may refl)
      event-draws (Step c) may = step-draws-at c (planned_in w.core c) may refl

    -- ---- all events

    opening-drawn : HasDrawn env mix L (opening env) 1
    opening-drawn = record {
      ghost = opening_ghost env;
      inv = opening_inv env mix L;
      all = opens-all L mix env;
      of_table = λ τ. 0;
      of_caller = λ c. None;
      drawn_are = record {
        next = (stand_in_place env).each NextSerial tt;
        before = λ τ l. omega arith;
        serials = λ τ l. refl;
        apart = λ τ σ l m same. omega (arith, l, m);
        held = λ c draw is. absurd (cc);
        beside = λ c draw τ is l. absurd (cc);
        alone = λ c k draw is other. absurd (cc);
      };
      jobs = λ c. rw (idle_at_opening env mix L c) tt;
    }

    pub opening-draws : DrawsAt env mix L (opening env).core (opening_ghost env) 1
    unfolding opening-drawn
    opening-draws = record {
      of_table = opening-drawn.of_table;
      of_caller = opening-drawn.of_caller;
      drawn_are = opening-drawn.drawn_are;
      jobs = opening-drawn.jobs;
    }

    pub from-drawn : (w : World L) (drawn : ℕ) (events : List Event) → IsAdmitted events → (has : HasDrawn env mix L w drawn)
        → IsLater env mix L w drawn has (run_from mix w events) (drawn + drawn_from L mix w events)
    from-drawn w drawn [] admitted has = record {
      now = recount env mix L w drawn (drawn + 0) (let same : drawn ≡ drawn + 0 = omega arith in same) has;
      grown = none-grown has.ghost has.of_table;
    }
    from-drawn w drawn (event ∷ events) admitted has =
        let next = world_step mix w event in
        let one = cond {A = ℕ} (next_serial w == next_serial next) 0 1 in
        let first = event-drawn w drawn has event admitted.0 in
        let rest = from-drawn next (drawn + one) events admitted.1 first.now in
        record {
          now = recount env mix L (run_from mix next events) (drawn + one + drawn_from L mix next events) (drawn + (one + drawn_from L mix next events))
              (let same : drawn + one + drawn_from L mix next events ≡ drawn + (one + drawn_from L mix next events) = omega arith in same)
              rest.now;
          grown = grown-on has.ghost first.now.ghost rest.now.ghost has.of_table first.now.of_table rest.now.of_table first.grown rest.grown;
        }

    pub runs-drawn : (events : List Event) → IsAdmitted events
        → HasDrawn env mix L (run_of mix env events) (1 + drawn_from L mix (opening env) events)
    runs-drawn events admitted = (from-drawn (opening env) 1 events admitted opening-drawn).now
