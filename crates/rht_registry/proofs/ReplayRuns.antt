-- A replay is a run: its events are those of one, which ends where the replay does.
--
-- An event of a replay is at most two of a run, the beginning of the caller's next call and a step. So one fact is kept along the parts of
-- a replay: the run of the events so far leaves what the replay has, and each call that is left may begin in a run (`IsLed`). Parts that
-- are played one behind the other put their events one behind the other. That the replay with its lines ends where the one with its
-- events does is seen part by part, since what is kept of an event says nothing of what comes next.
use Rattle.std.proofs.Common.{◌≡◌, ℕ, zero, suc, ◌+◌, ◌-◌, ◌^◌, ◌<◌, ◌≤◌, ◌==◌, ◌||◌, Bool, true, false, cond, List, [], ◌∷◌, ◌++◌, replicate, refl, sym, ◌∙◌, ap, subst, append_assoc, append-nil, arith}
use Rattle.std.specs.Prelude.{Option, None, nat_lt}
use Rattle.std.specs.List.{AllByRecursion}
use Rattle.rht_words.specs.declared.env.Env.{Env}
use Rattle.rht_words.proofs.EachElement.{AllByRecursion-append}
use Rattle.rht_model.specs.declared.history.Call.{Call}
use Rattle.rht_core.specs.declared.event.Event.{Event}
use Rattle.rht_core.specs.declared.event.Event.TheVariants.{Enroll, Begin, Step}
use Rattle.rht_core.specs.declared.event.Stepped.{Stepped}
use Rattle.rht_core.specs.Locals.{is_idle}
use Rattle.rht_core.specs.Runs.{Core, World, local_of, core_step, run_of, IsAdmitted, IsAdmittedCall, IsAdmittedEvent}
use Rattle.rht_core.specs.Serving.{calls_of}
use Rattle.rht_core.proofs.Events.Worlds.{run_of-push}
use Rattle.rht_script.specs.declared.script.Script.{Script}
use Rattle.rht_script.specs.declared.script.Sched.{Sched}
use Rattle.rht_script.specs.declared.script.Sched.TheVariants as lines
use Rattle.rht_registry.specs.Replays.{most_events, Playing, left_at, is_through, still_to_end, times, given, readied, turn_of, event_of, lines_at, given_events, readied_events, events_at, stepping_with, finishing_with, line_with, schedule_with, playing_from, IsInRun}
use Rattle.rht_registry.specs.Players.{IsLineFor}

module _ (env : Env) where
  -- the line is one of the table's workers'
  abbrev IsFor : Sched → Type 0
  IsFor line = IsLineFor env.geometry.callers line

  small-worker : (worker : ℕ) → worker ≤ env.geometry.callers → worker - 1 < 2 ^ 32
  small-worker worker last =
      let few = env.geometry.within.callers_within.1 in omega (arith, last, few)

  enrolls-admitted : (n : ℕ) → IsAdmitted (replicate n Enroll)
  enrolls-admitted zero = tt
  enrolls-admitted (suc n) = (tt, enrolls-admitted n)

  -- the calls of a worker are among those of all commands
  calls-may : (worker : ℕ) (commands : List (ℕ × Call)) → AllByRecursion (λ command. IsAdmittedCall command.1) commands
      → AllByRecursion IsAdmittedCall (calls_of worker commands)
  calls-may worker [] may = tt
  calls-may worker (command ∷ commands) may = by_test (command.0 == worker) (calls-may worker commands may.1)
    where
      by_test : (own : Bool) → AllByRecursion IsAdmittedCall (calls_of worker commands)
          → AllByRecursion IsAdmittedCall (cond own (command.1 ∷ calls_of worker commands) (calls_of worker commands))
      by_test true others = (may.0, others)
      by_test false others = others

  -- where a caller takes a call, the others may begin
  left-others : (left : ℕ → List Call) (c k : ℕ) (calls : List Call) → AllByRecursion IsAdmittedCall calls
      → AllByRecursion IsAdmittedCall (left k) → AllByRecursion IsAdmittedCall (left_at left c calls k)
  left-others left c k calls here there = by_test (k == c)
    where
      by_test : (own : Bool) → AllByRecursion IsAdmittedCall (cond own calls (left k))
      by_test true = here
      by_test false = there

module _ {M : Type 0} (mix : ℕ → ℕ → ℕ → ℕ) (env : Env) where
  -- the run of these events leaves what the replay has, and each call that is left may begin
  record IsLed (p : Playing M) (events : List Event) : Type 0 where
    admitted : IsAdmitted events
    same : (run_of {M = M} mix env events).core ≡ p.core
    left : (c : ℕ) → AllByRecursion (IsAdmittedCall) (p.left c)

  -- ---- one event

  -- one event more of the run
  push-led : (p q : Playing M) (events : List Event) (event : Event) → IsLed p events → IsAdmittedEvent event
      → q.core ≡ (core_step mix p.core event).0 → ((c : ℕ) → AllByRecursion (IsAdmittedCall) (q.left c)) → IsLed q (events ++ event ∷ [])
  push-led p q events event led may is left = record {
    admitted = AllByRecursion-append IsAdmittedEvent events (event ∷ []) led.admitted (may, tt);
    same =
        ap (λ (w : World M). w.core) (run_of-push M mix env events event)
        ∙ ap (λ (k : Core M). (core_step mix k event).0) led.same ∙ sym is;
    left = left;
  }

  -- and none
  none-led : (p : Playing M) (events : List Event) → IsLed p events → IsLed p (events ++ [])
  none-led p events led = subst (IsLed p) (sym (append-nil events)) led

  given-led : (p : Playing M) (c : ℕ) (calls : List Call) (events : List Event) → c < 2 ^ 32 → IsLed p events
      → AllByRecursion (IsAdmittedCall) calls → IsLed (given mix p c calls) (events ++ given_events c calls)
  given-led p c [] events small led may = none-led p events led
  given-led p c (call ∷ calls) events small led may =
      push-led p (given mix p c (call ∷ calls)) events (Begin c call 0) led (small, may.0) refl
      (λ k. left-others env p.left c k calls may.1 (led.left k))

  readied-led : (p : Playing M) (c : ℕ) (events : List Event) → c < 2 ^ 32 → IsLed p events
      → IsLed (readied mix p c) (events ++ readied_events mix p c)
  readied-led p c events small led = by_test (is_idle (local_of p.core c))
    where
      by_test : (idle : Bool)
          → IsLed (cond idle (given mix p c (p.left c)) p) (events ++ cond idle (given_events c (p.left c)) [])
      by_test true = given-led p c (p.left c) events small led (led.left c)
      by_test false = none-led p events led

  -- an event of a replay
  event-led : (shown : Bool) (c : ℕ) → c < 2 ^ 32 → (p : Playing M) (events : List Event) → IsLed p events
      → IsLed (event_of mix p c).0 (events ++ events_at mix shown c p)
  event-led shown c small p events led = by_test (nat_lt p.made most_events)
    where
      over : Playing M × Option Stepped
      over = (record p { over = true }, None)

      by_test : (more : Bool)
          → IsLed (cond more (turn_of mix (readied mix p c) c) over).0
          (events ++ cond more (readied_events mix p c ++ Step c ∷ []) [])
      by_test true =
          let q = readied mix p c in
          let ready = readied-led p c events small led in
          subst (IsLed (turn_of mix q c).0) (append_assoc events (readied_events mix p c) (Step c ∷ []))
          (push-led q (turn_of mix q c).0 (events ++ readied_events mix p c) (Step c) ready small refl ready.left)
      by_test false =
          none-led over.0 events record { admitted = led.admitted; same = led.same; left = led.left }

  -- ---- parts of a replay

  -- a part leads on from wherever it begins
  abbrev Leads : {A : Type 0} → (A → Playing M) → (A → A × List Event) → Type 0
  Leads {A} of part = (a : A) (events : List Event) → IsLed (of a) events → IsLed (of (part a).0) (events ++ (part a).1)

  times-led : {A : Type 0} (of : A → Playing M) (part : A → A × List Event) → Leads of part → (n : ℕ) → Leads of (times n part)
  times-led of part leads zero a events led = none-led (of a) events led
  times-led of part leads (suc n) a events led =
      let first = part a in
      let next = times n part first.0 in
      subst (IsLed (of next.0)) (append_assoc events first.1 next.1)
      (times-led of part leads n first.0 (events ++ first.1) (leads a events led))

  -- ---- the lines of a schedule

  stepping-led : (shown : Bool) (c : ℕ) → c < 2 ^ 32 → Leads (λ p. p) (stepping_with mix (events_at mix) shown c)
  stepping-led shown c small p events led = by_test p.over
    where
      none : Playing M × List Event
      none = (p, [])

      some : Playing M × List Event
      some = ((event_of mix p c).0, events_at mix shown c p)

      by_test : (over : Bool) → IsLed (cond over none some).0 (events ++ (cond over none some).1)
      by_test true = none-led p events led
      by_test false = event-led shown c small p events led

  finishing-led : (c : ℕ) → c < 2 ^ 32 → Leads (λ a. a.1) (finishing_with mix (events_at mix) c)
  finishing-led c small (calls, p) events led = by_test (calls == 0 || p.over || is_through p c)
    where
      none : (ℕ × Playing M) × List Event
      none = ((calls, p), [])

      some : (ℕ × Playing M) × List Event
      some = let event = event_of mix p c in ((still_to_end calls event.1, event.0), events_at mix false c p)

      by_test : (done : Bool) → IsLed (cond done none some).0.1 (events ++ (cond done none some).1)
      by_test true = none-led p events led
      by_test false = event-led false c small p events led

  line-led : (line : Sched) → IsFor env line → Leads (λ p. p) (line_with mix (events_at mix) line)
  line-led (lines.Step worker number) for =
      times-led (λ p. p) (stepping_with mix (events_at mix) true (worker - 1))
      (stepping-led true (worker - 1) (small-worker env worker for.1)) number
  line-led (lines.Skip worker number) for =
      times-led (λ p. p) (stepping_with mix (events_at mix) false (worker - 1))
      (stepping-led false (worker - 1) (small-worker env worker for.1)) number
  line-led (lines.Finish worker number) for = λ p events led.
      times-led (λ a. a.1) (finishing_with mix (events_at mix) (worker - 1))
      (finishing-led (worker - 1) (small-worker env worker for.1)) (most_events + 1) (number, p) events led

  schedule-led : (schedule : List Sched) → AllByRecursion (IsFor env) schedule
      → Leads (λ p. p) (schedule_with mix (events_at mix) schedule)
  schedule-led [] for p events led = none-led p events led
  schedule-led (line ∷ schedule) for p events led =
      let first = line_with mix (events_at mix) line p in
      let next = schedule_with mix (events_at mix) schedule first.0 in
      subst (IsLed next.0) (append_assoc events first.1 next.1)
      (schedule-led schedule for.1 first.0 (events ++ first.1) (line-led line for.0 p events led))

  -- ---- the beginning

  begins-led : (commands : List (ℕ × Call)) → AllByRecursion (λ command. IsAdmittedCall command.1) commands
      → IsLed (playing_from mix env commands) (replicate env.geometry.callers Enroll)
  begins-led commands may = record {
    admitted = enrolls-admitted env env.geometry.callers;
    same = refl;
    left = λ c. calls-may env (c + 1) commands may;
  }

-- ---- what is kept of an event changes nothing

module _ {A B C : Type 0} (f : A → A × List B) (g : A → A × List C) (alike : (a : A) → (f a).0 ≡ (g a).0) where
  times-alike : (n : ℕ) (a : A) → (times n f a).0 ≡ (times n g a).0
  times-alike zero a = refl
  times-alike (suc n) a = ap (λ b. (times n f b).0) (alike a) ∙ times-alike n (g a).0

module _ {M : Type 0} (mix : ℕ → ℕ → ℕ → ℕ) {B C : Type 0} (kept : Bool → ℕ → Playing M → List B) (other : Bool → ℕ → Playing M → List C) where
  stepping-alike : (shown : Bool) (c : ℕ) (p : Playing M)
      → (stepping_with mix kept shown c p).0 ≡ (stepping_with mix other shown c p).0
  stepping-alike shown c p = by_test p.over
    where
      none : {X : Type 0} → Playing M × List X
      none = (p, [])

      by_test : (over : Bool)
          → (cond over none ((event_of mix p c).0, kept shown c p)).0 ≡ (cond over none ((event_of mix p c).0, other shown c p)).0
      by_test true = refl
      by_test false = refl

  finishing-alike : (c : ℕ) (a : ℕ × Playing M) → (finishing_with mix kept c a).0 ≡ (finishing_with mix other c a).0
  finishing-alike c (calls, p) = by_test (calls == 0 || p.over || is_through p c)
    where
      none : {X : Type 0} → (ℕ × Playing M) × List X
      none = ((calls, p), [])

      after : ℕ × Playing M
      after = let event = event_of mix p c in (still_to_end calls event.1, event.0)

      by_test : (done : Bool)
          → (cond done none (after, kept false c p)).0 ≡ (cond done none (after, other false c p)).0
      by_test true = refl
      by_test false = refl

  line-alike : (line : Sched) (p : Playing M) → (line_with mix kept line p).0 ≡ (line_with mix other line p).0
  line-alike (lines.Step worker number) p =
      times-alike (stepping_with mix kept true (worker - 1)) (stepping_with mix other true (worker - 1))
      (stepping-alike true (worker - 1)) number p
  line-alike (lines.Skip worker number) p =
      times-alike (stepping_with mix kept false (worker - 1)) (stepping_with mix other false (worker - 1))
      (stepping-alike false (worker - 1)) number p
  line-alike (lines.Finish worker number) p =
      ap (λ a. a.1)
      (times-alike (finishing_with mix kept (worker - 1)) (finishing_with mix other (worker - 1))
      (finishing-alike (worker - 1)) (most_events + 1) (number, p))

  schedule-alike : (schedule : List Sched) (p : Playing M)
      → (schedule_with mix kept schedule p).0 ≡ (schedule_with mix other schedule p).0
  schedule-alike [] p = refl
  schedule-alike (line ∷ schedule) p =
      ap (λ q. (schedule_with mix kept schedule q).0) (line-alike line p)
      ∙ schedule-alike schedule (line_with mix other line p).0

-- ---- the whole

-- a replay of lines for its workers and of commands that may begin is a run
pub replay-runs : (M : Type 0) (mix : ℕ → ℕ → ℕ → ℕ) (env : Env) (script : Script)
    → AllByRecursion (λ command. IsAdmittedCall command.1) script.commands.items
    → AllByRecursion (IsLineFor env.geometry.callers) script.schedule.items → IsInRun M mix env script
replay-runs M mix env script may for =
    let p = playing_from {M = M} mix env script.commands.items in
    let led =
    schedule-led mix env script.schedule.items for p (replicate env.geometry.callers Enroll)
    (begins-led mix env script.commands.items may) in
    record {
      admitted = led.admitted;
      end =
          led.same
          ∙ ap (λ (q : Playing M). q.core)
          (sym (schedule-alike mix (lines_at mix) (events_at mix) script.schedule.items p));
    }
