-- In every run each operation that a caller performs stands in the trace of the call that it has in progress there.
-- By induction over the events: what is recorded earlier stands in its call, whatever event comes next, since calls are only
-- added to and a call that begins finds no operations of another; and what is recorded at the last event was added there.
-- It stands in no other call, since the operations of all calls of a caller come in rising order of their events.
use Rattle.std.proofs.Common.{◌≡◌, ℕ, zero, suc, ◌+◌, ◌≤◌, ◌<◌, true, inl, inr, List, [], ◌∷◌, ◌++◌, length, map, take, refl, sym, ap, ◌∙◌, subst, arith}
use Rattle.std.specs.Prelude.{Option, Some, None, IfSome}
use Rattle.std.specs.List.{AllByRecursion, Contains, slice_get}
use Rattle.std.proofs.lemmas.Bool.{cases_eq}
use Rattle.std.proofs.lemmas.List.{length_push, length-map, map-append, nil_from_length}
use Rattle.std.proofs.lemmas.List.Elements.{All-contains, All-from_recursion, Contains-append_left, Contains-append_right}
use Rattle.std.proofs.lemmas.Option.{slice_get_within, slice_get-get_or}
use Rattle.rht_words.specs.declared.op.Op.{Op}
use Rattle.rht_words.specs.declared.env.Env.{Env}
use Rattle.rht_words.specs.Operations.{old_of}
use Rattle.rht_words.proofs.EachElement.{AllByRecursion-cut, AllByRecursion-weaker, slice_get-push, slice_get-push_last}
use Rattle.rht_model.specs.declared.history.Call.{Call}
use Rattle.rht_model.specs.Endings.{Ending, ended_with}
use Rattle.rht_core.specs.declared.book.Book.{Book}
use Rattle.rht_core.specs.declared.event.Event.{Event}
use Rattle.rht_core.specs.declared.event.Event.TheVariants.{Enroll, Begin, Step}
use Rattle.rht_callers.specs.declared.local.Local.{Local}
use Rattle.rht_callers.specs.declared.local.Doing.{Doing}
use Rattle.rht_callers.specs.Locals.{is_idle, plan_of, local_after, ending_of}
use Rattle.rht_core.specs.Jobs.{Job, call_of, job_of}
use Rattle.rht_core.specs.Runs.{World, local_of, beginning_in, planned_in, run_of, IsAdmitted, IsAdmittedEvent}
use Rattle.rht_core.specs.Traces.{Did, Past, Trace, Traced, trace_begun, trace_did, traces_after, traced_of, steps_by_call, IsStepOf, IsRising, behind_steps, behind_call, behind_calls, AreInOrder}
use Rattle.rht_core.specs.Replies.{IsBookOfIdle}
use Rattle.rht_core.specs.Laws.{IsInProgress, IsRecorded, calls_ended, AllStepsTraced}
use Rattle.rht_ghost.proofs.Theory.Ghosts.{some-same}
use Rattle.rht_core.proofs.Events.Worlds.{induct_by_last, take-push, take-push_all, beginning-some, planned-some}
use Rattle.rht_callers.proofs.CallBeginnings.{idle_plans}
use Rattle.rht_core.proofs.Events.JobsOfCallers.{is_no_job, nothing-job}
use Rattle.rht_core.proofs.Tracing.TracedJobs.{IsAtJob}
use Rattle.rht_core.proofs.Tracing.RepliesInRuns.{Holds, Answered, runs-right}
use Rattle.rht_core.proofs.Tracing.TracesInRuns.{traces_of_books}
use Rattle.rht_core.proofs.Tracing.TracesAtEvents.{at_events}
use Rattle.rht_core.proofs.Tracing.TracedRuns.{traced_of-push, world-traced_of, count-traced_of, trace_with, trace_begin_none, trace_begin_self, trace_begin_other, trace_step_none, trace_step_self, trace_step_other}

-- ---- lists of operations, one for each call

-- the operation is in the list with this number
record IsIn (lists : List (List Did)) (number : ℕ) (did : Did) : Type 0 where
  steps : List Did
  call : slice_get lists number ≡ Some steps
  stands : Contains steps did

in_push : (lists : List (List Did)) (more : List Did) (number : ℕ) (did : Did) → IsIn lists number did
    → IsIn (lists ++ more ∷ []) number did
in_push lists more number did is =
    record { steps = is.steps; call = slice_get-push lists more number is.steps is.call; stands = is.stands }

-- the last list may get longer
in_longer : (lists : List (List Did)) (last more : List Did) (number : ℕ) (did : Did)
    → IsIn (lists ++ last ∷ []) number did
    → IsIn (lists ++ (last ++ more) ∷ []) number did
in_longer [] last more zero did is =
    let same : is.steps ≡ last = sym (cc) in
    record {
      steps = last ++ more;
      call = refl;
      stands = Contains-append_left last more did (subst (λ (s : List Did). Contains s did) same is.stands);
    }
in_longer [] last more (suc number) did is = let none = is.call in absurd (cc)
in_longer (first ∷ lists) last more zero did is = record {
  steps = is.steps;
  call = is.call;
  stands =
      is.stands;
}
in_longer (first ∷ lists) last more (suc number) did is =
    let behind =
    in_longer lists last more number did record { steps = is.steps; call = is.call; stands = is.stands } in
    record { steps = behind.steps; call = behind.call; stands = behind.stands }

-- ---- what becomes of a trace

-- a call begins, of a caller that had no operations of a call in progress
begun-in : (index : ℕ) (trace : Trace) (number : ℕ) (did : Did) → trace.steps ≡ [] → IsStepOf trace number did
    → IsStepOf (trace_begun index trace) number did
begun-in index trace number did none is =
    let lists = λ (steps : List Did). map (λ (past : Past). past.steps) trace.past ++ steps ∷ [] in
    record {
      steps = is.steps;
      call = ap (λ steps. slice_get (lists steps) number) (sym none) ∙ is.call;
      stands = is.stands;
    }

-- the operations of each call after one more, which may have ended the call in progress
steps_by_call-ended : (trace : Trace) (did : Did) (call : Call) (ending : Ending)
    → steps_by_call (trace_did (Some call) did (Some ending) trace)
    ≡ (map (λ past. past.steps) trace.past ++ (trace.steps ++ did ∷ []) ∷ []) ++ [] ∷ []
steps_by_call-ended trace did call ending =
    ap (λ lists. lists ++ [] ∷ [])
    (map-append (λ (past : Past). past.steps) trace.past
    ((record { done = ended_with call ending; begin = trace.begin; steps = trace.steps ++ did ∷ [] }) ∷ []))

did-in : (trace : Trace) (new : Did) (call : Call) (ending : Option Ending) (number : ℕ) (did : Did)
    → IsIn (map (λ past. past.steps) trace.past ++ (trace.steps ++ new ∷ []) ∷ []) number did
    → IsStepOf (trace_did (Some call) new ending trace) number did
did-in trace new call None number did is = record { steps = is.steps; call = is.call; stands = is.stands }
did-in trace new call (Some ending) number did is =
    let lists = map (λ (past : Past). past.steps) trace.past ++ (trace.steps ++ new ∷ []) ∷ [] in
    let further = in_push lists [] number did is in
    record {
      steps = further.steps;
      call = ap (λ l. slice_get l number) (steps_by_call-ended trace new call ending) ∙ further.call;
      stands = further.stands;
    }

-- what stood in a call stands in it with one more operation
older-in : (trace : Trace) (new : Did) (call : Call) (ending : Option Ending) (number : ℕ) (did : Did)
    → IsStepOf trace number did → IsStepOf (trace_did (Some call) new ending trace) number did
older-in trace new call ending number did is =
    did-in trace new call ending number did
    (in_longer (map (λ past. past.steps) trace.past) trace.steps (new ∷ []) number did
    record { steps = is.steps; call = is.call; stands = is.stands })

-- and the new one stands in the call in progress
newest-in : (trace : Trace) (did : Did) (call : Call) (ending : Option Ending)
    → IsStepOf (trace_did (Some call) did ending trace) (length trace.past) did
newest-in trace did call ending =
    let before = map (λ (past : Past). past.steps) trace.past in
    let steps = trace.steps ++ did ∷ [] in
    did-in trace did call ending (length trace.past) did
    record {
      steps = steps;
      call =
          ap (slice_get (before ++ steps ∷ [])) (sym (length-map trace.past (λ (past : Past). past.steps)))
          ∙ slice_get-push_last before steps;
      stands = Contains-append_right trace.steps (did ∷ []) did (0, omega arith, refl);
    }

-- ---- one event

-- what stands at a place that isn't the last one stood there before
slice_get-shorter : {X : Type 0} (xs : List X) (x : X) (i : ℕ) (y : X) → i < length xs
    → slice_get (xs ++ x ∷ []) i ≡ Some y → slice_get xs i ≡ Some y
slice_get-shorter [] x i y less is = absurd (omega (arith, less))
slice_get-shorter (z ∷ zs) x zero y less is = is
slice_get-shorter (z ∷ zs) x (suc i) y less is = slice_get-shorter zs x i y (omega (arith, less)) is

module _ (M : Type 0) (mix : ℕ → ℕ → ℕ → ℕ) (env : Env) where
  abbrev R : List Event → Traced M
  R events = traced_of mix env events

  -- a caller in no call has none in its book, and no operations of one
  at_rest-book : (job : Option Job) (book : Book) (steps : List Did) → is_no_job job ≡ true
      → IsAtJob M mix env (Holds M mix env) (Answered M mix env) job book steps → IsBookOfIdle book
  at_rest-book None book steps none at = at
  at_rest-book (Some job) book steps none at = absurd (cc)

  pub idle-book : (events : List Event) (c : ℕ) → IsAdmitted events
      → is_idle (local_of (R events).world.core c) ≡ true → IsBookOfIdle ((R events).world.books c)
  idle-book events c admitted idle =
      let local = local_of (R events).world.core c in
      at_rest-book (job_of local.doing) ((R events).world.books c) _ (sym (nothing-job local.doing) ∙ idle)
      (runs-right M mix env events c admitted).now

  idle-none : (events : List Event) (c : ℕ) → IsAdmitted events
      → is_idle (local_of (R events).world.core c) ≡ true
      → ((R events).traces c).steps ≡ []
  idle-none events c admitted idle =
      nil_from_length ((R events).traces c).steps
      ((traces_of_books M mix env events c admitted).steps ∙ (idle-book events c admitted idle).steps)

  -- and one that plans an operation has a call in its book
  at_work-call : (local : Local M) (op : Op) (job : Option Job) (book : Book) (steps : List Did)
      → plan_of local ≡ Some op → job_of local.doing ≡ job
      → IsAtJob M mix env (Holds M mix env) (Answered M mix env) job book steps
      → (call : Call) × (book.call ≡ Some call)
  at_work-call local op None book steps plan is at =
      let none : plan_of local ≡ None = idle_plans M local (nothing-job local.doing ∙ ap is_no_job is) in
      absurd (cc)
  at_work-call local op (Some job) book steps plan is at = (call_of job, at.call)

  busy-call : (events : List Event) (c : ℕ) (op : Op) → IsAdmitted events
      → planned_in (R events).world.core c ≡ Some op
      → (call : Call) × (((R events).world.books c).call ≡ Some call)
  busy-call events c op admitted is =
      let core = (R events).world.core in
      let can = planned-some core.env core.enrolled core.locals c op is in
      at_work-call (local_of core c) op (job_of (local_of core c).doing) _ _ can.plan refl
      (runs-right M mix env events c admitted).now

  module _ (events : List Event) (admitted : IsAdmitted events) (c : ℕ) (number : ℕ)
      (did : Did)
      (stood : IsStepOf ((R events).traces c) number did) where
    abbrev r : Traced M
    r = R events

    -- the trace is as it was
    unchanged : (trace : Trace) → trace ≡ r.traces c → IsStepOf trace number did
    unchanged trace same = subst (λ (t : Trace). IsStepOf t number did) (sym same) stood

    begin-later : (d : ℕ) (call : Call) (start : ℕ) (machine : Option (Doing M))
        → beginning_in r.world.core d call start ≡ machine
        → IsStepOf (traces_after mix r (Begin d call start) c) number did
    begin-later d call start None is = unchanged _ (ap (λ (t : ℕ → Trace). t c)
        (trace_begin_none M mix r d call start is))
    begin-later d call start (Some machine) is = elim (cases_eq c d) [
      | inl same ↦
          let can = beginning-some r.world.core.env r.world.core.enrolled r.world.core.locals d call start
          machine is in
          let idle = subst (λ k. is_idle (local_of r.world.core k) ≡ true) (sym same) can.idle in
          let begun : traces_after mix r (Begin d call start) c ≡ trace_begun r.count (r.traces c) =
          subst (λ k. traces_after mix r (Begin d call start) k ≡ trace_begun r.count (r.traces k)) (sym same)
          (trace_begin_self M mix r d call start machine is) in
          subst (λ (t : Trace). IsStepOf t number did) (sym begun)
          (begun-in r.count (r.traces c) number did (idle-none events c admitted idle) stood)
      | inr other ↦ unchanged _ (trace_begin_other M mix r d call start c other)
    ]

    step-later : (d : ℕ) (op : Option Op)
        → planned_in r.world.core d ≡ op
        → IsStepOf (traces_after mix r (Step d) c) number did
    step-later d None is = unchanged _ (ap (λ (t : ℕ → Trace). t c) (trace_step_none M mix r d is))
    step-later d (Some op) is = elim (cases_eq c d) [
      | inl same ↦
          let plan = subst (λ k. planned_in r.world.core k ≡ Some op) (sym same) is in
          let busy = busy-call events c op admitted plan in
          let made : Did = record { index = r.count; op = op; old = old_of r.world.core.words op } in
          let next = local_after mix (local_of r.world.core c) made.old in
          let stepped : traces_after mix r (Step d) c ≡ trace_with M mix r c op =
          subst (λ k. traces_after mix r (Step k) c ≡ trace_with M mix r c op) same
          (trace_step_self M mix r c op plan) in
          subst (λ (t : Trace). IsStepOf t number did)
          (sym (stepped ∙ ap (λ (o : Option Call). trace_did o made (ending_of next.0 next.1)
          (r.traces c)) busy.1))
          (older-in (r.traces c) made busy.0 (ending_of next.0 next.1) number did stood)
      | inr other ↦ unchanged _ (trace_step_other M mix r d c other)
    ]

    -- what stands in a call stands in it after any event
    later : (event : Event) → IsStepOf (traces_after mix r event c) number did
    later Enroll = stood
    later (Begin d call start) =
        begin-later d call start (beginning_in r.world.core d call start) refl
    later (Step d) = step-later d (planned_in r.world.core d) refl

  -- ---- runs

  -- each recorded operation stands in its call
  abbrev AllStand : List Event → Type 0
  AllStand events =
      (c : ℕ) (did : Did) → IsRecorded M mix env events c did
      → IsStepOf ((R events).traces c) (calls_ended M mix env (take did.index events) c) did

  module _ (events : List Event) (admitted : IsAdmitted events) (event : Event) (c : ℕ)
      (did : Did)
      (recorded : IsRecorded M mix env (events ++ event ∷ []) c did) where
    abbrev more : List Event
    more = events ++ event ∷ []

    -- one that was recorded before
    older : AllStand events → did.index < length events
        → IsStepOf (traces_after mix (R events) event c) (calls_ended M mix env (take did.index more) c) did
    older each less =
        let same : take did.index more ≡ take did.index events = take-push events event did.index
        (omega (arith, less)) in
        let was : IsRecorded M mix env events c did = record {
          event = slice_get-shorter events event did.index (Step c) less recorded.event;
          plan =
              subst (λ (before : List Event). planned_in (run_of {M = M} mix env before).core c ≡ Some did.op)
              same recorded.plan;
          found =
              subst (λ (before : List Event). old_of (run_of {M = M} mix env before).core.words
              did.op ≡ did.old) same recorded.found;
        } in
        later events admitted c (calls_ended M mix env (take did.index more) c) did
        (subst (λ (before : List Event). IsStepOf ((R events).traces c) (calls_ended M mix env before c)
        did) (sym same) (each c did was))
        event

    -- one of the last event
    newest : did.index ≡ length events
        → IsStepOf (traces_after mix (R events) event c) (calls_ended M mix env (take did.index more) c) did
    newest last =
        let r = R events in
        let before : take did.index more ≡ events = ap (λ n. take n more) last ∙ take-push_all events event in
        let world : ◌≡◌ {A = World M} (run_of mix env (take did.index more)) r.world =
        ap (run_of {M = M} mix env) before ∙ sym (world-traced_of M mix env events) in
        let plan : planned_in r.world.core c ≡ Some did.op =
        subst (λ (w : World M). planned_in w.core c ≡ Some did.op) world recorded.plan in
        let found : old_of r.world.core.words did.op ≡ did.old =
        subst (λ (w : World M). old_of w.core.words did.op ≡ did.old) world recorded.found in
        let is_step : event ≡ Step c =
        let here : Some event ≡ Some (Step c) =
        sym (slice_get-push_last events event) ∙ ap (slice_get more) (sym last) ∙ recorded.event in cc in
        let busy = busy-call events c did.op admitted plan in
        let index : r.count ≡ did.index = count-traced_of M mix env events ∙ sym last in
        let made : ◌≡◌ {A = Did} (record {
          index = r.count;
          op = did.op;
          old = old_of r.world.core.words
              did.op;
        }) did =
        (λ i. record { index = index i; op = did.op; old = found i }) in
        let next = local_after mix (local_of r.world.core c) (old_of r.world.core.words did.op) in
        let stepped : traces_after mix r event c ≡ trace_did (Some busy.0) did (ending_of next.0 next.1) (r.traces c) =
        ap (λ (e : Event). traces_after mix r e c) is_step ∙ trace_step_self M mix r c did.op plan
        ∙ ap (λ (o : Option Call). trace_did o (record {
          index = r.count;
          op = did.op;
          old = old_of
              r.world.core.words did.op;
        }) (ending_of next.0 next.1) (r.traces c)) busy.1
        ∙ ap (λ (d : Did). trace_did (Some busy.0) d (ending_of next.0 next.1) (r.traces c)) made in
        let number : length (r.traces c).past ≡ calls_ended M mix env (take did.index more) c =
        sym (length-map (r.traces c).past (λ (past : Past). past.done))
        ∙ ap length (traces_of_books M mix env events c admitted).past
        ∙ ap (λ (w : World M). length (w.books c).finished) (sym world) in
        subst (λ (t : Trace). IsStepOf t (calls_ended M mix env (take did.index more) c) did) (sym stepped)
        (subst (λ n. IsStepOf (trace_did (Some busy.0) did (ending_of next.0 next.1) (r.traces c)) n did)
        number
        (newest-in (r.traces c) did busy.0 (ending_of next.0 next.1)))

  all_stand : (events : List Event) → IsAdmitted events → AllStand events
  all_stand =
      induct_by_last (λ events. IsAdmitted events → AllStand events)
      (λ none c did recorded. let nothing = recorded.event in absurd (cc))
      (λ events event each all c did recorded.
      let admitted = (AllByRecursion-cut IsAdmittedEvent events (event ∷ []) all).0 in
      let within = slice_get_within (events ++ event ∷ []) did.index (Step c) recorded.event in
      let longer = length_push events event in
      let stands : IsStepOf (traces_after mix (R events) event c) (calls_ended M mix env (take did.index (events ++ event ∷ [])) c) did =
      elim (cases_eq did.index (length events)) [
        | inl last ↦ newest events admitted event c did recorded last
        | inr less ↦ older events admitted event c did recorded (each admitted)
            (omega (arith, within, longer, less))
      ] in
      subst (λ (r : Traced M). IsStepOf (r.traces c) (calls_ended M mix env
      (take did.index (events ++ event ∷ [])) c) did)
      (sym (traced_of-push M mix env events event)) stands)

-- ---- no operation stands in two calls

-- rising numbers may begin lower
IsRising-lower : (from later : ℕ) (steps : List Did) → from ≤ later → IsRising later steps
    → IsRising from steps
IsRising-lower from later [] lower rising = tt
IsRising-lower from later (did ∷ steps) lower rising = (omega (arith, lower, rising.0), rising.1)

behind_steps-lower : (from later : ℕ) (steps : List Did) → from ≤ later
    → behind_steps from steps ≤ behind_steps later steps
behind_steps-lower from later [] lower = lower
behind_steps-lower from later (did ∷ steps) lower = omega arith

-- they lie from where they begin up to the one behind them
pub from-behind : (from : ℕ) (steps : List Did) → IsRising from steps → from ≤ behind_steps from steps
from-behind from [] rising = omega arith
from-behind from (did ∷ steps) rising = omega (arith, rising.0, from-behind (did.index + 1) steps rising.1)

-- an operation lies there, where these begin from this event on
abbrev pub LiesWithin : ℕ → List Did → Did → Type 0
LiesWithin from steps did = (from ≤ did.index) × (did.index < behind_steps from steps)

pub rising-within : (from : ℕ) (steps : List Did) → IsRising from steps → AllByRecursion (LiesWithin from steps) steps
rising-within from [] rising = tt
rising-within from (did ∷ steps) rising =
    let here = from-behind (did.index + 1) steps rising.1 in (
      (rising.0, omega (arith, here)),
      AllByRecursion-weaker (LiesWithin (did.index + 1) steps) (LiesWithin from (did ∷ steps))
          (λ d within. (omega (arith, rising.0, within.0), within.1)) steps
          (rising-within (did.index + 1) steps rising.1),
    )

-- the first ones rise too
pub rising-before : (from : ℕ) (before rest : List Did) → IsRising from (before ++ rest) → IsRising from before
rising-before from [] rest rising = tt
rising-before from (did ∷ before) rest rising = (rising.0, rising-before (did.index + 1) before rest rising.1)

-- those behind one of them rise from there on
pub rising-behind : (from : ℕ) (before : List Did) (at : Did) (behind : List Did) → IsRising from (before ++ at ∷ behind)
    → IsRising (at.index + 1) behind
rising-behind from [] at behind rising = rising.1
rising-behind from (did ∷ before) at behind rising = rising-behind (did.index + 1) before at behind rising.1

-- those before one of them have smaller numbers, and those behind it greater ones
pub rising_around : (from : ℕ) (before : List Did) (at : Did) (behind : List Did) → IsRising from (before ++ at ∷ behind)
    → AllByRecursion (λ did. did.index < at.index) before × AllByRecursion (λ did. at.index < did.index) behind
rising_around from [] at behind rising =
    let next = at.index + 1 in
    let Later : Did → Type 0 = λ did. at.index < did.index in (
      tt,
      AllByRecursion-weaker (LiesWithin next behind) Later (λ did within. omega (arith, within.0)) behind
          (rising-within next behind rising.1),
    )
rising_around from (did ∷ before) at behind rising =
    let all = before ++ at ∷ behind in
    let next = did.index + 1 in
    let later = AllByRecursion-cut (LiesWithin next all) before (at ∷ behind) (rising-within next all rising.1) in
    let rest = rising_around (did.index + 1) before at behind rising.1 in
    ((omega (arith, later.1.0.0), rest.0), rest.1)

-- each list begins behind the one before
abbrev AreRisingLists : ℕ → List (List Did) → Type 0
AreRisingLists from [] = Unit {0}
AreRisingLists from (steps ∷ lists) = IsRising from steps × AreRisingLists (behind_steps from steps) lists

AreRisingLists-lower : (from later : ℕ) (lists : List (List Did)) → from ≤ later → AreRisingLists later lists
    → AreRisingLists from lists
AreRisingLists-lower from later [] lower rising = tt
AreRisingLists-lower from later (steps ∷ lists) lower rising = (
  IsRising-lower from later steps lower rising.0,
  AreRisingLists-lower (behind_steps from steps) (behind_steps later steps) lists
      (behind_steps-lower from later steps lower) rising.1,
)

-- an operation of the first list lies within it
in_first : (from : ℕ) (steps : List Did) (lists : List (List Did)) (did : Did) → IsRising from steps
    → IsIn (steps ∷ lists) 0 did
    → (from ≤ did.index) × (did.index < behind_steps from steps)
in_first from steps lists did rising is =
    let same : is.steps ≡ steps = sym (cc) in
    let P = LiesWithin from steps in
    All-contains P steps did (All-from_recursion P steps (rising-within from steps rising))
    (subst (λ (s : List Did). Contains s did) same is.stands)

in_rest : (steps : List Did) (lists : List (List Did)) (number : ℕ) (did : Did)
    → IsIn (steps ∷ lists) (suc number) did
    → IsIn lists number did
in_rest steps lists number did is = record { steps = is.steps; call = is.call; stands = is.stands }

at_least : (from : ℕ) (lists : List (List Did)) (number : ℕ) (did : Did) → AreRisingLists from lists
    → IsIn lists number did
    → from ≤ did.index
at_least from [] number did rising is = let none = is.call in absurd (cc)
at_least from (steps ∷ lists) zero did rising is = (in_first from steps lists did rising.0 is).0
at_least from (steps ∷ lists) (suc number) did rising is =
    let behind = at_least (behind_steps from steps) lists number did rising.1
    (in_rest steps lists number did is) in
    omega (arith, behind, from-behind from steps rising.0)

-- so no operation is in two of them
in_one : (from : ℕ) (lists : List (List Did)) (one other : ℕ) (did : Did) → AreRisingLists from lists
    → IsIn lists one did → IsIn lists other did
    → other ≡ one
in_one from [] one other did rising here there = let none = here.call in absurd (cc)
in_one from (steps ∷ lists) zero zero did rising here there = refl
in_one from (steps ∷ lists) zero (suc other) did rising here there =
    let first = in_first from steps lists did rising.0 here in
    let later = at_least (behind_steps from steps) lists other did rising.1
    (in_rest steps lists other did there) in
    absurd (omega (arith, first.1, later))
in_one from (steps ∷ lists) (suc one) zero did rising here there =
    let first = in_first from steps lists did rising.0 there in
    let later = at_least (behind_steps from steps) lists one did rising.1
    (in_rest steps lists one did here) in
    absurd (omega (arith, first.1, later))
in_one from (steps ∷ lists) (suc one) (suc other) did rising here there =
    ap (λ n. suc n)
    (in_one (behind_steps from steps) lists one other did rising.1 (in_rest steps lists one did here)
    (in_rest steps lists other did there))

-- calls that come one behind the other have such lists
calls-rising : (from : ℕ) (calls : List Past) (last : List Did) → AreInOrder from calls
    → IsRising (behind_calls from calls) last
    → AreRisingLists from (map (λ past. past.steps) calls ++ last ∷ [])
calls-rising from [] last order rising = (rising, tt)
calls-rising from (past ∷ calls) last order rising =
    let lower : from ≤ past.begin + 1 = omega (arith, order.0) in (
      IsRising-lower from (past.begin + 1) past.steps lower order.1,
      AreRisingLists-lower (behind_steps from past.steps) (behind_call past)
          (map (λ past. past.steps) calls ++ last ∷ [])
          (behind_steps-lower from (past.begin + 1) past.steps lower)
          (calls-rising (behind_call past) calls last order.2 rising),
    )

-- each of these calls begins behind all calls before it, and its steps are in order
pub record IsInOrder (from : ℕ) (past : Past) : Type 0 where
  pub begins : from ≤ past.begin
  pub rising : IsRising (past.begin + 1) past.steps

pub call_in_order : (from : ℕ) (calls : List Past) (number : ℕ) (past : Past) → AreInOrder from calls
    → slice_get calls number ≡ Some past → IsInOrder from past
call_in_order from [] number past order is = absurd (cc)
call_in_order from (first ∷ calls) zero past order is =
    let same : first ≡ past = cc in
    subst (IsInOrder from) same (record { begins = order.0; rising = order.1 })
call_in_order from (first ∷ calls) (suc number) past order is =
    let later = call_in_order (behind_call first) calls number past order.2 is in
    let until = from-behind (first.begin + 1) first.steps order.1 in
    let begins = later.begins in
    record { begins = omega (arith, order.0, until, begins); rising = later.rising }

-- an operation of one of them that lies between the beginning of a call and its end is that call's
within_call : (from : ℕ) (calls : List Past) (last : List Did) (number other : ℕ) (past : Past) (did : Did)
    → AreInOrder from calls → IsRising (behind_calls from calls) last → slice_get calls number ≡ Some past
    → past.begin < did.index → did.index < behind_call past
    → IsIn (map (λ past. past.steps) calls ++ last ∷ []) other did → Contains past.steps did
within_call from [] last number other past did order rising is low high there = absurd (cc)
within_call from (first ∷ calls) last zero zero past did order rising is low high there =
    let same : first ≡ past = cc in
    let steps : there.steps ≡ first.steps = sym (some-same first.steps there.steps there.call) in
    subst (λ (p : Past). Contains p.steps did) same (subst (λ (s : List Did). Contains s did) steps there.stands)
within_call from (first ∷ calls) last zero (suc other) past did order rising is low high there =
    let same : first ≡ past = cc in
    let lists = map (λ (past : Past). past.steps) calls ++ last ∷ [] in
    let later = at_least (behind_call first) lists other did (calls-rising (behind_call first) calls last order.2 rising)
    (in_rest first.steps lists other did there) in
    let ends = subst (λ (p : Past). did.index < behind_call p) (sym same) high in
    absurd (omega (arith, later, ends))
within_call from (first ∷ calls) last (suc number) zero past did order rising is low high there =
    let lists = map (λ (past : Past). past.steps) calls ++ last ∷ [] in
    let until = (in_first (first.begin + 1) first.steps lists did order.1 there).1 in
    let begins = (call_in_order (behind_call first) calls number past order.2 is).begins in
    absurd (omega (arith, until, begins, low))
within_call from (first ∷ calls) last (suc number) (suc other) past did order rising is low high there =
    let lists = map (λ (past : Past). past.steps) calls ++ last ∷ [] in
    within_call (behind_call first) calls last number other past did order.2 rising is low high
    (in_rest first.steps lists other did there)

-- an operation before the end of a call is that call's, or of a call before that
before_end : (from : ℕ) (front rest : List Past) (past : Past) (last : List Did) (number : ℕ) (did : Did)
    → AreInOrder from (front ++ past ∷ rest) → IsRising (behind_calls from (front ++ past ∷ rest)) last
    → did.index < behind_call past
    → IsIn (map (λ past. past.steps) (front ++ past ∷ rest) ++ last ∷ []) number did
    → IsIn (map (λ past. past.steps) front ++ past.steps ∷ []) number did
before_end from [] rest past last zero did order rising high there =
    record { steps = there.steps; call = there.call; stands = there.stands }
before_end from [] rest past last (suc number) did order rising high there =
    let lists = map (λ (past : Past). past.steps) rest ++ last ∷ [] in
    let later = at_least (behind_call past) lists number did (calls-rising (behind_call past) rest last order.2 rising)
    (in_rest past.steps lists number did there) in
    absurd (omega (arith, later, high))
before_end from (first ∷ front) rest past last zero did order rising high there =
    record { steps = there.steps; call = there.call; stands = there.stands }
before_end from (first ∷ front) rest past last (suc number) did order rising high there =
    let lists = map (λ (past : Past). past.steps) (front ++ past ∷ rest) ++ last ∷ [] in
    let is = before_end (behind_call first) front rest past last number did order.2 rising high
    (in_rest first.steps lists number did there) in
    record { steps = is.steps; call = is.call; stands = is.stands }

module _ (M : Type 0) (mix : ℕ → ℕ → ℕ → ℕ) (env : Env) (events : List Event) (c : ℕ)
    (admitted : IsAdmitted events) where
  abbrev trace : Trace
  trace = (traced_of {M = M} mix env events).traces c

  abbrev book : Book
  book = (traced_of {M = M} mix env events).world.books c

  -- the operations of the call in progress come behind those of the past ones
  last-rising : (job : Option Job) → IsAtJob M mix env (Holds M mix env) (Answered M mix env) job book
      trace.steps
      → IsRising (behind_calls 0 trace.past) trace.steps
  last-rising None at =
      let none = nil_from_length trace.steps ((traces_of_books M mix env events c admitted).steps
      ∙ at.steps) in
      subst (IsRising (behind_calls 0 trace.past)) (sym none) tt
  last-rising (Some job) at =
      let progress = subst (λ (o : Option Call). IfSome o (IsInProgress events c trace)) at.call
      (at_events M mix env events admitted c).progress in
      IsRising-lower (behind_calls 0 trace.past) (trace.begin + 1) trace.steps
      (omega (arith, progress.behind)) progress.rising

  all-rising : AreRisingLists 0 (steps_by_call trace)
  all-rising =
      calls-rising 0 trace.past trace.steps (at_events M mix env events admitted c).in_order
      (last-rising _ (runs-right M mix env events c admitted).now)

  -- an operation of the caller that lies between the beginning of one of its calls and the call's end is one of that call
  pub stands_within : (past : Past) (did : Did) → Contains trace.past past → IsRecorded M mix env events c did
      → past.begin < did.index → did.index < behind_call past → Contains past.steps did
  stands_within past did (number, within, is) recorded low high =
      let there = all_stand M mix env events admitted c did recorded in
      within_call 0 trace.past trace.steps number _ past did (at_events M mix env events admitted c).in_order
      (last-rising _ (runs-right M mix env events c admitted).now)
      (slice_get-get_or trace.past number past within ∙ ap Some is) low high
      (record { steps = there.steps; call = there.call; stands = there.stands })

  -- one that comes before the end of one of its calls is of that call, or of one before that
  pub stands_before : (front rest : List Past) (past : Past) (did : Did) → trace.past ≡ front ++ past ∷ rest
      → IsRecorded M mix env events c did → did.index < behind_call past
      → (number : ℕ) × (steps : List Did) × (slice_get (map (λ past. past.steps) front ++ past.steps ∷ []) number ≡ Some steps)
      × Contains steps did
  stands_before front rest past did parts recorded high =
      let there = all_stand M mix env events admitted c did recorded in
      let number = calls_ended M mix env (take did.index events) c in
      let is = before_end 0 front rest past trace.steps number did
      (subst (AreInOrder 0) parts (at_events M mix env events admitted c).in_order)
      (subst (λ calls. IsRising (behind_calls 0 calls) trace.steps) parts
      (last-rising _ (runs-right M mix env events c admitted).now))
      high
      (record {
        steps = there.steps;
        call = ap (λ (calls : List Past). slice_get (map (λ past. past.steps) calls ++ trace.steps ∷ []) number) (sym parts) ∙ there.call;
        stands = there.stands;
      }) in
      (number, is.steps, is.call, is.stands)

pub all_steps_traced : (M : Type 0) (mix : ℕ → ℕ → ℕ → ℕ) → AllStepsTraced M mix
all_steps_traced M mix env events c did admitted recorded =
    let there = all_stand M mix env events admitted c did recorded in
    record {
      there = there;
      only = λ other is.
          in_one 0 (steps_by_call ((traced_of {M = M} mix env events).traces c)) _ other did
          (all-rising M mix env events c admitted)
          (record { steps = there.steps; call = there.call; stands = there.stands })
          (record { steps = is.steps; call = is.call; stands = is.stands });
    }
