-- In every run the traces say what happened at which event.
-- What a trace says of an event stays true while the run goes on, since the events before that one
-- stay the first ones; and a step that is recorded now is the last event.
use Rattle.std.proofs.Common.{◌≡◌, ℕ, ◌+◌, ◌≤◌, List, [], ◌∷◌, ◌++◌, length, take, refl, sym, ap, ◌∙◌, subst, arith}
use Rattle.std.specs.Prelude.{Option, Some, None, IfSome}
use Rattle.std.specs.List.{AllByRecursion, slice_get}
use Rattle.std.proofs.lemmas.List.{append-nil, length_push}
use Rattle.std.proofs.lemmas.Option.{slice_get_within, IfSome_then}
use Rattle.rht_words.specs.declared.op.Op.{Op}
use Rattle.rht_words.specs.declared.env.Env.{Env}
use Rattle.rht_words.specs.Operations.{old_of}
use Rattle.rht_words.proofs.EachElement.{AllByRecursion-push, AllByRecursion-last, AllByRecursion-weaker, slice_get-push, slice_get-push_last}
use Rattle.rht_model.specs.declared.history.Call.{Call}
use Rattle.rht_model.specs.declared.history.Reply.{Reply}
use Rattle.rht_core.specs.declared.event.Event.{Event}
use Rattle.rht_core.specs.declared.event.Event.TheVariants.{Begin, Step}
use Rattle.rht_core.specs.declared.book.Book.{Book}
use Rattle.rht_callers.specs.declared.local.Local.{Local}
use Rattle.rht_callers.specs.Locals.{local_after, ending_of}
use Rattle.rht_core.specs.Runs.{World, IsAdmitted, planned_in, book_after, run_of}
use Rattle.rht_core.specs.Traces.{Did, Past, Trace, Traced, trace_begun, trace_did, traced_of, IsRising, behind_steps, behind_call, behind_calls, AreInOrder}
use Rattle.rht_core.specs.Laws.{IsInProgress, IsRecorded, IsAnsweredAt, IsPastCall, AtEvents}
use Rattle.rht_core.proofs.Events.Worlds.{take-push}
use Rattle.rht_core.proofs.Tracing.TracedCallers.{reply_of, traced_callers_keep}

-- one more step behind the others
pub behind_steps-push : (from : ℕ) (steps : List Did) (did : Did)
    → behind_steps from (steps ++ did ∷ []) ≡ did.index + 1
behind_steps-push from [] did = refl
behind_steps-push from (first ∷ steps) did = behind_steps-push (first.index + 1) steps did

IsRising-push : (from : ℕ) (steps : List Did) (did : Did) → IsRising from steps
    → behind_steps from steps ≤ did.index → IsRising from (steps ++ did ∷ [])
IsRising-push from [] did rising behind = (behind, tt)
IsRising-push from (first ∷ steps) did rising behind =
    (rising.0, IsRising-push (first.index + 1) steps did rising.1 behind)

-- one more call behind the others
behind_calls-push : (from : ℕ) (calls : List Past) (past : Past)
    → behind_calls from (calls ++ past ∷ []) ≡ behind_call past
behind_calls-push from [] past = refl
behind_calls-push from (first ∷ calls) past = behind_calls-push (behind_call first) calls past

AreInOrder-push : (from : ℕ) (calls : List Past) (past : Past) → AreInOrder from calls
    → behind_calls from calls ≤ past.begin
    → IsRising (past.begin + 1) past.steps → AreInOrder from (calls ++ past ∷ [])
AreInOrder-push from [] past order behind rising = (behind, rising, tt)
AreInOrder-push from (first ∷ calls) past order behind rising =
    (order.0, order.1, AreInOrder-push (behind_call first) calls past order.2 behind rising)

module _ (M : Type 0) (mix : ℕ → ℕ → ℕ → ℕ) (env : Env) where
  -- the operation that a caller plans in a world
  abbrev planned_by : ℕ → World M → Option Op
  planned_by c w = planned_in w.core c

  -- a call in progress of which all steps lie before this event
  record IsUnderWay (events : List Event) (c : ℕ) (trace : Trace) (call : Call) : Type 0 where
    is : IsInProgress events c trace call
    ends : behind_steps (trace.begin + 1) trace.steps ≤ length events

  -- What each event keeps: what the law says, and that all calls and steps lie before the next event.
  record Holds (events : List Event) (c : ℕ) (call : Option Call) (trace : Trace) : Type 0 where
    past : AllByRecursion (IsPastCall M mix env events c) trace.past
    in_order : AreInOrder 0 trace.past
    past_ends : behind_calls 0 trace.past ≤ length events
    steps : AllByRecursion (IsRecorded M mix env events c) trace.steps
    progress : IfSome call (IsUnderWay events c trace)

  module _ (events : List Event) (event : Event) where
    abbrev more : List Event
    more = events ++ event ∷ []

    longer : length more ≡ length events + 1
    longer = length_push events event

    -- what is recorded stays
    pub recorded-more : (c : ℕ) (did : Did) → IsRecorded M mix env events c did → IsRecorded M mix env more c did
    recorded-more c did is =
        let within = slice_get_within events did.index (Step c) is.event in
        let same = sym (take-push events event did.index (omega arith)) in
        record {
          event = slice_get-push events event did.index (Step c) is.event;
          plan = subst (λ (before : List Event). planned_by c (run_of mix env before) ≡ Some did.op) same
              is.plan;
          found =
              subst (λ (before : List Event). old_of (run_of {M = M} mix env before).core.words
              did.op ≡ did.old) same is.found;
        }

    answered-more : (c : ℕ) (past : Past) → IsAnsweredAt M mix env events c past
        → AllByRecursion (IsRecorded M mix env events c) past.steps → IsAnsweredAt M mix env more c past
    answered-more c past is recorded =
        let last = AllByRecursion-last (IsRecorded M mix env events c) is.before is.last
        (subst (AllByRecursion (IsRecorded M mix env events c)) is.steps_are recorded) in
        let within = slice_get_within events is.last.index (Step c) last.event in
        record {
          before = is.before;
          last = is.last;
          steps_are = is.steps_are;
          reply =
              subst (λ (before : List Event). reply_of M mix env c (run_of mix env before) ≡ Some
              past.done.reply)
              (sym (take-push events event is.last.index (omega arith))) is.reply;
        }

    past-more : (c : ℕ) (past : Past) → IsPastCall M mix env events c past → IsPastCall M mix env more c past
    past-more c past is = record {
      start = is.start;
      began = slice_get-push events event past.begin (Begin c past.done.call is.start) is.began;
      answered = answered-more c past is.answered is.steps;
      steps = AllByRecursion-weaker _ _ (recorded-more c) past.steps is.steps;
    }

    under_way-more : (c : ℕ) (trace : Trace) (call : Call) → IsUnderWay events c trace call
        → IsUnderWay more c trace call
    under_way-more c trace call way = record {
      is = record {
        start = way.is.start;
        began = slice_get-push events event trace.begin (Begin c call way.is.start) way.is.began;
        behind = way.is.behind;
        rising = way.is.rising;
      };
      ends = let ends = way.ends in omega (arith, longer);
    }

    holds-more : (c : ℕ) (call : Option Call) (trace : Trace) → Holds events c call trace
        → Holds more c call trace
    holds-more c call trace holds = record {
      past = AllByRecursion-weaker _ _ (past-more c) trace.past holds.past;
      in_order = holds.in_order;
      past_ends = let ends = holds.past_ends in omega (arith, longer);
      steps = AllByRecursion-weaker _ _ (recorded-more c) trace.steps holds.steps;
      progress = IfSome_then call holds.progress (under_way-more c trace);
    }

  -- a call begins at the last event
  begin-holds : (events : List Event) (c : ℕ) (call : Call) (start : ℕ) (before : Option Call) (trace : Trace) (index : ℕ)
      → index ≡ length events
      → Holds events c before trace
      → Holds (events ++ Begin c call start ∷ []) c (Some call) (trace_begun index trace)
  begin-holds events c call start before trace index is holds =
      let kept = holds-more events (Begin c call start) c before trace holds in
      let longer = length_push events (Begin c call start) in
      record {
        past = kept.past;
        in_order = kept.in_order;
        past_ends = kept.past_ends;
        steps = tt;
        progress = record {
          is = record {
            start = start;
            began = ap (slice_get (events ++ Begin c call start ∷ [])) is
                ∙ slice_get-push_last events (Begin c call start);
            behind = let ends = holds.past_ends in omega arith;
            rising = tt;
          };
          ends = omega arith;
        };
      }

  -- a call that goes on with this step
  goes_on : (events : List Event) (c : ℕ) (trace : Trace) (did : Did) (call : Call)
      → did.index ≡ length events
      → IsUnderWay events c trace call
      → IsUnderWay (events ++ Step c ∷ []) c (record {
        begin = trace.begin;
        steps =
            trace.steps ++ did ∷ [];
        past = trace.past;
      }) call
  goes_on events c trace did call is way =
      let kept = under_way-more events (Step c) c trace call way in
      let longer = length_push events (Step c) in
      let ends = way.ends in
      record {
        is = record {
          start = kept.is.start;
          began = kept.is.began;
          behind = kept.is.behind;
          rising = IsRising-push (trace.begin + 1) trace.steps did way.is.rising (omega arith);
        };
        ends = let last = behind_steps-push (trace.begin + 1) trace.steps did in omega arith;
      }

  -- a step of a call, which may have ended it
  did-holds : (events : List Event) (c : ℕ) (call : Option Call) (trace : Trace) (did : Did)
      (next : Local M) (reply : Option Reply) (book : Book)
      → book.call ≡ call
      → did.index ≡ length events → IsRecorded M mix env (events ++ Step c ∷ []) c did
      → reply_of M mix env c (run_of mix env (take did.index (events ++ Step c ∷ []))) ≡ reply
      → Holds events c call trace
      → Holds (events ++ Step c ∷ []) c (book_after (ending_of next reply) book).call
      (trace_did call did (ending_of next reply) trace)
  did-holds events c call trace did next None book same is recorded gives holds =
      let kept = holds-more events (Step c) c call trace holds in
      let went =
      IfSome_then call {P = IsUnderWay events c trace}
      {Q = IsUnderWay (events ++ Step c ∷ []) c (trace_did call did None trace)} holds.progress
      (λ now way. goes_on events c trace did now is way) in
      record {
        past = kept.past;
        in_order = kept.in_order;
        past_ends = kept.past_ends;
        steps = AllByRecursion-push _ trace.steps did kept.steps recorded;
        progress =
            subst (λ (o : Option Call). IfSome o (IsUnderWay (events ++ Step c ∷ []) c
            (trace_did call did None trace)))
            (sym same) went;
      }
  did-holds events c None trace did next (Some reply) book same is recorded gives holds =
      let kept = holds-more events (Step c) c None trace holds in
      let none : trace.past ≡ trace.past ++ [] = sym (append-nil trace.past) in
      record {
        past = subst (AllByRecursion (IsPastCall M mix env (events ++ Step c ∷ []) c)) none kept.past;
        in_order = subst (AreInOrder 0) none kept.in_order;
        past_ends =
            subst (λ (calls : List Past). behind_calls 0 calls ≤ length (events ++ Step c ∷ [])) none
            kept.past_ends;
        steps = tt;
        progress = tt;
      }
  did-holds events c (Some call) trace did next (Some reply) book same is recorded gives holds =
      let kept = holds-more events (Step c) c (Some call) trace holds in
      let went = goes_on events c trace did call is holds.progress in
      let ended : Past = record {
        done = record { call = call; reply = reply; owners = next.owners.items; pairs = next.pairs.items };
        begin = trace.begin;
        steps = trace.steps ++ did ∷ [];
      } in
      record {
        past =
            AllByRecursion-push _ trace.past ended kept.past
            record {
              start = went.is.start;
              began = went.is.began;
              steps = AllByRecursion-push _ trace.steps did kept.steps recorded;
              answered = record { before = trace.steps; last = did; steps_are = refl; reply = gives };
            };
        in_order = AreInOrder-push 0 trace.past ended kept.in_order went.is.behind went.is.rising;
        past_ends = let last = behind_calls-push 0 trace.past ended in let ends = went.ends in omega arith;
        steps = tt;
        progress = tt;
      }

  all-hold : (events : List Event) (c : ℕ) → IsAdmitted events
      → let r : Traced M = traced_of mix env events in Holds events c (r.world.books c).call (r.traces c)
  all-hold =
      traced_callers_keep M mix env (λ events c here trace. Holds events c here.book.call trace)
      record {
        opens = λ c. record { past = tt; in_order = tt; past_ends = omega arith; steps = tt; progress = tt };
        stays = λ events event c here trace section holds. holds-more events event c here.book.call trace holds;
        begins =
            λ events c call start machine index here trace now same idle made holds. begin-holds events c call start
            here.book.call trace index now holds;
        steps = λ events c did here trace made holds.
            let next = local_after mix here.local did.old in
            did-holds events c here.book.call trace did next.0 next.1 here.book refl made.index
            made.recorded made.reply holds;
      }

pub at_events : (M : Type 0) (mix : ℕ → ℕ → ℕ → ℕ) → AtEvents M mix
at_events M mix env events admitted c =
    let holds = all-hold M mix env events c admitted in
    record {
      past = holds.past;
      in_order = holds.in_order;
      steps = holds.steps;
      progress =
          IfSome_then ((traced_of {M = M} mix env events).world.books c).call holds.progress
          (λ call way. way.is);
    }

-- a call that has ended lies before the end of the run
pub past-ends : (M : Type 0) (mix : ℕ → ℕ → ℕ → ℕ) (env : Env) (events : List Event) (c : ℕ) (past : Past)
    → IsPastCall M mix env events c past → behind_call past ≤ length events
past-ends M mix env events c past is =
    let answered = is.answered in
    let steps = subst (AllByRecursion (IsRecorded M mix env events c)) answered.steps_are is.steps in
    let recorded = AllByRecursion-last (IsRecorded M mix env events c) answered.before answered.last steps in
    let within = slice_get_within events answered.last.index (Step c) recorded.event in
    let behind : behind_call past ≡ answered.last.index + 1 =
    ap (behind_steps (past.begin + 1)) answered.steps_are
    ∙ behind_steps-push (past.begin + 1) answered.before answered.last in
    omega (arith, within, behind)
