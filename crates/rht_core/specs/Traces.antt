-- The steps of each call of a run, with the numbers of their events. Nothing that a caller does depends on them.
use Rattle.std.specs.Prelude.{◌≡◌, ℕ, ◌+◌, ◌≤◌, ◌==◌, if◌then◌else◌, Option, Some, None, List, [], ◌∷◌, ◌++◌, map}
use Rattle.std.specs.List.{Contains, slice_get}
use Rattle.rht_words.specs.declared.op.Op.{Op}
use Rattle.rht_words.specs.declared.env.Env.{Env}
use Rattle.rht_words.specs.Operations.{old_of}
use Rattle.rht_words.specs.Machines.{Performed}
use Rattle.rht_model.specs.declared.history.Call.{Call}
use Rattle.rht_model.specs.declared.finished.Finished.{Finished}
use Rattle.rht_model.specs.Endings.{Ending}
use Rattle.rht_core.specs.declared.event.Event.{Event}
use Rattle.rht_core.specs.declared.event.Event.TheVariants.{Enroll, Begin, Step}
use Rattle.rht_callers.specs.declared.local.Doing.{Doing}
use Rattle.rht_callers.specs.Locals.{local_after, ending_of}
use Rattle.rht_core.specs.Runs.{World, opening, world_step, local_of, beginning_in, planned_in, finished_with}

-- an operation of a run: the number of its event, counted from 0, and the word before it
pub record Did : Type 0 where
  pub index : ℕ
  pub op : Op
  pub old : ℕ

-- what it performed, and the word that it found
abbrev pub performed_of : Did → Performed
performed_of did = record { op = did.op; old = did.old }

-- a call that has ended: the number of the event at which it began, and its operations
pub record Past : Type 0 where
  pub done : Finished
  pub begin : ℕ
  pub steps : List Did

-- the calls of a caller: when the one in progress began, its operations so far, and the calls that have ended
pub record Trace : Type 0 where
  pub begin : ℕ
  pub steps : List Did
  pub past : List Past

-- a run with its traces: the world, how many events there were, and each caller's calls
pub record Traced (M : Type 0) : Type 0 where
  pub world : World M
  pub count : ℕ
  pub traces : ℕ → Trace

-- the traces with another one for this caller
abbrev pub trace_at : (ℕ → Trace) → ℕ → Trace → ℕ → Trace
trace_at traces c trace = λ other. if other == c then trace else traces other

-- a call begins at this event
abbrev pub trace_begun : ℕ → Trace → Trace
trace_begun index trace = record { begin = index; steps = []; past = trace.past }

-- an operation was made, and may have ended the call
abbrev pub trace_did : Option Call → Did → Option Ending → Trace → Trace
trace_did call did None trace = record { begin = trace.begin; steps = trace.steps ++ did ∷ []; past = trace.past }
trace_did call did (Some ending) trace = record {
  begin = trace.begin;
  steps = [];
  past =
      trace.past ++ map (λ done. record { done = done; begin = trace.begin; steps = trace.steps ++ did ∷ [] }) (finished_with call ending);
}

module _ {M : Type 0} where
  abbrev pub traces_begun : Traced M → ℕ → Option (Doing M) → ℕ → Trace
  traces_begun r c None = r.traces
  traces_begun r c (Some doing) = trace_at r.traces c (trace_begun r.count (r.traces c))

  module _ (mix : ℕ → ℕ → ℕ → ℕ) where
    abbrev pub traces_stepped : Traced M → ℕ → Option Op → ℕ → Trace
    traces_stepped r c None = r.traces
    traces_stepped r c (Some op) =
        let old = old_of r.world.core.words op in
        let next = local_after mix (local_of r.world.core c) old in
        trace_at r.traces c (trace_did (r.world.books c).call record { index = r.count; op = op; old = old } (ending_of next.0 next.1) (r.traces c))

    abbrev pub traces_after : Traced M → Event → ℕ → Trace
    traces_after r Enroll = r.traces
    traces_after r (Begin c call start) =
        traces_begun r c (beginning_in r.world.core c call start)
    traces_after r (Step c) = traces_stepped r c (planned_in r.world.core c)

    abbrev pub traced_step : Traced M → Event → Traced M
    traced_step r event =
        record { world = world_step mix r.world event; count = r.count + 1; traces = traces_after r event }

    abbrev pub traced_from : Traced M → List Event → Traced M
    traced_from r [] = r
    traced_from r (event ∷ events) = traced_from (traced_step r event) events

    -- the run of these events with its traces
    abbrev pub traced_of : Env → List Event → Traced M
    traced_of env events =
        traced_from (record { world = opening env; count = 0; traces = λ _. record { begin = 0; steps = []; past = [] } }) events

-- ---- what is said of traces

-- the operations of a caller's calls, one list for each call, that of the call in progress last
abbrev pub steps_by_call : Trace → List (List Did)
steps_by_call trace = map (λ past. past.steps) trace.past ++ trace.steps ∷ []

-- the operation is one of those of the call with this number, counted from 0
pub record IsStepOf (trace : Trace) (number : ℕ) (did : Did) : Type 0 where
  pub steps : List Did
  pub call : slice_get (steps_by_call trace) number ≡ Some steps
  pub stands : Contains steps did

-- and of none of the others
pub record IsStepOfOne (trace : Trace) (number : ℕ) (did : Did) : Type 0 where
  pub there : IsStepOf trace number did
  pub only : (other : ℕ) → IsStepOf trace other did → other ≡ number

-- the steps of a call stand in rising order of their events, from this event on
abbrev pub IsRising : ℕ → List Did → Type 0
IsRising from [] = Unit {0}
IsRising from (did ∷ steps) = (from ≤ did.index) × IsRising (did.index + 1) steps

-- the event behind the last of these steps; this one where there is none
abbrev pub behind_steps : ℕ → List Did → ℕ
behind_steps from [] = from
behind_steps from (did ∷ steps) = behind_steps (did.index + 1) steps

-- the event behind a call that has ended
abbrev pub behind_call : Past → ℕ
behind_call past = behind_steps (past.begin + 1) past.steps

-- the event behind the last of these calls; this one where there is none
abbrev pub behind_calls : ℕ → List Past → ℕ
behind_calls from [] = from
behind_calls from (past ∷ calls) = behind_calls (behind_call past) calls

-- the calls come one behind the other, from this event on: each begins behind all events of the one before
abbrev pub AreInOrder : ℕ → List Past → Type 0
AreInOrder from [] = Unit {0}
AreInOrder from (past ∷ calls) =
    (from ≤ past.begin) × IsRising (past.begin + 1) past.steps × AreInOrder (behind_call past) calls
