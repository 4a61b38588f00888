-- A run with its traces, event by event: the world beside the traces is the run's, and an event of a caller
-- changes its trace and no other one.
use Rattle.std.proofs.Common.{◌≡◌, ◌≢◌, ℕ, ◌+◌, List, [], ◌∷◌, ◌++◌, length, refl, sym, ap, ◌∙◌}
use Rattle.std.specs.Prelude.{Option, Some, None}
use Rattle.std.proofs.lemmas.List.{length_push}
use Rattle.rht_words.specs.declared.op.Op.{Op}
use Rattle.rht_words.specs.declared.env.Env.{Env}
use Rattle.rht_words.specs.Operations.{old_of}
use Rattle.rht_model.specs.declared.history.Call.{Call}
use Rattle.rht_core.specs.declared.event.Event.{Event}
use Rattle.rht_core.specs.declared.event.Event.TheVariants.{Begin, Step}
use Rattle.rht_callers.specs.declared.local.Doing.{Doing}
use Rattle.rht_callers.specs.Locals.{local_after, ending_of}
use Rattle.rht_core.specs.Runs.{World, local_of, beginning_in, planned_in, run_from, run_of, opening}
use Rattle.rht_core.specs.Traces.{Trace, Traced, trace_begun, trace_did, traces_begun, traces_stepped, traces_after, traced_step, traced_from, traced_of}
use Rattle.rht_core.proofs.Events.Worlds.{induct_by_last, changed-same, changed-other}

-- ---- runs

-- before the first event
abbrev pub no_trace : Trace
no_trace = record { begin = 0; steps = []; past = [] }

module _ (M : Type 0) (mix : ℕ → ℕ → ℕ → ℕ) where
  abbrev pub traced_opening : Env → Traced M
  traced_opening env = record { world = opening env; count = 0; traces = λ _. no_trace }

  pub traced_from-append : (r : Traced M) (past rest : List Event)
      → traced_from mix r (past ++ rest) ≡ traced_from mix (traced_from mix r past) rest
  traced_from-append r [] rest = refl
  traced_from-append r (event ∷ past) rest = traced_from-append (traced_step mix r event) past rest

  pub traced_of-push : (env : Env) (events : List Event) (event : Event)
      → ◌≡◌ {A = Traced M} (traced_of mix env (events ++ event ∷ []))
      (traced_step mix (traced_of mix env events) event)
  traced_of-push env events event = traced_from-append (traced_opening env) events (event ∷ [])

  -- the world beside the traces is the run's
  world-traced_from : (r : Traced M) (events : List Event)
      → (traced_from mix r events).world ≡ run_from mix r.world events
  world-traced_from r [] = refl
  world-traced_from r (event ∷ events) = world-traced_from (traced_step mix r event) events

  pub world-traced_of : (env : Env) (events : List Event)
      → ◌≡◌ {A = World M} (traced_of mix env events).world (run_of mix env events)
  world-traced_of env events = world-traced_from (traced_opening env) events

  pub count-traced_of : (env : Env) (events : List Event)
      → (traced_of {M = M} mix env events).count ≡ length events
  count-traced_of env = induct_by_last (λ events. (traced_of {M = M} mix env events).count ≡ length
      events) refl
      (λ events event same.
      ap (λ (r : Traced M). r.count) (traced_of-push env events event) ∙ ap (λ n. n + 1) same
      ∙ sym (length_push events event))

-- ---- what an event does to a trace

module _ (M : Type 0) (mix : ℕ → ℕ → ℕ → ℕ) (r : Traced M) (c : ℕ) where
  module _ (call : Call) (start : ℕ) where
    pub trace_begin_none : beginning_in r.world.core c call start ≡ None
        → traces_after mix r (Begin c call start) ≡ r.traces
    trace_begin_none is = ap (traces_begun r c) is

    pub trace_begin_self : (machine : Doing M) → beginning_in r.world.core c call start ≡ Some machine
        → traces_after mix r (Begin c call start) c ≡ trace_begun r.count (r.traces c)
    trace_begin_self machine is =
        ap (λ o. traces_begun r c o c) is ∙ changed-same r.traces c (trace_begun r.count (r.traces c))

    begun_other : (k : ℕ) → k ≢ c → (machine : Option (Doing M)) → traces_begun r c machine k ≡ r.traces k
    begun_other k other None = refl
    begun_other k other (Some machine) = changed-other r.traces c (trace_begun r.count (r.traces c)) k other

    pub trace_begin_other : (k : ℕ) → k ≢ c → traces_after mix r (Begin c call start) k ≡ r.traces k
    trace_begin_other k other = begun_other k other (beginning_in r.world.core c call start)

  -- the traces after a caller has performed this
  abbrev traces_with : Option Op → ℕ → Trace
  traces_with op = traces_stepped mix r c op

  -- the trace after its own operation
  abbrev pub trace_with : Op → Trace
  trace_with op =
      let old = old_of r.world.core.words op in
      let next = local_after mix (local_of r.world.core c) old in
      trace_did (r.world.books c).call (record { index = r.count; op = op; old = old })
      (ending_of next.0 next.1)
      (r.traces c)

  pub trace_step_none : planned_in r.world.core c ≡ None → traces_after mix r (Step c) ≡ r.traces
  trace_step_none is = ap traces_with is

  pub trace_step_self : (op : Op) → planned_in r.world.core c ≡ Some op
      → traces_after mix r (Step c) c ≡ trace_with op
  trace_step_self op is = ap (λ o. traces_with o c) is ∙ changed-same r.traces c (trace_with op)

  stepped_other : (k : ℕ) → k ≢ c → (op : Option Op) → traces_with op k ≡ r.traces k
  stepped_other k other None = refl
  stepped_other k other (Some op) = changed-other r.traces c (trace_with op) k other

  pub trace_step_other : (k : ℕ) → k ≢ c → traces_after mix r (Step c) k ≡ r.traces k
  trace_step_other k other = stepped_other k other (planned_in r.world.core c)
