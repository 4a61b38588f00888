-- The calls that a caller had finished behind the first events of a run are the first of those that it has finished at the end; the others
-- ended behind these events.
use Rattle.std.proofs.Common.{◌≡◌, ℕ, ◌+◌, ◌<◌, ◌≤◌, ◌==◌, Bool, true, false, cond, List, [], ◌∷◌, ◌++◌, length, take, drop, refl, sym, ◌∙◌, ap, subst, append_assoc, append-nil, take-append-drop, length-take-le, arith}
use Rattle.std.specs.Prelude.{Option, Some, None}
use Rattle.std.specs.List.{AllByRecursion}
use Rattle.std.proofs.lemmas.Bool.{eqb-true}
use Rattle.rht_words.specs.declared.op.Op.{Op}
use Rattle.rht_words.specs.declared.env.Env.{Env}
use Rattle.rht_words.specs.Operations.{old_of}
use Rattle.rht_words.proofs.EachElement.{AllByRecursion-append, AllByRecursion-weaker}
use Rattle.rht_model.specs.Endings.{Ending, ended_with}
use Rattle.rht_model.specs.declared.history.Call.{Call}
use Rattle.rht_core.specs.declared.event.Event.{Event}
use Rattle.rht_core.specs.declared.event.Event.TheVariants.{Enroll, Begin, Step}
use Rattle.rht_callers.specs.declared.local.Doing.{Doing}
use Rattle.rht_callers.specs.Locals.{local_after, ending_of}
use Rattle.rht_core.specs.Runs.{local_of, planned_in, beginning_in}
use Rattle.rht_core.specs.Traces.{Did, Past, Trace, Traced, trace_begun, trace_did, traces_begun, traces_stepped, traces_after, traced_step, traced_from, traced_of, behind_call}
use Rattle.rht_core.proofs.Tracing.TracedRuns.{traced_opening, traced_from-append, count-traced_of}
use Rattle.rht_core.proofs.Tracing.TracesAtEvents.{behind_steps-push}

-- all of these calls are the early ones, and then others that ended behind this event
pub record HasLater (n : ℕ) (early all : List Past) : Type 0 where
  pub later : List Past
  pub is : all ≡ early ++ later
  pub behind : AllByRecursion (λ past. n < behind_call past) later

none-later : (n : ℕ) (calls : List Past) → HasLater n calls calls
none-later n calls = record { later = []; is = sym (append-nil calls); behind = tt }

both-later : (n : ℕ) (early now all : List Past) → HasLater n early now → HasLater (n + 1) now all → HasLater n early all
both-later n early now all first second = record {
  later = first.later ++ second.later;
  is = second.is ∙ ap (λ calls. calls ++ second.later) first.is ∙ append_assoc early first.later second.later;
  behind =
      AllByRecursion-append (λ past. n < behind_call past) first.later second.later first.behind
      (AllByRecursion-weaker (λ past. n + 1 < behind_call past) (λ past. n < behind_call past) (λ past more. omega (arith, more))
      second.later second.behind);
}

-- an operation may end the call in progress
did-later : (n : ℕ) (call : Option Call) (did : Did) (ending : Option Ending) (trace : Trace) → n ≤ did.index
    → HasLater n trace.past (trace_did call did ending trace).past
did-later n call did None trace low = none-later n trace.past
did-later n None did (Some ending) trace low = record { later = []; is = refl; behind = tt }
did-later n (Some call) did (Some ending) trace low =
    let past : Past = record { done = ended_with call ending; begin = trace.begin; steps = trace.steps ++ did ∷ [] } in
    record {
      later = past ∷ [];
      is = refl;
      behind = (let ends = behind_steps-push (trace.begin + 1) trace.steps did in omega (arith, ends, low), tt);
    }

module _ (M : Type 0) (mix : ℕ → ℕ → ℕ → ℕ) where
  -- so one event ends one call at most, at that event
  module _ (r : Traced M) (c : ℕ) where
    abbrev early : List Past
    early = (r.traces c).past

    -- the caller whose event it is may be this one
    at_caller : (k : ℕ) (trace : Trace) → HasLater r.count (r.traces k).past trace.past → (t : Bool) → (c == k) ≡ t
        → HasLater r.count early (cond t trace (r.traces c)).past
    at_caller k trace later true own =
        subst (λ j. HasLater r.count (r.traces j).past trace.past) (sym (eqb-true c k own)) later
    at_caller k trace later false other = none-later r.count early

    step-later : (event : Event) → HasLater r.count early (traces_after mix r event c).past
    step-later Enroll = none-later r.count early
    step-later (Begin k call start) = go (beginning_in r.world.core k call start)
      where
        go : (machine : Option (Doing M)) → HasLater r.count early (traces_begun r k machine c).past
        go None = none-later r.count early
        go (Some machine) =
            at_caller k (trace_begun r.count (r.traces k)) (none-later r.count (r.traces k).past) (c == k) refl
    step-later (Step k) = go (planned_in r.world.core k)
      where
        go : (op : Option Op) → HasLater r.count early (traces_stepped mix r k op c).past
        go None = none-later r.count early
        go (Some op) =
            let old = old_of r.world.core.words op in
            let next = local_after mix (local_of r.world.core k) old in
            let did : Did = record { index = r.count; op = op; old = old } in
            let ending = ending_of next.0 next.1 in
            let call = (r.world.books k).call in
            at_caller k (trace_did call did ending (r.traces k)) (did-later r.count call did ending (r.traces k) (omega arith))
            (c == k) refl

  -- by induction over the events that follow
  more-later : (rest : List Event) (r : Traced M) (c : ℕ) → HasLater r.count (r.traces c).past ((traced_from mix r rest).traces c).past
  more-later [] r c = none-later r.count (r.traces c).past
  more-later (event ∷ rest) r c =
      both-later r.count (r.traces c).past (traces_after mix r event c).past ((traced_from mix (traced_step mix r event) rest).traces c).past
      (step-later r c event) (more-later rest (traced_step mix r event) c)

  pub calls-later : (env : Env) (events : List Event) (c n : ℕ) → n ≤ length events
      → HasLater n ((traced_of {M = M} mix env (take n events)).traces c).past ((traced_of {M = M} mix env events).traces c).past
  calls-later env events c n within =
      let opened = traced_opening M mix env in
      let front : Traced M = traced_of mix env (take n events) in
      let count : front.count ≡ n = count-traced_of M mix env (take n events) ∙ length-take-le n events within in
      let all : ◌≡◌ {A = Traced M} (traced_of mix env events) (traced_from mix front (drop n events)) =
      ap (traced_from mix opened) (sym (take-append-drop n events)) ∙ traced_from-append M mix opened (take n events) (drop n events) in
      subst (λ k. HasLater k (front.traces c).past ((traced_of {M = M} mix env events).traces c).past) count
      (subst (λ (r : Traced M). HasLater front.count (front.traces c).past (r.traces c).past) (sym all) (more-later (drop n events) front c))
