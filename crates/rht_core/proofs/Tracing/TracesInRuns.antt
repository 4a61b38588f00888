-- In every run the traces remember each call: a trace and a book change at the same events, and in the same way.
use Rattle.std.proofs.Common.{◌≡◌, ℕ, ◌+◌, List, [], ◌∷◌, ◌++◌, map, refl, ap, ◌∙◌}
use Rattle.std.specs.Prelude.{Option, Some, None}
use Rattle.std.proofs.lemmas.List.{length_push, map-append}
use Rattle.rht_words.specs.declared.env.Env.{Env}
use Rattle.rht_model.specs.declared.history.Call.{Call}
use Rattle.rht_model.specs.declared.finished.Finished.{Finished}
use Rattle.rht_model.specs.Endings.{Ending}
use Rattle.rht_core.specs.declared.event.Event.{Event}
use Rattle.rht_core.specs.declared.book.Book.{Book}
use Rattle.rht_callers.specs.Locals.{local_after, ending_of}
use Rattle.rht_core.specs.Runs.{IsAdmitted, book_begun, book_after, finished_with}
use Rattle.rht_core.specs.Traces.{Did, Past, Trace, Traced, trace_begun, trace_did, traced_of}
use Rattle.rht_core.specs.Laws.{IsTraceOf, Remembers}
use Rattle.rht_core.proofs.Tracing.TracedRuns.{world-traced_of, count-traced_of}
use Rattle.rht_core.proofs.Tracing.TracedCallers.{traced_callers_keep}

-- the past call that is made of a finished one is of that one
done-past : (begin : ℕ) (steps : List Did) (finished : List Finished)
    → map (λ (past : Past). past.done) (map (λ (done : Finished).
    record { done = done; begin = begin; steps = steps }) finished) ≡ finished
done-past begin steps [] = refl
done-past begin steps (done ∷ finished) =
    ap (λ (all : List Finished). done ∷ all) (done-past begin steps finished)

begun-of : (index : ℕ) (call : Call) (book : Book) (trace : Trace) → IsTraceOf book trace
    → IsTraceOf (book_begun call book) (trace_begun index trace)
begun-of index call book trace of = record { past = of.past; steps = refl }

did-of : (did : Did) (ending : Option Ending) (book : Book) (trace : Trace) → IsTraceOf book trace
    → IsTraceOf (book_after ending book) (trace_did book.call did ending trace)
did-of did None book trace of =
    record { past = of.past; steps = length_push trace.steps did ∙ ap (λ n. n + 1) of.steps }
did-of did (Some ending) book trace of =
    let ended = finished_with book.call ending in
    let steps = trace.steps ++ did ∷ [] in
    record {
      past =
          map-append (λ (past : Past). past.done) trace.past
          (map (λ (done : Finished). record { done = done; begin = trace.begin; steps = steps }) ended)
          ∙ ap (λ (all : List Finished). map (λ (past : Past). past.done) trace.past ++ all)
          (done-past trace.begin steps ended)
          ∙ ap (λ (all : List Finished). all ++ ended) of.past;
      steps = refl;
    }

pub traces_of_books : (M : Type 0) (mix : ℕ → ℕ → ℕ → ℕ) (env : Env) (events : List Event) (c : ℕ)
    → IsAdmitted events → let r : Traced M = traced_of mix env events in IsTraceOf
    (r.world.books c) (r.traces c)
traces_of_books M mix env =
    traced_callers_keep M mix env (λ past c here trace. IsTraceOf here.book trace)
    record {
      opens = λ c. record { past = refl; steps = refl };
      stays = λ past event c here trace section of. of;
      begins = λ past c call start machine index here trace now same idle made of. begun-of index call here.book
          trace of;
      steps = λ past c did here trace made of.
          let next = local_after mix here.local did.old in
          did-of did (ending_of next.0 next.1) here.book trace of;
    }

pub remembers : (M : Type 0) (mix : ℕ → ℕ → ℕ → ℕ) → Remembers M mix
remembers M mix env events admitted = record {
  world = world-traced_of M mix env events;
  count = count-traced_of M mix env events;
  traces = λ c. traces_of_books M mix env events c admitted;
}
