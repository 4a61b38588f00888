-- The law of one call alone, by a history that fits the run. The call's entry is the last there; the entries
-- before it leave what the words stood for before the call, and all of them what the words stand for behind
-- it. That its reply has its cause is so of every call.
use Rattle.std.proofs.Common.{◌≡◌, ◌≢◌, ℕ, zero, suc, ◌+◌, ◌≤◌, List, [], ◌∷◌, ◌++◌, length, Some, None, cond, sym, ◌∙◌, ap, subst, arith}
use Rattle.std.specs.List.{AllByRecursion, Any}
use Rattle.std.specs.Prelude.{is_some}
use Rattle.std.proofs.lemmas.List.{append-nil, length-append}
use Rattle.std.proofs.Math.Seq.{take-append_seam, take-length}
use Rattle.rht_words.specs.declared.env.Env.{Env}
use Rattle.rht_words.specs.declared.config.Kind.{Kind}
use Rattle.rht_words.proofs.EachElement.{AllByRecursion-last, AllByRecursion-cut, AllByRecursion-weaker}
use Rattle.rht_model.specs.declared.history.Call.{Call}
use Rattle.rht_model.specs.declared.history.Entry.{Entry}
use Rattle.rht_model.specs.Multimap.{Multimap, Agree, unbound}
use Rattle.rht_model.specs.Answers.{port_of}
use Rattle.rht_model.specs.Histories.{IsLegal, bindings_left}
use Rattle.rht_model.proofs.Agreements.{answer_of-Agree, left_by-Agree, IsLegalAt-answer_of}
use Rattle.rht_model.proofs.LongerHistories.{bindings_left-append, IsLegalFrom-push}
use Rattle.rht_core.specs.declared.event.Event.{Event}
use Rattle.rht_core.specs.declared.book.Book.{Book}
use Rattle.rht_callers.specs.Locals.{is_idle}
use Rattle.rht_core.specs.Runs.{World, IsAdmitted, IsAdmittedEvent, local_of}
use Rattle.rht_core.specs.Traces.{Past, Trace, Traced, traced_of, behind_call}
use Rattle.rht_core.specs.Laws.{IsPastCall}
use Rattle.rht_core.specs.Causes.{HasCause}
use Rattle.rht_core.specs.Numbered.{Numbered, history_of, numbered_to, NeverFalls, entries_of}
use Rattle.rht_core.specs.Alone.{entry_done, MeetsModel, IsQuiet, bindings_at, call_events, Alone}
use Rattle.rht_core.specs.RunHistories.{bindings_behind, ChangesBindings, about_bindings, Fits}
use Rattle.rht_core.proofs.Tracing.TracedRuns.{world-traced_of}
use Rattle.rht_core.proofs.Tracing.TracesAtEvents.{at_events, past-ends}
use Rattle.rht_core.proofs.Tracing.StepsInTraces.{idle-book}
use Rattle.rht_core.proofs.Reasons.CausesInRuns.{causes}
use Rattle.rht_core.proofs.Histories.NumberedEntries.{AllBelow, AllBelow-more, numbered_to-before, history_of-push, push-below}
use Rattle.rht_core.proofs.Histories.CallEnds.{AreEnded, about-push}
use Rattle.rht_core.proofs.Histories.FittingRuns.{opening-agree, fits}
use Rattle.rht_core.proofs.Histories.AloneCalls.{none-progress, AreEndedBy, about-ended, ended-below, HasLast, has-last, IsAlone, alone-after, HasEnded, has-ended}

module _ (M : Type 0) (mix : ℕ → ℕ → ℕ → ℕ) (env : Env) where
  abbrev kind : Kind
  kind = env.config.kind

  -- what entries leave
  abbrev left : List Entry → Multimap
  left entries = bindings_left kind unbound entries

  -- the entries below a number leave what the words stood for behind so many events
  pub left-behind : (events : List Event) (history : List Numbered) → Fits M mix env events history → (n : ℕ)
      (low high : List Numbered) → history ≡ low ++ high → AllBelow n low → NeverFalls n high
      → n ≤ length events → Agree (left (history_of low)) (bindings_behind M mix env events n)
  left-behind events history fitting zero [] high is below rising within = opening-agree M mix env
  left-behind events history fitting zero (x ∷ low) high is below rising within =
      let none = below.0 in absurd (omega (arith, none))
  left-behind events history fitting (suc n) low high is below rising within =
      let next : n + 1 ≡ suc n = omega arith in
      let same = ap (numbered_to n) is ∙ numbered_to-before n low high (rw next below) (rw next rising) in
      λ p. ap (λ entries. left entries p) (sym same) ∙ fitting.agrees n (omega (arith, within)) p
      ∙ ap (λ m. bindings_behind M mix env events m p) next

  module _ (start : List Event) (c port : ℕ) (call : Call) (count : ℕ) (past : Past)
      (about : port_of call ≡ Some port) (quiet : IsQuiet M mix env start)
      (admitted : IsAdmitted (start ++ call_events M mix c call count)) where
    -- the events of the call, and the run's up to its end
    abbrev events : List Event
    events = call_events M mix c call count

    abbrev after : List Event
    after = start ++ events

    -- the run before the call, and behind it
    abbrev r0 : Traced M
    r0 = traced_of mix env start

    abbrev r : Traced M
    r = traced_of mix env after

    earlier : IsAdmitted start
    earlier = (AllByRecursion-cut IsAdmittedEvent start events admitted).0

    -- before it nobody was in a call, and all calls had ended
    none_begun : (d : ℕ) → (r0.world.books d).call ≡ None
    none_begun d =
        let world = world-traced_of M mix env start in
        let idle = ap (λ (w : World M). is_idle (local_of w.core d)) world ∙ quiet d in
        (idle-book M mix env start d earlier idle).call

    had_ended : (d : ℕ) → AreEndedBy (length start) (about_bindings (r0.traces d).past)
    had_ended d =
        let calls = (r0.traces d).past in
        about-ended (length start) calls
        (AllByRecursion-weaker (IsPastCall M mix env start d) (λ p. behind_call p ≤ length start)
        (past-ends M mix env start d) calls (at_events M mix env start earlier d).past)

    lone : IsAlone M mix env start c call r
    lone = alone-after M mix env start c call count (none_begun c)

    module _ (more : (r.traces c).past ≡ (r0.traces c).past ++ past ∷ []) (history : List Numbered)
        (fitting : Fits M mix env after history) where
      ended : HasEnded M mix env start c call past (r.world.books c).call
      ended = has-ended M mix env start c call r past lone more

      -- a caller's entries are those of its calls that have ended
      own : (d : ℕ) → (r.world.books d).call ≡ None
          → AreEnded (about_bindings (r.traces d).past) (entries_of d history)
      own d none =
          let trace = r.traces d in
          none-progress (Any (ChangesBindings M mix env after) trace.steps) (r.world.books d).call trace.begin
          (length after) (about_bindings trace.past) (entries_of d history) none (fitting.calls d)

      -- those of the others had ended before
      others : (d : ℕ) → d ≢ c → AllBelow (length start) (entries_of d history)
      others d ne =
          let same = lone.others d ne in
          ended-below (length start) (about_bindings (r0.traces d).past) (entries_of d history) (had_ended d)
          (subst (λ (t : Trace). AreEnded (about_bindings t.past) (entries_of d history)) same.trace
          (own d (ap (λ (b : Book). b.call) same.book ∙ none_begun d)))

      -- so this call's entry is the last of all
      last : HasLast (length start) c past history
      last =
          let is = ap (λ a. is_some (port_of a)) ended.asked ∙ ap is_some about in
          let calls = ap about_bindings more ∙ about-push (r0.traces c).past past
          ∙ ap (λ t. about_bindings (r0.traces c).past ++ cond t (past ∷ []) []) is in
          has-last (length start) c past (let begun = ended.begun in omega (arith, begun))
          (about_bindings (r0.traces c).past) 0 history (had_ended c) fitting.rising others
          (subst (λ all. AreEnded all (entries_of c history)) calls (own c ended.none))

      -- the entries before it leave what the words stood for before the call, and all what they stand for now
      agree_before : Agree (left (history_of last.before)) (bindings_at M mix env start)
      agree_before p =
          let begun = last.entry.begun in
          let at = ended.begun in
          left-behind after history fitting (length start) last.before (last.last ∷ []) last.is last.below
          (omega (arith, begun, at), tt) (omega (arith, length-append start events)) p
          ∙ ap (λ es. bindings_at M mix env es p) (take-append_seam start events)

      agree_after : Agree (left (history_of history)) (bindings_at M mix env after)
      agree_after p =
          let calls = (at_events M mix env after admitted c).past in
          let this = AllByRecursion-last (IsPastCall M mix env after c) (r0.traces c).past past
          (subst (AllByRecursion (IsPastCall M mix env after c)) more calls) in
          let end = past-ends M mix env after c past this in
          let low = last.entry.ended in
          let longer = length-append start events in
          let below = push-below last.last (length after) last.before (omega (arith, low, end))
          (AllBelow-more (length start) (length after) last.before (omega (arith, longer)) last.below) in
          left-behind after history fitting (length after) history [] (sym (append-nil history))
          (subst (AllBelow (length after)) (sym last.is) below) tt (omega arith) p
          ∙ ap (λ es. bindings_at M mix env es p) (take-length after)

      -- it says how the call ended
      is_done : last.last.entry ≡ entry_done c past.done
      is_done =
          let of = last.entry in
          λ i. record { caller = last.caller i; call = of.call i; reply = of.reply i; owners = of.owners i }

      -- so that is legal where the call began, and leaves what is there now
      meets : MeetsModel kind (bindings_at M mix env start) (bindings_at M mix env after)
          (entry_done c past.done)
      meets =
          let before = history_of last.before in
          let x = last.last.entry in
          let now = bindings_at M mix env start in
          let all : history_of history ≡ before ++ x ∷ [] =
          ap history_of last.is ∙ history_of-push last.before last.last in
          let whole : IsLegal kind (before ++ x ∷ []) = subst (IsLegal kind) all fitting.legal in
          let legal = ((IsLegalFrom-push kind unbound before x).0 whole).1 in
          let same = answer_of-Agree kind (left before) now x.call agree_before in
          subst (MeetsModel kind now (bindings_at M mix env after)) is_done
          (record {
            legal = IsLegalAt-answer_of kind (left before) now x same legal;
            bindings = λ p.
                sym (agree_after p) ∙ ap (λ entries. left entries p) all
                ∙ ap (λ (b : Multimap). b p) (bindings_left-append kind unbound before (x ∷ []))
                ∙ left_by-Agree kind (left before) now x agree_before p;
          })

pub alone : (M : Type 0) (mix : ℕ → ℕ → ℕ → ℕ) → Alone M mix
alone M mix env start c port call count past about admitted quiet more =
    let after = start ++ call_events M mix c call count in
    let (history, fitting) = fits M mix env after admitted in
    let earlier = ((traced_of {M = M} mix env start).traces c).past in
    let all = subst (AllByRecursion (HasCause M mix env after c)) more (causes M mix env after c admitted) in
    record {
      model = meets M mix env start c port call count past about quiet admitted more history fitting;
      cause = AllByRecursion-last (HasCause M mix env after c) earlier past all;
    }
