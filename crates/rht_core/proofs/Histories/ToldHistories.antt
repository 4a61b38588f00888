-- A run that serves the commands of workers has a history that tells what they were answered: each one that fits it does. At its end
-- nobody is in a call, so each caller's entries are those of its finished calls about bindings: its commands', and their first tries that
-- found no node. All entries together leave what the last words stand for.
-- Where a command was answered that the table is full, the entries up to the load of the count leave the ports that were bound then,
-- and each other worker was in the middle of at most one call.
use Rattle.std.proofs.Common.{◌≡◌, ◌≢◌, ◌⊎◌, ℕ, ◌+◌, ◌-◌, ◌<◌, ◌≤◌, ◌==◌, Bool, true, false, cond, List, [], ◌∷◌, ◌++◌, length, map, take, refl, sym, ◌∙◌, ap, subst, append_assoc, inl, inr, arith}
use Rattle.std.specs.Prelude.{None, ◌&&◌, not, sum_by, count_by}
use Rattle.std.specs.List.{AllByRecursion, Any, range_with_len}
use Rattle.std.proofs.lemmas.Bool.{cases_lt, eq-eqb, eqb-true, ne_eqb}
use Rattle.std.proofs.lemmas.List.{get_or_past, append-nil, take_all, map-append}
use Rattle.std.proofs.Math.Seq.{take-length}
use Rattle.rht_words.specs.declared.env.Env.{Env}
use Rattle.rht_words.specs.declared.config.Config.{Config}
use Rattle.rht_words.proofs.EachElement.{AllByRecursion-weaker}
use Rattle.rht_words.proofs.Members.{count_below, count_below-more, count_below-most, count_by-range}
use Rattle.rht_model.specs.declared.bindings.Closed.{Closed}
use Rattle.rht_model.specs.declared.history.Call.{Call}
use Rattle.rht_model.specs.declared.history.Call.TheVariants.{Bind, Find, All, Release, Rebind, Walk, Work, Tidy, Count}
use Rattle.rht_model.specs.declared.history.Entry.{Entry}
use Rattle.rht_model.specs.declared.history.Reply.{Reply}
use Rattle.rht_model.specs.declared.history.Reply.TheVariants.{NoNode, TooBig}
use Rattle.rht_model.specs.declared.finished.Finished.{Finished}
use Rattle.rht_model.specs.Multimap.{Multimap, Agree, unbound}
use Rattle.rht_model.specs.Endings.{Ending}
use Rattle.rht_model.specs.Histories.{IsLegal, bindings_left}
use Rattle.rht_model.specs.Listing.{Lists}
use Rattle.rht_core.specs.declared.event.Event.{Event}
use Rattle.rht_callers.specs.Locals.{is_idle}
use Rattle.rht_core.specs.Runs.{Core, World, View, run_of, local_of, IsAdmitted}
use Rattle.rht_core.specs.Traces.{Did, Past, Traced, traced_of, behind_call}
use Rattle.rht_core.specs.Laws.{IsPastCall}
use Rattle.rht_core.specs.Seen.{others_in_call}
use Rattle.rht_core.specs.Causes.{CauseOf, HasCause, SawFull}
use Rattle.rht_stands.specs.Closing.{IsClosedOf}
use Rattle.rht_core.specs.NodesUsed.{needs_node, took_node, may_take_node, takers_of}
use Rattle.rht_core.specs.Numbered.{Numbered, history_of, entries_of}
use Rattle.rht_core.specs.RunHistories.{bindings_behind, ChangesBindings, about_bindings, Fits}
use Rattle.rht_core.specs.Serving.{Serves, calls_of, IsServing}
use Rattle.rht_stands.specs.StandsFor.{stands_for, AreBound}
use Rattle.rht_core.specs.ToldHistories.{entries_of_finished, entries_by, endings_by, IsOutnumbered, WasFull, IsTold, HasToldHistory}
use Rattle.rht_core.proofs.Events.CallersNotEnrolled.{not_enrolled}
use Rattle.rht_core.proofs.Events.SoundRuns.{runs-in, StaysIn}
use Rattle.rht_core.proofs.Tracing.TracedRuns.{world-traced_of}
use Rattle.rht_core.proofs.Tracing.TracesInRuns.{remembers}
use Rattle.rht_core.proofs.Tracing.TracesAtEvents.{at_events, past-ends}
use Rattle.rht_core.proofs.Tracing.StepsInTraces.{idle-book}
use Rattle.rht_core.proofs.Reasons.CausesInRuns.{causes}
use Rattle.rht_core.proofs.Counting.NodesUsed.{nodes_before}
use Rattle.rht_core.proofs.Counting.OutnumberedNodes.{sum-below, sum-calls_of, NeedsNode, TakesFew, few-took, few-before, few-serves}
use Rattle.rht_core.proofs.Histories.NumberedEntries.{AllBelow}
use Rattle.rht_core.proofs.Histories.CallEnds.{AreEnded}
use Rattle.rht_core.proofs.Histories.AloneCalls.{none-progress, about-ended, ended-below}
use Rattle.rht_core.proofs.Histories.AloneLaw.{left-behind}
use Rattle.rht_core.proofs.Histories.FittingRuns.{fits}
use Rattle.rht_core.proofs.Histories.ToldEntries.{entries_by-ended, AllByRecursion-of_map, all_first, AllBelow-callers, split_at}

-- ---- calls that were refused

-- a call that was answered so needs a node
needs-none : (M : Type 0) (mix : ℕ → ℕ → ℕ → ℕ) (env : Env) (events : List Event) (c : ℕ) (past : Past) (call : Call) (reply : Reply)
    → CauseOf M mix env events c past call reply → reply ≡ NoNode → needs_node call ≡ true
needs-none M mix env events c past call reply cause none =
    go call (subst (CauseOf M mix env events c past call) none cause)
  where
    go : (asked : Call) → CauseOf M mix env events c past asked NoNode → needs_node asked ≡ true
    go (Bind port owner once) saw = refl
    go (Find port) saw = absurd saw
    go (All port) saw = absurd saw
    go (Release port owner) saw = absurd saw
    go (Rebind port owner new) saw = refl
    go (Walk from limit) saw = absurd saw
    go Work saw = absurd saw
    go Tidy saw = absurd saw
    go Count saw = absurd saw

-- so many ports there were, by an operation that loaded the count
record HasSeenFull (M : Type 0) (mix : ℕ → ℕ → ℕ → ℕ) (env : Env) (events : List Event) (c count : ℕ) : Type 0 where
  did : Did
  saw : SawFull M mix env events c count did

-- a call that was answered so made one
saw-full : (M : Type 0) (mix : ℕ → ℕ → ℕ → ℕ) (env : Env) (events : List Event) (c : ℕ) (past : Past) (call : Call) (reply : Reply) (count : ℕ)
    → CauseOf M mix env events c past call reply → reply ≡ TooBig count → HasSeenFull M mix env events c count
saw-full M mix env events c past call reply count cause full =
    go call (subst (CauseOf M mix env events c past call) full cause)
  where
    go : (asked : Call) → CauseOf M mix env events c past asked (TooBig count) → HasSeenFull M mix env events c count
    go (Bind port owner once) saw = record { did = saw.at; saw = saw.full }
    go (Find port) saw = absurd saw
    go (All port) saw = absurd saw
    go (Release port owner) saw = absurd saw
    go (Rebind port owner new) saw = absurd saw
    go (Walk from limit) saw = absurd saw
    go Work saw = absurd saw
    go Tidy saw = absurd saw
    go Count saw = absurd saw

-- as many ports are bound where the bindings agree
pub AreBound-Agree : (here there : Multimap) (count : ℕ) → Agree there here → AreBound here count → AreBound there count
AreBound-Agree here there count agree are = record {
  ports = are.ports;
  distinct = are.distinct;
  bound =
      AllByRecursion-weaker (λ port. here port ≢ []) (λ port. there port ≢ []) (λ port some none. some (sym (agree port) ∙ none))
      are.ports are.bound;
  many = are.many;
}

-- where one of so many doesn't count, fewer count
fewer-below : (has : ℕ → Bool) (c n : ℕ) → c < n → has c ≡ false → count_below has n ≤ n - 1
fewer-below has c n low is =
    let more : ℕ → Bool = λ d. cond (d == c) true (has d) in
    let most = count_below-most more n in
    let one = count_below-more has more c n low is (ap (λ t. cond t true (has c)) (eq-eqb c c refl)) (λ d other. ap (λ t. cond t true (has d)) (ne_eqb d c other)) in
    omega (arith, most, one)

-- ---- a run that serves commands

module _ (M : Type 0) (mix : ℕ → ℕ → ℕ → ℕ) (env : Env) (auto : Bool) (commands : List (ℕ × Call)) (endings : List (List Ending))
    (events : List Event)
    (admitted : IsAdmitted events) (workers : length endings ≡ env.config.callers)
    (each : (c : ℕ) → c < env.config.callers
    → IsServing {M = M} (run_of mix env events) auto c (calls_of (c + 1) commands) (endings_by c endings)) where
  abbrev w : World M
  w = run_of mix env events

  abbrev r : Traced M
  r = traced_of mix env events

  same_world : r.world ≡ w
  same_world = world-traced_of M mix env events

  -- who is no worker has made no call, and has no endings
  no_endings : (c : ℕ) → env.config.callers ≤ c → endings_by c endings ≡ []
  no_endings c past = get_or_past endings c [] (omega (arith, workers, past))

  unknown : (c : ℕ) → env.config.callers ≤ c → w.core.enrolled ≤ c
  unknown c past =
      let stays : StaysIn M mix env w.core = runs-in M mix env events in
      let few = stays.few_enrolled in
      let callers = env.agrees.callers_same in
      omega (arith, few, callers, past)

  -- each caller's finished calls serve its commands, or it has none
  abbrev pub IsServed : ℕ → Type 0
  IsServed c =
      Serves auto (calls_of (c + 1) commands) (endings_by c endings) (w.books c).finished
      ⊎ (((w.books c).finished ≡ []) × (endings_by c endings ≡ []))

  pub serving : (c : ℕ) → IsServed c
  serving c = elim (cases_lt c env.config.callers) [
    | inl low ↦ inl (each c low).serves
    | inr past ↦ inr (ap (λ (v : View M). v.book.finished) (not_enrolled M mix env events admitted c (unknown c past)), no_endings c past)
  ]

  -- nobody is in a call
  idle : (c : ℕ) → is_idle (local_of w.core c) ≡ true
  idle c = elim (cases_lt c env.config.callers) [
    | inl low ↦ (each c low).idle
    | inr past ↦ ap (λ (v : View M). is_idle v.local) (not_enrolled M mix env events admitted c (unknown c past))
  ]

  no_call : (c : ℕ) → (r.world.books c).call ≡ None
  no_call c =
      (idle-book M mix env events c admitted (ap (λ (v : World M). is_idle (local_of v.core c)) same_world ∙ idle c)).call

  -- ---- entries

  pub ended : (history : List Numbered) → Fits M mix env events history → (c : ℕ)
      → AreEnded (about_bindings (r.traces c).past) (entries_of c history)
  ended history fitting c =
      let trace = r.traces c in
      none-progress (Any (ChangesBindings M mix env events) trace.steps) (r.world.books c).call trace.begin (length events)
      (about_bindings trace.past) (entries_of c history) (no_call c) (fitting.calls c)

  -- the past calls of a trace are the finished ones
  past_done : (c : ℕ) → map (λ (p : Past). p.done) (r.traces c).past ≡ (w.books c).finished
  past_done c =
      ((remembers M mix env events admitted).traces c).past ∙ ap (λ (v : World M). (v.books c).finished) same_world

  -- who is no worker has finished none
  no_others : (c : ℕ) → env.config.callers ≤ c → (w.books c).finished ≡ []
  no_others c past = ap (λ (v : View M). v.book.finished) (not_enrolled M mix env events admitted c (unknown c past))

  entries_are : (history : List Numbered) → Fits M mix env events history → (c : ℕ)
      → entries_by c (history_of history) ≡ entries_of_finished c (w.books c).finished
  entries_are history fitting c =
      entries_by-ended c (r.traces c).past history (ended history fitting c) ∙ ap (entries_of_finished c) (past_done c)

  pub finished_are : (history : List Numbered) → Fits M mix env events history → env.config.callers ≡ 1
      → history_of history ≡ entries_of_finished 0 (w.books 0).finished
  finished_are history fitting one =
      sym (all_first (history_of history) (λ c more.
      entries_are history fitting c ∙ ap (entries_of_finished c) (no_others c (omega (arith, one, more)))))
      ∙ entries_are history fitting 0

  -- ---- what is bound at the end

  past_calls : (c : ℕ) → AllByRecursion (λ past. behind_call past ≤ length events) (r.traces c).past
  past_calls c =
      AllByRecursion-weaker (IsPastCall M mix env events c) (λ p. behind_call p ≤ length events) (past-ends M mix env events c)
      (r.traces c).past (at_events M mix env events admitted c).past

  all_below : (history : List Numbered) → Fits M mix env events history → AllBelow (length events) history
  all_below history fitting =
      AllBelow-callers (length events) history (λ c.
      ended-below (length events) (about_bindings (r.traces c).past) (entries_of c history)
      (about-ended (length events) (r.traces c).past (past_calls c)) (ended history fitting c))

  leaves_bound : (history : List Numbered) → Fits M mix env events history
      → Agree (bindings_left env.config.kind unbound (history_of history)) (stands_for env.geometry w.core.words)
  leaves_bound history fitting port =
      left-behind M mix env events history fitting (length events) history [] (sym (append-nil history)) (all_below history fitting) tt
      (omega arith) port
      ∙ ap (λ es. stands_for env.geometry (run_of {M = M} mix env es).core.words port) (take-length events)

  -- ---- no node

  abbrev need : ℕ → ℕ
  need c = count_by needs_node (calls_of (c + 1) commands)

  abbrev took : ℕ → ℕ
  took c = takers_of (w.books c)

  took-none : (c : ℕ) → (w.books c).call ≡ None → took c ≡ count_by took_node (w.books c).finished
  took-none c none =
      let zero : ◌≡◌ {A = ℕ} (cond (may_take_node (w.books c).call) 1 0) 0 = ap (λ o. cond (may_take_node o) 1 0) none in
      omega (arith, zero)

  pub no_call_there : (c : ℕ) → (w.books c).call ≡ None
  no_call_there c = ap (λ (v : World M). (v.books c).call) (sym same_world) ∙ no_call c

  -- each call that found no node needs one
  need_nodes : (c : ℕ) → AllByRecursion NeedsNode (w.books c).finished
  need_nodes c =
      subst (AllByRecursion NeedsNode) (past_done c)
      (AllByRecursion-of_map NeedsNode (λ (p : Past). p.done) (r.traces c).past
      (AllByRecursion-weaker (HasCause M mix env events c) (λ (p : Past). NeedsNode p.done)
      (λ past cause none. needs-none M mix env events c past past.done.call past.done.reply cause none)
      (r.traces c).past (causes M mix env events c admitted)))

  -- no more of a worker's calls take a node than its commands need
  takes_few : (c : ℕ) → TakesFew (need c) 0 (w.books c).finished
  takes_few c = few (serving c)
    where
      few : IsServed c → TakesFew (need c) 0 (w.books c).finished
      few (inl serves) =
          few-serves auto (calls_of (c + 1) commands) (endings_by c endings) (w.books c).finished (need c) 0 serves (need_nodes c)
          (omega arith)
      few (inr empty) = subst (TakesFew (need c) 0) (sym empty.0) (omega arith)

  took_most : (c : ℕ) → took c ≤ need c
  took_most c =
      let few = few-took (need c) 0 (w.books c).finished (takes_few c) in
      let none = took-none c (no_call_there c) in
      omega (arith, few, none)

  -- where one of a worker's calls found none there are too few
  outnumbered : (c : ℕ) (front rest : List Past) (past : Past) → c < env.config.callers → (r.traces c).past ≡ front ++ past ∷ rest
      → past.done.reply ≡ NoNode → IsOutnumbered env.config commands
  outnumbered c front rest past low parts none =
      let done : Past → Finished = λ p. p.done in
      let finished : map done front ++ past.done ∷ map done rest ≡ (w.books c).finished =
      sym (ap (map done) parts ∙ map-append done front (past ∷ rest)) ∙ past_done c in
      let earlier = count_by took_node (map done front) in
      let less = few-before (need c) 0 (map done front) (map done rest) past.done
      (subst (TakesFew (need c) 0) (sym finished) (takes_few c)) none in
      let before : ℕ → ℕ = λ d. cond (d == c) earlier (took d) in
      let own : before c ≡ earlier = ap (λ t. cond t earlier (took c)) (eq-eqb c c refl) in
      let each_most : (d : ℕ) → before d ≤ need d = λ d. most d (d == c) refl in
      let n = env.geometry.callers in
      let callers = env.agrees.callers_same in
      let sums = sum-below before need c 0 n (omega arith) (omega (arith, low, callers)) (omega (arith, own, less)) each_most in
      let all = sum-calls_of needs_node n commands in
      let many : env.geometry.nodes ≤ sum_by before (range_with_len 0 n) =
      subst (λ (v : World M). env.geometry.nodes ≤ sum_by (λ d. cond (d == c) earlier (takers_of (v.books d))) (range_with_len 0 n)) same_world
      (nodes_before M mix env events admitted c front rest past parts none) in
      let nodes_same = env.agrees.nodes_same in
      omega (arith, sums, all, many, nodes_same)
    where
      most : (d : ℕ) (t : Bool) → (d == c) ≡ t → cond t (count_by took_node (map (λ (p : Past). p.done) front)) (took d) ≤ need d
      most d false other = took_most d
      most d true same =
          let done : Past → Finished = λ p. p.done in
          let finished : map done front ++ past.done ∷ map done rest ≡ (w.books c).finished =
          sym (ap (map done) parts ∙ map-append done front (past ∷ rest)) ∙ past_done c in
          let less = few-before (need c) 0 (map done front) (map done rest) past.done
          (subst (TakesFew (need c) 0) (sym finished) (takes_few c)) none in
          subst (λ e. count_by took_node (map done front) ≤ need e) (sym (eqb-true d c same)) (omega (arith, less))

  -- by induction over the calls
  outnumbered_all : (c : ℕ) (front calls : List Past) → c < env.config.callers → (r.traces c).past ≡ front ++ calls
      → AllByRecursion (λ (p : Past). p.done.reply ≡ NoNode → IsOutnumbered env.config commands) calls
  outnumbered_all c front [] low parts = tt
  outnumbered_all c front (past ∷ calls) low parts = (
    outnumbered c front calls past low parts,
    outnumbered_all c (front ++ past ∷ []) calls low (parts ∙ sym (append_assoc front (past ∷ []) calls)),
  )

  no_node_told : (c : ℕ)
      → AllByRecursion (λ (d : Finished). d.reply ≡ NoNode → IsOutnumbered env.config commands) (w.books c).finished
  no_node_told c = elim (cases_lt c env.config.callers) [
    | inl low ↦
        subst (AllByRecursion (λ (d : Finished). d.reply ≡ NoNode → IsOutnumbered env.config commands)) (past_done c)
        (AllByRecursion-of_map (λ (d : Finished). d.reply ≡ NoNode → IsOutnumbered env.config commands) (λ (p : Past). p.done)
        (r.traces c).past (outnumbered_all c [] (r.traces c).past low refl))
    | inr past ↦ rw (no_others c past) tt
  ]

  -- ---- a full table

  module _ (history : List Numbered) (fitting : Fits M mix env events history) where
    -- some first entries of the history leave what the words stood for behind so many events
    record LeftAt (n : ℕ) : Type 0 where
      before : List Entry
      behind : List Entry
      split : history_of history ≡ before ++ behind
      agree : Agree (bindings_left env.config.kind unbound before) (bindings_behind M mix env events n)

    left_within : (n : ℕ) → n ≤ length events → LeftAt n
    left_within n within =
        let at = split_at n 0 history fitting.rising in
        record {
          before = history_of at.low;
          behind = history_of at.high;
          split = ap history_of at.is ∙ map-append (λ (x : Numbered). x.entry) at.low at.high;
          agree = left-behind M mix env events history fitting n at.low at.high at.is at.below at.rising within;
        }

    left_at : (n : ℕ) → LeftAt n
    left_at n = elim (cases_lt (length events) n) [
      | inl past ↦
          let at = left_within (length events) (omega arith) in
          record {
            before = at.before;
            behind = at.behind;
            split = at.split;
            agree = λ port. at.agree port
                ∙ ap (λ es. stands_for env.geometry (run_of {M = M} mix env es).core.words port)
                (take-length events ∙ sym (take_all n events (omega (arith, past))));
          }
      | inr within ↦ left_within n within
    ]

    -- each other caller is one of the other workers
    others_few : (n c : ℕ) → c < env.config.callers
        → others_in_call (run_of {M = M} mix env (take n events)).core c ≤ env.config.callers - 1
    others_few n c low =
        let core : Core M = (run_of mix env (take n events)).core in
        let stays : StaysIn M mix env core = runs-in M mix env (take n events) in
        let callers : core.env.geometry.callers ≡ env.config.callers =
        ap (λ (e : Env). e.geometry.callers) stays.same_env ∙ env.agrees.callers_same in
        let busy : ℕ → Bool = λ d. not (d == c) && not (is_idle (local_of core d)) in
        let own : busy c ≡ false = ap (λ t. not t && not (is_idle (local_of core c))) (eq-eqb c c refl) in
        let few = fewer-below busy c env.config.callers low own in
        let counted = count_by-range busy core.env.geometry.callers ∙ ap (count_below busy) callers in
        omega (arith, few, counted)

    was_full : (c count : ℕ) → c < env.config.callers → HasSeenFull M mix env events c count
        → WasFull env.config (history_of history) count
    was_full c count low seen =
        let did = seen.did in
        let at = left_at did.index in
        let counted = seen.saw.counted in
        record {
          full = seen.saw.full;
          before = at.before;
          behind = at.behind;
          split = at.split;
          bound = counted.bound;
          are_bound =
              AreBound-Agree (bindings_behind M mix env events did.index) (bindings_left env.config.kind unbound at.before) counted.bound
              at.agree counted.are_bound;
          enough = (
              let enough = counted.enough in
              let few = others_few did.index c low in
              omega (arith, enough, few)
              );
        }

    full_told : (c count : ℕ)
        → AllByRecursion (λ (d : Finished). d.reply ≡ TooBig count → WasFull env.config (history_of history) count) (w.books c).finished
    full_told c count = elim (cases_lt c env.config.callers) [
      | inl low ↦
          subst (AllByRecursion (λ (d : Finished). d.reply ≡ TooBig count → WasFull env.config (history_of history) count)) (past_done c)
          (AllByRecursion-of_map (λ (d : Finished). d.reply ≡ TooBig count → WasFull env.config (history_of history) count)
          (λ (p : Past). p.done) (r.traces c).past
          (AllByRecursion-weaker (HasCause M mix env events c)
          (λ (p : Past). p.done.reply ≡ TooBig count → WasFull env.config (history_of history) count)
          (λ p cause is. was_full c count low (saw-full M mix env events c p p.done.call p.done.reply count cause is))
          (r.traces c).past (causes M mix env events c admitted)))
      | inr past ↦ rw (no_others c past) tt
    ]

  -- ---- all of it

  -- a history that fits the run tells what the commands were answered
  told_of : (history : List Numbered) → Fits M mix env events history
      → (closed : Closed) → IsClosedOf env.geometry w.core.words closed
      → IsTold env.config auto commands endings closed (history_of history)
  told_of history fitting closed is_closed = record {
    legal = fitting.legal;
    dones = λ c. (w.books c).finished;
    serves = λ c low. (each c low).serves;
    no_others = no_others;
    entries = entries_are history fitting;
    in_order = finished_are history fitting;
    leaves = record {
      rising = is_closed.bound.rising;
      bound = is_closed.bound.bound;
      agree = λ port. is_closed.bound.agree port ∙ sym (leaves_bound history fitting port);
    };
    no_node = no_node_told;
    full = full_told history fitting;
  }

-- what it tells is so of the same config under another name, with the same finished calls
told_as : (here config : Config) (auto : Bool) (commands : List (ℕ × Call)) (endings : List (List Ending)) (closed : Closed)
    (history : List Entry) → here ≡ config → IsTold here auto commands endings closed history
    → IsTold config auto commands endings closed history
told_as here config auto commands endings closed history same is = record {
  legal = subst (λ (k : Config). IsLegal k.kind history) same is.legal;
  dones = is.dones;
  serves = λ c low. is.serves c (subst (λ (k : Config). c < k.callers) (sym same) low);
  no_others = λ c past. is.no_others c (subst (λ (k : Config). k.callers ≤ c) (sym same) past);
  entries = is.entries;
  in_order = λ one. is.in_order (ap (λ (k : Config). k.callers) same ∙ one);
  leaves = subst (λ (k : Config). Lists closed.bindings.pairs (bindings_left k.kind unbound history)) same is.leaves;
  no_node = λ c.
      subst (λ (k : Config). AllByRecursion (λ (d : Finished). d.reply ≡ NoNode → IsOutnumbered k commands) (is.dones c)) same
      (is.no_node c);
  full = λ c count.
      subst (λ (k : Config). AllByRecursion (λ (d : Finished). d.reply ≡ TooBig count → WasFull k history count) (is.dones c)) same
      (is.full c count);
}

pub told : (M : Type 0) (mix : ℕ → ℕ → ℕ → ℕ) → HasToldHistory M mix
unfolding told_as told_of
told M mix config auto commands endings closed served =
    let env = served.env in
    let same = served.config_same in
    let (history, fitting) = fits M mix env served.events served.admitted in (
      history_of history,
      record {
        told =
            told_as env.config config auto commands endings closed (history_of history) same
            (told_of M mix env auto commands endings served.events served.admitted
            (served.workers ∙ ap (λ (k : Config). k.callers) (sym same))
            (λ c low. served.each c (subst (λ (k : Config). c < k.callers) same low))
            history fitting closed served.closed_is);
        dones_are = λ c. refl;
        numbered = history;
        without_numbers = refl;
        fits = fitting;
      },
    )
