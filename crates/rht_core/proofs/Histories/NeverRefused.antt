-- Of the commands that a run serves none about bindings is refused, and no walk has to begin anew, where the binds have at most 15 different ports, and the table has 64 first
-- buckets or more, doesn't shrink, and has a node for each bind and rebind. One worker needs 16 buckets, and ports fewer than 16 at a time.
--
-- All workers: the finished calls are those of the commands, tidyings and `work`s, so the run has few ports, and no bind is refused but
-- for want of a node, nor is a table made. That no call wants for a node is what the history tells where there are as many nodes.
--
-- One worker: by induction over the events, fewer than 16 ports are bound behind each. The entries below an event leave what is bound behind
-- it. Each but the last is of a call that had ended before, in a run of fewer events, where no bind was refused but for want of a node; so it
-- was answered, and the entries leave what some first commands leave by the model. It is no matter whether the last one is refused. Each of
-- these first commands ended as the model answers it. So of others nothing has to be known.
use Rattle.std.proofs.Common.{◌≡◌, ◌≢◌, ℕ, zero, suc, ◌+◌, ◌<◌, ◌≤◌, ◌==◌, Bool, true, false, cond, List, [], ◌∷◌, ◌++◌, length, map, take, refl, sym, ◌∙◌, ap, subst, inl, inr, arith}
use Rattle.std.specs.Prelude.{Option, IfSome, ◌&&◌, count_by}
use Rattle.std.specs.List.{AllByRecursion}
use Rattle.std.proofs.lemmas.Bool.{cases_lt}
use Rattle.std.proofs.lemmas.List.{take_all, take-take, map-append, length-take-le}
use Rattle.std.proofs.lemmas.List.Sums.{sum_by-cons}
use Rattle.std.proofs.Math.Seq.{take-length}
use Rattle.rht_words.specs.declared.config.Config.{Config}
use Rattle.rht_words.specs.declared.config.Kind.{Kind}
use Rattle.rht_words.specs.declared.env.Env.{Env}
use Rattle.rht_words.specs.Places.{Slot, ShapeWord, word_at}
use Rattle.rht_words.specs.Links.{table_of}
use Rattle.rht_words.specs.Shapes.{size_of, unpacked}
use Rattle.rht_words.specs.Sizes.{first_size}
use Rattle.rht_words.proofs.EachElement.{AllByRecursion-append, AllByRecursion-both, AllByRecursion-cut, AllByRecursion-weaker}
use Rattle.rht_words.proofs.Members.{one_if}
use Rattle.rht_words.proofs.OpeningLaws.{opens_flat}
use Rattle.rht_model.specs.declared.bindings.Closed.{Closed}
use Rattle.rht_model.specs.declared.history.Call.{Call}
use Rattle.rht_model.specs.declared.history.Call.TheVariants.{Bind, Work, Tidy}
use Rattle.rht_model.specs.declared.history.Entry.{Entry}
use Rattle.rht_model.specs.declared.history.Reply.{Reply}
use Rattle.rht_model.specs.declared.history.Reply.TheVariants.{NoNode}
use Rattle.rht_model.specs.declared.finished.Finished.{Finished}
use Rattle.rht_model.specs.Multimap.{unbound}
use Rattle.rht_model.specs.Endings.{Ending, ended_with}
use Rattle.rht_model.specs.Histories.{IsLegal, bindings_left}
use Rattle.rht_model.specs.Listing.{Lists}
use Rattle.rht_core.specs.declared.event.Event.{Event}
use Rattle.rht_core.specs.Alone.{bindings_at}
use Rattle.rht_core.specs.Runs.{World, run_of, IsAdmitted, IsAdmittedEvent}
use Rattle.rht_stands.specs.Closing.{IsClosedOf, current_size}
use Rattle.rht_core.specs.FewPorts.{BindsAmong, HasFewPorts, IsNoTableMade, IsBindTaken, IsCallTaken, IsForOne}
use Rattle.rht_core.specs.Laws.{IsPastCall}
use Rattle.rht_core.specs.NeverRefused.{IsRoomyFor, NoneRefused, EndWith, AreAllTaken, bindings_after_all, IsSmallFor, EndAsAnswered, AreAsModel, RoomyTakesAll, OneWorkerAsModel}
use Rattle.rht_core.specs.NodesUsed.{needs_node}
use Rattle.rht_core.specs.Numbered.{Numbered, history_of}
use Rattle.rht_core.specs.Replies.{IsRightlyAnswered}
use Rattle.rht_core.specs.RunHistories.{bindings_behind, about_bindings, Fits}
use Rattle.rht_core.specs.Serving.{asks_for_work, calls_of, AreBehind, AreTries, Serves, IsServing, IsServedRun}
use Rattle.rht_stands.specs.StandsFor.{AreBound}
use Rattle.rht_core.specs.ToldHistories.{endings_by, IsOutnumbered, IsTold}
use Rattle.rht_core.specs.Traces.{Past, Traced, traced_of, behind_call}
use Rattle.rht_core.proofs.Counting.FewPorts.{few_ports}
use Rattle.rht_core.proofs.Counting.FullTables.{taken}
use Rattle.rht_core.proofs.Counting.OneCaller.{one_caller}
use Rattle.rht_core.proofs.Tracing.TracedRuns.{world-traced_of}
use Rattle.rht_core.proofs.Tracing.TracesInRuns.{remembers}
use Rattle.rht_core.proofs.Tracing.TracesAtEvents.{at_events}
use Rattle.rht_core.proofs.Tracing.CallsOfFronts.{calls-later}
use Rattle.rht_core.proofs.Tracing.RepliesInRuns.{replies}
use Rattle.rht_core.proofs.Histories.CallEnds.{AreEnded}
use Rattle.rht_core.proofs.Histories.AloneLaw.{left-behind}
use Rattle.rht_core.proofs.Histories.ToldEntries.{command_parts, FoundSome, command_first, AllByRecursion-behind, entries_told, entries_of_finished-serves, replies-serves, AllByRecursion-in_map, split_at}
use Rattle.rht_core.proofs.Histories.ToldHistories.{AreBound-Agree, IsServed, serving, ended, finished_are, no_call_there, told}
use Rattle.rht_core.proofs.Histories.AnsweredInOrder.{IsTaken, IsRefusedForNode, IsRefusedForNode-reply, entries_told-replies, entries_told-caller, calls_in, bindings_left-first, after-told, answered_in_order, entries_of-all, not_refused, IsTakenBefore, answers-below}

-- ---- calls that serve commands

-- what is so of `work` is so of all calls that a worker makes by itself
behind-all : (P : Call → Type 0) → P Work → (asked : Bool) (behind : List Finished) → AreBehind asked behind
    → AllByRecursion (λ (d : Finished). P d.call) behind
behind-all P work true [] works = absurd works
behind-all P work true (d ∷ []) works = (subst P (sym works.0) work, tt)
behind-all P work true (d ∷ next ∷ behind) works = (subst P (sym works.0) work, behind-all P work true (next ∷ behind) works.2)
behind-all P work false behind none = subst (AllByRecursion (λ (d : Finished). P d.call)) (sym none) tt

-- and what is so of a tidying and of a command's call is so of all calls until that has its reply
tries-all : (P : Call → Type 0) → P Tidy → (call : Call) → P call → (ending : Ending) (tries : List Finished) → AreTries call ending tries
    → AllByRecursion (λ (d : Finished). P d.call) tries
tries-all P tidies call own ending [] are = absurd are
tries-all P tidies call own ending (done ∷ []) are = (subst (λ (d : Finished). P d.call) (sym are.0) own, tt)
tries-all P tidies call own ending (first ∷ tidy ∷ []) are = absurd are
tries-all P tidies call own ending (first ∷ tidy ∷ done ∷ []) are =
    (subst P (sym are.0) own, (subst P (sym are.2) tidies, (subst (λ (d : Finished). P d.call) (sym are.3) own, tt)))
tries-all P tidies call own ending (first ∷ tidy ∷ done ∷ next ∷ dones) are = absurd are

module _ (auto : Bool) where
  -- so what is so of all commands besides is so of all calls
  calls-serve : (P : Call → Type 0) → P Work → P Tidy → (calls : List Call) (endings : List Ending) (done : List Finished)
      → Serves auto calls endings done → AllByRecursion P calls → AllByRecursion (λ (d : Finished). P d.call) done
  calls-serve P work tidies [] [] done serves all = subst (AllByRecursion (λ (d : Finished). P d.call)) (sym serves) tt
  calls-serve P work tidies [] (ending ∷ endings) done serves all = absurd serves
  calls-serve P work tidies (call ∷ calls) [] done serves all = absurd serves
  calls-serve P work tidies (call ∷ calls) (ending ∷ endings) done serves all =
      let Q : Finished → Type 0 = λ d. P d.call in
      let tries = serves.first_is.tries in
      let behind = serves.first_is.behind in
      let tried = tries-all P tidies call all.0 ending tries serves.first_is.are_tries in
      let made = behind-all P work (auto && asks_for_work call ending.answer.reply) behind serves.first_is.works in
      let others = calls-serve P work tidies calls endings serves.rest serves.rest_is all.1 in
      subst (AllByRecursion Q) (sym (command_parts auto call ending (Serves auto calls endings) done serves))
      (AllByRecursion-append Q tries (behind ++ serves.rest) tried (AllByRecursion-append Q behind serves.rest made others))

  -- what is so of each call is so of each command with its reply
  tries-last : (Is : Call → Reply → Type 0) (call : Call) (ending : Ending) (tries : List Finished) → AreTries call ending tries
      → AllByRecursion (λ (d : Finished). Is d.call d.reply) tries → Is call ending.answer.reply
  tries-last Is call ending [] are all = absurd are
  tries-last Is call ending (done ∷ []) are all = subst (λ (d : Finished). Is d.call d.reply) are.0 all.0
  tries-last Is call ending (first ∷ tidy ∷ []) are all = absurd are
  tries-last Is call ending (first ∷ tidy ∷ done ∷ []) are all = subst (λ (d : Finished). Is d.call d.reply) are.3 all.1.1.0
  tries-last Is call ending (first ∷ tidy ∷ done ∷ next ∷ dones) are all = absurd are

  end-with : (Is : Call → Reply → Type 0) (calls : List Call) (endings : List Ending) (done : List Finished) → Serves auto calls endings done
      → AllByRecursion (λ (d : Finished). Is d.call d.reply) done → EndWith Is calls endings
  end-with Is [] [] done serves all = tt
  end-with Is [] (ending ∷ endings) done serves all = absurd serves
  end-with Is (call ∷ calls) [] done serves all = absurd serves
  end-with Is (call ∷ calls) (ending ∷ endings) done serves all =
      let Q : Finished → Type 0 = λ d. Is d.call d.reply in
      let tries = serves.first_is.tries in
      let behind = serves.first_is.behind in
      let parts = AllByRecursion-cut Q tries (behind ++ serves.rest)
      (subst (AllByRecursion Q) (command_parts auto call ending (Serves auto calls endings) done serves) all) in
      let rest = AllByRecursion-cut Q behind serves.rest parts.1 in (
        tries-last Is call ending tries serves.first_is.are_tries parts.0,
        end-with Is calls endings serves.rest serves.rest_is rest.1,
      )

  -- where calls are refused for want of a node alone, and none is, no command is refused
  none-refused : (calls : List Call) (endings : List Ending) (done : List Finished) → Serves auto calls endings done
      → AllByRecursion (λ (d : Finished). IsRefusedForNode d.call d.reply) done → AllByRecursion FoundSome done
      → NoneRefused calls endings
  none-refused [] [] done serves all some = tt
  none-refused [] (ending ∷ endings) done serves all some = absurd serves
  none-refused (call ∷ calls) [] done serves all some = absurd serves
  none-refused (call ∷ calls) (ending ∷ endings) done serves all some =
      let Q : Finished → Type 0 = λ d. IsRefusedForNode d.call d.reply in
      let behind = serves.first_is.behind in
      let first = command_first auto call ending (Serves auto calls endings) done serves some in
      let each : AllByRecursion Q (ended_with call ending ∷ behind ++ serves.rest) = subst (AllByRecursion Q) first all in
      let found : AllByRecursion FoundSome (ended_with call ending ∷ behind ++ serves.rest) = subst (AllByRecursion FoundSome) first some in (
        λ about. not_refused call ending.answer.reply each.0 about found.0,
        none-refused calls endings serves.rest serves.rest_is (AllByRecursion-behind Q behind serves.rest each.1)
            (AllByRecursion-behind FoundSome behind serves.rest found.1),
      )

-- what is so of all commands is so of those of a worker
calls_of-all : (P : Call → Type 0) (worker : ℕ) (commands : List (ℕ × Call)) → AllByRecursion (λ (command : ℕ × Call). P command.1) commands
    → AllByRecursion P (calls_of worker commands)
calls_of-all P worker [] all = tt
calls_of-all P worker (command ∷ commands) all = go (command.0 == worker) (calls_of-all P worker commands all.1)
  where
    go : (t : Bool) → AllByRecursion P (calls_of worker commands)
        → AllByRecursion P (cond t (command.1 ∷ calls_of worker commands) (calls_of worker commands))
    go true others = (all.0, others)
    go false others = others

-- a call that is taken is so as a bind
IsBindTaken-call : (call : Call) (reply : Reply) → IsCallTaken call reply → IsBindTaken call reply
IsBindTaken-call (Bind port owner once) reply is = is
IsBindTaken-call _ reply is = tt

module _ (M : Type 0) (mix : ℕ → ℕ → ℕ → ℕ) (env : Env) where
  -- so where no bind of a caller is refused but for want of a node, no call is
  for_node : (events : List Event) (c : ℕ) → IsAdmitted events
      → let done = ((run_of {M = M} mix env events).books c).finished in
      AllByRecursion (λ (d : Finished). IsBindTaken d.call d.reply) done
      → AllByRecursion (λ (d : Finished). IsRefusedForNode d.call d.reply) done
  for_node events c admitted binds =
      AllByRecursion-both IsRightlyAnswered (λ (d : Finished). IsBindTaken d.call d.reply) (λ (d : Finished). IsRefusedForNode d.call d.reply)
      (λ d is bind. IsRefusedForNode-reply d.call d.reply is.reply bind) ((run_of {M = M} mix env events).books c).finished
      (replies M mix env events admitted c).finished binds

  -- a table of which none was made has the size with which it began
  same_size : (words : List ℕ) → IsNoTableMade env words → current_size env.geometry words ≡ first_size env.config
  same_size words none =
      let flat = opens_flat env in
      ap (λ word. size_of (unpacked (word_at env.geometry words (Slot (table_of word) ShapeWord)))) none.current
      ∙ ap (λ word. size_of (unpacked word)) (none.slots 0 ShapeWord (omega arith) tt) ∙ ap size_of flat.shape ∙ flat.size

-- ---- a run that serves commands

-- As `IsSmallFor`, where the calls ended so. But that few ports are bound is asked only behind such first calls as all ended the way that the
-- model answers them.
pub record IsSmallWhileAnswered (config : Config) (calls : List Call) (endings : List Ending) : Type 0 where
  pub one : config.callers ≡ 1
  pub first : 16 ≤ first_size config
  pub keeps_size : config.shrink ≡ false
  pub nodes : count_by needs_node calls ≤ config.nodes
  pub few : (n : ℕ) → EndAsAnswered config.kind unbound (take n calls) (take n endings)
      → ¬ AreBound (bindings_after_all config.kind unbound (take n calls)) 16

module _ (M : Type 0) (mix : ℕ → ℕ → ℕ → ℕ) (env : Env) (auto : Bool) (commands : List (ℕ × Call)) (endings : List (List Ending))
    (events : List Event)
    (admitted : IsAdmitted events) (workers : length endings ≡ env.config.callers)
    (each : (c : ℕ) → c < env.config.callers
    → IsServing {M = M} (run_of mix env events) auto c (calls_of (c + 1) commands) (endings_by c endings)) where
  abbrev w : World M
  w = run_of mix env events

  -- ---- all workers

  has_few_ports : IsRoomyFor env.config commands → HasFewPorts env w
  has_few_ports roomy = record {
    first = roomy.first;
    keeps_size = roomy.keeps_size;
    ports = roomy.ports;
    few = roomy.few;
    among = λ c. record {
      ended = ended_among c (serving M mix env auto commands endings events admitted workers each c);
      progress =
          subst (λ (o : Option Call). IfSome o (BindsAmong roomy.ports))
          (sym (no_call_there M mix env auto commands endings events admitted workers each c)) tt;
    };
  }
    where
      ended_among : (c : ℕ) → IsServed M mix env auto commands endings events admitted workers each c
          → AllByRecursion (λ (d : Finished). BindsAmong roomy.ports d.call) (w.books c).finished
      ended_among c (inl serves) =
          calls-serve auto (BindsAmong roomy.ports) tt tt (calls_of (c + 1) commands) (endings_by c endings) (w.books c).finished serves
          (calls_of-all (BindsAmong roomy.ports) (c + 1) commands roomy.among)
      ended_among c (inr none) = subst (AllByRecursion (λ (d : Finished). BindsAmong roomy.ports d.call)) (sym none.0) tt

  all_taken : (closed : Closed) → IsClosedOf env.geometry w.core.words closed → IsRoomyFor env.config commands
      → ((c : ℕ) → AllByRecursion FoundSome (w.books c).finished)
      → AreAllTaken env.config commands endings closed
  all_taken closed is_closed roomy some =
      let stays = few_ports M mix env events admitted (has_few_ports roomy) in
      record {
        taken = λ c low.
            let done = (w.books c).finished in
            none-refused auto (calls_of (c + 1) commands) (endings_by c endings) done (each c low).serves
            (for_node M mix env events c admitted
            (AllByRecursion-weaker (λ (d : Finished). IsCallTaken d.call d.reply) (λ (d : Finished). IsBindTaken d.call d.reply)
            (λ d. IsBindTaken-call d.call d.reply) done (stays.taken c)))
            (some c);
        calls = λ c low.
            end-with auto IsCallTaken (calls_of (c + 1) commands) (endings_by c endings) (w.books c).finished (each c low).serves
            (stays.taken c);
        size = is_closed.size ∙ same_size M mix env w.core.words stays.none_made;
      }

  -- ---- one worker

  module _ (small : IsSmallWhileAnswered env.config (calls_of 1 commands) (endings_by 0 endings))
      (some : AllByRecursion FoundSome (w.books 0).finished)
      (history : List Numbered) (fitting : Fits M mix env events history) where
    abbrev kind : Kind
    kind = env.config.kind

    abbrev calls : List Call
    calls = calls_of 1 commands

    abbrev entries : List Entry
    entries = entries_told 0 calls (endings_by 0 endings)

    -- the caller's calls that have ended
    abbrev past : List Past
    past = ((traced_of {M = M} mix env events).traces 0).past

    -- the history is that of the commands
    entries_are : history_of history ≡ entries
    entries_are =
        finished_are M mix env auto commands endings events admitted workers each history fitting small.one
        ∙ entries_of_finished-serves auto 0 calls (endings_by 0 endings) (w.books 0).finished
        (each 0 (let one = small.one in omega (arith, one))).serves some

    ended_all : AreEnded (about_bindings past) history
    ended_all =
        subst (AreEnded (about_bindings past))
        (entries_of-all 0 history
        (subst (AllByRecursion (λ (entry : Entry). entry.caller ≡ 0)) (sym entries_are) (entries_told-caller 0 calls (endings_by 0 endings))))
        (ended M mix env auto commands endings events admitted workers each history fitting 0)

    -- no entry says that there was no node
    found_all : AllByRecursion (λ (x : Numbered). x.entry.reply ≢ NoNode) history
    found_all =
        AllByRecursion-in_map (λ (entry : Entry). entry.reply ≢ NoNode) (λ (x : Numbered). x.entry) history
        (subst (AllByRecursion (λ (entry : Entry). entry.reply ≢ NoNode)) (sym entries_are)
        (entries_told-replies (λ reply. reply ≢ NoNode) 0 calls (endings_by 0 endings)
        (replies-serves auto (λ reply. reply ≢ NoNode) calls (endings_by 0 endings) (w.books 0).finished
        (each 0 (let one = small.one in omega (arith, one))).serves some)))

    abbrev IsFewAt : ℕ → Type 0
    IsFewAt n = ¬ AreBound (bindings_behind M mix env events n) 16

    -- the first events are those of a run of one caller, where few ports are bound behind each of them
    is_for_one : (m : ℕ) → m ≤ length events → ((i : ℕ) → i ≤ m → IsFewAt i) → IsForOne M mix env (take m events)
    is_for_one m within few = record {
      one = small.one;
      first = small.first;
      keeps_size = small.keeps_size;
      few = λ i. elim (cases_lt m i) [
        | inl past_all ↦
            let long = length-take-le m events within in
            subst (λ (es : List Event). ¬ AreBound (bindings_at M mix env es) 16)
            (sym (take_all i (take m events) (omega (arith, long, past_all)))) (few m (omega arith))
        | inr low ↦
            subst (λ (es : List Event). ¬ AreBound (bindings_at M mix env es) 16)
            (sym (take-take i m events (omega (arith, low)))) (few i (omega (arith, low)))
      ];
    }

    -- so there no call is refused but for want of a node
    front_taken : (m : ℕ) → m ≤ length events → ((i : ℕ) → i ≤ m → IsFewAt i)
        → AllByRecursion (λ (d : Finished). IsRefusedForNode d.call d.reply) ((run_of {M = M} mix env (take m events)).books 0).finished
    front_taken m within few =
        let front = taken IsAdmittedEvent m events admitted in
        for_node M mix env (take m events) 0 front (one_caller M mix env (take m events) 0 front (is_for_one m within few))

    -- and those calls are the ones that had ended by then
    taken_before : (n : ℕ) → n ≤ length events → ((i : ℕ) → i < n → IsFewAt i) → AllByRecursion (IsTakenBefore n) past
    taken_before zero within few =
        AllByRecursion-weaker (IsPastCall M mix env events 0) (IsTakenBefore 0) (λ p is none. absurd (omega (arith, none))) past
        (at_events M mix env events admitted 0).past
    taken_before (suc m) within few =
        let low : m ≤ length events = omega (arith, within) in
        let front = taken IsAdmittedEvent m events admitted in
        let r : Traced M = traced_of mix env (take m events) in
        let early = (r.traces 0).past in
        let later = calls-later M mix env events 0 m low in
        let done : map (λ (p : Past). p.done) early ≡ ((run_of {M = M} mix env (take m events)).books 0).finished =
        ((remembers M mix env (take m events) front).traces 0).past
        ∙ ap (λ (v : World M). (v.books 0).finished) (world-traced_of M mix env (take m events)) in
        let all = AllByRecursion-in_map (λ (d : Finished). IsRefusedForNode d.call d.reply) (λ (p : Past). p.done) early
        (subst (AllByRecursion (λ (d : Finished). IsRefusedForNode d.call d.reply)) (sym done)
        (front_taken m low (λ i l. few i (omega (arith, l))))) in
        subst (AllByRecursion (IsTakenBefore (suc m))) (sym later.is)
        (AllByRecursion-append (IsTakenBefore (suc m)) early later.later
        (AllByRecursion-weaker (λ (p : Past). IsRefusedForNode p.done.call p.done.reply) (IsTakenBefore (suc m)) (λ p is before. is) early all)
        (AllByRecursion-weaker (λ p. m < behind_call p) (IsTakenBefore (suc m)) (λ p high before. absurd (omega (arith, high, before)))
        later.later later.behind))

    -- what is bound behind so many events is what some first commands leave, by the model
    few_at : (n : ℕ) → n ≤ length events → ((i : ℕ) → i < n → IsFewAt i) → IsFewAt n
    few_at n within few are =
        let at = split_at n 0 history fitting.rising in
        let low = history_of at.low in
        let high = history_of at.high in
        let agree = left-behind M mix env events history fitting n at.low at.high at.is at.below at.rising within in
        let found = AllByRecursion-cut (λ (x : Numbered). x.entry.reply ≢ NoNode) at.low at.high
        (subst (AllByRecursion (λ (x : Numbered). x.entry.reply ≢ NoNode)) at.is found_all) in
        let answers = answers-below 0 n past at.low at.high (at_events M mix env events admitted 0).in_order
        (subst (AreEnded (about_bindings past)) at.is ended_all) at.below (taken_before n within few) found.0 in
        let first = bindings_left-first kind unbound low high answers in
        let same : low ++ high ≡ entries = sym (map-append (λ (x : Numbered). x.entry) at.low at.high) ∙ sym (ap history_of at.is) ∙ entries_are in
        let after = after-told kind calls (endings_by 0 endings) unbound first.count (subst (IsLegal kind) entries_are fitting.legal)
        (subst (λ es. AllByRecursion IsTaken (take first.count es)) same first.answers) in
        let left : bindings_left kind unbound low ≡ bindings_after_all kind unbound (take after.count calls) =
        first.is ∙ ap (λ es. bindings_after_all kind unbound (take first.count (calls_in es))) same ∙ after.is in
        small.few after.count after.answered
        (subst (λ b. AreBound b 16) left
        (AreBound-Agree (bindings_behind M mix env events n) (bindings_left kind unbound low) 16 agree are))

    -- by induction over the events
    few_below : (n i : ℕ) → i < n → i ≤ length events → IsFewAt i
    few_below zero i low within = absurd (omega (arith, low))
    few_below (suc n) i low within =
        few_at i within (λ k less. few_below n k (omega (arith, less, low)) (omega (arith, less, within)))

    none_refused : NoneRefused calls (endings_by 0 endings)
    none_refused =
        let all = front_taken (length events) (omega arith) (λ i low. few_below (suc i) i (omega arith) low) in
        none-refused auto calls (endings_by 0 endings) (w.books 0).finished (each 0 (let one = small.one in omega (arith, one))).serves
        (subst (λ es. AllByRecursion (λ (d : Finished). IsRefusedForNode d.call d.reply) ((run_of {M = M} mix env es).books 0).finished)
        (take-length events) all)
        some

    as_model : (closed : Closed) → Lists closed.bindings.pairs (bindings_left kind unbound entries)
        → AreAsModel kind calls (endings_by 0 endings) closed
    as_model closed leaves =
        let modelled = answered_in_order kind calls (endings_by 0 endings) unbound none_refused
        (subst (IsLegal kind) entries_are fitting.legal) in
        record { answered = modelled.answered; leaves = subst (Lists closed.bindings.pairs) modelled.leaves leaves }

-- ---- both laws

-- no call of a worker was answered that there is no node, where there are as many as are needed
found-nodes : (config : Config) (auto : Bool) (commands : List (ℕ × Call)) (endings : List (List Ending)) (closed : Closed) (history : List Entry)
    → count_by (λ (command : ℕ × Call). needs_node command.1) commands ≤ config.nodes
    → (told : IsTold config auto commands endings closed history) → (c : ℕ) → AllByRecursion FoundSome (told.dones c)
found-nodes config auto commands endings closed history enough told c =
    (AllByRecursion-weaker (λ (d : Finished). d.reply ≡ NoNode → IsOutnumbered config commands)
    FoundSome (λ d only none. let more = only none in omega (arith, more, enough)) (told.dones c)
    (told.no_node c))

pub roomy_takes_all : (M : Type 0) (mix : ℕ → ℕ → ℕ → ℕ) → RoomyTakesAll M mix
roomy_takes_all M mix config auto commands endings closed served roomy =
    let env = served.env in
    let same = served.config_same in
    let (history, tells) = told M mix config auto commands endings closed served in
    subst (λ (k : Config). AreAllTaken k commands endings closed) same
    (all_taken M mix env auto commands endings served.events served.admitted
    (served.workers ∙ ap (λ (k : Config). k.callers) (sym same))
    (λ c low. served.each c (subst (λ (k : Config). c < k.callers) same low))
    closed served.closed_is
    (subst (λ (k : Config). IsRoomyFor k commands) (sym same) roomy)
    (λ c. subst (AllByRecursion FoundSome) (tells.dones_are c)
    (found-nodes config auto commands endings closed history roomy.nodes tells.told c)))

-- the commands of the one worker alone
abbrev only_first : List Call → List (ℕ × Call)
only_first calls = map (λ call. (1, call)) calls

calls_of-only_first : (calls : List Call) → calls_of 1 (only_first calls) ≡ calls
calls_of-only_first [] = refl
calls_of-only_first (call ∷ calls) = ap (λ rest. call ∷ rest) (calls_of-only_first calls)

count-only_first : (calls : List Call)
    → count_by (λ (command : ℕ × Call). needs_node command.1) (only_first calls) ≡ count_by needs_node calls
count-only_first [] = refl
count-only_first (call ∷ calls) =
    sum_by-cons (λ (command : ℕ × Call). one_if (needs_node command.1)) (1, call) (only_first calls)
    ∙ ap (λ n. one_if (needs_node call) + n) (count-only_first calls)
    ∙ sym (sum_by-cons (λ (k : Call). one_if (needs_node k)) call calls)

-- where all commands are the worker's
one_worker_only : (M : Type 0) (mix : ℕ → ℕ → ℕ → ℕ) (config : Config) (auto : Bool) (commands : List (ℕ × Call))
    (endings : List (List Ending)) (closed : Closed)
    → IsServedRun M mix config auto commands endings closed → IsSmallWhileAnswered config (calls_of 1 commands) (endings_by 0 endings)
    → count_by (λ (command : ℕ × Call). needs_node command.1) commands ≤ config.nodes
    → AreAsModel config.kind (calls_of 1 commands) (endings_by 0 endings) closed
one_worker_only M mix config auto commands endings closed served small enough =
    let env = served.env in
    let same = served.config_same in
    let (history, tells) = told M mix config auto commands endings closed served in
    subst (λ (k : Config). AreAsModel k.kind (calls_of 1 commands) (endings_by 0 endings) closed) same
    (as_model M mix env auto commands endings served.events served.admitted
    (served.workers ∙ ap (λ (k : Config). k.callers) (sym same))
    (λ c low. served.each c (subst (λ (k : Config). c < k.callers) same low))
    (subst (λ (k : Config). IsSmallWhileAnswered k (calls_of 1 commands) (endings_by 0 endings)) (sym same) small)
    (subst (AllByRecursion FoundSome) (tells.dones_are 0) (found-nodes config auto commands endings closed history enough tells.told 0))
    tells.numbered tells.fits closed
    (subst (λ (k : Config). Lists closed.bindings.pairs (bindings_left k.kind unbound (entries_told 0 (calls_of 1 commands) (endings_by 0 endings))))
    (sym same)
    (subst (λ es. Lists closed.bindings.pairs (bindings_left config.kind unbound es))
    (tells.told.in_order small.one
    ∙ entries_of_finished-serves auto 0 (calls_of 1 commands) (endings_by 0 endings) (tells.told.dones 0)
    (tells.told.serves 0 (let one = small.one in omega (arith, one)))
    (found-nodes config auto commands endings closed history enough tells.told 0))
    tells.told.leaves)))

pub one_worker_while_answered : (M : Type 0) (mix : ℕ → ℕ → ℕ → ℕ) (config : Config) (auto : Bool) (commands : List (ℕ × Call))
    (endings : List (List Ending)) (closed : Closed)
    → IsServedRun M mix config auto commands endings closed → IsSmallWhileAnswered config (calls_of 1 commands) (endings_by 0 endings)
    → AreAsModel config.kind (calls_of 1 commands) (endings_by 0 endings) closed
one_worker_while_answered M mix config auto commands endings closed served small =
    let calls = calls_of 1 commands in
    let only = calls_of-only_first calls in
    let alone : IsServedRun M mix config auto (only_first calls) endings closed = record {
      env = served.env;
      config_same = served.config_same;
      ways_plain = served.ways_plain;
      events = served.events;
      admitted = served.admitted;
      workers = served.workers;
      each = λ c low.
          let first : c ≡ 0 = (let one = small.one in omega (arith, one, low)) in
          subst
          (λ d. IsServing {M = M} (run_of mix served.env served.events) auto d (calls_of (d + 1) (only_first calls)) (endings_by d endings))
          (sym first)
          (subst (λ made. IsServing {M = M} (run_of mix served.env served.events) auto 0 made (endings_by 0 endings)) (sym only)
          (served.each 0 (subst (λ d. d < config.callers) first low)));
      closed_is = served.closed_is;
    } in
    let enough = small.nodes in
    subst (λ made. AreAsModel config.kind made (endings_by 0 endings) closed) only
    (one_worker_only M mix config auto (only_first calls) endings closed alone
    (subst (λ made. IsSmallWhileAnswered config made (endings_by 0 endings)) (sym only) small)
    (let count = count-only_first calls in omega (arith, count, enough)))

pub one_worker_as_model : (M : Type 0) (mix : ℕ → ℕ → ℕ → ℕ) → OneWorkerAsModel M mix
one_worker_as_model M mix config auto commands endings closed served small =
    one_worker_while_answered M mix config auto commands endings closed served record {
      one = small.one;
      first = small.first;
      keeps_size = small.keeps_size;
      nodes = small.nodes;
      few = λ n answered. small.few n;
    }
