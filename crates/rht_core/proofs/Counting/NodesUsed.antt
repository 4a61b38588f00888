-- In every run a call is answered that there is no node only where as many calls as there are nodes took one, or may have.
--
-- Such a call found the bit of each node clear, each at some event. At opening all bits are set, and only an operation
-- that takes a node clears its bit; so some call took it, and its trace has that operation. The nodes that calls took are no
-- more than the calls that took one.
use Rattle.std.proofs.Common.{◌≡◌, ◌≢◌, ℕ, zero, suc, ◌+◌, ◌/◌, ◌%◌, ◌<◌, ◌≤◌, ◌==◌, Bool, true, false, cond, List, [], ◌∷◌, ◌++◌, length, map, take, ◌⊎◌, inl, inr, refl, sym, ap, ◌∙◌, subst, arith}
use Rattle.std.specs.Prelude.{Option, Some, None, IfSome, get_or, sum_by, count_by}
use Rattle.std.specs.List.{AllByRecursion, Any, Contains, slice_get, range_with_len}
use Rattle.std.specs.Int.{bit_at}
use Rattle.std.proofs.lemmas.Bool.{cases_eq, eq-eqb, ne_eqb}
use Rattle.std.proofs.lemmas.Nat.Bits.{bit_at-lt}
use Rattle.std.proofs.lemmas.List.Elements.{All-from_recursion, All-contains}
use Rattle.rht_words.specs.declared.op.Op.{Op}
use Rattle.rht_words.specs.declared.env.Env.{Env}
use Rattle.rht_words.specs.declared.geometry.Geometry.{Geometry}
use Rattle.rht_words.specs.Operations.{op_place, old_of, word_after, applied}
use Rattle.rht_words.specs.Places.{IsAddress, NodeMap, word_at}
use Rattle.rht_words.proofs.EachElement.{AllByRecursion-cut}
use Rattle.rht_words.proofs.Members.{In-range_with_len}
use Rattle.rht_words.proofs.WordChanges.{applied-other}
use Rattle.rht_words.proofs.Memory.{is_write}
use Rattle.rht_model.specs.declared.history.Call.{Call}
use Rattle.rht_model.specs.declared.history.Call.TheVariants.{Bind, Find, All, Release, Rebind, Walk, Work, Tidy, Count}
use Rattle.rht_model.specs.declared.history.Reply.{Reply}
use Rattle.rht_model.specs.declared.history.Reply.TheVariants.{NoNode}
use Rattle.rht_model.specs.Answers.{Answer}
use Rattle.rht_arena.specs.Laws.{map_place, map_bit, SeesTaken}
use Rattle.rht_release.specs.declared.found_port.FoundPort.{FoundPort}
use Rattle.rht_chain.specs.Relink.{has_relinked}
use Rattle.rht_release.specs.ReleaseHeld.{held_of_release, holds_relinking}
use Rattle.rht_release.specs.declared.release.ReleaseAt.{ReleaseAt}
use Rattle.rht_release.specs.declared.release.ReleaseAt.TheVariants as releasing
use Rattle.rht_core.specs.declared.book.Book.{Book}
use Rattle.rht_core.specs.Jobs.{Job, finds, binds, lists, releases, rebinds, works, walks, call_of, held_of, job_of}
use Rattle.rht_core.specs.declared.event.Event.{Event}
use Rattle.rht_core.specs.declared.event.Event.TheVariants.{Enroll, Begin, Step}
use Rattle.rht_core.specs.Runs.{Core, World, local_of, run_of, planned_in, with_step, enrolling, core_step, world_step, IsAdmitted, IsAdmittedEvent}
use Rattle.rht_core.specs.Traces.{Did, Past, Trace, Traced, traced_of, performed_of, IsRising, AreInOrder, behind_call}
use Rattle.rht_core.specs.Laws.{IsRecorded, IsPastCall, ClearsBitOf, TakesNone, IsTakenBy, IsTakenIn}
use Rattle.rht_core.specs.Causes.{CauseOf, HasCause}
use Rattle.rht_core.specs.NodesUsed.{needs_node, may_take_node, took_node, takers_of, takers, IsForWant, Nodes}
use Rattle.rht_ghost.proofs.Theory.Answering.{TellsNode}
use Rattle.rht_ghost.proofs.Theory.Steps.{Holding, by_test}
use Rattle.rht_core.proofs.Machines.NeverHeld.{find-alone, walk-alone, all-alone}
use Rattle.rht_core.proofs.Tracing.TracedJobs.{IsAtJob}
use Rattle.rht_move.specs.WorkHeld.{held_of_work}
use Rattle.rht_move.specs.declared.work.WorkAt.{WorkAt}
use Rattle.rht_move.specs.declared.work.WorkAt.TheVariants as working
use Rattle.rht_core.proofs.Counting.CoveredNodes.{Covers, covers_none, covers_one, covers_both, covers_all, TookBit, TookPast, TookCaller, TookAny, no_take, one_take, pasts_took, of_call, of_caller, any_took}
use Rattle.rht_core.proofs.Counting.NodesOut.{sum_by-same}
use Rattle.rht_core.proofs.Counting.NodesTaken.{HasTaken, JobTakes, Ended, calls_take, taken_alone}
use Rattle.rht_core.proofs.Counting.FullTables.{taken}
use Rattle.rht_core.proofs.Events.Worlds.{planned-some, run_of-push}
use Rattle.rht_core.proofs.Events.RangesInRuns.{AllIn, runs-all}
use Rattle.rht_core.proofs.Events.InvariantRuns.{opening_whole}
use Rattle.rht_core.proofs.Tracing.TracedRuns.{world-traced_of}
use Rattle.rht_core.proofs.Tracing.TracesInRuns.{traces_of_books}
use Rattle.rht_core.proofs.Tracing.TracesAtEvents.{at_events}
use Rattle.rht_core.proofs.Tracing.StepsInTraces.{all_steps_traced, stands_before, LiesWithin, rising-within}
use Rattle.rht_core.proofs.Reasons.CausesInRuns.{causes}

-- ---- a call that needs no node has none

relinking_has_none : (found : FoundPort) (raised stored : Bool) → (holds_relinking found raised stored).node ≡ None
relinking_has_none found raised false = refl
relinking_has_none found raised true = refl

release_has_none : (state : ReleaseAt) → (held_of_release state).node ≡ None
release_has_none (releasing.Promoting found relink) = relinking_has_none found false (has_relinked found.before relink.at)
release_has_none (releasing.Unlinking found relink) = relinking_has_none found true (has_relinked found.before relink.at)
release_has_none _ = refl

work_has_none : (state : WorkAt) → (held_of_work state).node ≡ None
work_has_none working.WorkLock = refl
work_has_none _ = refl

job_has_none : (job : Job) → needs_node (call_of job) ≡ false → (held_of job).node ≡ None
job_has_none (finds port state) needs = (find-alone state).node
job_has_none (binds port owner once state) needs = absurd (cc)
job_has_none (lists port room state) needs = (all-alone room.items state).node
job_has_none (releases port owner state) needs = release_has_none state
job_has_none (rebinds port owner new state) needs = absurd (cc)
job_has_none (works state) needs = work_has_none state
job_has_none (walks from limit room state) needs = (walk-alone room state).node
job_has_none _ needs = refl

-- nor does its answer tell of one
tells_none : (call : Call) (node : Option ℕ) (reply : Reply) → needs_node call ≡ false → TellsNode call node reply
    → node ≡ None
tells_none (Bind port owner once) node reply needs tells = absurd (cc)
tells_none (Rebind port owner new) node reply needs tells = absurd (cc)
tells_none _ node reply needs none = none

-- ---- the call in progress

module _ (mix : ℕ → ℕ → ℕ → ℕ) (env : Env) where
  has_covers : (node : Option ℕ) (steps : List Did) → HasTaken env.geometry node steps
      → Covers 1 (TookBit env.geometry steps)
  has_covers None steps none = covers_none 1 (TookBit env.geometry steps) (no_take env.geometry steps none)
  has_covers (Some node) steps one = covers_one node (TookBit env.geometry steps) (one_take env.geometry node steps one)

  none_kept : (call : Call) (h : Holding) (node : Option ℕ) (answer : Option Answer) → h.answer ≡ answer
      → needs_node call ≡ false → h.node ≡ None → (h.answer ≡ None → h.node ≡ node)
      → IfSome answer (λ a. TellsNode call node a.reply) → node ≡ None
  none_kept call h node None is needs none holds told = sym (holds is) ∙ none
  none_kept call h node (Some answer) is needs none holds told = tells_none call node answer.reply needs told

  job_covers : (job : Job) (steps : List Did) → JobTakes mix env job steps
      → Covers (cond (needs_node (call_of job)) 1 0) (TookBit env.geometry steps)
  job_covers job steps kept =
      by_test (λ t. Covers (cond t 1 0) (TookBit env.geometry steps)) (needs_node (call_of job))
      (λ needs. has_covers kept.node steps kept.taken)
      (λ needs.
      let none = none_kept (call_of job) (held_of job) kept.node (held_of job).answer refl needs (job_has_none job needs)
      kept.holds kept.told in
      covers_none 0 (TookBit env.geometry steps)
      (no_take env.geometry steps (subst (λ node. HasTaken env.geometry node steps) none kept.taken)))

  progress_covers : (M : Type 0) (job : Option Job) (book : Book) (steps : List Did)
      → IsAtJob M mix env (JobTakes mix env) (Ended mix env) job book steps → length steps ≡ book.steps
      → Covers (cond (may_take_node book.call) 1 0) (TookBit env.geometry steps)
  progress_covers M None book steps idle long =
      covers_none _ (TookBit env.geometry steps) (λ n took.
      let below = took.1.1 in let none = idle.steps in absurd (omega (arith, below, none, long)))
  progress_covers M (Some job) book steps at long =
      subst (λ call. Covers (cond (may_take_node call) 1 0) (TookBit env.geometry steps)) (sym at.call)
      (job_covers job steps at.now)

-- ---- whoever finds a bit clear finds it so because some call took the node

zero_or_one : (b : ℕ) → b < 2 → (b ≡ 0) ⊎ (b ≡ 1)
zero_or_one zero l = inl refl
zero_or_one (suc zero) l = inr refl
zero_or_one (suc (suc b)) l = absurd (omega arith)

-- one event more
take_next : (events : List Event) (i : ℕ) (event : Event) → slice_get events i ≡ Some event
    → take (suc i) events ≡ take i events ++ event ∷ []
take_next [] i event is = absurd (cc)
take_next (first ∷ events) zero event is = ap (λ e. e ∷ []) (let same : first ≡ event = cc in same)
take_next (first ∷ events) (suc i) event is = ap (λ rest. first ∷ rest) (take_next events i event is)

take_all : (events : List Event) (i : ℕ) → slice_get events i ≡ None → take (suc i) events ≡ take i events
take_all [] zero is = refl
take_all [] (suc i) is = refl
take_all (first ∷ events) zero is = absurd (cc)
take_all (first ∷ events) (suc i) is = ap (λ rest. first ∷ rest) (take_all events i is)

module _ (M : Type 0) (mix : ℕ → ℕ → ℕ → ℕ) (env : Env) (events : List Event) (admitted : IsAdmitted events) where
  abbrev g : Geometry
  g = env.geometry

  abbrev r : Traced M
  r = traced_of mix env events

  abbrev callers : List ℕ
  callers = range_with_len 0 g.callers

  -- the words behind so many events
  abbrev core_at : ℕ → Core M
  core_at i = (run_of mix env (take i events)).core

  abbrev bit : ℕ → ℕ → ℕ
  bit i n = bit_at (word_at g (core_at i).words (NodeMap (n / 64))) (n % 64)

  sound : (i : ℕ) → AllIn M mix env (core_at i)
  sound i = runs-all M mix env (take i events) (taken IsAdmittedEvent i events admitted)

  -- at opening each bit is set
  set_at_opening : (n : ℕ) → n < g.nodes → bit 0 n ≡ 1
  set_at_opening n l = ((opening_whole env mix).arena.bits n l).1 refl

  map_word_in : (n : ℕ) → n < g.nodes → IsAddress g (NodeMap (n / 64))
  map_word_in n l = omega (arith, l)

  -- an operation on another word leaves the bit
  other_word : (words : List ℕ) (op : Op) (n : ℕ) → op_place op ≢ map_place g n
      → word_at g (applied words op) (NodeMap (n / 64)) ≡ word_at g words (NodeMap (n / 64))
  other_word words op n other = applied-other words op (map_place g n) (λ same. other (sym same))

  -- an operation of some caller before this event took the node
  record WasTaken (i n : ℕ) : Type 0 where
    caller : ℕ
    is_caller : caller < g.callers
    did : Did
    recorded : IsRecorded M mix env events caller did
    early : did.index < i
    clears : ClearsBitOf g n did

  one_later : (i n : ℕ) → WasTaken i n → WasTaken (suc i) n
  one_later i n was = record {
    caller = was.caller;
    is_caller = was.is_caller;
    did = was.did;
    recorded = was.recorded;
    early = (let early = was.early in omega (arith, early));
    clears = was.clears;
  }

  -- it is recorded, so it stands in the trace of a call
  in_call : (i n : ℕ) (was : WasTaken i n) → TookCaller g (r.traces was.caller) n
  in_call i n was =
      let one = all_steps_traced M mix env events was.caller was.did admitted was.recorded in
      of_call g (r.traces was.caller).past (r.traces was.caller).steps _ one.there.steps n one.there.call
      (was.did, one.there.stands, was.clears)

  in_some : (i n : ℕ) → WasTaken i n → TookAny g r.traces callers n
  in_some i n was =
      let below = was.is_caller in
      of_caller g r.traces callers was.caller n (In-range_with_len 0 g.callers was.caller (omega arith) (omega (arith, below)))
      (in_call i n was)

  -- an operation that clears the bit is recorded
  of_step : (i n c : ℕ) (op : Op) → n < g.nodes → slice_get events i ≡ Some (Step c) → planned_in (core_at i) c ≡ Some op
      → op_place op ≡ map_place g n → bit_at (old_of (core_at i).words op) (map_bit n) ≡ 1
      → bit_at (word_after (old_of (core_at i).words op) op) (map_bit n) ≡ 0
      → WasTaken (suc i) n
  of_step i n c op l is plan place set cleared =
      let stays = (sound i).stays in
      let can = planned-some (core_at i).env (core_at i).enrolled (core_at i).locals c op plan in
      let below : c < g.callers = let b = can.below in let few = stays.few_enrolled in omega (arith, b, few) in
      record {
        caller = c;
        is_caller = below;
        did = record { index = i; op = op; old = old_of (core_at i).words op };
        recorded = record { event = is; plan = plan; found = refl };
        early = omega arith;
        clears = record { within = l; place = place; free = set; taken = cleared };
      }

  -- what one event makes of the bit
  by_op : (i n c : ℕ) (op : Option Op) → n < g.nodes → slice_get events i ≡ Some (Step c) → planned_in (core_at i) c ≡ op
      → (bit i n ≡ 0 → WasTaken (suc i) n)
      → bit_at (word_at g (with_step mix (core_at i) c op).0.words (NodeMap (n / 64))) (n % 64) ≡ 0
      → WasTaken (suc i) n
  by_op i n c None l is plan before clear = before clear
  by_op i n c (Some op) l is plan before clear =
      let words = (core_at i).words in
      elim (cases_eq (op_place op) (map_place g n)) [
        | inl here ↦
            let write = is_write g words (NodeMap (n / 64)) op (sound i).stays.all_words (map_word_in n l) here in
            let old : old_of words op ≡ word_at g words (NodeMap (n / 64)) = ap (λ p. get_or words p 0) here in
            elim (zero_or_one (bit i n) (bit_at-lt (word_at g words (NodeMap (n / 64))) (n % 64))) [
              | inl zero_bit ↦ before zero_bit
              | inr one_bit ↦
                  of_step i n c op l is plan here (ap (λ w. bit_at w (map_bit n)) old ∙ one_bit)
                  (ap (λ w. bit_at (word_after w op) (map_bit n)) old
                  ∙ sym (ap (λ w. bit_at w (map_bit n)) write.same) ∙ clear)
            ]
        | inr there ↦ before (sym (ap (λ w. bit_at w (n % 64)) (other_word words op n there)) ∙ clear)
      ]

  by_event : (i n : ℕ) (event : Event) → n < g.nodes → slice_get events i ≡ Some event
      → (bit i n ≡ 0 → WasTaken (suc i) n)
      → bit_at (word_at g (core_step mix (core_at i) event).0.words (NodeMap (n / 64))) (n % 64) ≡ 0
      → WasTaken (suc i) n
  by_event i n Enroll l is before clear =
      let apart : op_place (enrolling (core_at i).env) ≢ map_place g n =
      λ same. absurd (omega (arith, same)) in
      before (sym (ap (λ w. bit_at w (n % 64)) (other_word (core_at i).words (enrolling (core_at i).env) n apart)) ∙ clear)
  by_event i n (Begin c call start) l is before clear = before clear
  by_event i n (Step c) l is before clear = by_op i n c (planned_in (core_at i) c) l is refl before clear

  -- by induction over the events
  clear_took : (i n : ℕ) → n < g.nodes → bit i n ≡ 0 → WasTaken i n
  clear_took zero n l clear = let set = set_at_opening n l in absurd (omega (arith, set, clear))
  clear_took (suc i) n l clear = go (slice_get events i) refl (λ before. one_later i n (clear_took i n l before))
    where
      go : (event : Option Event) → slice_get events i ≡ event → (bit i n ≡ 0 → WasTaken (suc i) n)
          → WasTaken (suc i) n
      go None is before =
          before (subst (λ (es : List Event). bit_at (word_at g (run_of {M = M} mix env es).core.words (NodeMap (n / 64))) (n % 64) ≡ 0)
          (take_all events i is) clear)
      go (Some event) is before =
          let world : (run_of {M = M} mix env (take (suc i) events)) ≡ world_step mix (run_of mix env (take i events)) event =
          ap (run_of {M = M} mix env) (take_next events i event is) ∙ run_of-push M mix env (take i events) event in
          by_event i n event l is before
          (subst (λ (w : World M). bit_at (word_at g w.core.words (NodeMap (n / 64))) (n % 64) ≡ 0) world clear)

  -- ---- the law

  -- a call that found each bit clear
  abbrev IsRecordedOf : ℕ → Did → Type 0
  IsRecordedOf c did = IsRecorded M mix env events c did

  -- one of its operations saw that another had taken the node before
  seen_took : (c n : ℕ) (steps : List Did) → n < g.nodes → AllByRecursion (IsRecordedOf c) steps
      → Any (SeesTaken g n) (map performed_of steps) → (did : Did) × Contains steps did × WasTaken did.index n
  seen_took c n steps l recorded seen =
      let at = of_map steps seen in
      let was = All-contains (IsRecordedOf c) steps at.0 (All-from_recursion (IsRecordedOf c) steps recorded) at.1 in
      let saw = at.2 in
      let word : word_at g (core_at at.0.index).words (NodeMap (n / 64)) ≡ at.0.old =
      sym (ap (λ p. get_or (core_at at.0.index).words p 0) saw.place) ∙ was.found in
      (at.0, at.1, clear_took at.0.index n l (ap (λ w. bit_at w (n % 64)) word ∙ saw.taken))
    where
      of_map : (all : List Did) → Any (SeesTaken g n) (map performed_of all)
          → (did : Did) × Contains all did × SeesTaken g n (performed_of did)
      of_map [] (k, x, below, is, saw) = absurd (omega (arith, below))
      of_map (did ∷ all) (zero, x, below, is, saw) =
          (did, (0, omega arith, refl), subst (SeesTaken g n) (sym is) saw)
      of_map (did ∷ all) (suc k, x, below, is, saw) =
          let rest = of_map all (k, x, omega (arith, below), is, saw) in
          (rest.0, (suc rest.1.0, (let b = rest.1.1 in omega (arith, b)), rest.1.2), rest.2)

  caller_covers : (c : ℕ) → Covers (takers_of (r.world.books c)) (TookCaller g (r.traces c))
  caller_covers c =
      let kept = calls_take M mix env events c admitted in
      let of = traces_of_books M mix env events c admitted in
      subst (λ finished. Covers (count_by took_node finished + cond (may_take_node (r.world.books c).call) 1 0) (TookCaller g (r.traces c)))
      of.past
      (covers_both _ _ (TookPast g (r.traces c).past) (TookBit g (r.traces c).steps)
      (pasts_took g (r.traces c).past (taken_alone M mix env events admitted c))
      (progress_covers mix env M (job_of (local_of r.world.core c).doing) (r.world.books c) (r.traces c).steps kept.now of.steps))

  -- where each node was taken, as many calls took one
  enough : ((n : ℕ) → n < g.nodes → TookAny g r.traces callers n) → g.nodes ≤ takers (run_of {M = M} mix env events)
  enough every =
      let same : (run_of {M = M} mix env events).core.env ≡ env = (runs-all M mix env events admitted).stays.same_env in
      let world = world-traced_of M mix env events in
      let covered = covers_all _ g.nodes (TookAny g r.traces callers) (any_took g r.traces r.world.books callers caller_covers) every in
      subst (λ (w : World M). g.nodes ≤ takers w) world
      (subst (λ (e : Env). g.nodes ≤ sum_by (λ c. takers_of (r.world.books c)) (range_with_len 0 e.geometry.callers))
      (sym (ap (λ (w : World M). w.core.env) world ∙ same)) covered)

  -- a call that was answered so saw it of each node
  saw_all : (c : ℕ) (past : Past) → IsPastCall M mix env events c past → HasCause M mix env events c past → past.done.reply ≡ NoNode
      → (n : ℕ) → n < g.nodes → (did : Did) × Contains past.steps did × WasTaken did.index n
  saw_all c past is cause no_node n l =
      seen_took c n past.steps l is.steps (want past.done.call (subst (CauseOf M mix env events c past past.done.call) no_node cause))
    where
      want : (call : Call) → CauseOf M mix env events c past call NoNode → Any (SeesTaken g n) (map performed_of past.steps)
      want (Bind port owner once) saw = saw n l
      want (Rebind port owner new) saw = saw n l
      want (Find port) saw = absurd saw
      want (All port) saw = absurd saw
      want (Release port owner) saw = absurd saw
      want (Walk from limit) saw = absurd saw
      want Work saw = absurd saw
      want Tidy saw = absurd saw
      want Count saw = absurd saw

  past_enough : (c : ℕ) (past : Past) → IsPastCall M mix env events c past → HasCause M mix env events c past
      → IsForWant env (run_of {M = M} mix env events) past.done
  past_enough c past is cause no_node =
      enough (λ n l. let saw = saw_all c past is cause no_node n l in in_some saw.0.index n saw.2)

  all_enough : (c : ℕ) (calls : List Past) → AllByRecursion (IsPastCall M mix env events c) calls
      → AllByRecursion (HasCause M mix env events c) calls
      → AllByRecursion (IsForWant env (run_of {M = M} mix env events)) (map (λ past. past.done) calls)
  all_enough c [] were caused = tt
  all_enough c (past ∷ calls) were caused = (past_enough c past were.0 caused.0, all_enough c calls were.1 caused.1)

pub nodes : (M : Type 0) (mix : ℕ → ℕ → ℕ → ℕ) → Nodes M mix
nodes M mix env events c admitted =
    let r : Traced M = traced_of mix env events in
    let of = traces_of_books M mix env events c admitted in
    let w : World M = run_of mix env events in
    subst (λ (v : World M). AllByRecursion (IsForWant env w) (v.books c).finished) (world-traced_of M mix env events)
    (subst (AllByRecursion (IsForWant env w)) of.past
    (all_enough M mix env events admitted c (r.traces c).past (at_events M mix env events admitted c).past
    (causes M mix env events c admitted)))

-- ---- what took the nodes before

module _ (M : Type 0) (mix : ℕ → ℕ → ℕ → ℕ) (env : Env) (events : List Event) (admitted : IsAdmitted events)
    (c : ℕ) (front rest : List Past) (past : Past)
    (parts : ((traced_of {M = M} mix env events).traces c).past ≡ front ++ past ∷ rest)
    (no_node : past.done.reply ≡ NoNode) where
  abbrev run : Traced M
  run = traced_of mix env events

  abbrev all_callers : List ℕ
  all_callers = range_with_len 0 env.geometry.callers

  -- of the caller of such a call the calls before it, and of each other caller all
  abbrev traces : ℕ → Trace
  traces d = cond (d == c) (record { begin = 0; steps = []; past = front }) (run.traces d)

  abbrev books : ℕ → Book
  books d = cond (d == c) (record { call = None; steps = 0; finished = map (λ (p : Past). p.done) front }) (run.world.books d)

  abbrev IsNodeTaken : Past → Type 0
  IsNodeTaken p = IsTakenIn env.geometry p.done.call p.done.reply p.steps

  -- they took at least as many nodes as they are counted for
  front_taken : AllByRecursion IsNodeTaken (front ++ past ∷ rest)
  front_taken = subst (AllByRecursion IsNodeTaken) parts (taken_alone M mix env events admitted c)

  each_covers : (d : ℕ) → Covers (takers_of (books d)) (TookCaller env.geometry (traces d))
  each_covers d = go (d == c)
    where
      go : (t : Bool)
          → Covers (takers_of (cond t (record { call = None; steps = 0; finished = map (λ (p : Past). p.done) front }) (run.world.books d)))
          (TookCaller env.geometry (cond t (record { begin = 0; steps = []; past = front }) (run.traces d)))
      go true =
          covers_both _ _ (TookPast env.geometry front) (TookBit env.geometry [])
          (pasts_took env.geometry front (AllByRecursion-cut IsNodeTaken front (past ∷ rest) front_taken).0)
          (covers_none 0 (TookBit env.geometry []) (λ n took. let below = took.1.1 in absurd (omega (arith, below))))
      go false = caller_covers M mix env events admitted d

  -- the call itself took none
  none_itself : (n : ℕ) → TookBit env.geometry past.steps n → ⊥
  none_itself n =
      no_take env.geometry past.steps
      (none past.done.call (AllByRecursion-cut IsNodeTaken front (past ∷ rest) front_taken).1.0) n
    where
      by_none : IsTakenBy env.geometry past.done.reply past.steps → TakesNone env.geometry past.steps
      by_none (inl (is, none)) = none
      by_none (inr (some, one)) = absurd (some no_node)

      none : (call : Call) → IsTakenIn env.geometry call past.done.reply past.steps → TakesNone env.geometry past.steps
      none (Bind port owner once) took = by_none took
      none (Rebind port owner new) took = by_none took
      none _ took = took

  -- its operations come before its end
  own_rising : (from : ℕ) (before : List Past) → AreInOrder from (before ++ past ∷ rest) → IsRising (past.begin + 1) past.steps
  own_rising from [] order = order.1
  own_rising from (first ∷ before) order = own_rising (behind_call first) before order.2

  within : (did : Did) → Contains past.steps did → did.index < behind_call past
  within did stands =
      let rising = own_rising 0 front (subst (AreInOrder 0) parts (at_events M mix env events admitted c).in_order) in
      let P = LiesWithin (past.begin + 1) past.steps in
      (All-contains P past.steps did (All-from_recursion P past.steps (rising-within (past.begin + 1) past.steps rising)) stands).1

  -- who took a node before its end is another caller, or did so in a call before it
  taken_before : (i n : ℕ) → i ≤ behind_call past → (was : WasTaken M mix env events admitted i n)
      → TookCaller env.geometry (traces was.caller) n
  taken_before i n low was = elim (cases_eq was.caller c) [
    | inl own ↦
        let recorded = subst (λ d. IsRecorded M mix env events d was.did) own was.recorded in
        let early = was.early in
        let there = stands_before M mix env events c admitted front rest past was.did parts recorded (omega (arith, early, low)) in
        let took : TookPast env.geometry front n = elim (of_call env.geometry front past.steps there.0 there.1 n there.2 (was.did, there.3, was.clears)) [
          | inl before ↦ before
          | inr itself ↦ absurd (none_itself n itself)
        ] in
        subst (λ t. TookCaller env.geometry (cond t (record { begin = 0; steps = []; past = front }) (run.traces was.caller)) n)
        (sym (eq-eqb was.caller c own)) (inl took)
    | inr other ↦
        subst (λ t. TookCaller env.geometry (cond t (record { begin = 0; steps = []; past = front }) (run.traces was.caller)) n)
        (sym (ne_eqb was.caller c other)) (in_call M mix env events admitted i n was)
  ]

  node_taken : (n : ℕ) → n < env.geometry.nodes → TookAny env.geometry traces all_callers n
  node_taken n l =
      let is = (AllByRecursion-cut (IsPastCall M mix env events c) front (past ∷ rest)
      (subst (AllByRecursion (IsPastCall M mix env events c)) parts (at_events M mix env events admitted c).past)).1.0 in
      let cause = (AllByRecursion-cut (HasCause M mix env events c) front (past ∷ rest)
      (subst (AllByRecursion (HasCause M mix env events c)) parts (causes M mix env events c admitted))).1.0 in
      let saw = saw_all M mix env events admitted c past is cause no_node n l in
      let before = within saw.0 saw.1 in
      let below = saw.2.is_caller in
      of_caller env.geometry traces all_callers saw.2.caller n
      (In-range_with_len 0 env.geometry.callers saw.2.caller (omega arith) (omega (arith, below)))
      (taken_before saw.0.index n (omega (arith, before)) saw.2)

  -- So beside the calls of other callers those of its caller before it took as many nodes as there are, or more.
  pub nodes_before : env.geometry.nodes
      ≤ sum_by (λ d. cond (d == c) (count_by took_node (map (λ (p : Past). p.done) front)) (takers_of (run.world.books d))) all_callers
  nodes_before =
      let covered = covers_all _ env.geometry.nodes (TookAny env.geometry traces all_callers)
      (any_took env.geometry traces books all_callers each_covers) node_taken in
      subst (λ many. env.geometry.nodes ≤ many)
      (sum_by-same (λ d. takers_of (books d))
      (λ d. cond (d == c) (count_by took_node (map (λ (p : Past). p.done) front)) (takers_of (run.world.books d)))
      (λ d. own d (d == c)) all_callers)
      covered
    where
      own : (d : ℕ) (t : Bool)
          → takers_of (cond t (record { call = None; steps = 0; finished = map (λ (p : Past). p.done) front }) (run.world.books d))
          ≡ cond t (count_by took_node (map (λ (p : Past). p.done) front)) (takers_of (run.world.books d))
      own d true = omega arith
      own d false = refl
