-- In every run a work that took the work lock while a slot's table was retired has freed the slot, if from there on the others have left the
-- sections in which they could come to that table.
--
-- While it gives retired tables back it knows what became of the slot, event by event: others leave it alone, and each of its operations does
-- with it what the giving back of tables says. Its own section isn't open meanwhile, so its section word is even. Once that has ended the slot
-- is freed, and nothing more is looked at.
use Rattle.std.proofs.Common.{◌≡◌, ◌≢◌, ℕ, ◌+◌, ◌%◌, ◌<◌, ◌≤◌, false, cond, List, [], ◌∷◌, ◌++◌, take, length, Option, Some, refl, sym, ap, ◌∙◌, subst, inl, inr, arith, append_assoc}
use Rattle.std.specs.Prelude.{◌==◌}
use Rattle.std.specs.List.{AllByRecursion, Contains}
use Rattle.std.proofs.lemmas.Bool.{cases_eq}
use Rattle.std.proofs.lemmas.List.Elements.{All-contains, All-from_recursion}
use Rattle.std.proofs.lemmas.Option.{slice_get-get_or}
use Rattle.std.proofs.lemmas.List.{length_push}
use Rattle.std.proofs.Math.Seq.{take-append_seam}
use Rattle.rht_words.specs.declared.env.Env.{Env}
use Rattle.rht_ghost.proofs.Pieces.HeldSections.{is_in}
use Rattle.rht_words.specs.declared.geometry.Geometry.{Geometry}
use Rattle.rht_words.specs.declared.machine.Next.{Next}
use Rattle.rht_words.specs.declared.machine.Next.TheVariants.{Go, Done}
use Rattle.rht_words.specs.Machines.{GoesOrEnds}
use Rattle.rht_words.specs.Operations.{op_place, applied}
use Rattle.rht_words.specs.Places.{WorkLock, Section, Slot, StateWord, LoadedSection, place_of, word_at}
use Rattle.rht_words.specs.declared.op.Op.TheVariants.{Exchange}
use Rattle.rht_words.proofs.EachElement.{Any-append_left, AllByRecursion-push, AllByRecursion-weaker, AllByRecursion-cut}
use Rattle.rht_words.proofs.WordChanges.{applied-other}
use Rattle.rht_model.specs.declared.history.Call.{Call}
use Rattle.rht_model.specs.declared.history.Call.TheVariants.{Work}
use Rattle.rht_model.specs.declared.history.Reply.{Reply}
use Rattle.rht_model.specs.declared.history.Reply.TheVariants as replies
use Rattle.rht_model.specs.Endings.{Ending, plain_ending, ending_in}
use Rattle.rht_reclaim.specs.ReturnTables.{ReturnTablesModel, return_tables_after, return_tables_after_at, return_tables_plan_at}
use Rattle.rht_reclaim.specs.declared.return_tables.ReturnTablesAt.{ReturnTablesAt}
use Rattle.rht_move.specs.declared.work.WorkAt.{WorkAt}
use Rattle.rht_move.specs.declared.work.WorkAt.TheVariants as work_at
use Rattle.rht_move.specs.Work as work
use Rattle.rht_core.specs.declared.event.Event.{Event}
use Rattle.rht_core.specs.Jobs.{call_of, Job, works, job_next, job_after, IsFirstJob}
use Rattle.rht_core.specs.Runs.{Core, run_of, IsAdmitted, World, core_step}
use Rattle.rht_core.specs.Seen.{words_before}
use Rattle.rht_core.specs.Traces.{Did, Past, traced_of, behind_call}
use Rattle.rht_core.specs.Worked.{IsRetired, HaveOthersLeft, IsToReturn, GivesRetiredBack}
use Rattle.rht_core.specs.WorkCauses.{TakesWorkLock, SawElsewhere}
use Rattle.rht_core.specs.Returned.{ReturnsSlot}
use Rattle.rht_core.proofs.Tracing.TracedJobs.{hard, not_over, Performs, StandsIn, LeadsOn, IsBeside, IsEndedSo, jobs_keep_beside}
use Rattle.rht_core.proofs.Reasons.ReturnedSlots.{IsFreed, IsWaiting, WaitsNext, waiting-left, returns-waits}
use Rattle.rht_core.proofs.Reasons.RetiredStay.{others_leave, SlotStays}
use Rattle.rht_core.proofs.Reasons.WorkPhases.{Phase, Locks, Returns, Goes_on, phase_of, IsBehind, stays-behind, returning-works}
use Rattle.rht_core.proofs.Histories.LoneResizings.{is_work, first_work}
use Rattle.rht_core.proofs.Reasons.WorksSeen.{SawForWork}
use Rattle.rht_core.proofs.Reasons.CausesInRuns.{SawOf, past-saw}
use Rattle.rht_core.proofs.Tracing.StepsInTraces.{call_in_order, LiesWithin, rising-within}
use Rattle.rht_core.proofs.Tracing.TracesAtEvents.{at_events}
use Rattle.rht_core.proofs.Machines.JobSteps.{JobKnows}
use Rattle.rht_core.proofs.Events.JobsOfCallers.{each_goes, same_call}
use Rattle.rht_core.proofs.Events.StepsOfCallers.{Knows}
use Rattle.rht_core.proofs.Events.InvariantRuns.{has_inv}
use Rattle.rht_core.proofs.Events.Worlds.{run_of-push}
use Rattle.rht_ghost.proofs.Theory.Steps.{mem, by_test}
use Rattle.rht_ghost.proofs.Theory.Wholes.{IsTurned}
use Rattle.rht_ghost.proofs.Theory.Knowledge.{IsOpenAs, outside-none}

-- ---- event by event

module _ (M : Type 0) (mix : ℕ → ℕ → ℕ → ℕ) (env : Env) (events : List Event) (own slot : ℕ) (slot_in : slot < 8) where
  -- the words before the event with each number
  abbrev words_at : ℕ → List ℕ
  words_at = words_before M mix env events

  abbrev g : Geometry
  g = env.geometry

  abbrev Freed : List Did → Type 0
  Freed = IsFreed g slot slot_in

  -- The table was retired as this operation took the work lock, and from there up to this event the others have left.
  record IsAsked (lock : Did) (upto : ℕ) : Type 0 where
    retired : IsRetired g (words_at lock.index) slot
    left : (i : ℕ) → lock.index ≤ i → i ≤ upto → HaveOthersLeft g (words_at i) own slot

  asked-fewer : (lock : Did) (more upto : ℕ) → upto ≤ more → IsAsked lock more → IsAsked lock upto
  asked-fewer lock more upto fewer asked =
      record { retired = asked.retired; left = λ i low high. asked.left i low (omega (arith, high, fewer)) }

  -- the first of these operations took the work lock, and where the table is to be given back this is so
  record Since (So : Type 0) (upto : ℕ) (steps : List Did) : Type 0 where
    lock : Did
    behind : List Did
    first : steps ≡ lock ∷ behind
    so : IsAsked lock upto → So

  -- later too, where something follows from it
  since-later : {So After : Type 0} (upto more : ℕ) (steps : List Did) → upto ≤ more → (So → After) → Since So upto steps
      → Since After more steps
  since-later upto more steps later further since = record {
    lock = since.lock;
    behind = since.behind;
    first = since.first;
    so = λ asked. further (since.so (asked-fewer since.lock more upto later asked));
  }

  -- with an operation more
  since-push : {So After : Type 0} (upto more : ℕ) (steps : List Did) (did : Did) → upto ≤ more
      → ((lock : Did) (behind : List Did) → steps ≡ lock ∷ behind → IsAsked lock more → So → After)
      → Since So upto steps → Since After more (steps ++ did ∷ [])
  since-push upto more steps did later further since = record {
    lock = since.lock;
    behind = since.behind ++ did ∷ [];
    first = ap (λ s. s ++ did ∷ []) since.first;
    so = λ asked. further since.lock since.behind since.first asked (since.so (asked-fewer since.lock more upto later asked));
  }

  -- ---- what is kept

  abbrev Phased : Phase → ℕ → List Did → Type 0
  Phased Locks n steps = steps ≡ []
  Phased (Returns state) n steps = Since (IsWaiting g slot slot_in state (words_at n) steps) n steps
  Phased Goes_on n steps = Since (Freed steps) n steps

  -- the operations were made before this event
  abbrev Older : ℕ → List Did → Type 0
  Older n steps = AllByRecursion (λ (d : Did). d.index < n) steps

  older-later : (n more : ℕ) (steps : List Did) → n ≤ more → Older n steps → Older more steps
  older-later n more steps later older =
      AllByRecursion-weaker (λ (d : Did). d.index < n) (λ (d : Did). d.index < more) (λ d less. omega (arith, less, later)) steps older

  older-push : (steps : List Did) (did : Did) → Older did.index steps → Older (did.index + 1) (steps ++ did ∷ [])
  older-push steps did older =
      AllByRecursion-push (λ (d : Did). d.index < did.index + 1) steps did
      (older-later did.index (did.index + 1) steps (omega arith) older) (omega arith)

  record AtWork (state : WorkAt) (n : ℕ) (steps : List Did) : Type 0 where
    older : Older n steps
    now : Phased (phase_of state) n steps

  abbrev NowAt : ℕ → Job → List Did → Type 0
  NowAt n (works state) steps = AtWork state n steps
  NowAt n _ steps = Unit {0}

  -- but where another caller was at work
  abbrev HasFreed : Reply → List Did → Type 0
  HasFreed reply steps = (n : ℕ) → Older n steps → reply ≢ replies.Elsewhere → Since (Freed steps) n steps

  abbrev Ended : Call → Ending → List Did → Type 0
  Ended Work ending steps = HasFreed ending.answer.reply steps
  Ended _ ending steps = Unit {0}

  -- it begins with the work lock
  begins : (n : ℕ) (call : Call) (job : Job) → IsFirstJob env call job → NowAt n job []
  begins n call (works state) is =
      subst (λ s. NowAt n (works s) []) (first_work env call state is) (record { older = tt; now = refl })
  begins n call _ is = tt

  -- ---- an event of others

  module _ (past : List Event) (event : Event) (rest : List Event) (all : events ≡ past ++ event ∷ rest) where
    words_here : words_at (length past) ≡ (run_of {M = M} mix env past).core.words
    words_here =
        ap (λ (es : List Event). (run_of {M = M} mix env es).core.words)
        (ap (take (length past)) all ∙ take-append_seam past (event ∷ rest))

    words_then : words_at (length past + 1) ≡ (core_step mix (run_of {M = M} mix env past).core event).0.words
    words_then =
        let more = past ++ event ∷ [] in
        ap (λ (es : List Event). (run_of {M = M} mix env es).core.words)
        (ap (λ n. take n events) (sym (length_push past event))
        ∙ ap (take (length more)) (all ∙ sym (append_assoc past (event ∷ []) rest)) ∙ take-append_seam more rest)
        ∙ ap (λ (w : World M). w.core.words) (run_of-push M mix env past event)

    phased-stays : (state : WorkAt) (steps : List Did) → IsBeside M mix env past event own (works state) → (phase : Phase)
        → phase_of state ≡ phase → Phased phase (length past) steps → Phased phase (length past + 1) steps
    phased-stays state steps beside Locks is none = none
    phased-stays state steps beside (Returns waiting) is since =
        since-later (length past) (length past + 1) steps (omega arith) (λ waits. go state is beside waits) since
      where
        core : Core M
        core = (run_of mix env past).core

        go : (state : WorkAt) → phase_of state ≡ Returns waiting → IsBeside M mix env past event own (works state)
            → IsWaiting g slot slot_in waiting (words_at (length past)) steps
            → IsWaiting g slot slot_in waiting (words_at (length past + 1)) steps
        go (work_at.Returning returns) is beside waits =
            let has = has_inv env mix M past beside.admitted in
            let same : returns.at ≡ waiting = cc in
            let knows : JobKnows env mix own (works (work_at.Returning returns)) (mem env mix core.words) has.ghost =
            subst (λ (job : Option Job). Knows env mix own job (mem env mix core.words) has.ghost) beside.does (has.inv.each own) in
            let works = returning-works env mix own (mem env mix core.words) has.ghost returns.at knows.knowing.means.work in
            let stays = others_leave env mix M core has.ghost event has.all has.inv own beside.others works slot slot_in in
            let from = subst (λ words. SlotStays env mix slot words (words_at (length past + 1))) (sym words_here)
            (subst (SlotStays env mix slot core.words) (sym words_then) stays) in
            waiting-left g slot slot_in waiting (words_at (length past)) (words_at (length past + 1)) steps from.state from.kept waits
        go _ is beside waits = absurd (cc)
    phased-stays state steps beside Goes_on is since =
        since-later (length past) (length past + 1) steps (omega arith) (λ freed. freed) since

    stays : (job : Job) (steps : List Did) → IsBeside M mix env past event own job → NowAt (length past) job steps
        → NowAt (length past + 1) job steps
    stays (works state) steps beside kept = record {
      older = older-later (length past) (length past + 1) steps (omega arith) kept.older;
      now = phased-stays state steps beside (phase_of state) refl kept.now;
    }
    stays _ steps beside kept = tt

  -- ---- an operation

  abbrev After : List Did → ℕ → WorkAt × Next Reply → Type 0
  After all n next = GoesOrEnds (λ state. AtWork state n all) (λ reply. HasFreed reply all) next

  -- it takes the work lock, while the table is retired
  lock-taken : (steps : List Did) (did : Did) → did.op ≡ Exchange (place_of g WorkLock) 0 1
      → words_at (did.index + 1) ≡ applied (words_at did.index) did.op → Older did.index steps → steps ≡ []
      → After (steps ++ did ∷ []) (did.index + 1) (work.lock_seen g did.old)
  lock-taken steps did is next older none =
      let all = steps ++ did ∷ [] in
      by_test (λ t. After all (did.index + 1) (cond t (work.returning g, Go) (work_at.WorkLock, Done replies.Elsewhere))) (did.old == 0)
      (λ t. record {
        older = older-push steps did older;
        now = record {
          lock = did;
          behind = [];
          first = ap (λ s. s ++ did ∷ []) none;
          so = λ asked. record {
            waits = λ low.
                ap (λ words. word_at g words (Slot slot StateWord)) next
                ∙ applied-other (words_at did.index) did.op (place_of g (Slot slot StateWord))
                (λ same. let on = ap op_place is in absurd (omega (arith, same, on)))
                ∙ asked.retired.1;
            freed = λ past. absurd (omega (arith, past));
          };
        };
      })
      (λ f n before other. absurd (other refl))

  -- by the words before an operation each caller has left of which an odd word is kept
  all-left : (lock : Did) (index : ℕ) → lock.index ≤ index → IsAsked lock index → word_at g (words_at index) (Section own) % 2 ≡ 0
      → (caller : ℕ) → caller < g.callers → word_at g (words_at index) (Slot slot (LoadedSection caller)) % 2 ≡ 1
      → word_at g (words_at index) (Section caller) ≢ word_at g (words_at index) (Slot slot (LoadedSection caller))
  all-left lock index later asked even caller low odd same = elim (cases_eq caller own) [
    | inl mine ↦
        let own_odd : word_at g (words_at index) (Section own) % 2 ≡ 1 =
        ap (λ k. word_at g (words_at index) (Section k) % 2) (sym mine) ∙ ap (λ w. w % 2) same ∙ odd in
        omega (arith, even, own_odd)
    | inr other ↦ elim (asked.left index later (omega arith) caller low other) [
      | inl kept_even ↦ omega (arith, odd, kept_even)
      | inr apart ↦ apart same
    ]
  ]

  -- one of the giving back
  returned-on : (steps : List Did) (did : Did) (h : Geometry) (next : ReturnTablesAt × Next (Unit {0})) → Older did.index steps
      → Since (WaitsNext g slot slot_in (words_at (did.index + 1)) (steps ++ did ∷ []) next) (did.index + 1) (steps ++ did ∷ [])
      → AtWork (work.returned (record { geometry = h; at = next.0 }) next.1) (did.index + 1) (steps ++ did ∷ [])
  returned-on steps did h (state, Go) older since = record { older = older-push steps did older; now = since }
  returned-on steps did h (state, Done tt) older since = record { older = older-push steps did older; now = since }

  returns-on : (returns : ReturnTablesModel) (steps : List Did) (did : Did) (does : Performs mix env (works (work_at.Returning returns)) did)
      → does.caller ≡ own → does.words ≡ words_at did.index → applied does.words did.op ≡ words_at (did.index + 1)
      → AtWork (work_at.Returning returns) did.index steps
      → AtWork (work.returned (return_tables_after returns did.old).0 (return_tables_after returns did.old).1) (did.index + 1)
      (steps ++ did ∷ [])
  returns-on returns steps did does mine here next kept =
      let all = steps ++ did ∷ [] in
      let h = returns.geometry in
      let geometry : h ≡ g = does.within.geometry_same in
      let even : word_at g (words_at did.index) (Section own) % 2 ≡ 0 =
      subst (λ words. word_at g words (Section own) % 2 ≡ 0) here
      (subst (λ k. word_at g does.words (Section k) % 2 ≡ 0) mine
      (subst (λ from. IsTurned env mix from (word_at g does.words (Section does.caller)))
      (outside-none (does.ghost.from does.caller)
      (subst (λ over. IsOpenAs (is_in over false) (does.ghost.from does.caller)) (not_over mix env refl does) does.is_open))
      (does.whole.sections.words does.caller does.few))) in
      returned-on steps did h (return_tables_after_at h returns.at did.old) kept.older
      (since-push did.index (did.index + 1) steps did (omega arith)
      (λ lock behind first asked waits.
      let early : lock.index < did.index = (subst (Older did.index) first kept.older).0 in
      let left = all-left lock did.index (omega (arith, early)) (asked-fewer lock (did.index + 1) did.index (omega arith) asked) even in
      subst (λ words. WaitsNext g slot slot_in words all (return_tables_after_at h returns.at did.old)) next
      (subst (λ (k : Geometry). WaitsNext g slot slot_in (applied does.words did.op) all (return_tables_after_at k returns.at did.old))
      (sym geometry)
      (returns-waits g slot slot_in does.words steps did does.found returns.at does.within.at_in
      (hard mix env refl does ∙ ap (λ (k : Geometry). return_tables_plan_at k returns.at) geometry)
      (subst (λ words. (caller : ℕ) → caller < g.callers → word_at g words (Slot slot (LoadedSection caller)) % 2 ≡ 1
      → word_at g words (Section caller) ≢ word_at g words (Slot slot (LoadedSection caller))) (sym here) left)
      (subst (λ words. IsWaiting g slot slot_in returns.at words steps) (sym here) waits))))
      kept.now)

  -- and one behind that
  behind-on : (steps : List Did) (did : Did) (next : WorkAt × Next Reply) → IsBehind next.0 → Older did.index steps
      → Since (Freed (steps ++ did ∷ [])) (did.index + 1) (steps ++ did ∷ []) → After (steps ++ did ∷ []) (did.index + 1) next
  behind-on steps did (state, Go) is older since = record {
    older = older-push steps did older;
    now = subst (λ p. Phased p (did.index + 1) (steps ++ did ∷ [])) (sym is) since;
  }
  behind-on steps did (state, Done reply) is older since = λ more later other.
      let last = (AllByRecursion-cut (λ (d : Did). d.index < more) steps (did ∷ []) later).1.0 in
      since-later (did.index + 1) more (steps ++ did ∷ []) (omega (arith, last)) (λ freed. freed) since

  freed-on : (state : WorkAt) (steps : List Did) (did : Did) → IsBehind state → AtWork state did.index steps
      → After (steps ++ did ∷ []) (did.index + 1) (work.after_at mix env state did.old)
  freed-on state steps did is kept =
      behind-on steps did (work.after_at mix env state did.old) (stays-behind mix env state did.old is) kept.older
      (since-push did.index (did.index + 1) steps did (omega arith)
      (λ lock behind first asked freed. Any-append_left (ReturnsSlot g slot) steps (did ∷ []) freed)
      (subst (λ p. Phased p did.index steps) is kept.now))

  work-on : (state : WorkAt) (steps : List Did) (did : Did) (does : Performs mix env (works state) did) → does.caller ≡ own
      → does.words ≡ words_at did.index → applied does.words did.op ≡ words_at (did.index + 1) → AtWork state did.index steps
      → After (steps ++ did ∷ []) (did.index + 1) (work.after_at mix env state did.old)
  work-on work_at.WorkLock steps did does mine here next kept =
      lock-taken steps did (hard mix env refl does) (sym next ∙ ap (λ words. applied words did.op) here) kept.older kept.now
  work-on (work_at.Returning returns) steps did does mine here next kept = returns-on returns steps did does mine here next kept
  work-on state steps did does mine here next kept = freed-on state steps did refl kept

  -- ---- all jobs

  next-leads : {S A : Type 0} (start : Job) (job : S → Job) (ending : A → Ending) (all : List Did) (n : ℕ) (next : S × Next A)
      → GoesOrEnds (λ state. NowAt n (job state) all) (λ end. Ended (call_of start) (ending end) all) next
      → LeadsOn M mix env (NowAt n) Ended start all (job_next job ending next)
  next-leads start job ending all n (state, Go) kept = kept
  next-leads start job ending all n (state, Done end) kept = kept

  other-kept : (n : ℕ) (job : Job) (all : List Did) → is_work (call_of job) ≡ false → NowAt n job all
  other-kept n (works state) all other = absurd (cc)
  other-kept n _ all other = tt

  goes : (job : Job) (steps : List Did) (did : Did) (performs : Performs mix env job did) → performs.caller ≡ own
      → StandsIn mix env words_at job steps did performs → NowAt did.index job steps
      → LeadsOn M mix env (NowAt (did.index + 1)) Ended job (steps ++ did ∷ []) (job_after mix env job did.old)
  goes (works state) steps did performs mine stands kept =
      next-leads (works state) works plain_ending (steps ++ did ∷ []) (did.index + 1) (work.after_at mix env state did.old)
      (work-on state steps did performs mine stands.now stands.next kept)
  goes job steps did performs mine stands kept =
      let all = steps ++ did ∷ [] in
      each_goes (λ after. NowAt (did.index + 1) after all) (λ ending. Ended (call_of job) ending all) (call_of job)
      (job_after mix env job did.old) (same_call mix env job did.old) (λ other same. other-kept (did.index + 1) other all (ap is_work same))
      (λ ending. tt)

  -- so a work that has ended has freed the slot
  module _ (admitted : IsAdmitted events) (past : Past)
      (ended : Contains ((traced_of {M = M} mix env events).traces own).past past) (is : past.done.call ≡ Work) where
    abbrev calls : List Past
    calls = ((traced_of {M = M} mix env events).traces own).past

    has_freed : HasFreed past.done.reply past.steps
    has_freed =
        let P = IsEndedSo M mix env (NowAt (length events)) Ended in
        let kept : AllByRecursion P calls =
        (jobs_keep_beside M mix env NowAt Ended events own record {
          begins = begins;
          stays = λ past event rest job steps all beside now. stays past event rest all job steps beside now;
          goes = goes;
        } admitted).past in
        subst (λ call. Ended call (ending_in past.done) past.steps) is
        (All-contains P calls past (All-from_recursion P calls kept) ended)

    -- all its operations come before its end
    all_older : Older (behind_call past) past.steps
    all_older =
        let order = at_events M mix env events admitted own in
        let (number, within, at_number) = ended in
        let rising = (call_in_order 0 calls number past order.in_order (slice_get-get_or calls number past within ∙ ap Some at_number)).rising in
        AllByRecursion-weaker (LiesWithin (past.begin + 1) past.steps) (λ (d : Did). d.index < behind_call past)
        (λ d lies. let last = lies.1 in omega (arith, last)) past.steps (rising-within (past.begin + 1) past.steps rising)

    -- where another caller was at work it hasn't taken the work lock
    not_elsewhere : (lock : Did) (behind : List Did) → past.steps ≡ lock ∷ behind → TakesWorkLock g lock
        → past.done.reply ≢ replies.Elsewhere
    not_elsewhere lock behind first took elsewhere =
        let P = λ (p : Past). SawOf env own words_at mix p.done.call p.done.reply p.steps in
        let saw : SawForWork env own words_at past.done.reply past.steps =
        subst (λ call. SawOf env own words_at mix call past.done.reply past.steps) is
        (All-contains P calls past (All-from_recursion P calls (past-saw M mix env events own admitted)) ended) in
        let only : SawElsewhere g past.steps = subst (λ reply. SawForWork env own words_at reply past.steps) elsewhere saw in
        let same : only.did ≡ lock = let both = sym only.only ∙ first in cc in
        only.finds.taken (ap (λ (d : Did). d.old) same ∙ took.free)

    given_back : IsToReturn M mix env events own slot past → Freed past.steps
    given_back asked =
        let since = has_freed (behind_call past) all_older (not_elsewhere asked.lock asked.behind asked.first asked.took) in
        let same : asked.lock ≡ since.lock = let both = sym asked.first ∙ since.first in cc in
        since.so (subst (λ lock. IsAsked lock (behind_call past)) same (record { retired = asked.retired; left = asked.left }))

pub gives_retired_back : (M : Type 0) (mix : ℕ → ℕ → ℕ → ℕ) → GivesRetiredBack M mix
gives_retired_back M mix env events c slot past admitted ended is asked =
    given_back M mix env events c slot asked.retired.0 admitted past ended is asked
