-- In a run with few ports no table is made, and no call is refused because one is full.
--
-- By induction over the events: while the words of the slots are as at opening, each call is calm, so its next operation leaves them; and at
-- the end each call was calm.
use Rattle.std.proofs.Common.{◌≡◌, ◌≢◌, ℕ, Bool, true, false, zero, suc, ◌<◌, ◌≤◌, List, [], ◌∷◌, ◌++◌, length, take, map, get_or, refl, sym, ap, ◌∙◌, subst, inl, inr, arith}
use Rattle.std.specs.Prelude.{Option, Some, None, IfSome}
use Rattle.std.specs.List.{AllByRecursion}
use Rattle.std.proofs.lemmas.Bool.{cases_lt}
use Rattle.std.proofs.lemmas.List.{take_all, length_push}
use Rattle.rht_words.specs.declared.op.Op.{Op}
use Rattle.rht_words.specs.declared.env.Env.{Env}
use Rattle.rht_words.specs.declared.geometry.Geometry.{Geometry}
use Rattle.rht_words.specs.declared.machine.Next.{Next}
use Rattle.rht_words.specs.declared.machine.Next.TheVariants.{Go, Done}
use Rattle.rht_words.specs.Machines.{GoesOrEnds}
use Rattle.rht_words.specs.Opening.{opening_words}
use Rattle.rht_words.specs.Operations.{applied}
use Rattle.rht_words.specs.Places.{CurrentTable, NextSerial, Slot, SlotWord, LoadedSection, IsSlotWord, place_of}
use Rattle.rht_words.proofs.EachElement.{AllByRecursion-cut}
use Rattle.rht_words.proofs.OpeningLaws.{stand_in_place}
use Rattle.rht_words.proofs.WordChanges.{applied-other}
use Rattle.rht_bind.specs.Bind.{after_at as bind_after_at}
use Rattle.rht_reclaim.specs.ReturnTables.{return_tables_plan_at}
use Rattle.rht_reclaim.specs.declared.return_tables.ReturnTablesAt.{ReturnTablesAt}
use Rattle.rht_reclaim.specs.declared.return_tables.ReturnTablesAt.TheVariants as return_tables
use Rattle.rht_move.specs.LastTable.{last_table_plan_at}
use Rattle.rht_move.specs.declared.last_table.LastTableAt.{LastTableAt}
use Rattle.rht_move.specs.declared.last_table.LastTableAt.TheVariants as last_tables
use Rattle.rht_move.specs.Work as work
use Rattle.rht_move.specs.declared.work.WorkAt.{WorkAt}
use Rattle.rht_move.specs.declared.work.WorkAt.TheVariants as work_at
use Rattle.rht_model.specs.Endings.{Ending, ending_in, plain_ending}
use Rattle.rht_model.specs.declared.finished.Finished.{Finished}
use Rattle.rht_model.specs.declared.history.Call.{Call}
use Rattle.rht_model.specs.declared.history.Call.TheVariants.{Bind, Walk, Work, Tidy}
use Rattle.rht_core.specs.declared.event.Event.{Event}
use Rattle.rht_core.specs.declared.event.Event.TheVariants.{Enroll, Begin, Step}
use Rattle.rht_core.specs.FewPorts.{IsNoTableMade, IsCallTaken, StaysWithFirst, FewPorts}
use Rattle.rht_grace.specs.Batch.{BatchModel}
use Rattle.rht_core.specs.Jobs.{Job, binds, works, walks, walk_ending, walk_gone, first_job, call_of, job_of, job_plan, job_next, job_after}
use Rattle.rht_core.specs.Runs.{World, enrolling, local_of, planned_in, view_of, world_step, run_of, IsAdmitted, IsAdmittedEvent}
use Rattle.rht_core.specs.Seen.{words_before}
use Rattle.rht_core.specs.Traces.{Did, Past, Traced, traced_of}
use Rattle.rht_core.proofs.Machines.JobSteps.{JobIn}
use Rattle.rht_core.proofs.Events.Invariants.{step_of}
use Rattle.rht_core.proofs.Events.InvariantRuns.{has_inv}
use Rattle.rht_core.proofs.Events.JobsOfCallers.{first_tidy-so, each_goes, same_call, first-of}
use Rattle.rht_core.proofs.Events.Worlds.{induct_by_last, take-push, take-push_all, run_of-push, step_none, step_words}
use Rattle.rht_core.proofs.Tracing.TracedJobs.{found_as, Performs, LeadsOn, IsKeeping, IsAtJob, jobs_keep_own}
use Rattle.rht_core.proofs.Tracing.TracedRuns.{world-traced_of}
use Rattle.rht_core.proofs.Tracing.TracesInRuns.{remembers}
use Rattle.rht_core.proofs.Reasons.CausesInRuns.{JobSaw, EndsSeen, job-leads, first_job-saw}
use Rattle.rht_core.proofs.Reasons.CalmBinds.{calm-bind, bind-spares}
use Rattle.rht_core.proofs.Reasons.CalmCalls.{HasFew, IsRoomy, IsFirst, IsZero, CalmReturns, CalmWork, CalmJob, CalmEnd, few-calm, calm-work, future-none}
use Rattle.rht_core.proofs.Reasons.CalmWalks.{CalmWalk, calm-walk}
use Rattle.rht_words.specs.Links.{slot_of}
use Rattle.rht_words.specs.Operations.{old_of}
use Rattle.rht_words.specs.Places.{FutureWord, word_at}
use Rattle.rht_walk.specs.Walk as walk
use Rattle.rht_walk.specs.declared.walk.WalkAt.{WalkAt}
use Rattle.rht_walk.specs.declared.walk.WalkAt.TheVariants as walks_at
use Rattle.rht_walk.specs.declared.walk.Visit.{Visit}
use Rattle.rht_model.specs.declared.history.Cursor.{Cursor}
use Rattle.rht_core.proofs.Counting.FullTables.{taken}
use Rattle.rht_core.proofs.Counting.SparedSlots.{soft-spares, IsBesideSlots, SparesSlots, spared_slots, by_load, at_section, other-spares}
use Rattle.rht_core.proofs.Histories.BoundAmong.{few-bound, count-few}

-- ---- the words of slots

-- words that have each place of the slots, of the current table and of the next serial as others
pub no_table_kept : (env : Env) (words after : List ℕ)
    → ((place : ℕ) → place < 280 → (IsBesideSlots place → ⊥) → place ≢ 4 → get_or after place 0 ≡ get_or words place 0)
    → IsNoTableMade env words → IsNoTableMade env after
no_table_kept env words after same none = record {
  current = same 0 (omega arith) (λ beside. omega (arith, beside)) (omega arith) ∙ none.current;
  serial = same 3 (omega arith) (λ beside. omega (arith, beside)) (omega arith) ∙ none.serial;
  slots = λ slot word low is.
      let place = place_of env.geometry (Slot slot word) in
      let within = slot_place-within slot word low is in
      same place within.1 (λ beside. omega (arith, beside, within.0, within.1)) (omega (arith, within.0))
      ∙ none.slots slot word low is;
}
  where
    slot_place-within : (slot : ℕ) (word : SlotWord) → slot < 8 → IsSlotWord word
        → let place = place_of env.geometry (Slot slot word) in (24 ≤ place) × (place < 280)
    slot_place-within slot (LoadedSection caller) low is = (omega (arith, low, is), omega (arith, low, is))
    slot_place-within slot _ low is = (omega (arith, low), omega (arith, low))

pub no_table-opening : (env : Env) → IsNoTableMade env (opening_words env)
no_table-opening env =
    let stands = stand_in_place env in
    record {
      current = stands.each CurrentTable tt;
      serial = stands.each NextSerial tt;
      slots = λ slot word low is. stands.each (Slot slot word) (low, is);
    }

-- ---- what calm calls write

module _ (env : Env) (mix : ℕ → ℕ → ℕ → ℕ) where
  last-spares : (state : LastTableAt) → SparesSlots (last_table_plan_at env.geometry state)
  last-spares (last_tables.Future table) = by_load _ _ refl
  last-spares (last_tables.Shape table) = by_load _ _ refl

  returns-spares : (g : Geometry) (state : ReturnTablesAt) → CalmReturns env state → SparesSlots (return_tables_plan_at g state)
  returns-spares g (return_tables.State slot) calm = by_load _ _ refl
  returns-spares g _ calm = absurd calm

  work-spares : (c : ℕ) → c < 16 → (state : WorkAt) → work.IsWorkAtIn env state → CalmWork env state
      → SparesSlots (work.plan_at env c state)
  work-spares c few work_at.Opening within calm = at_section few _ refl
  work-spares c few (work_at.Closing ending) within calm = at_section few _ refl
  work-spares c few (work_at.Returning returns) within calm = returns-spares returns.geometry returns.at calm
  work-spares c few work_at.WorkLock within calm = inr (inl refl)
  work-spares c few work_at.CurrentTable within calm = by_load _ _ refl
  work-spares c few (work_at.LastTable root seek) within calm =
      subst (λ h. SparesSlots (last_table_plan_at h seek.at)) (sym within.seek_in.geometry_same) (last-spares seek.at)
  work-spares c few (work_at.Count root last) within calm = by_load _ _ refl
  work-spares c few (work_at.RootFuture root due) within calm = by_load _ _ refl
  work-spares c few (work_at.LettingGo outcome) within calm = inr (inl refl)
  work-spares c few _ within calm = absurd calm

  pub job-spares : (c : ℕ) → c < 16 → (job : Job) → JobIn env mix c job → CalmJob env job → SparesSlots (job_plan env c job)
  job-spares c few (binds port owner once state) within calm = bind-spares env (IsFirst env) (IsZero env) c few state within.at_in calm
  job-spares c few (works state) within calm = work-spares c few state within calm
  job-spares c few job within calm = other-spares env mix c few job within refl

-- ---- what is kept of jobs

module _ (Now : Job → Type 0) (Ended : Call → Ending → Type 0) where
  -- a job goes on so, or its call ends so
  abbrev pub GoesOn : Job → Job × Next Ending → Type 0
  GoesOn job next = GoesOrEnds Now (Ended (call_of job)) next

  pub next-goes : {S A : Type 0} (start : Job) (job : S → Job) (ending : A → Ending) (next : S × Next A)
      → GoesOrEnds (λ state. Now (job state)) (λ end. Ended (call_of start) (ending end)) next
      → GoesOn start (job_next job ending next)
  next-goes start job ending (state, Go) kept = kept
  next-goes start job ending (state, Done end) kept = kept

-- ---- the words before each event

module _ (M : Type 0) (mix : ℕ → ℕ → ℕ → ℕ) (env : Env) where
  -- before each event of one more it is as it was, or all of the others are past
  pub before-push : (events : List Event) (event : Event) (P : List ℕ → Type 0)
      → ((i : ℕ) → P (words_before M mix env (events ++ event ∷ []) i)) → (i : ℕ) → P (words_before M mix env events i)
  before-push events event P all i =
      let Q : List Event → Type 0 = λ first. P (run_of {M = M} mix env first).core.words in
      elim (cases_lt (length events) i) [
        | inl past ↦
            subst Q (take-push_all events event ∙ sym (take_all i events (omega (arith, past)))) (all (length events))
        | inr within ↦ subst Q (take-push events event i (omega (arith, within))) (all i)
      ]

  pub before-more : (events : List Event) (event : Event) (P : List ℕ → Type 0)
      → ((i : ℕ) → P (words_before M mix env events i)) → P (world_step mix (run_of {M = M} mix env events) event).core.words
      → (i : ℕ) → P (words_before M mix env (events ++ event ∷ []) i)
  before-more events event P all last i =
      let Q : List Event → Type 0 = λ first. P (run_of {M = M} mix env first).core.words in
      elim (cases_lt (length events) i) [
        | inl past ↦
            subst Q (sym (take_all i (events ++ event ∷ []) (omega (arith, past, length_push events event))))
            (subst (λ (w : World M). P w.core.words) (sym (run_of-push M mix env events event)) last)
        | inr within ↦ subst Q (sym (take-push events event i (omega (arith, within)))) (all i)
      ]

-- ---- runs

module _ (M : Type 0) (mix : ℕ → ℕ → ℕ → ℕ) (env : Env) (roomy : IsRoomy env) where
  -- before each event no table was made, and few ports are bound
  abbrev AreUnmade : List Event → Type 0
  AreUnmade events = (i : ℕ) → IsNoTableMade env (words_before M mix env events i)

  abbrev AreFew : List Event → Type 0
  AreFew events = (i : ℕ) → HasFew env (words_before M mix env events i)

  module _ (events : List Event) (few : AreFew events) (unmade : AreUnmade events) (c : ℕ) where
    abbrev words_at : ℕ → List ℕ
    words_at = words_before M mix env events

    -- with what a call has seen, it is calm
    abbrev Now : Job → List Did → Type 0
    Now job steps = JobSaw env c words_at mix job steps × CalmJob env job

    abbrev Ended : Call → Ending → List Did → Type 0
    Ended call ending steps = EndsSeen M mix env events c call ending steps × CalmEnd env call ending

    abbrev CalmOn : Job → Job × Next Ending → Type 0
    CalmOn job next = GoesOn (CalmJob env) (CalmEnd env) job next

    both-lead : (job : Job) (all : List Did) (next : Job × Next Ending)
        → LeadsOn M mix env (JobSaw env c words_at mix) (EndsSeen M mix env events c) job all next → CalmOn job next
        → LeadsOn M mix env Now Ended job all next
    both-lead job all (after, Go) saw calm = (saw, calm)
    both-lead job all (after, Done ending) saw calm = (saw, calm)

    -- of another call there is nothing to say
    abbrev is_other : Call → Bool
    is_other (Bind port owner once) = false
    is_other (Walk from limit) = false
    is_other Work = false
    is_other _ = true

    other-calm : (job : Job) → is_other (call_of job) ≡ true → CalmJob env job
    other-calm (binds port owner once state) other = absurd (cc)
    other-calm (walks from limit room state) other = absurd (cc)
    other-calm (works state) other = absurd (cc)
    other-calm _ other = tt

    -- a walk finds no future
    none_there : (did : Did) (slot : ℕ) → slot < 8 → did.old ≡ word_at env.geometry (words_at did.index) (Slot slot FutureWord)
        → slot_of did.old ≡ None
    none_there did slot low found =
        ap slot_of found ∙ future-none env mix roomy did (words_at did.index) (unmade did.index) (few did.index) slot low

    ended-none : (from : Option Cursor) (limit : ℕ) (room : walk.Pairs) (state : WalkAt) (did : Did)
        (does : Performs mix env (walks from limit room state) did) → does.words ≡ words_at did.index
        → (table : ℕ) → state ≡ walks_at.TableEnd table → slot_of did.old ≡ None
    ended-none from limit room state did does now table is =
        let here = subst (λ s. walk.IsWalkAtIn env.geometry s) is does.within in
        none_there did table here
        (found_as mix env does ∙ ap (old_of does.words) (ap (walk.plan_at env.geometry does.caller) is)
        ∙ ap (λ w. word_at env.geometry w (Slot table FutureWord)) now)

    strange-none : (from : Option Cursor) (limit : ℕ) (room : walk.Pairs) (state : WalkAt) (did : Did)
        (does : Performs mix env (walks from limit room state) did) → does.words ≡ words_at did.index
        → (visit : Visit) → state ≡ walks_at.StrangeEnd visit → slot_of did.old ≡ None
    strange-none from limit room state did does now visit is =
        let here = subst (λ s. walk.IsWalkAtIn env.geometry s) is does.within in
        none_there did visit.table here.table_in
        (found_as mix env does ∙ ap (old_of does.words) (ap (walk.plan_at env.geometry does.caller) is)
        ∙ ap (λ w. word_at env.geometry w (Slot visit.table FutureWord)) now)

    job-calm : (job : Job) (steps : List Did) (did : Did) → (does : Performs mix env job did) → does.words ≡ words_at did.index
        → Now job steps → CalmOn job (job_after mix env job did.old)
    job-calm (binds port owner once state) steps did does now kept =
        next-goes (CalmJob env) (CalmEnd env) (binds port owner once state) (binds port owner once) plain_ending (bind_after_at mix env port once state did.old)
        (calm-bind env (IsFirst env) (IsZero env) words_at (λ i. (few i).bound) mix port owner once state steps did _ does kept.0.0 kept.1
        (few-calm env mix roomy did (words_at did.index) (unmade did.index) (few did.index) port owner once state does now))
    job-calm (works state) steps did does now kept =
        next-goes (CalmJob env) (CalmEnd env) (works state) works plain_ending (work.after_at mix env state did.old)
        (calm-work env mix roomy did (words_at did.index) (unmade did.index) (few did.index)
        state does now kept.1)
    job-calm (walks from limit room state) steps did does now kept =
        let after = walk.room_after state room did.old in
        next-goes (CalmJob env) (CalmEnd env) (walks from limit room state) (walks from limit after) (walk_ending after)
        (walk_gone env from limit room after state did.old)
        (calm-walk env.geometry from limit (length room.items) room state did.old
        (λ table is. ended-none from limit room state did does now table is)
        (λ visit is. strange-none from limit room state did does now visit is) kept.1)
    job-calm job steps did does now kept =
        each_goes (CalmJob env) (CalmEnd env (call_of job)) (call_of job) (job_after mix env job did.old) (same_call mix env job did.old)
        (λ other same. other-calm other (ap is_other same)) (λ ending. tt)

    first_walk-calm : (from : Option Cursor) → CalmWalk from walks_at.Opening
    first_walk-calm None = tt
    first_walk-calm (Some cursor) = tt

    first-calm : (call : Call) (batch : Option BatchModel) (start : ℕ) → IfSome (first_job env batch call start) (CalmJob env)
    first-calm (Walk from limit) batch start = first_walk-calm from
    first-calm Tidy batch start = first_tidy-so (CalmJob env) batch (λ own. tt)
    first-calm _ batch start = tt

    calls-calm : IsAdmitted events
        → let r : Traced M = traced_of mix env events in IsKeeping M mix env Now Ended (view_of r.world c) (r.traces c)
    calls-calm admitted =
        jobs_keep_own M mix env Now Ended events c record {
          begins = λ call job is. (first_job-saw M mix env events c call job is, first-of (CalmJob env) env call job (first-calm call) is);
          goes = λ job steps did performs own now kept.
              both-lead job (steps ++ did ∷ []) (job_after mix env job did.old)
              (job-leads M mix env events c job steps did performs own now kept.0) (job-calm job steps did performs now.now kept);
        } admitted

  -- ---- one event

  module _ (events : List Event) (admitted : IsAdmitted events) (few : AreFew events) (unmade : AreUnmade events) where
    abbrev w : World M
    w = run_of mix env events

    -- none was made after all of them
    unmade-now : IsNoTableMade env w.core.words
    unmade-now =
        subst (λ (first : List Event). IsNoTableMade env (run_of {M = M} mix env first).core.words)
        (take_all (length events) events (omega arith)) (unmade (length events))

    -- the job of a caller that performs this is calm
    calm-now : (c : ℕ) (job : Job) → job_of (local_of w.core c).doing ≡ Some job → CalmJob env job
    calm-now c job is =
        let r : Traced M = traced_of mix env events in
        let now = (calls-calm events few unmade c admitted).now in
        let local = ap (λ (v : World M). job_of (local_of v.core c).doing) (world-traced_of M mix env events) ∙ is in
        (subst (λ (j : Option Job). IsAtJob M mix env (Now events few unmade c) (Ended events few unmade c) j (r.world.books c) (r.traces c).steps)
        local now).now.1

    -- so what it performs leaves the words of the slots
    step-unmade : (c : ℕ) (op : Option Op) → planned_in w.core c ≡ op → IsNoTableMade env (world_step mix w (Step c)).core.words
    step-unmade c None is =
        subst (λ (v : World M). IsNoTableMade env v.core.words) (sym (step_none M mix w c is)) unmade-now
    step-unmade c (Some op) is =
        let has = has_inv env mix M events admitted in
        let of = step_of env mix M w.core has.ghost c op has.all has.inv is in
        let spares = subst SparesSlots (sym of.plan)
        (soft-spares (local_of w.core c).held (job_plan env c of.job) (job-spares env mix c of.few of.job of.within (calm-now c of.job of.is))) in
        subst (IsNoTableMade env) (sym (step_words M mix w c op is))
        (no_table_kept env w.core.words (applied w.core.words op)
        (λ place low apart other. spared_slots w.core.words op place spares apart) unmade-now)

    event-unmade : (event : Event) → IsNoTableMade env (world_step mix w event).core.words
    event-unmade Enroll =
        no_table_kept env w.core.words (applied w.core.words (enrolling w.core.env))
        (λ place low apart other. applied-other w.core.words (enrolling w.core.env) place other) unmade-now
    event-unmade (Begin c call start) = unmade-now
    event-unmade (Step c) = step-unmade c (planned_in w.core c) refl

  -- ---- all events

  pub runs-unmade : (events : List Event) → IsAdmitted events → AreFew events → AreUnmade events
  runs-unmade =
      induct_by_last (λ events. IsAdmitted events → AreFew events → AreUnmade events)
      (λ none few i. opened i)
      (λ events event each all few.
      let admitted = (AllByRecursion-cut IsAdmittedEvent events (event ∷ []) all).0 in
      let before = before-push M mix env events event (HasFew env) few in
      let unmade = each admitted before in
      before-more M mix env events event (IsNoTableMade env) unmade (event-unmade events admitted before unmade event))
    where
      opened : (i : ℕ) → IsNoTableMade env (words_before M mix env [] i)
      opened zero = no_table-opening env
      opened (suc i) = no_table-opening env

  -- at the end no call has been refused because a table is full
  abbrev Taken : Finished → Type 0
  Taken done = IsCallTaken done.call done.reply

  pub calls-taken : (events : List Event) → IsAdmitted events → AreFew events → StaysWithFirst env (run_of {M = M} mix env events)
  calls-taken events admitted few =
      let r : Traced M = traced_of mix env events in
      let unmade = runs-unmade events admitted few in
      record {
        none_made = unmade-now events admitted few unmade;
        taken = λ c.
            subst (λ (v : World M). AllByRecursion Taken (v.books c).finished) (world-traced_of M mix env events)
            (subst (AllByRecursion Taken) ((remembers M mix env events admitted).traces c).past
            (all_taken events few unmade c (r.traces c).past (calls-calm events few unmade c admitted).past));
      }
    where
      all_taken : (events : List Event) (few : AreFew events) (unmade : AreUnmade events) (c : ℕ) (calls : List Past)
          → AllByRecursion (λ (past : Past). Ended events few unmade c past.done.call (ending_in past.done) past.steps) calls
          → AllByRecursion Taken (map (λ past. past.done) calls)
      all_taken events few unmade c [] all = tt
      all_taken events few unmade c (past ∷ calls) all = (all.0.1, all_taken events few unmade c calls all.1)

pub few_ports : (M : Type 0) (mix : ℕ → ℕ → ℕ → ℕ) → FewPorts M mix
few_ports M mix env events admitted has =
    calls-taken M mix env (record { first = has.first; keeps_size = has.keeps_size }) events admitted
    (λ i.
    let first = taken IsAdmittedEvent i events admitted in
    let most = few-bound M mix env events admitted has.ports has.among i in
    let count = count-few M mix env (take i events) (length has.ports) first most in
    let callers = env.geometry.within.callers_within.1 in
    let few = has.few in
    record {
      count = omega (arith, count, callers, few);
      bound = λ are. let many = most 16 are in omega (arith, many, few);
    })
