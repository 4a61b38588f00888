-- What is kept of each caller's calls holds of every caller in every run: something of each call that has ended, and
-- something of the operations so far of the one in progress.
--
-- It is enough to look at jobs, one operation at a time. A call begins as its first job with no operations; an operation
-- leads to one more of them, and where it ends the call, to what is kept of an ended one. What callers keep besides is
-- shown here once for all: that the call of a book is that of the job, and what the rooms have. So is how an operation stands in its run:
-- the words in which it is performed are those before its event; and while the caller's section stays open the buckets to which it comes stay
-- where they are, and each slot that had a table to which it comes has it. And of a table that it gives back it is known how that was when its
-- shape was loaded.
use Rattle.std.proofs.Common.{◌≡◌, ℕ, Bool, true, false, cond, List, [], ◌∷◌, ◌++◌, length, take, refl, sym, ap, ◌∙◌, subst, append_assoc, arith, ◌+◌, ◌<◌}
use Rattle.std.specs.Prelude.{Option, Some, None}
use Rattle.std.specs.List.{AllByRecursion, last_or}
use Rattle.std.proofs.Math.Seq.{take-append_seam}
use Rattle.std.proofs.lemmas.List.{append-nil, length_push, take-append-le}
use Rattle.rht_words.specs.declared.env.Env.{Env}
use Rattle.rht_words.specs.declared.op.Op.{Op}
use Rattle.rht_words.specs.declared.machine.Next.{Next}
use Rattle.rht_words.specs.declared.machine.Next.TheVariants.{Go, Done}
use Rattle.rht_words.specs.Machines.{GoesOrEnds}
use Rattle.rht_words.specs.Operations.{old_of, applied}
use Rattle.rht_words.specs.Places.{Section, word_at, words_in}
use Rattle.rht_words.proofs.EachElement.{AllByRecursion-push, AllByRecursion-cut, last_or-push}
use Rattle.rht_model.specs.declared.history.Call.{Call}
use Rattle.rht_model.specs.declared.history.Reply.{Reply}
use Rattle.rht_model.specs.Rooms.{Kept}
use Rattle.rht_model.specs.Endings.{Ending, ended_with, ending_in}
use Rattle.rht_core.specs.declared.event.Event.{Event}
use Rattle.rht_core.specs.declared.event.Event.TheVariants.{Begin, Step as Steps}
use Rattle.rht_core.specs.declared.book.Book.{Book}
use Rattle.rht_callers.specs.declared.local.Local.{Local}
use Rattle.rht_callers.specs.declared.local.Doing.{Doing}
use Rattle.rht_callers.specs.Locals.{is_idle, machine_from, local_after, ending_of}
use Rattle.rht_core.specs.Jobs.{Job, call_of, job_plan, job_after, job_of, told, held_of, IsFirstJob}
use Rattle.rht_core.specs.Runs.{Core, World, View, planned_in, local_of, IsAdmitted, IsAdmittedEvent, view_of, run_of, world_step, book_begun, book_after, finished_with}
use Rattle.rht_core.specs.Traces.{Did, Past, Trace, Traced, trace_begun, trace_did, traced_of}
use Rattle.rht_core.specs.Seen.{words_before}
use Rattle.rht_core.specs.Replies.{IsBookOfIdle, owners_with, pairs_with, HasLists}
use Rattle.rht_core.specs.Laws.{IsRecorded, view_begun, view_stepped}
use Rattle.rht_core.proofs.Events.JobsOfCallers.{is_no_job, has_ended, HasNoLists, same_call, left-told, nothing-job, first_job-machine, local_after-job}
use Rattle.rht_callers.proofs.RoomsOfCallers.{owners_beside-none, owners_after-stay, pairs_beside-none, pairs_after-stay}
use Rattle.rht_walk.specs.Walk.{Pairs}
use Rattle.rht_core.proofs.Events.Invariants.{Inv}
use Rattle.rht_core.proofs.Events.Worlds.{run_of-push, stepped_words}
use Rattle.rht_core.proofs.Tracing.TracedRuns.{world-traced_of}
use Rattle.rht_core.proofs.Events.BucketsThere.{BucketsStay, buckets-stay}
use Rattle.rht_core.proofs.Events.UnturnedSections.{section_at}
use Rattle.rht_core.proofs.Events.TablesThere.{TablesStayed, TablesStayed-same}
use Rattle.rht_ghost.proofs.Theory.Ghosts.{Ghost}
use Rattle.rht_ghost.proofs.Theory.Wholes.{Whole}
use Rattle.rht_ghost.proofs.Theory.Knowledge.{IsOpenAs}
use Rattle.rht_ghost.proofs.Pieces.HeldSections.{is_in}
use Rattle.rht_core.proofs.Machines.HeldSteps.{MayHold, IsNoLoad, soft-none, soft-old, hard-op}
use Rattle.rht_callers.specs.Locals.{soft, may_hold}
use Rattle.rht_ghost.proofs.Theory.Steps.{mem}
use Rattle.rht_core.proofs.Machines.JobSteps.{JobIn, JobKnows, JobStepOf, JobStepOver}
use Rattle.rht_core.proofs.Tracing.UnturnedSteps.{LeavesSection, UnturnedTo, unturned-none, unturned-stays, unturned-push}
use Rattle.rht_core.proofs.Tracing.TracedCallers.{IsMade, IsKeptBeside, SectionStays, section_stays, traced_callers_keep_beside}
use Rattle.rht_core.proofs.Returning.SectionWords.{IsOthers}
use Rattle.rht_core.proofs.Undoing.WorkStages.{stage_of, stage_now}
use Rattle.rht_core.proofs.Undoing.TablesThen.{StandsInStage}
use Rattle.rht_core.proofs.Undoing.GivingInRuns.{KeepsInStage, keeps_first, keeps_beside, stands_made, keeps_made}
use Rattle.rht_core.proofs.Events.RangesInRuns.{runs-all}

-- ---- the calls of a book

-- the call that has just ended is the last one
last_or-ended : (book : Book) (call : Call) (ending : Ending) → book.call ≡ Some call
    → last_or None (book_after (Some ending) book).finished ≡ Some (ended_with call ending)
last_or-ended book call ending is =
    ap (λ (o : Option Call). last_or None (book.finished ++ finished_with o ending)) is
    ∙ last_or-push None book.finished (ended_with call ending)

-- ---- the rooms

-- whether there is a reply
abbrev has_reply : Option Reply → Bool
has_reply None = false
has_reply (Some reply) = true

module _ {M : Type 0} where
  -- whoever has a reply has ended a call
  ended-replied : (local : Local M) (reply : Option Reply)
      → has_ended (ending_of local reply) ≡ has_reply reply
  ended-replied local None = refl
  ended-replied local (Some reply) = refl

  -- a caller in a call has empty rooms
  pub busy-none : (local : Local M) (book : Book) → is_idle local ≡ false → HasLists local book
      → HasNoLists local
  busy-none local book busy lists = record {
    owners = lists.owners ∙ ap (λ b. cond b (owners_with (last_or None book.finished)) []) busy;
    pairs = lists.pairs ∙ ap (λ b. cond b (pairs_with (last_or None book.finished)) []) busy;
  }

  none-lists : (local : Local M) (book : Book) → is_idle local ≡ false → HasNoLists local
      → HasLists local book
  none-lists local book busy none = record {
    owners = none.owners ∙ ap (λ b. cond b (owners_with (last_or None book.finished)) []) (sym busy);
    pairs = none.pairs ∙ ap (λ b. cond b (pairs_with (last_or None book.finished)) []) (sym busy);
  }

  -- a caller whose call goes on has empty rooms, and one whose call has ended has the lists that came with it
  lists-after : (local : Local M) (reply : Option Reply) (book : Book) (call : Call) → book.call ≡ Some call
      → is_idle local ≡ has_reply reply → (reply ≡ None → HasNoLists local)
      → HasLists local (book_after (ending_of local reply) book)
  lists-after local None book call is idle none = none-lists local _ idle (none refl)
  lists-after local (Some reply) book call is idle none =
      let ending : Ending = record {
        answer = record { reply = reply; owners = local.owners.items };
        pairs = local.pairs.items;
      } in
      let last = sym (last_or-ended book call ending is) in
      let after = (book_after (Some ending) book).finished in
      record {
        owners = ap owners_with last ∙ ap (λ b. cond b (owners_with (last_or None after)) []) (sym idle);
        pairs = ap pairs_with last ∙ ap (λ b. cond b (pairs_with (last_or None after)) []) (sym idle);
      }

-- ---- an operation of a job

module _ (mix : ℕ → ℕ → ℕ → ℕ) (env : Env) where
  -- a job performs this operation in these words, in which it knows what its state says; the operation found what it found,
  -- and is a step of the job
  pub record Performs (job : Job) (did : Did) : Type 0 where
    pub caller : ℕ
    pub over : Bool
    pub planned : did.op ≡ soft over (job_plan env caller job)
    pub may : MayHold over job
    pub words : List ℕ
    pub ghost : Ghost
    pub low : caller < env.geometry.callers
    pub few : caller < 16
    pub all : length words ≡ words_in env.geometry
    pub whole : Whole env mix (mem env mix words) ghost
    pub within : JobIn env mix caller job
    pub knows : JobKnows env mix caller job (mem env mix words) ghost
    pub is_open : IsOpenAs (is_in over (held_of job).section) (ghost.from caller)
    pub found : did.old ≡ old_of words did.op
    pub step :
        let r = job_after mix env job did.old in
        JobStepOver env mix caller over words ghost did.op job r

  -- a call that isn't made in a hold makes its machine's operations
  pub not_over : {job : Job} {did : Did} → may_hold true (call_of job) ≡ false → (performs : Performs job did) → performs.over ≡ false
  not_over {job} barred performs = go performs.over performs.may
    where
      go : (over : Bool) → may_hold over (call_of job) ≡ true → over ≡ false
      go false may = refl
      go true may = absurd (let both = sym barred ∙ may in cc)

  pub hard : {job : Job} {did : Did} → may_hold true (call_of job) ≡ false → (performs : Performs job did)
      → did.op ≡ job_plan env performs.caller job
  hard {job} barred performs =
      performs.planned ∙ ap (λ over. soft over (job_plan env performs.caller job)) (not_over barred performs)
      ∙ soft-none (job_plan env performs.caller job)

  -- a caller that holds no section open makes its machine's operations, and its call holds what its machine says
  pub hard_rests : {job : Job} {did : Did} (performs : Performs job did) → performs.over ≡ false → did.op ≡ job_plan env performs.caller job
  hard_rests {job} performs rests =
      performs.planned ∙ ap (λ over. soft over (job_plan env performs.caller job)) rests ∙ soft-none (job_plan env performs.caller job)

  pub step_rests : {job : Job} {did : Did} (performs : Performs job did) → performs.over ≡ false
      → JobStepOf env mix performs.caller performs.words performs.ghost did.op job (job_after mix env job did.old)
  step_rests {job} {did} performs rests =
      subst (λ over. JobStepOver env mix performs.caller over performs.words performs.ghost did.op job (job_after mix env job did.old))
      rests performs.step

  -- whatever it makes that is no load is its machine's
  pub hard_by : {job : Job} {did : Did} (performs : Performs job did) (op : Op) → IsNoLoad op → did.op ≡ op
      → did.op ≡ job_plan env performs.caller job
  hard_by {job} performs op none is = is ∙ hard-op performs.over (job_plan env performs.caller job) op none (sym performs.planned ∙ is)

  -- whatever it makes, it finds the word that its machine would find
  pub found_as : {job : Job} {did : Did} (performs : Performs job did) → did.old ≡ old_of performs.words (job_plan env performs.caller job)
  found_as {job} performs =
      performs.found ∙ ap (old_of performs.words) performs.planned ∙ soft-old performs.over (job_plan env performs.caller job) performs.words

  -- Where these are the words before the event with each number, the operation was performed in those before its event, and left those
  -- behind it. From each operation of the call on from which on none turned the caller's section word, that stayed. While it stays the buckets
  -- that tables had to which the section comes stay where they were, and each slot that had such a table before has it still. Of a table that
  -- is given back it is known how that was when its shape was loaded.
  pub record StandsIn (words_at : ℕ → List ℕ) (job : Job) (steps : List Did) (did : Did) (performs : Performs job did) : Type 0 where
    pub rests : performs.over ≡ false
    pub now : performs.words ≡ words_at did.index
    pub next : applied performs.words did.op ≡ words_at (did.index + 1)
    pub unturned : UnturnedTo env.geometry words_at performs.caller steps did.index
    pub stay : BucketsStay env mix words_at performs.caller performs.ghost did.index
    pub stayed : TablesStayed env mix words_at performs.caller performs.ghost did.index
    pub giving : StandsInStage env.geometry words_at (stage_of job) steps did.old

  -- The step of this caller is its job's, in the words behind these events, of which the invariant holds; and each slot that had a table
  -- has it.
  pub record PerformsAs (M : Type 0) (c : ℕ) (doing : Option Job) (events : List Event) (did : Did) : Type 0 where
    pub job : Job
    pub does : doing ≡ Some job
    pub performs : Performs job did
    pub own : performs.caller ≡ c
    pub rests : performs.over ≡ false
    pub here : performs.words ≡ (run_of {M = M} mix env events).core.words
    pub inv : Inv env mix M (run_of mix env events).core performs.ghost
    pub stayed : TablesStayed env mix (words_before M mix env events) performs.caller performs.ghost (length events)

  pub performs-made : (M : Type 0) (events : List Event) (c : ℕ) (local : Local M) (did : Did)
      → IsMade M mix env events c local did
      → PerformsAs M c (job_of local.doing) events did
  performs-made M events c local did made =
      let known = made.known in
      let of = known.step in
      record {
        job = of.job;
        does = ap (λ (l : Local M). job_of l.doing) (sym known.here) ∙ of.is;
        performs = record {
          caller = c;
          over = (local_of known.core c).held;
          planned = of.plan;
          may = of.may;
          words = known.core.words;
          ghost = known.ghost;
          low = of.low;
          few = of.few;
          all = of.all;
          whole = known.inv.whole;
          within = of.within;
          knows = of.knows;
          is_open = of.is_open;
          found = known.found;
          step = subst (λ old. let r = job_after mix env of.job old in
              JobStepOver env mix c (local_of known.core c).held known.core.words known.ghost did.op of.job r)
              (sym known.found) of.step;
        };
        own = refl;
        rests = known.inv.rests c;
        here = ap (λ (core : Core M). core.words) made.now;
        inv = subst (λ (core : Core M). Inv env mix M core known.ghost) made.now known.inv;
        stayed = made.stayed;
      }

-- ---- what is kept of calls

-- the job does the call of the book, and this holds of its operations
pub record IsWorkOf (Now : Job → List Did → Type 0) (job : Job) (book : Book) (steps : List Did) : Type 0 where
  pub call : book.call ≡ Some (call_of job)
  pub now : Now job steps

-- the call in progress is the job's, and in no call there is none
abbrev pub IsAtJobOf : (Job → List Did → Type 0) → Option Job → Book → List Did → Type 0
IsAtJobOf Now None book steps = IsBookOfIdle book
IsAtJobOf Now (Some job) book steps = IsWorkOf Now job book steps

-- `Now` says what is kept of the operations of a call in progress, by its job, and `Ended` what is kept of those of a call
-- that has ended
module _ (M : Type 0) (mix : ℕ → ℕ → ℕ → ℕ) (env : Env) (Now : Job → List Did → Type 0)
    (Ended : Call → Ending → List Did → Type 0)
  where
    -- what a job's operation leads to, which is the last of these
    abbrev pub LeadsOn : Job → List Did → Job × Next Ending → Type 0
    LeadsOn job all next = GoesOrEnds (λ after. Now after all) (λ ending. Ended (call_of job) ending all) next

    -- what has to be shown of jobs; no job turns into one of another call
    pub record JobsKeep : Type 0 where
      pub begins : (call : Call) (job : Job) → IsFirstJob env call job → Now job []
      pub goes : (job : Job) (steps : List Did) (did : Did) → Performs mix env job did → Now job steps
          → LeadsOn job (steps ++ did ∷ []) (job_after mix env job did.old)

    -- the same in the run of these events, where the words in which an operation is performed are those before its event
    pub record JobsKeepIn (events : List Event) : Type 0 where
      pub begins : (call : Call) (job : Job) → IsFirstJob env call job → Now job []
      pub goes : (job : Job) (steps : List Did) (did : Did) (performs : Performs mix env job did)
          → performs.words ≡ words_before M mix env events did.index → Now job steps
          → LeadsOn job (steps ++ did ∷ []) (job_after mix env job did.old)

    -- and in which the buckets that there are then stay where they are
    pub record JobsKeepStanding (events : List Event) : Type 0 where
      pub begins : (call : Call) (job : Job) → IsFirstJob env call job → Now job []
      pub goes : (job : Job) (steps : List Did) (did : Did) (performs : Performs mix env job did)
          → StandsIn mix env (words_before M mix env events) job steps did performs → Now job steps
          → LeadsOn job (steps ++ did ∷ []) (job_after mix env job did.old)

    -- and which are those of this caller
    pub record JobsKeepOwn (events : List Event) (c : ℕ) : Type 0 where
      pub begins : (call : Call) (job : Job) → IsFirstJob env call job → Now job []
      pub goes : (job : Job) (steps : List Did) (did : Did) (performs : Performs mix env job did) → performs.caller ≡ c
          → StandsIn mix env (words_before M mix env events) job steps did performs → Now job steps
          → LeadsOn job (steps ++ did ∷ []) (job_after mix env job did.old)

    -- what holds of a call that has ended
    abbrev pub IsEndedSo : Past → Type 0
    IsEndedSo past = Ended past.done.call (ending_in past.done) past.steps

    -- the job does the call of the book, and what is kept of its operations holds
    abbrev pub IsAtWork : Job → Book → List Did → Type 0
    IsAtWork = IsWorkOf Now

    abbrev pub IsAtJob : Option Job → Book → List Did → Type 0
    IsAtJob = IsAtJobOf Now

    -- what a caller keeps
    pub record IsKeeping (here : View M) (trace : Trace) : Type 0 where
      pub past : AllByRecursion IsEndedSo trace.past
      pub now : IsAtJob (job_of here.local.doing) here.book trace.steps
      pub lists : HasLists here.local here.book

    -- ---- the beginning of a call

    module _ (events : List Event) (own : ℕ) where
      begins-keeping : ((call : Call) (job : Job) → IsFirstJob env call job → Now job []) → (c : ℕ) (call : Call) (start : ℕ) (machine : Doing M) (index : ℕ)
          (here : View M) (trace : Trace)
          → machine_from env c here.local.batch call start ≡ Some machine → AllByRecursion IsEndedSo trace.past → HasLists here.local here.book
          → IsKeeping (view_begun call machine here) (trace_begun index trace)
      begins-keeping begins c call start machine index here trace is past lists =
          let first = first_job-machine env c here.local.batch start call machine is in
          let busy = nothing-job machine ∙ ap is_no_job first.does in
          record {
            past = past;
            now =
                subst (λ (job : Option Job). IsAtJob job (book_begun call here.book) []) (sym first.does)
                record { call = ap Some (sym first.asked); now = begins call first.job first.first };
            lists = none-lists _ (book_begun call here.book) busy
                record {
                  owners = owners_beside-none M machine here.local.owners;
                  pairs = pairs_beside-none M machine here.local.pairs;
                };
          }

      -- ---- an operation of a job

      -- what is kept once the job goes on, and once its call has ended
      record IsKeptBy (book : Book) (trace : Trace) (did : Did) (left : Option Job × Option Ending) :
          Type 0 where
        past : AllByRecursion IsEndedSo (trace_did book.call did left.1 trace).past
        now : IsAtJob left.0 (book_after left.1 book) (trace_did book.call did left.1 trace).steps

      told-kept : (book : Book) (trace : Trace) (did : Did) (job : Job) (next : Job × Next Ending)
          → call_of next.0 ≡ call_of job
          → book.call ≡ Some (call_of job)
          → AllByRecursion IsEndedSo trace.past
          → LeadsOn job (trace.steps ++ did ∷ []) next → IsKeptBy book trace did (told next)
      told-kept book trace did job (after, Go) same is past leads =
          record { past = past; now = record { call = is ∙ ap Some (sym same); now = leads } }
      told-kept book trace did job (after, Done ending) same is past leads =
          let done : Past = record {
            done = ended_with (call_of job) ending;
            begin = trace.begin;
            steps = trace.steps ++ did ∷ [];
          } in
          record {
            past =
                subst (λ (o : Option Call). AllByRecursion IsEndedSo
                (trace_did o did (Some ending) trace).past) (sym is)
                (AllByRecursion-push IsEndedSo trace.past done past leads);
            now = record { call = refl; steps = refl };
          }

      -- the words behind the first of these events are those before the event with the next number
      words_now : (past rest : List Event) (index : ℕ) → events ≡ past ++ rest → index ≡ length past
          → (run_of {M = M} mix env past).core.words ≡ words_before M mix env events index
      words_now past rest index all is =
          ap (λ (first : List Event). (run_of {M = M} mix env first).core.words)
          (sym (ap (λ n. take n events) is ∙ ap (take (length past)) all ∙ take-append_seam past rest))

      -- and behind the next one they are those that its operation leaves
      words_next : (past rest : List Event) (c : ℕ) (did : Did) → events ≡ past ++ Steps c ∷ rest → did.index ≡ length past
          → IsRecorded M mix env (past ++ Steps c ∷ []) c did
          → applied (run_of {M = M} mix env past).core.words did.op ≡ words_before M mix env events (did.index + 1)
      words_next past rest c did all is recorded =
          let more = past ++ Steps c ∷ [] in
          let core : Core M = (run_of mix env past).core in
          let start : take did.index more ≡ past =
          ap (λ n. take n more) is ∙ take-append_seam past (Steps c ∷ []) in
          let plan : planned_in core c ≡ Some did.op =
          subst (λ (es : List Event). planned_in (run_of {M = M} mix env es).core c ≡ Some did.op) start recorded.plan in
          let length_is : did.index + 1 ≡ length more = omega (arith, is, length_push past (Steps c)) in
          sym (stepped_words M mix core c did.op (planned_in core c) refl plan)
          ∙ sym (ap (λ (w : World M). w.core.words) (run_of-push M mix env past (Steps c)))
          ∙ words_now more rest (did.index + 1) (all ∙ sym (append_assoc past (Steps c ∷ []) rest)) length_is

      -- an operation stands in the run
      stands_in : (past rest : List Event) (c : ℕ) (job : Job) (steps : List Did) (did : Did) (performs : Performs mix env job did)
          → IsAdmitted events → events ≡ past ++ Steps c ∷ rest → did.index ≡ length past
          → IsRecorded M mix env (past ++ Steps c ∷ []) c did
          → performs.over ≡ false → performs.words ≡ (run_of {M = M} mix env past).core.words
          → Inv env mix M (run_of mix env past).core performs.ghost
          → TablesStayed env mix (words_before M mix env past) performs.caller performs.ghost (length past)
          → UnturnedTo env.geometry (words_before M mix env events) performs.caller steps (length past)
          → StandsInStage env.geometry (words_before M mix env events) (stage_of job) steps did.old
          → StandsIn mix env (words_before M mix env events) job steps did performs
      stands_in past rest c job steps did performs admitted all is recorded rests here inv stayed calm giving =
          let stay = buckets-stay env mix M performs.caller performs.few past (Steps c ∷ rest) performs.ghost inv (subst IsAdmitted all admitted) in
          record {
            rests = rests;
            now = here ∙ words_now past (Steps c ∷ rest) did.index all is;
            next = ap (λ ws. applied ws did.op) here ∙ words_next past rest c did all is recorded;
            unturned = subst (UnturnedTo env.geometry (words_before M mix env events) performs.caller steps) (sym is) calm;
            stay =
                subst (BucketsStay env mix (words_before M mix env events) performs.caller performs.ghost) (sym is)
                (subst (λ (es : List Event). BucketsStay env mix (words_before M mix env es) performs.caller performs.ghost (length past))
                (sym all) stay);
            stayed =
                subst (TablesStayed env mix (words_before M mix env events) performs.caller performs.ghost) (sym is)
                (TablesStayed-same env mix (words_before M mix env past) (words_before M mix env events) performs.caller performs.ghost
                (length past)
                (λ i low. ap (λ (es : List Event). (run_of {M = M} mix env es).core.words)
                (sym (ap (take i) all ∙ take-append-le i past (Steps c ∷ rest) low))) stayed);
            giving = giving;
          }

      -- ---- tables that are given back

      -- what is known of them
      abbrev GivesSoFar : List Event → Option Job → List Did → Type 0
      GivesSoFar past job steps = KeepsInStage env mix M (words_before M mix env events) past (stage_now job) steps

      past_admitted : (past rest : List Event) → IsAdmitted events → events ≡ past ++ rest → IsAdmitted past
      past_admitted past rest admitted all =
          (AllByRecursion-cut IsAdmittedEvent past rest (subst IsAdmitted all admitted)).0

      -- an event beside an operation of the caller leaves it
      gives-beside : (past : List Event) (event : Event) (c : ℕ) (here : View M) (steps : List Did) → IsAdmitted past
          → IsOthers env mix M (traced_of mix env past).world.core event c → here ≡ view_of (traced_of mix env past).world c
          → GivesSoFar past (job_of here.local.doing) steps → GivesSoFar (past ++ event ∷ []) (job_of here.local.doing) steps
      gives-beside past event c here steps admitted others seen gives =
          let same = world-traced_of M mix env past in
          keeps_beside env mix M (words_before M mix env events) past (runs-all M mix env past admitted) c (job_of here.local.doing)
          (ap (λ (w : World M). job_of (local_of w.core c).doing) (sym same) ∙ ap (λ (v : View M). job_of v.local.doing) (sym seen))
          event (subst (λ (w : World M). IsOthers env mix M w.core event c) same others) steps gives

      -- of an operation of its own it is known before it, and behind it
      gives-stands : (past : List Event) (c : ℕ) (did : Did) (here : View M) (steps : List Did) → IsAdmitted past
          → IsMade M mix env past c here.local did → (job : Job) → job_of here.local.doing ≡ Some job
          → GivesSoFar past (job_of here.local.doing) steps
          → StandsInStage env.geometry (words_before M mix env events) (stage_of job) steps did.old
      gives-stands past c did here steps admitted made job is gives =
          stands_made env mix M (words_before M mix env events) past admitted c here.local did made job is steps
          (subst (λ j. GivesSoFar past j steps) is gives)

      -- once the call has ended there are no operations
      gives-told : (past : List Event) (call : Option Call) (did : Did) (trace : Trace) (r : Job × Next Ending)
          → GivesSoFar past (told r).0 (trace.steps ++ did ∷ []) → GivesSoFar past (told r).0 (trace_did call did (told r).1 trace).steps
      gives-told past call did trace (job, Go) gives = gives
      gives-told past call did trace (job, Done ending) gives = tt

      gives-made : (past rest : List Event) (c : ℕ) (did : Did) (here : View M) (trace : Trace) → IsAdmitted events
          → events ≡ past ++ Steps c ∷ rest → IsMade M mix env past c here.local did → HasLists here.local here.book
          → GivesSoFar past (job_of here.local.doing) trace.steps
          → let next = local_after mix here.local did.old in
          GivesSoFar (past ++ Steps c ∷ []) (job_of next.0.doing) (trace_did here.book.call did (ending_of next.0 next.1) trace).steps
      gives-made past rest c did here trace admitted all made lists gives =
          let planning = performs-made mix env M past c here.local did made in
          let none = busy-none here.local here.book (nothing-job here.local.doing ∙ ap is_no_job planning.does) lists in
          let more = past ++ Steps c ∷ [] in
          let next = job_after mix env planning.job did.old in
          let left = local_after-job mix env here.local planning.job did.old none made.table planning.does in
          let now =
          keeps_made env mix M (words_before M mix env events) past (past_admitted past (Steps c ∷ rest) admitted all) c here.local did made
          planning.job planning.does trace.steps (words_now past (Steps c ∷ rest) did.index all made.index)
          (subst (λ j. GivesSoFar past j trace.steps) planning.does gives) in
          subst (λ (l : Option Job × Option Ending). GivesSoFar more l.0 (trace_did here.book.call did l.1 trace).steps) (sym left)
          (gives-told more here.book.call did trace next now)

      -- where this was kept before it of the job's operations, and leads on
      steps-keeping : (Before : Job → List Did → Type 0) (past rest : List Event) (c : ℕ) (did : Did) (here : View M) (trace : Trace)
          → ((job : Job) (performs : Performs mix env job did) → performs.caller ≡ own
          → StandsIn mix env (words_before M mix env events) job trace.steps did performs → Before job trace.steps
          → LeadsOn job (trace.steps ++ did ∷ []) (job_after mix env job did.old))
          → IsAdmitted events → events ≡ past ++ Steps c ∷ rest
          → IsMade M mix env past c here.local did → c ≡ own → AllByRecursion IsEndedSo trace.past
          → IsAtJobOf Before (job_of here.local.doing) here.book trace.steps → HasLists here.local here.book
          → UnturnedTo env.geometry (words_before M mix env events) c trace.steps (length past)
          → GivesSoFar past (job_of here.local.doing) trace.steps
          → let next = local_after mix here.local did.old in
          IsKeeping (view_stepped mix did.old here) (trace_did here.book.call did
          (ending_of next.0 next.1) trace)
      steps-keeping Before past rest c did here trace goes admitted all made mine ended now lists calm gives =
          let next = local_after mix here.local did.old in
          let planning = performs-made mix env M past c here.local did made in
          let job = planning.job in
          let busy = nothing-job here.local.doing ∙ ap is_no_job planning.does in
          let none = busy-none here.local here.book busy lists in
          let work : IsWorkOf Before job here.book trace.steps =
          subst (λ (j : Option Job). IsAtJobOf Before j here.book trace.steps) planning.does now in
          let performs = planning.performs in
          let stands = stands_in past rest c job trace.steps did performs admitted all made.index made.recorded planning.rests planning.here planning.inv
          planning.stayed
          (subst (λ k. UnturnedTo env.geometry (words_before M mix env events) k trace.steps (length past)) (sym planning.own) calm)
          (gives-stands past c did here trace.steps (past_admitted past (Steps c ∷ rest) admitted all) made job planning.does gives) in
          let leads = goes job performs (planning.own ∙ mine) stands work.now in
          let after = job_after mix env job did.old in
          let left = local_after-job mix env here.local job did.old none made.table planning.does in
          let kept =
          subst (IsKeptBy here.book trace did) (sym left)
          (told-kept here.book trace did job after (same_call mix env job did.old) work.call ended
          leads) in
          let idle : is_idle next.0 ≡ has_reply next.1 =
          nothing-job next.0.doing ∙ ap (λ l. is_no_job l.0) left ∙ left-told after
          ∙ ap (λ l. has_ended l.1) (sym left)
          ∙ ended-replied next.0 next.1 in
          record {
            past = kept.past;
            now = kept.now;
            lists =
                lists-after next.0 next.1 here.book (call_of job) work.call idle
                (λ goes. record {
                  owners =
                      ap (λ (room : Kept ℕ). room.items)
                      (owners_after-stay M mix here.local.doing here.local.owners did.old goes) ∙ none.owners;
                  pairs =
                      ap (λ (room : Pairs). room.items)
                      (pairs_after-stay M mix here.local.doing here.local.pairs did.old goes) ∙ none.pairs;
                });
          }

      -- ---- runs

      -- the words before each event of this run
      abbrev words_at : ℕ → List ℕ
      words_at = words_before M mix env events

      abbrev Unturned : ℕ → List Did → ℕ → Type 0
      Unturned = UnturnedTo env.geometry words_at

      -- an event leaves the caller's section word
      section_now : (past : List Event) (event : Event) (rest : List Event) (c : ℕ) → c < 16 → events ≡ past ++ event ∷ rest
          → SectionStays M mix env past event c
          → section_at env.geometry words_at c (length past + 1) ≡ section_at env.geometry words_at c (length past)
      section_now past event rest c few all stays =
          let more = past ++ event ∷ [] in
          let section : World M → ℕ = λ w. word_at env.geometry w.core.words (Section c) in
          let before : section (run_of mix env past) ≡ section_at env.geometry words_at c (length past) =
          ap (λ words. word_at env.geometry words (Section c)) (words_now past (event ∷ rest) (length past) all refl) in
          let behind : section (run_of mix env more) ≡ section_at env.geometry words_at c (length past + 1) =
          ap (λ words. word_at env.geometry words (Section c))
          (words_now more rest (length past + 1) (all ∙ sym (append_assoc past (event ∷ []) rest)) (sym (length_push past event))) in
          sym behind ∙ ap section (run_of-push M mix env past event)
          ∙ ap (λ (w : World M). section (world_step mix w event)) (sym (world-traced_of M mix env past)) ∙ stays few
          ∙ ap section (world-traced_of M mix env past) ∙ before

      -- so does an operation that doesn't turn it
      section_did : (past rest : List Event) (c : ℕ) (did : Did) (local : Local M) → events ≡ past ++ Steps c ∷ rest
          → IsMade M mix env past c local did → LeavesSection env.geometry words_at c did
          → section_at env.geometry words_at c (did.index + 1) ≡ section_at env.geometry words_at c did.index
      section_did past rest c did local all made keep =
          let section : List ℕ → ℕ = λ words. word_at env.geometry words (Section c) in
          let here = ap (λ (core : Core M). core.words) made.now in
          ap section (sym (words_next past rest c did all made.index made.recorded))
          ∙ ap (λ words. section (applied words did.op)) (sym here) ∙ made.section keep
          ∙ ap section here ∙ ap section (words_now past (Steps c ∷ rest) did.index all made.index)

      -- once the call has ended there are no operations
      unturned-did : (call : Option Call) (did : Did) (ending : Option Ending) (trace : Trace) (c upto : ℕ)
          → Unturned c (trace.steps ++ did ∷ []) upto → Unturned c (trace_did call did ending trace).steps upto
      unturned-did call did None trace c upto calm = calm
      unturned-did call did (Some ending) trace c upto calm = unturned-none env.geometry words_at c upto

      -- an event more is the first of those behind
      next_event : (past : List Event) (event : Event) (rest : List Event) → events ≡ (past ++ event ∷ []) ++ rest
          → events ≡ past ++ event ∷ rest
      next_event past event rest all = all ∙ append_assoc past (event ∷ []) rest

-- ---- what is kept by the number of events so far

-- Behind these events this one comes, which is none of the caller's operations, while the caller does this job.
pub record IsBeside (M : Type 0) (mix : ℕ → ℕ → ℕ → ℕ) (env : Env) (past : List Event) (event : Event) (c : ℕ) (job : Job) : Type 0 where
  pub admitted : IsAdmitted past
  pub may : IsAdmittedEvent event
  pub others : IsOthers env mix M (run_of mix env past).core event c
  pub does : job_of (local_of (run_of {M = M} mix env past).core c).doing ≡ Some job

module _ (M : Type 0) (mix : ℕ → ℕ → ℕ → ℕ) (env : Env) (NowAt : ℕ → Job → List Did → Type 0)
    (Ended : Call → Ending → List Did → Type 0) (events : List Event) (own : ℕ)
  where
    -- what has to be shown of jobs of this caller, also where another event comes
    pub record JobsKeepBeside : Type 0 where
      pub begins : (n : ℕ) (call : Call) (job : Job) → IsFirstJob env call job → NowAt n job []
      pub stays : (past : List Event) (event : Event) (rest : List Event) (job : Job) (steps : List Did) → events ≡ past ++ event ∷ rest
          → IsBeside M mix env past event own job → NowAt (length past) job steps → NowAt (length past + 1) job steps
      pub goes : (job : Job) (steps : List Did) (did : Did) (performs : Performs mix env job did) → performs.caller ≡ own
          → StandsIn mix env (words_before M mix env events) job steps did performs → NowAt did.index job steps
          → LeadsOn M mix env (NowAt (did.index + 1)) Ended job (steps ++ did ∷ []) (job_after mix env job did.old)

    module _ (keep : JobsKeepBeside) where
      abbrev IsKeepingAt : ℕ → View M → Trace → Type 0
      IsKeepingAt n = IsKeeping M mix env (NowAt n) Ended

      abbrev calm_at : ℕ → List Did → ℕ → Type 0
      calm_at = UnturnedTo env.geometry (words_before M mix env events)

      abbrev gives_at : List Event → Option Job → List Did → Type 0
      gives_at = GivesSoFar M mix env (NowAt 0) Ended events own

      -- what this caller keeps where the events so far are the first of these
      abbrev IsKeepingSoFar : List Event → ℕ → View M → Trace → Type 0
      IsKeepingSoFar past c here trace =
          c ≡ own → (rest : List Event) → events ≡ past ++ rest
          → IsKeepingAt (length past) here trace × (c < 16 → calm_at c trace.steps (length past))
          × gives_at past (job_of here.local.doing) trace.steps

      beside-now : (past : List Event) (event : Event) (rest : List Event) → events ≡ past ++ event ∷ rest
          → IsAdmitted past → IsAdmittedEvent event
          → IsOthers env mix M (run_of mix env past).core event own
          → (job : Option Job) → job_of (local_of (run_of {M = M} mix env past).core own).doing ≡ job → (book : Book) (steps : List Did)
          → IsAtJobOf (NowAt (length past)) job book steps → IsAtJobOf (NowAt (length past + 1)) job book steps
      beside-now past event rest all admitted may others None does book steps now = now
      beside-now past event rest all admitted may others (Some job) does book steps now = record {
        call = now.call;
        now = keep.stays past event rest job steps all (record { admitted = admitted; may = may; others = others; does = does }) now.now;
      }

      beside-keeping : (past : List Event) (event : Event) (rest : List Event) (here : View M) (trace : Trace) → events ≡ past ++ event ∷ rest
          → IsAdmitted past → IsAdmittedEvent event
          → IsOthers env mix M (traced_of mix env past).world.core event own → here ≡ view_of (traced_of mix env past).world own
          → IsKeepingAt (length past) here trace → IsKeepingAt (length past + 1) here trace
      beside-keeping past event rest here trace all admitted may others seen kept =
          let same = world-traced_of M mix env past in
          let core : World M → Core M = λ w. w.core in
          record {
            past = kept.past;
            now =
                beside-now past event rest all admitted may
                (subst (λ (w : World M). IsOthers env mix M w.core event own) same others) (job_of here.local.doing)
                (ap (λ (w : World M). job_of (local_of w.core own).doing) (sym same) ∙ ap (λ (v : View M). job_of v.local.doing) (sym seen))
                here.book trace.steps kept.now;
            lists = kept.lists;
          }

      keeps : IsAdmitted events → IsKeptBeside M mix env IsKeepingSoFar
      keeps admitted = record {
        opens = λ c mine rest all. (
          record {
            past = tt;
            now = record { call = refl; steps = refl };
            lists = record { owners = refl; pairs = refl };
          },
          λ few. unturned-none env.geometry (words_before M mix env events) c 0,
          tt,
        );
        stays = λ past event c here trace before may others seen keeping mine rest all.
            let next = next_event M mix env (NowAt 0) Ended events own past event rest all in
            let kept = keeping mine (event ∷ rest) next in
            let longer : length past + 1 ≡ length (past ++ event ∷ []) = omega (arith, length_push past event) in (
              subst (λ n. IsKeepingAt n here trace) longer
                  (beside-keeping past event rest here trace next before may
                  (subst (IsOthers env mix M (traced_of mix env past).world.core event) mine others)
                  (subst (λ k. here ≡ view_of (traced_of mix env past).world k) mine seen) kept.0),
              λ few. subst (calm_at c trace.steps) longer
                  (unturned-stays env.geometry (words_before M mix env events) c trace.steps (length past)
                  (section_now M mix env (NowAt 0) Ended events own past event rest c few next
                  (section_stays M mix env past before event may c others))
                  (kept.1 few)),
              gives-beside M mix env (NowAt 0) Ended events own past event c here trace.steps before others seen kept.2,
            );
        begins = λ past c call start machine index here trace now same idle is keeping mine rest all.
            let kept = (keeping mine (Begin c call start ∷ rest) (next_event M mix env (NowAt 0) Ended events own past (Begin c call start) rest all)).0 in
            let n = length (past ++ Begin c call start ∷ []) in (
              begins-keeping M mix env (NowAt n) Ended events own (keep.begins n) c call start machine index here trace is kept.past kept.lists,
              λ few. unturned-none env.geometry (words_before M mix env events) c n,
              let first = first_job-machine env c here.local.batch start call machine is in
                  let more = past ++ Begin c call start ∷ [] in
                  subst (λ j. gives_at more j []) (sym first.does)
                  (keeps_first env mix M (words_before M mix env events) more [] call first.job first.first),
            );
        steps = λ past c did here trace made keeping mine rest all.
            let next = next_event M mix env (NowAt 0) Ended events own past (Steps c) rest all in
            let kept = keeping mine (Steps c ∷ rest) next in
            let ends = local_after mix here.local did.old in
            let here_is : did.index ≡ length past = made.index in
            let before = subst (λ n. IsAtJobOf (NowAt n) (job_of here.local.doing) here.book trace.steps) (sym here_is) kept.0.now in
            let longer : did.index + 1 ≡ length (past ++ Steps c ∷ []) = omega (arith, here_is, length_push past (Steps c)) in (
              subst (λ n. IsKeepingAt n (view_stepped mix did.old here) (trace_did here.book.call did (ending_of ends.0 ends.1) trace)) longer
                  (steps-keeping M mix env (NowAt (did.index + 1)) Ended events own (NowAt did.index) past rest c did here trace
                  (λ job performs. keep.goes job trace.steps did performs) admitted next made mine kept.0.past before kept.0.lists
                  (kept.1 made.known.step.few) kept.2),
              λ few. unturned-did M mix env (NowAt 0) Ended events own here.book.call did (ending_of ends.0 ends.1) trace c
                  (length (past ++ Steps c ∷ []))
                  (subst (calm_at c (trace.steps ++ did ∷ [])) longer
                  (unturned-push env.geometry (words_before M mix env events) c trace.steps did
                  (section_did M mix env (NowAt 0) Ended events own past rest c did here.local next made)
                  (subst (calm_at c trace.steps) (sym here_is) (kept.1 few)))),
              gives-made M mix env (NowAt 0) Ended events own past rest c did here trace admitted next made kept.0.lists kept.2,
            );
      }

      -- so what its jobs keep holds of its calls
      pub jobs_keep_beside : IsAdmitted events
          → let r : Traced M = traced_of mix env events in IsKeepingAt (length events) (view_of r.world own) (r.traces own)
      jobs_keep_beside admitted =
          (traced_callers_keep_beside M mix env IsKeepingSoFar (keeps admitted) events own admitted refl [] (sym (append-nil events))).0

-- ---- what is kept however many events come

module _ (M : Type 0) (mix : ℕ → ℕ → ℕ → ℕ) (env : Env) (Now : Job → List Did → Type 0)
    (Ended : Call → Ending → List Did → Type 0)
  where
    abbrev Keeping : View M → Trace → Type 0
    Keeping = IsKeeping M mix env Now Ended

    pub jobs_keep_own : (events : List Event) (own : ℕ) → JobsKeepOwn M mix env Now Ended events own → IsAdmitted events
        → let r : Traced M = traced_of mix env events in Keeping (view_of r.world own) (r.traces own)
    jobs_keep_own events own keep =
        jobs_keep_beside M mix env (λ n. Now) Ended events own record {
          begins = λ n. keep.begins;
          stays = λ past event rest job steps all beside now. now;
          goes = keep.goes;
        }

    -- where it doesn't matter whose they are, it holds of the calls of every caller
    pub jobs_keep_standing : (events : List Event) → JobsKeepStanding M mix env Now Ended events → (c : ℕ) → IsAdmitted events
        → let r : Traced M = traced_of mix env events in Keeping (view_of r.world c) (r.traces c)
    jobs_keep_standing events keep c =
        jobs_keep_own events c record {
          begins = keep.begins;
          goes = λ job steps did performs own stands now. keep.goes job steps did performs stands now;
        }

    -- where the words alone are asked for
    pub jobs_keep_in : (events : List Event) → JobsKeepIn M mix env Now Ended events → (c : ℕ) → IsAdmitted events
        → let r : Traced M = traced_of mix env events in Keeping (view_of r.world c) (r.traces c)
    jobs_keep_in events keep c =
        jobs_keep_standing events record {
          begins = keep.begins;
          goes = λ job steps did performs stands now. keep.goes job steps did performs stands.now now;
        } c

    -- in every run, where it doesn't depend on the run
    pub jobs_keep : JobsKeep M mix env Now Ended → (events : List Event) (c : ℕ) → IsAdmitted events
        → let r : Traced M = traced_of mix env events in Keeping (view_of r.world c) (r.traces c)
    jobs_keep keep events c =
        jobs_keep_in events record {
          begins = keep.begins;
          goes = λ job steps did performs here now. keep.goes job steps did performs now;
        } c
