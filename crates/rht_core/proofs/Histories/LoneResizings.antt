-- A resizing that was alone and answers that it moved has made another table the current one: it hasn't stopped before a nested one.
--
-- Whatever others do, what its operations show is kept while it is made; and beside it what it knows in each state where the words of
-- tables have always stayed, from one of its operations to the next, as that one left them. In a call that is alone they have.
use Rattle.std.proofs.Common.{◌≡◌, ℕ, Bool, true, false, List, [], ◌∷◌, ◌++◌, append_assoc, refl, sym, ap, ◌∙◌, subst, Option, None}
use Rattle.std.specs.Prelude.{Some}
use Rattle.std.specs.List.{AllByRecursion, Contains}
use Rattle.std.proofs.lemmas.List.Elements.{All-contains, All-from_recursion}
use Rattle.rht_words.specs.declared.env.Env.{Env}
use Rattle.rht_words.specs.declared.machine.Next.{Next}
use Rattle.rht_words.specs.declared.machine.Next.TheVariants.{Go, Done}
use Rattle.rht_words.specs.Machines.{GoesOrEnds}
use Rattle.rht_words.specs.Operations.{applied}
use Rattle.rht_words.specs.Places.{CurrentTable, Slot, ShapeWord, FutureWord}
use Rattle.rht_model.specs.declared.history.Call.{Call}
use Rattle.rht_model.specs.declared.history.Call.TheVariants.{Bind, Find, All, Release, Rebind, Walk, Work, Tidy, Count}
use Rattle.rht_model.specs.declared.history.Reply.{Reply}
use Rattle.rht_model.specs.declared.history.Reply.TheVariants.{Moved}
use Rattle.rht_model.specs.Endings.{Ending, plain_ending, ending_in}
use Rattle.rht_move.specs.Work as work
use Rattle.rht_move.specs.declared.work.WorkAt.{WorkAt}
use Rattle.rht_move.specs.declared.work.WorkAt.TheVariants as works_at
use Rattle.rht_core.specs.declared.event.Event.{Event}
use Rattle.rht_grace.specs.Batch.{BatchModel}
use Rattle.rht_core.specs.Jobs.{call_of, Job, works, first_tidy, job_next, job_after, IsFirstJob}
use Rattle.rht_core.specs.Runs.{IsAdmitted}
use Rattle.rht_core.specs.Seen.{words_before}
use Rattle.rht_core.specs.Traces.{Did, Past, traced_of, behind_call}
use Rattle.rht_core.specs.Worked.{IsAloneDuring, words_behind}
use Rattle.rht_core.proofs.Events.JobsOfCallers.{each_goes, same_call}
use Rattle.rht_core.proofs.Tracing.LoneCalls.{found_first, left_so}
use Rattle.rht_core.proofs.Tracing.TracedJobs.{Performs, StandsIn, LeadsOn, IsEndedSo, jobs_keep_own}
use Rattle.rht_core.proofs.Reasons.LastTables.{AreSame}
use Rattle.rht_core.proofs.Reasons.LoneWorks.{CalmAt, CalmReply, CalmNext, calm-work}
use Rattle.rht_core.proofs.Reasons.WorksSeen.{SawReplaced, SawAtWork, SawNextWork}
use Rattle.rht_core.proofs.Reasons.WorkStepsSeen.{work-saw}

-- ---- which calls are resizings

abbrev pub is_work : Call → Bool
is_work (Bind port owner once) = false
is_work (Find port) = false
is_work (All port) = false
is_work (Release port owner) = false
is_work (Rebind port owner new) = false
is_work (Walk from limit) = false
is_work Work = true
is_work Tidy = false
is_work Count = false

-- one begins with the work lock
no_tidy : (batch : Option BatchModel) (state : WorkAt) → first_tidy batch ≡ Some (works state) → ⊥
no_tidy None state is = cc
no_tidy (Some own) state is = cc

pub first_work : (env : Env) (call : Call) (state : WorkAt) → IsFirstJob env call (works state) → works_at.WorkLock ≡ state
first_work env Work state (batch, start, is) = cc
first_work env Tidy state (batch, start, is) = absurd (no_tidy batch state is)
first_work env _ state (batch, start, is) = absurd (cc)

module _ (M : Type 0) (mix : ℕ → ℕ → ℕ → ℕ) (env : Env) (events : List Event) (c : ℕ) where
  abbrev words_at : ℕ → List ℕ
  words_at = words_before M mix env events

  -- from each of these operations to the next the words of tables stayed as it left them, and from the last one up to now
  abbrev IsStill : List Did → List ℕ → Type 0
  IsStill steps now =
      (before behind : List Did) (did : Did) → steps ≡ before ++ did ∷ behind
      → AreSame env (applied (words_at did.index) did.op) (found_first words_at behind now)

  -- so they did up to the last of them
  still-before : (steps : List Did) (did : Did) (now : List ℕ) → IsStill (steps ++ did ∷ []) now
      → IsStill steps (words_at did.index)
  still-before steps did now still before behind at split =
      subst (AreSame env (applied (words_at at.index) at.op)) (first behind)
      (still before (behind ++ did ∷ []) at
      (ap (λ s. s ++ did ∷ []) split ∙ append_assoc before (at ∷ behind) (did ∷ [])))
    where
      first : (behind : List Did)
          → found_first words_at (behind ++ did ∷ []) now ≡ found_first words_at behind (words_at did.index)
      first [] = refl
      first (one ∷ rest) = refl

  -- ---- what is kept

  abbrev Now : Job → List Did → Type 0
  Now (works state) steps = SawAtWork env c words_at state steps × ((now : List ℕ) → IsStill steps now → CalmAt env c words_at mix state steps now)
  Now _ steps = Unit {0}

  abbrev Ended : Call → Ending → List Did → Type 0
  Ended Work ending steps = (now : List ℕ) → IsStill steps now → CalmReply env c words_at mix ending.answer.reply steps
  Ended _ ending steps = Unit {0}

  begins : (call : Call) (job : Job) → IsFirstJob env call job → Now job []
  begins call (works state) is = subst (λ s. Now (works s) []) (first_work env call state is) (refl, λ now still. tt)
  begins call _ is = tt

  next-leads : {S A : Type 0} (start : Job) (job : S → Job) (ending : A → Ending) (all : List Did) (next : S × Next A)
      → GoesOrEnds (λ state. Now (job state) all) (λ end. Ended (call_of start) (ending end) all) next
      → LeadsOn M mix env Now Ended start all (job_next job ending next)
  next-leads start job ending all (state, Go) kept = kept
  next-leads start job ending all (state, Done end) kept = kept

  -- of the other calls nothing is kept
  other-kept : (job : Job) (all : List Did) → is_work (call_of job) ≡ false → Now job all
  other-kept (works state) all other = absurd (cc)
  other-kept _ all other = tt

  work-kept : (all : List Did) (next : WorkAt × Next Reply) → SawNextWork env c words_at all next
      → ((now : List ℕ) → IsStill all now → CalmNext env c words_at mix all now next)
      → GoesOrEnds (λ state. Now (works state) all) (λ reply. Ended Work (plain_ending reply) all) next
  work-kept all (state, Go) saw calm = (saw, calm)
  work-kept all (state, Done reply) saw calm = calm

  goes : (job : Job) (steps : List Did) (did : Did) (performs : Performs mix env job did) → performs.caller ≡ c
      → StandsIn mix env words_at job steps did performs → Now job steps
      → LeadsOn M mix env Now Ended job (steps ++ did ∷ []) (job_after mix env job did.old)
  goes (works state) steps did performs own stands kept =
      let here = stands.now in
      let next = work.after_at mix env state did.old in
      next-leads (works state) works plain_ending (steps ++ did ∷ []) next
      (work-kept (steps ++ did ∷ []) next (work-saw env c words_at mix state steps did performs own here kept.0)
      (λ now still. calm-work env c words_at mix state steps did performs own now
      (subst (λ words. AreSame env (applied words did.op) now) (sym here) (still steps [] did refl)) kept.0
      (subst (CalmAt env c words_at mix state steps) (sym here) (kept.1 (words_at did.index) (still-before steps did now still)))))
  goes job steps did performs own stands kept =
      let all = steps ++ did ∷ [] in
      each_goes (λ after. Now after all) (λ ending. Ended (call_of job) ending all) (call_of job) (job_after mix env job did.old)
      (same_call mix env job did.old) (λ other same. other-kept other all (ap is_work same)) (λ ending. tt)

  -- ---- a call that is alone

  module _ (past : Past) (admitted : IsAdmitted events)
      (ended : Contains ((traced_of {M = M} mix env events).traces c).past past)
      (alone : IsAloneDuring M mix env events c past) where
    all_still : IsStill past.steps (words_behind M mix env events (behind_call past))
    all_still before rest did split =
        let same = left_so M mix env events c past admitted ended alone before rest did split in
        record {
          current = same CurrentTable tt (λ e. cc);
          shape = λ slot l. same (Slot slot ShapeWord) (l, tt) (λ e. cc);
          future = λ slot l. same (Slot slot FutureWord) (l, tt) (λ e. cc);
        }

    -- where it answers that it moved, it has made another table the current one
    pub moved_alone : past.done.call ≡ Work → (again : Bool) → past.done.reply ≡ Moved again
        → SawReplaced env c again past.steps
    moved_alone is again =
        let calls = ((traced_of {M = M} mix env events).traces c).past in
        let P = IsEndedSo M mix env Now Ended in
        let kept : AllByRecursion P calls =
        (jobs_keep_own M mix env Now Ended events c record { begins = begins; goes = goes } admitted).past in
        let mine : P past = All-contains P calls past (All-from_recursion P calls kept) ended in
        (subst (λ call. Ended call (ending_in past.done) past.steps) is mine)
        (words_behind M mix env events (behind_call past)) all_still again
