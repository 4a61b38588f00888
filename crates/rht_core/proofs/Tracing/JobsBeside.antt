-- What is kept of calls where something else is: what jobs keep beside it may use that of the operations so far.
use Rattle.std.proofs.Common.{◌≡◌, ℕ, List, [], ◌∷◌, ◌++◌}
use Rattle.std.specs.List.{AllByRecursion}
use Rattle.rht_words.specs.declared.env.Env.{Env}
use Rattle.rht_words.specs.declared.machine.Next.{Next}
use Rattle.rht_words.specs.declared.machine.Next.TheVariants.{Go, Done}
use Rattle.rht_model.specs.declared.history.Call.{Call}
use Rattle.rht_model.specs.Endings.{Ending}
use Rattle.rht_core.specs.declared.event.Event.{Event}
use Rattle.rht_core.specs.Jobs.{Job, job_after, IsFirstJob}
use Rattle.rht_core.specs.Runs.{IsAdmitted}
use Rattle.rht_core.specs.Traces.{Did, Past, traced_of}
use Rattle.rht_core.specs.Seen.{words_before}
use Rattle.rht_core.proofs.Tracing.TracedJobs.{Performs, StandsIn, LeadsOn, JobsKeepOwn, IsEndedSo, jobs_keep_own}

module _ (M : Type 0) (mix : ℕ → ℕ → ℕ → ℕ) (env : Env) (events : List Event)
    (First Now : Job → List Did → Type 0) (FirstEnded Ended : Call → Ending → List Did → Type 0)
  where
    -- what has to be shown of the jobs of this caller
    pub record KeepsBeside (c : ℕ) : Type 0 where
      pub begins : (call : Call) (job : Job) → IsFirstJob env call job → Now job []
      pub goes : (job : Job) (steps : List Did) (did : Did) (performs : Performs mix env job did) → performs.caller ≡ c
          → StandsIn mix env (words_before M mix env events) job steps did performs → First job steps → Now job steps
          → LeadsOn M mix env Now Ended job (steps ++ did ∷ []) (job_after mix env job did.old)

    abbrev Both : Job → List Did → Type 0
    Both job steps = First job steps × Now job steps

    abbrev BothEnded : Call → Ending → List Did → Type 0
    BothEnded call ending steps = FirstEnded call ending steps × Ended call ending steps

    both_lead : (job : Job) (all : List Did) (next : Job × Next Ending)
        → LeadsOn M mix env First FirstEnded job all next → LeadsOn M mix env Now Ended job all next
        → LeadsOn M mix env Both BothEnded job all next
    both_lead job all (after, Go) first now = (first, now)
    both_lead job all (after, Done ending) first ended = (first, ended)

    ended_beside : (calls : List Past) → AllByRecursion (IsEndedSo M mix env Both BothEnded) calls
        → AllByRecursion (IsEndedSo M mix env Now Ended) calls
    ended_beside [] each = tt
    ended_beside (past ∷ calls) each = (each.0.1, ended_beside calls each.1)

    -- so it holds of each of its calls that has ended
    pub kept_beside : (c : ℕ) → JobsKeepOwn M mix env First FirstEnded events c → KeepsBeside c
        → IsAdmitted events
        → AllByRecursion (IsEndedSo M mix env Now Ended) ((traced_of {M = M} mix env events).traces c).past
    kept_beside c first keeps admitted =
        ended_beside ((traced_of {M = M} mix env events).traces c).past
        (jobs_keep_own M mix env Both BothEnded events c record {
          begins = λ call job is. (first.begins call job is, keeps.begins call job is);
          goes = λ job steps did performs own stands both.
              both_lead job (steps ++ did ∷ []) (job_after mix env job did.old)
              (first.goes job steps did performs own stands both.0)
              (keeps.goes job steps did performs own stands both.0 both.1);
        } admitted).past
