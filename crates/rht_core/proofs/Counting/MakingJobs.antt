-- Of a job what it makes is of interest, as of a bind and of a resizing; of any other job there is nothing to say, before an operation or
-- behind it.
use Rattle.std.proofs.Common.{◌≡◌, ℕ, false, ap, ◌∙◌}
use Rattle.std.specs.Prelude.{Option, IfSome}
use Rattle.rht_words.specs.declared.env.Env.{Env}
use Rattle.rht_words.specs.declared.machine.Next.{Next}
use Rattle.rht_words.specs.declared.machine.Next.TheVariants.{Go, Done}
use Rattle.rht_model.specs.declared.history.Call.{Call}
use Rattle.rht_model.specs.declared.history.Call.TheVariants.{Tidy}
use Rattle.rht_model.specs.Endings.{Ending}
use Rattle.rht_nest.specs.Make.{MakeModel}
use Rattle.rht_grace.specs.Batch.{BatchModel}
use Rattle.rht_core.specs.Jobs.{Job, finds, binds, lists, releases, rebinds, works, tidies, walks, counts, call_of, first_job, job_next, job_after, told, IsFirstJob}
use Rattle.rht_core.proofs.Machines.NeverHeld.{may_make}
use Rattle.rht_core.proofs.Events.JobsOfCallers.{first_tidy-so, same_call, first-of}
use Rattle.rht_core.proofs.Counting.MakingWorks.{WorkMakes}
use Rattle.rht_core.proofs.Counting.MakingBinds.{BindMakes}

module _ (Full : ℕ → Type 0) (Makes : MakeModel → Type 0) (Has : ℕ → ℕ → Type 0) where
  -- this is true of the shape by which the job chooses a size, of what it makes, and of the slot and the shape of what it attaches
  abbrev pub JobMakes : Job → Type 0
  JobMakes (finds port state) = Unit {0}
  JobMakes (binds port owner once state) = BindMakes Full Makes Has state
  JobMakes (lists port room state) = Unit {0}
  JobMakes (releases port owner state) = Unit {0}
  JobMakes (rebinds port owner new state) = Unit {0}
  JobMakes (works state) = WorkMakes Full Makes Has state
  JobMakes (tidies batch state) = Unit {0}
  JobMakes (walks from limit room state) = Unit {0}
  JobMakes counts = Unit {0}

  abbrev pub MakesLeft : Option Job → Type 0
  MakesLeft job = IfSome job JobMakes

  -- ---- what is left of a job after an operation

  pub told-makes : {S A : Type 0} (job : S → Job) (ending : A → Ending) (next : S × Next A) → JobMakes (job next.0)
      → MakesLeft (told (job_next job ending next)).0
  told-makes job ending (state, Go) makes = makes
  told-makes job ending (state, Done end) makes = tt

  other-makes : (job : Job) → may_make (call_of job) ≡ false → JobMakes job
  other-makes (binds port owner once state) none = absurd (cc)
  other-makes (works state) none = absurd (cc)
  other-makes _ none = tt

  other-left : (call : Call) (next : Job × Next Ending) → call_of next.0 ≡ call → may_make call ≡ false → MakesLeft (told next).0
  other-left call (job, Go) same none = other-makes job (ap may_make same ∙ none)
  other-left call (job, Done ending) same none = tt

  pub others-make : (mix : ℕ → ℕ → ℕ → ℕ) (env : Env) (job : Job) (old : ℕ) → may_make (call_of job) ≡ false
      → MakesLeft (told (job_after mix env job old)).0
  others-make mix env job old = other-left (call_of job) (job_after mix env job old) (same_call mix env job old)

  -- ---- the first job of a call

  first-makes : (env : Env) (call : Call) (batch : Option BatchModel) (start : ℕ) → IfSome (first_job env batch call start) JobMakes
  first-makes env Tidy batch start = first_tidy-so JobMakes batch (λ own. tt)
  first-makes env _ batch start = tt

  pub begins-making : (env : Env) (call : Call) (job : Job) → IsFirstJob env call job → JobMakes job
  begins-making env call job is = first-of JobMakes env call job (first-makes env call) is
