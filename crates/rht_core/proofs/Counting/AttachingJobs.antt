-- Which job attaches a table: a bind or a resizing that has the table's slot, and is at the exchange that does so. No other operation of
-- theirs is an exchange of a future, and no other job has a slot.
use Rattle.std.proofs.Common.{◌≡◌, ℕ, ◌<◌, Bool, refl, ap}
use Rattle.std.specs.Prelude.{Some}
use Rattle.rht_words.specs.declared.op.Op.{Op}
use Rattle.rht_words.specs.declared.op.Op.TheVariants.{Exchange}
use Rattle.rht_words.specs.declared.env.Env.{Env}
use Rattle.rht_words.specs.Links.{future_of}
use Rattle.rht_words.specs.Places.{Slot, FutureWord, place_of}
use Rattle.rht_bind.specs.declared.bind.growth.Growing.{Growing}
use Rattle.rht_bind.specs.declared.bind.BindAt.{BindAt}
use Rattle.rht_bind.specs.declared.bind.BindAt.TheVariants as bind_at
use Rattle.rht_move.specs.declared.work.WorkAt.{WorkAt}
use Rattle.rht_move.specs.declared.work.WorkAt.TheVariants as work_at
use Rattle.rht_core.specs.Jobs.{Job, binds, works, job_plan, held_of}
use Rattle.rht_core.proofs.Machines.ReturnPlans.{returns-kind, no_exchange}
use Rattle.rht_core.proofs.Machines.NeverHeld.{tableless, slotless}
use Rattle.rht_core.proofs.Reasons.AttachedTables.{make-none, unmake-none, relink-none}

-- the bind, or the resizing, is about to attach the table of this slot
pub record IsBindAttaching (state : BindAt) (slot : ℕ) : Type 0 where
  pub growing : Growing
  pub shape : ℕ
  pub is : state ≡ bind_at.Attaching growing slot shape

pub record IsWorkAttaching (state : WorkAt) (slot : ℕ) : Type 0 where
  pub root : ℕ
  pub last : ℕ
  pub shape : ℕ
  pub is : state ≡ work_at.Attaching root last slot shape

abbrev pub IsAttachingJob : Job → ℕ → Type 0
IsAttachingJob (binds port owner once state) slot = IsBindAttaching state slot
IsAttachingJob (works state) slot = IsWorkAttaching state slot
IsAttachingJob _ slot = ⊥

module _ (env : Env) (c last slot : ℕ) (low : last < 8) where
  -- the operation would attach the slot's table behind that of another
  abbrev pub attaching : Op
  attaching = Exchange (place_of env.geometry (Slot last FutureWord)) 0 (future_of slot)

  bind-attaches : (port owner : ℕ) (once : Bool) (state : BindAt) → (held_of (binds port owner once state)).slot ≡ Some slot
      → job_plan env c (binds port owner once state) ≡ attaching → IsBindAttaching state slot
  bind-attaches port owner once (bind_at.Attaching growing slot' shape) has plans =
      let same : slot' ≡ slot = cc in
      record { growing = growing; shape = shape; is = ap (λ s. bind_at.Attaching growing s shape) same }
  bind-attaches port owner once (bind_at.Making growing size make) has plans =
      absurd (make-none env.geometry make.geometry make.exponent make.seed make.at last 0 (future_of slot) low plans)
  bind-attaches port owner once (bind_at.Unmaking attempt unmake answer) has plans =
      absurd (unmake-none env.geometry unmake.geometry unmake.slot unmake.at last 0 (future_of slot) low plans)
  bind-attaches port owner once (bind_at.Replacing list relink) has plans =
      absurd (relink-none env.geometry relink relink.at last 0 (future_of slot) low plans)
  bind-attaches port owner once _ has plans = absurd (cc)

  pub work-attaches : (state : WorkAt) → (held_of (works state)).slot ≡ Some slot → job_plan env c (works state) ≡ attaching
      → IsWorkAttaching state slot
  work-attaches (work_at.Attaching root last' slot' shape) has plans =
      let same : slot' ≡ slot = cc in
      record { root = root; last = last'; shape = shape; is = ap (λ s. work_at.Attaching root last' s shape) same }
  work-attaches (work_at.Making wanted make) has plans =
      absurd (make-none env.geometry make.geometry make.exponent make.seed make.at last 0 (future_of slot) low plans)
  work-attaches (work_at.Unmaking root unmake) has plans =
      absurd (unmake-none env.geometry unmake.geometry unmake.slot unmake.at last 0 (future_of slot) low plans)
  work-attaches (work_at.Returning returns) has plans = absurd (no_exchange (returns-kind returns.geometry returns.at) plans)
  work-attaches _ has plans = absurd (cc)

  pub job-attaches : (job : Job) → (held_of job).slot ≡ Some slot → job_plan env c job ≡ attaching → IsAttachingJob job slot
  job-attaches (binds port owner once state) has plans = bind-attaches port owner once state has plans
  job-attaches (works state) has plans = work-attaches state has plans
  job-attaches job has plans = absurd (slotless (tableless job refl) slot has)
