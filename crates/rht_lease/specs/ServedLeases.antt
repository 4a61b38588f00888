-- What calls of a book and a worker's commands leave of its pass.
use Rattle.std.specs.Prelude.{◌≡◌, ℕ, ◌+◌, Bool, List, [], ◌∷◌, ◌++◌, length}
use Rattle.rht_model.specs.declared.history.Call.{Call}
use Rattle.rht_model.specs.Endings.{Ending}
use Rattle.rht_run.specs.declared.pass.Pass.{Pass}
use Rattle.rht_run.specs.declared.table.Table.{Table}
use Rattle.rht_workers.specs.WorkerCalls.{HasServedEach, HasServedBy}
use Rattle.rht_lease.specs.declared.lease.LeaseCall.{LeaseCall}
use Rattle.rht_lease.specs.declared.lease.LeaseScript.{LeaseScript}
use Rattle.rht_lease.specs.declared.lease.Swept.{Swept}
use Rattle.rht_lease.specs.declared.worker.Worker.{Worker}
use Rattle.rht_lease.specs.Answers.{Answer, swept_of, IsAnswer, AreAnswered, calls_in_turn, book_left}
use Rattle.rht_lease.specs.Books.{with_leases, book_after, calls_for}
use Rattle.rht_lease.specs.Scripts.{IsSoundLeases}

-- ---- the pass

-- The pass has served the releases of a sweep, and each is counted by its reply.
pub record HasSwept {M : Type 0} (mix : ℕ → ℕ → ℕ → ℕ) (t : Table M) (auto : Bool) (calls : List Call) (swept : Swept)
    (before now : Pass M) : Type 0 where
  pub endings : List Ending
  pub served : HasServedEach mix t auto calls endings before now
  pub counts : swept ≡ swept_of endings
  pub each : swept.released + swept.absent ≡ length calls

-- ---- one worker

-- the script can be run on this table
pub record CanLease {M : Type 0} (t : Table M) (script : LeaseScript) : Type 0 where
  pub config_same : t.env.config ≡ script.config
  pub sound : IsSoundLeases script

-- The worker did one command more: it has one answer more, its book is what it is after that, and its pass has served the calls that the
-- command stands for.
pub record HasDone {M : Type 0} (mix : ℕ → ℕ → ℕ → ℕ) (t : Table M) (auto : Bool) (ask : LeaseCall) (before after : Worker M)
    : Type 0 where
  pub answer : Answer
  pub replies : after.replies ≡ before.replies ++ answer ∷ []
  pub book : after.book ≡ with_leases before.book (book_after before.book.leases ask answer.0)
  pub endings : List Ending
  pub served : HasServedEach mix t auto (calls_for before.book.leases ask) endings before.pass after.pass
  pub answered : IsAnswer before.book.leases ask answer endings

-- The pass has served the calls that these commands of its worker stand for, from an empty book on, and these are their answers.
abbrev pub HasLeased : {M : Type 0} → (ℕ → ℕ → ℕ → ℕ) → Table M → Bool → List LeaseCall → ℕ → Pass M → List Answer → Type 0
HasLeased mix t auto asked number pass answers =
    HasServedBy mix t auto (λ answers endings. calls_in_turn [] asked answers) (AreAnswered [] asked) number pass answers

-- the same of a worker, whose book is what these commands leave
pub record IsWorking {M : Type 0} (mix : ℕ → ℕ → ℕ → ℕ) (t : Table M) (auto : Bool) (asked : List LeaseCall) (number : ℕ)
    (worker : Worker M) : Type 0 where
  pub leased : HasLeased mix t auto asked number worker.pass worker.replies
  pub book : worker.book.leases ≡ book_left [] asked worker.replies
