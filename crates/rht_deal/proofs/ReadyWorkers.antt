-- Lists of workers: those that are ready, each with its pass of the queue, and those that have worked.
use Rattle.std.proofs.Common.{◌≡◌, ℕ, zero, suc, ◌+◌, ◌<◌, List, [], ◌∷◌, ◌++◌, length, get_or, subst, arith}
use Rattle.std.specs.Prelude.{Option, Result, Ok, Err, IfOk}
use Rattle.std.specs.List.{AllByRecursion}
use Rattle.std.proofs.lemmas.Result.{IfOk-weaker}
use Rattle.crossbeam_queue.specs.declared.array_queue.Doing.{Doing}
use Rattle.crossbeam_queue.specs.declared.array_queue.Slotted.{Slotted}
use Rattle.crossbeam_queue.specs.Passes.{Pass, IsPassOf}
use Rattle.rht_run.specs.declared.table.Table.{Table}
use Rattle.rht_script.specs.declared.script.Script.{Script}
use Rattle.rht_deal.specs.declared.numbers.Hand.{Hand}
use Rattle.rht_deal.specs.declared.worker.Worker.{Worker}
use Rattle.rht_deal.specs.Workers.{IsReady, HasWorked, AreReady, HaveWorked}

-- a worker with its pass of the queue
abbrev pub JobOf : Type 0 → Type 0
JobOf M = Worker M × Pass ℕ Hand

-- what is so of all is so of the one at a place
pub EachElement-at : {X : Type 0} (P : X → Type 0) (xs : List X) (i : ℕ) (default : X) → AllByRecursion P xs → i < length xs
    → P (get_or xs i default)
EachElement-at P [] i default all below = absurd (omega (arith, below))
EachElement-at P (x ∷ xs) zero default all below = all.0
EachElement-at P (x ∷ xs) (suc i) default all below = EachElement-at P xs i default all.1 (omega (arith, below))

module _ {M Q A : Type 0} (mix : ℕ → ℕ → ℕ → ℕ) (t : Table M) (queue : Slotted (Option ℕ) (Doing ℕ Hand) Q A) (script : Script) where
  -- one more stands behind the others
  pub AreReady-push : (number : ℕ) (jobs : List (JobOf M)) (job : JobOf M) → AreReady mix t queue script number jobs
      → IsReady mix t queue script (number + length jobs) job.0 job.1 → AreReady mix t queue script number (jobs ++ job ∷ [])
  AreReady-push number [] job ready one =
      let same : number + 0 ≡ number = omega arith in
      (subst (λ (n : ℕ). IsReady mix t queue script n job.0 job.1) same one, tt)
  AreReady-push number (first ∷ jobs) job ready one =
      let same : number + suc (length jobs) ≡ number + 1 + length jobs = omega arith in (
        ready.0,
        AreReady-push (number + 1) jobs job ready.1 (subst (λ (n : ℕ). IsReady mix t queue script n job.0 job.1) same one),
      )

  -- each has the number of its place
  pub AreReady-at : (number : ℕ) (jobs : List (JobOf M)) (i : ℕ) (default : JobOf M) → AreReady mix t queue script number jobs → i < length jobs
      → IsReady mix t queue script (number + i) (get_or jobs i default).0 (get_or jobs i default).1
  AreReady-at number [] i default ready below = absurd (omega (arith, below))
  AreReady-at number (job ∷ jobs) zero default ready below =
      let same : number ≡ number + 0 = omega arith in
      subst (λ (n : ℕ). IsReady mix t queue script n job.0 job.1) same ready.0
  AreReady-at number (job ∷ jobs) (suc i) default ready below =
      let same : number + 1 + i ≡ number + suc i = omega arith in
      subst (λ (n : ℕ). IsReady mix t queue script n (get_or jobs i default).0 (get_or jobs i default).1) same
      (AreReady-at (number + 1) jobs i default ready.1 (omega (arith, below)))

  module _ {E : Type 0} where
    -- what is so at each place is so of all that have worked
    pub HaveWorked-each : (number : ℕ) (left : List (Result (JobOf M) E))
        → ((i : ℕ) (default : Result (JobOf M) E) → i < length left
        → IfOk (get_or left i default) (λ job. HasWorked mix t queue script (number + i) job.0 job.1))
        → HaveWorked mix t queue script number left
    HaveWorked-each number [] each = tt
    HaveWorked-each number (worked ∷ left) each =
        let same : number + 0 ≡ number = omega arith in (
          subst (λ (n : ℕ). IfOk worked (λ job. HasWorked mix t queue script n job.0 job.1)) same (each 0 worked (omega arith)),
          HaveWorked-each (number + 1) left (λ i default below.
              let next : number + suc i ≡ number + 1 + i = omega arith in
              subst (λ (n : ℕ). IfOk (get_or left i default) (λ job. HasWorked mix t queue script n job.0 job.1)) next
              (each (suc i) default (omega (arith, below)))),
        )

    -- their passes are the queue's
    pub HaveWorked-of_queue : (number : ℕ) (left : List (Result (JobOf M) E)) → HaveWorked mix t queue script number left
        → AllByRecursion (λ worked. IfOk worked (λ job. IsPassOf queue job.1)) left
    HaveWorked-of_queue number [] worked = tt
    HaveWorked-of_queue number (one ∷ left) worked = (
      IfOk-weaker one (λ job. HasWorked mix t queue script number job.0 job.1) (λ job. IsPassOf queue job.1) (λ job has. has.of_queue)
          worked.0,
      HaveWorked-of_queue (number + 1) left worked.1,
    )

-- two things are so where all is well
pub IfOk-both : {X E : Type 0} (r : Result X E) (P Q : X → Type 0) → IfOk r P → IfOk r Q → IfOk r (λ x. P x × Q x)
IfOk-both (Ok x) P Q p q = (p, q)
IfOk-both (Err e) P Q p q = tt
