-- A worker, and what it has done so far.
use Rattle.std.specs.Prelude.{◌≡◌, ℕ, ◌+◌, ◌≤◌, fold, IfOk, Option, Result, Ok, List, [], ◌∷◌, ◌++◌, length, map, sum_by}
use Rattle.std.specs.List.{AllByRecursion}
use Rattle.crossbeam_queue.specs.declared.array_queue.Doing.{Doing}
use Rattle.crossbeam_queue.specs.declared.array_queue.Slotted.{Slotted}
use Rattle.crossbeam_queue.specs.Passes.{Pass, view, IsPassOf}
use Rattle.rht_run.specs.declared.pass.Pass.{Pass as TablePass}
use Rattle.rht_run.specs.declared.table.Table.{Table}
use Rattle.rht_run.specs.Workers.{HasServedCalls}
use Rattle.rht_script.specs.declared.script.Script.{Script}
use Rattle.rht_script.specs.Dealt.{IsDealtScript}
use Rattle.rht_script.specs.declared.done.Done.{Done}
use Rattle.rht_deal.specs.declared.numbers.Hand.{Hand}
use Rattle.rht_deal.specs.declared.worker.Worker.{Worker}
use Rattle.rht_deal.specs.DoneCommands.{ending_of, numbers_of, calls_at}
use Rattle.rht_deal.specs.Numbers.{hand, all_parts, numbers_to, weight, AreRising, joined}

-- the script can be dealt on this table
pub record CanDeal {M : Type 0} (t : Table M) (script : Script) : Type 0 where
  pub config_same : t.env.config ≡ script.config
  pub dealt : IsDealtScript script

-- The worker's pass is one of the table's, and the worker is counted from 1 where the pass is counted from 0. It has done these commands, in
-- rising order of their numbers, and the finished calls of its pass serve them with these answers.
pub record IsWorking {M : Type 0} (mix : ℕ → ℕ → ℕ → ℕ) (t : Table M) (script : Script) (worker : Worker M) : Type 0 where
  pub served : HasServedCalls mix t script.auto worker.pass.number (calls_at script.commands.items (numbers_of worker.done.items)) worker.pass
      (map ending_of worker.done.items)
  pub counted : worker.number ≡ worker.pass.number + 1
  pub own : AllByRecursion (λ (done : Done). done.worker ≡ worker.number) worker.done.items
  pub rising : AreRising (numbers_of worker.done.items)

-- each of these numbers is one of those
abbrev pub AreAmong : List ℕ → List ℕ → Type 0
AreAmong these those = (h : ℕ → ℕ) → weight h these ≤ weight h those

-- The worker has done these numbers more, which its pass of the queue has taken; nothing else of both is changed.
pub record HasTaken {M : Type 0} (before after : Worker M) (old new : Hand) : Type 0 where
  pub more : List ℕ
  pub done : numbers_of after.done.items ≡ numbers_of before.done.items ++ more
  pub taken : new ≡ hand old.parts old.pushed (old.taken ++ more)
  pub same : after.number ≡ before.number

-- a new worker of this number, which has done nothing, and its pass of the queue, which has taken nothing
pub record IsReady {M Q A : Type 0} (mix : ℕ → ℕ → ℕ → ℕ) (t : Table M) (queue : Slotted (Option ℕ) (Doing ℕ Hand) Q A) (script : Script)
    (number : ℕ) (worker : Worker M) (numbers : Pass ℕ Hand)
    : Type 0 where
  pub working : IsWorking mix t script worker
  pub number_is : worker.number ≡ number
  pub none : worker.done.items ≡ []
  pub of_queue : IsPassOf queue numbers
  pub hand_is : view numbers ≡ hand 1 (length script.commands.items) []

-- the worker once it found the queue empty, and its pass of the queue, which has taken what the worker has done
pub record HasWorked {M Q A : Type 0} (mix : ℕ → ℕ → ℕ → ℕ) (t : Table M) (queue : Slotted (Option ℕ) (Doing ℕ Hand) Q A) (script : Script)
    (number : ℕ) (worker : Worker M) (numbers : Pass ℕ Hand)
    : Type 0 where
  pub working : IsWorking mix t script worker
  pub number_is : worker.number ≡ number
  pub of_queue : IsPassOf queue numbers
  pub hand_is : view numbers ≡ hand 1 (length script.commands.items) (numbers_of worker.done.items)

-- the pass that has pushed so many numbers, and has taken none
pub record IsDealer {Q A : Type 0} (queue : Slotted (Option ℕ) (Doing ℕ Hand) Q A) (dealer : Pass ℕ Hand) (count : ℕ) : Type 0 where
  pub of_queue : IsPassOf queue dealer
  pub hand_is : view dealer ≡ hand all_parts count []

-- ---- all workers

-- how many numbers were done by all of them, by what they weigh
abbrev pub weight_of_all : {M : Type 0} → (ℕ → ℕ) → List (Worker M) → ℕ
weight_of_all {M} h workers = sum_by (λ (worker : Worker M). weight h (numbers_of worker.done.items)) workers

-- all workers, in order of their numbers, which are counted on from this one
abbrev pub AreWorking : {M : Type 0} → (ℕ → ℕ → ℕ → ℕ) → Table M → Script → ℕ → List (Worker M) → Type 0
AreWorking mix t script number [] = Unit {0}
AreWorking mix t script number (worker ∷ workers) =
    IsWorking mix t script worker × (worker.number ≡ number) × AreWorking mix t script (number + 1) workers

-- so they are before they work, each with its pass of the queue
abbrev pub AreReady : {M Q A : Type 0} → (ℕ → ℕ → ℕ → ℕ) → Table M → Slotted (Option ℕ) (Doing ℕ Hand) Q A → Script → ℕ
    → List (Worker M × Pass ℕ Hand) → Type 0
AreReady mix t queue script number [] = Unit {0}
AreReady mix t queue script number (job ∷ jobs) =
    IsReady mix t queue script number job.0 job.1 × AreReady mix t queue script (number + 1) jobs

-- and so when they have worked, but those that memory ran out for
abbrev pub HaveWorked : {M Q A E : Type 0} → (ℕ → ℕ → ℕ → ℕ) → Table M → Slotted (Option ℕ) (Doing ℕ Hand) Q A → Script → ℕ
    → List (Result (Worker M × Pass ℕ Hand) E) → Type 0
HaveWorked mix t queue script number [] = Unit {0}
HaveWorked mix t queue script number (worked ∷ left) =
    IfOk worked (λ job. HasWorked mix t queue script number job.0 job.1) × HaveWorked mix t queue script (number + 1) left

-- together they have done each command once
abbrev pub HaveDoneAll : {M : Type 0} → ℕ → List (Worker M) → Type 0
HaveDoneAll {M} count workers = (h : ℕ → ℕ) → weight h (numbers_to count) ≡ weight_of_all {M = M} h workers

-- All have ended well, and these are the workers. Another pass has taken in their passes of the queue, behind what it had taken.
pub record HasGathered {M E : Type 0} (left : List (Result (Worker M × Pass ℕ Hand) E)) (workers : List (Worker M)) (old new : Hand)
    : Type 0 where
  pub jobs : List (Worker M × Pass ℕ Hand)
  pub all : left ≡ map Ok jobs
  pub workers_are : workers ≡ map (λ (job : Worker M × Pass ℕ Hand). job.0) jobs
  pub hand_is : new ≡ fold (λ v (job : Worker M × Pass ℕ Hand). joined v (view job.1)) old jobs

-- the passes of workers, and what each has done
abbrev pub passes_of : {M : Type 0} → List (Worker M) → List (TablePass M)
passes_of {M} workers = map (λ (worker : Worker M). worker.pass) workers

abbrev pub kept_of : {M : Type 0} → List (Worker M) → List (List Done)
kept_of {M} workers = map (λ (worker : Worker M). worker.done.items) workers
