-- The dealer's pass of the queue, once it has taken in those of all workers: it has all parts again, and what it has taken weighs what the
-- workers have done. So where it finds the queue empty at last, each number was done once.
use Rattle.std.proofs.Common.{◌≡◌, ℕ, ◌+◌, List, [], ◌∷◌, ◌++◌, length, map, refl, sym, ◌∙◌, ap, arith}
use Rattle.std.specs.Prelude.{fold, Option, Result, Ok}
use Rattle.std.proofs.lemmas.List.{map_push}
use Rattle.std.proofs.lemmas.List.Sums.{sum_by-cons, sum_by-append, fold-append}
use Rattle.crossbeam_queue.specs.declared.array_queue.Doing.{Doing}
use Rattle.crossbeam_queue.specs.declared.array_queue.Slotted.{Slotted}
use Rattle.crossbeam_queue.specs.Passes.{view}
use Rattle.rht_run.specs.declared.table.Table.{Table}
use Rattle.rht_script.specs.declared.script.Script.{Script}
use Rattle.rht_deal.specs.declared.numbers.Hand.{Hand}
use Rattle.rht_deal.specs.declared.worker.Worker.{Worker}
use Rattle.rht_deal.specs.DoneCommands.{numbers_of}
use Rattle.rht_deal.specs.Numbers.{all_parts, numbers_to, weight, joined, HasAll}
use Rattle.rht_deal.proofs.ReadyWorkers.{JobOf}
use Rattle.rht_deal.specs.Workers.{AreWorking, HaveWorked, HaveDoneAll, HasTaken, HasGathered, AreAmong, weight_of_all}

module _ {M : Type 0} where
  -- a hand that has taken in those of these jobs
  abbrev after_joins : Hand → List (JobOf M) → Hand
  after_joins old jobs = fold (λ v (job : JobOf M). joined v (view job.1)) old jobs

  abbrev pub workers_of : List (JobOf M) → List (Worker M)
  workers_of jobs = map (λ (job : JobOf M). job.0) jobs

  -- ---- the workers, one after another

  module _ {E : Type 0} where
    pub HasGathered-none : (old : Hand) → HasGathered {M = M} {E = E} [] [] old old
    HasGathered-none old = record { jobs = []; all = refl; workers_are = refl; hand_is = refl }

    pub HasGathered-push : (left : List (Result (JobOf M) E)) (workers : List (Worker M)) (old new : Hand) (worked : Result (JobOf M) E) (job : JobOf M)
        (after : Hand) → HasGathered left workers old new → worked ≡ Ok job → after ≡ joined new (view job.1)
        → HasGathered (left ++ worked ∷ []) (workers ++ job.0 ∷ []) old after
    HasGathered-push left workers old new worked job after so is joins = record {
      jobs = so.jobs ++ job ∷ [];
      all = ap (λ l. l ++ worked ∷ []) so.all ∙ ap (λ w. map Ok so.jobs ++ w ∷ []) is ∙ sym (map_push Ok so.jobs job);
      workers_are = ap (λ l. l ++ job.0 ∷ []) so.workers_are ∙ sym (map_push (λ (j : JobOf M). j.0) so.jobs job);
      hand_is =
          joins ∙ ap (λ v. joined v (view job.1)) so.hand_is
          ∙ sym (fold-append (λ v (j : JobOf M). joined v (view j.1)) old so.jobs (job ∷ []));
    }

  -- it has their parts and what they have taken
  pub record HasJoined (old new : Hand) (workers : List (Worker M)) : Type 0 where
    pub parts : new.parts ≡ old.parts + length workers
    pub pushed : new.pushed ≡ old.pushed
    pub taken : (h : ℕ → ℕ) → weight h new.taken ≡ weight h old.taken + weight_of_all h workers

  module _ {Q A : Type 0} (E : Type 0) (mix : ℕ → ℕ → ℕ → ℕ) (t : Table M) (queue : Slotted (Option ℕ) (Doing ℕ Hand) Q A) (script : Script) where
    -- By induction over the workers.
    pub HasJoined-worked : (number : ℕ) (jobs : List (JobOf M)) (old : Hand)
        → HaveWorked {E = E} mix t queue script number (map Ok jobs) → HasJoined old (after_joins old jobs) (workers_of jobs)
    HasJoined-worked number [] old worked = record { parts = omega arith; pushed = refl; taken = λ h. omega arith }
    HasJoined-worked number (job ∷ jobs) old worked =
        let one = worked.0 in
        let next = joined old (view job.1) in
        let rest = HasJoined-worked (number + 1) jobs next worked.1 in
        let its_parts : (view job.1).parts ≡ 1 = ap (λ (v : Hand). v.parts) one.hand_is in
        record {
          parts = (let parts = rest.parts in omega (arith, parts, its_parts));
          pushed = rest.pushed;
          taken = λ h.
              let behind = rest.taken h in
              let its_taken : weight h (view job.1).taken ≡ weight h (numbers_of job.0.done.items) =
              ap (λ (v : Hand). weight h v.taken) one.hand_is in
              omega (
                arith,
                behind,
                its_taken,
                sum_by-append h old.taken (view job.1).taken,
                sum_by-cons (λ (w : Worker M). weight h (numbers_of w.done.items)) job.0 (workers_of jobs),
              );
        }

    -- and the workers are in order of their numbers
    pub AreWorking-worked : (number : ℕ) (jobs : List (JobOf M)) → HaveWorked {E = E} mix t queue script number (map Ok jobs)
        → AreWorking mix t script number (workers_of jobs)
    AreWorking-worked number [] worked = tt
    AreWorking-worked number (job ∷ jobs) worked =
        (worked.0.working, worked.0.number_is, AreWorking-worked (number + 1) jobs worked.1)

  -- ---- the rest, which the first worker does

  -- it has done these numbers more, and the others have done what they had
  pub HaveDoneAll-rest : (count : ℕ) (first after : Worker M) (others : List (Worker M)) (old new dealer : Hand)
      → HasJoined old new (first ∷ others) → old.taken ≡ [] → HasTaken first after new dealer → HasAll dealer
      → dealer.parts ≡ all_parts → dealer.pushed ≡ count → HaveDoneAll count (after ∷ others)
  HaveDoneAll-rest count first after others old new dealer joins none takes all parts pushed h =
      let f : Worker M → ℕ = λ w. weight h (numbers_of w.done.items) in
      let whole : weight h (numbers_to count) ≡ weight h dealer.taken =
      ap (λ n. weight h (numbers_to n)) (sym pushed) ∙ all parts h in
      let before = joins.taken h in
      let empty : weight h old.taken ≡ 0 = ap (weight h) none in
      let done : f after ≡ f first + weight h takes.more = ap (weight h) takes.done ∙ sum_by-append h (numbers_of first.done.items) takes.more in
      let taken : weight h dealer.taken ≡ weight h new.taken + weight h takes.more =
      ap (λ (v : Hand). weight h v.taken) takes.taken ∙ sum_by-append h new.taken takes.more in
      omega (arith, whole, before, empty, done, taken, sum_by-cons f first others, sum_by-cons f after others)

  -- what the first has done is among what was taken in
  pub AreAmong-first : (first : Worker M) (others : List (Worker M)) (old new : Hand) → HasJoined old new (first ∷ others)
      → AreAmong (numbers_of first.done.items) new.taken
  AreAmong-first first others old new joins h =
      let f : Worker M → ℕ = λ w. weight h (numbers_of w.done.items) in
      let taken = joins.taken h in
      omega (arith, taken, sum_by-cons f first others)
