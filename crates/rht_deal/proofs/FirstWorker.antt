-- All workers have ended, and the dealer's pass of the queue has taken in theirs. With that pass the first worker does what is left. Then
-- together they have done each command once.
use Rattle.std.proofs.Common.{◌≡◌, ℕ, ◌<◌, List, [], ◌∷◌, length, map, get_or, set, sym, ◌∙◌, ap, subst, arith}
use Rattle.std.specs.Prelude.{Option, Result, Ok}
use Rattle.std.proofs.lemmas.List.{length-map}
use Rattle.crossbeam_queue.specs.declared.array_queue.Doing.{Doing}
use Rattle.crossbeam_queue.specs.declared.array_queue.Slotted.{Slotted}
use Rattle.crossbeam_queue.specs.Passes.{Pass}
use Rattle.rht_run.specs.declared.table.Table.{Table}
use Rattle.rht_script.specs.declared.script.Script.{Script}
use Rattle.rht_deal.specs.declared.numbers.Hand.{Hand}
use Rattle.rht_deal.specs.declared.worker.Worker.{Worker}
use Rattle.rht_deal.specs.DoneCommands.{numbers_of}
use Rattle.rht_deal.specs.Numbers.{all_parts, HasAll}
use Rattle.rht_deal.specs.Workers.{IsWorking, AreWorking, HaveWorked, HaveDoneAll, HasTaken, HasGathered, AreAmong}
use Rattle.rht_deal.proofs.Gathering.{HasJoined, HasJoined-worked, AreWorking-worked, AreAmong-first, HaveDoneAll-rest, workers_of}

module _ {M Q A E : Type 0} (mix : ℕ → ℕ → ℕ → ℕ) (t : Table M) (queue : Slotted (Option ℕ) (Doing ℕ Hand) Q A) (script : Script)
    (left : List (Result (Worker M × Pass ℕ Hand) E)) (workers : List (Worker M)) (old new : Hand)
    (worked : HaveWorked mix t queue script 1 left) (gathered : HasGathered left workers old new) where
  worked_jobs : HaveWorked {E = E} mix t queue script 1 (map Ok gathered.jobs)
  worked_jobs = subst (HaveWorked {E = E} mix t queue script 1) gathered.all worked

  pub gathered-working : AreWorking mix t script 1 workers
  gathered-working =
      subst (AreWorking mix t script 1) (sym gathered.workers_are) (AreWorking-worked E mix t queue script 1 gathered.jobs worked_jobs)

  pub gathered-joined : HasJoined old new workers
  gathered-joined =
      subst (λ ws. HasJoined old new ws) (sym gathered.workers_are)
      (subst (λ (v : Hand). HasJoined old v (workers_of gathered.jobs)) (sym gathered.hand_is)
      (HasJoined-worked E mix t queue script 1 gathered.jobs old worked_jobs))

  pub gathered-many : length workers ≡ length left
  gathered-many =
      ap length gathered.workers_are ∙ length-map gathered.jobs (λ (job : Worker M × Pass ℕ Hand). job.0)
      ∙ sym (ap length gathered.all ∙ length-map gathered.jobs Ok)

module _ {M : Type 0} (mix : ℕ → ℕ → ℕ → ℕ) (t : Table M) (script : Script) where
  -- what the first has done is among what was taken in
  pub first-among : (workers : List (Worker M)) (default : Worker M) (old new : Hand) → 0 < length workers → HasJoined old new workers
      → AreAmong (numbers_of (get_or workers 0 default).done.items) new.taken
  first-among [] default old new some joins = absurd (omega (arith, some))
  first-among (first ∷ others) default old new some joins = AreAmong-first first others old new joins

  -- once it has worked again the workers are in order as before
  pub first-working : (workers : List (Worker M)) (default after : Worker M) → 0 < length workers → AreWorking mix t script 1 workers
      → IsWorking mix t script after → after.number ≡ (get_or workers 0 default).number → AreWorking mix t script 1 (set workers 0 after)
  first-working [] default after some all working same = absurd (omega (arith, some))
  first-working (first ∷ others) default after some all working same = (working, same ∙ all.1, all.2)

  -- and it has done what was left
  pub first-done : (count : ℕ) (workers : List (Worker M)) (default after : Worker M) (old new dealer : Hand) → 0 < length workers
      → HasJoined old new workers → old.taken ≡ [] → HasTaken (get_or workers 0 default) after new dealer → HasAll dealer
      → dealer.parts ≡ all_parts → dealer.pushed ≡ count → HaveDoneAll count (set workers 0 after)
  first-done count [] default after old new dealer some joins none takes all parts pushed = absurd (omega (arith, some))
  first-done count (first ∷ others) default after old new dealer some joins none takes all parts pushed =
      HaveDoneAll-rest count first after others old new dealer joins none takes all parts pushed
