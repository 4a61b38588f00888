-- A page that a job may miss stays once it is there, whatever others do: this is what lets a call that misses it answer as of an
-- earlier event. What nobody but the call's own operations would take away outlives what all others do, as does what the caller knows.
use Rattle.std.proofs.Common.{◌≡◌, ◌≢◌, ℕ, Option, Some, None, subst}
use Rattle.rht_words.specs.declared.op.Op.{Op}
use Rattle.rht_words.specs.declared.env.Env.{Env}
use Rattle.rht_words.specs.Operations.{applied}
use Rattle.rht_words.proofs.Memory.{Memory}
use Rattle.rht_core.specs.Jobs.{Job, job_of}
use Rattle.rht_core.specs.Runs.{Core, local_of, enrolling}
use Rattle.rht_ghost.proofs.Theory.Ghosts.{Ghost}
use Rattle.rht_ghost.proofs.Theory.Wholes.{Whole, at-there}
use Rattle.rht_ghost.proofs.Theory.Passed.{home-from, less-grown}
use Rattle.rht_model.specs.Answers.{Answer}
use Rattle.rht_ghost.proofs.Theory.Knowns.{KnownTable, OnWay}
use Rattle.rht_ghost.proofs.Theory.Knowledge.{TableMeans}
use Rattle.rht_ghost.proofs.Theory.WaysStay.{IsWayTo-from}
use Rattle.rht_ghost.proofs.Theory.WaysRead.{placed-stays}
use Rattle.rht_ghost.proofs.Theory.Reliance.{Rely, since-low}
use Rattle.rht_ghost.proofs.Theory.Steps.{mem}
use Rattle.rht_ghost.proofs.Pieces.Locates.{IsThereFor}
use Rattle.rht_core.proofs.Machines.JobSteps.{known_of, early_of, IsThere, JobKnows}
use Rattle.rht_core.proofs.Events.RangesInRuns.{AllIn}
use Rattle.rht_core.proofs.Events.Invariants.{Inv, Knows, StepOf, enrolled}

module _ (env : Env) (mix : ℕ → ℕ → ℕ → ℕ) where
  module _ (c : ℕ) (M M' : Memory) (G G' : Ghost) (whole : Whole env mix M G) (whole' : Whole env mix M' G')
      (rely : Rely env mix c M G M' G') where
    -- the page outlives a step of anybody else: entries that lead to a page lead there still
    there-stays : (early : Option Answer) (known : KnownTable) → TableMeans env mix c G known
        → IsThereFor early known M → IsThereFor early known M'
    there-stays None known means there = there
    there-stays (Some answer) (OnWay port slot shape place further) means there =
        let passing = means.shaped.passing in
        let at = passing.at in
        let stay = rely.tables in
        let grow = stay.grow in
        let from = since-low env mix stay c at.table passing.since in
        let there_is = at-there at in
        placed-stays env mix M M' G G' whole whole' port at.table place there_is
        (grow.there at.table from (less-grown env mix at.attached grow.attached) (λ l. there_is)) means.to
        (IsWayTo-from env mix stay.low G G' grow port at.table place at.attached from means.to)
        (λ j here. home-from env mix stay.low G G' grow port at.table j at.attached from here) there
    there-stays (Some answer) _ means there = there

    pub IsThere-rely : (job : Job) → JobKnows env mix c job M G → IsThere job M → IsThere job M'
    IsThere-rely job knows there =
        there-stays (early_of job) (known_of job).table knows.knowing.means.table there

  module _ (L : Type 0) (core : Core L) (G : Ghost) (inv : Inv env mix L core G) (c : ℕ) (job : Job)
      (is : job_of (local_of core c).doing ≡ Some job) where
    -- what the caller knows by its job
    known : JobKnows env mix c job (mem env mix core.words) G
    known = subst (λ j. Knows env mix c j (mem env mix core.words) G) is (inv.each c)

    -- it stays while another caller makes an operation
    pub stepped-there : (d : ℕ) (op : Op) (of : StepOf env mix L core G d op) → c ≢ d
        → IsThere job (mem env mix core.words) → IsThere job (mem env mix (applied core.words op))
    stepped-there d op of other =
        IsThere-rely c (mem env mix core.words) (mem env mix (applied core.words op)) G _ inv.whole of.step.made.whole
        (of.step.made.others c other) job known

    -- and while a caller enrolls
    pub enrolled-there : AllIn L mix env core → IsThere job (mem env mix core.words)
        → IsThere job (mem env mix (applied core.words (enrolling core.env)))
    enrolled-there sound =
        let kept = enrolled env mix L core G sound inv in
        IsThere-rely c (mem env mix core.words) (mem env mix (applied core.words (enrolling core.env))) G G inv.whole kept.0
        (kept.1 c) job known
