-- What a caller in a call knows by its job, and that each of its operations leads from what it knows to what it knows next.
-- The inductions over runs go through this one step, with no case of a machine.
use Rattle.std.proofs.Common.{Option, None, ◌≡◌, ℕ, ◌^◌, ◌<◌, ◌++◌, List, length, Bool, refl, inr}
use Rattle.rht_words.specs.declared.env.Env.{Env}
use Rattle.rht_words.specs.declared.machine.Next.{Next}
use Rattle.rht_words.specs.declared.machine.Next.TheVariants.{Go, Done}
use Rattle.rht_words.specs.Held as held
use Rattle.rht_words.specs.declared.op.Op.{Op}
use Rattle.rht_words.specs.Operations.{old_of, applied}
use Rattle.rht_words.specs.Places.{words_in}
use Rattle.rht_words.proofs.Memory.{Memory}
use Rattle.rht_model.specs.declared.history.Call.TheVariants.{Work}
use Rattle.rht_model.specs.declared.history.Cursor.{Cursor}
use Rattle.rht_model.specs.declared.history.Reply.{Reply}
use Rattle.rht_model.specs.declared.history.Reply.TheVariants.{Counted}
use Rattle.rht_model.specs.Answers.{Answer, plain}
use Rattle.rht_model.specs.Endings.{Ending, plain_ending}
use Rattle.rht_find.specs.Find.{IsFindAtIn}
use Rattle.rht_find.specs.Find as find_at
use Rattle.rht_find.specs.declared.find.FindAt.{FindAt}
use Rattle.rht_bind.specs.Bind.{IsBindAtIn}
use Rattle.rht_bind.specs.Bind as bind_at
use Rattle.rht_bind.specs.declared.bind.BindAt.{BindAt}
use Rattle.rht_model.specs.Rooms.{Kept}
use Rattle.rht_release.specs.All.{IsAllAtIn}
use Rattle.rht_release.specs.All as all_at
use Rattle.rht_release.specs.declared.all.AllAt.{AllAt}
use Rattle.rht_callers.specs.PortCounts.{count_plan_in}
use Rattle.rht_core.specs.Jobs.{listing_ending, node_ending, Job, finds, binds, releases, rebinds, lists, works, tidies, tidying, tidied, walks, walk_ending, walk_gone, counts, call_of, job_plan, job_next, job_after, held_of, held_next}
use Rattle.rht_words.specs.Ports.{IsPort}
use Rattle.rht_release.specs.Release.{IsReleaseAtIn}
use Rattle.rht_release.specs.Release as release_at
use Rattle.rht_release.specs.declared.release.ReleaseAt.{ReleaseAt}
use Rattle.rht_release.specs.Rebind.{IsRebindAtIn}
use Rattle.rht_release.specs.Rebind as rebind_at
use Rattle.rht_release.specs.declared.rebind.RebindAt.{RebindAt}
use Rattle.rht_move.specs.Work.{IsWorkAtIn}
use Rattle.rht_move.specs.Work as work_at
use Rattle.rht_move.specs.declared.work.WorkAt.{WorkAt}
use Rattle.rht_grace.specs.Batch.{BatchModel}
use Rattle.rht_grace.specs.Tidy as tidy_at
use Rattle.rht_grace.specs.declared.tidy.TidyAt.{TidyAt}
use Rattle.rht_callers.specs.Batches.{nodes_left}
use Rattle.rht_core.specs.Tidyings.{IsTidyingIn}
use Rattle.rht_core.proofs.Machines.TidyRanges.{Came}
use Rattle.rht_core.proofs.Machines.TidySteps.{OwnsNodes, OwnsNodes-rely, TidyMoved, tidy_step}
use Rattle.rht_core.proofs.Machines.WalkSteps.{WalkMoved, walk_step}
use Rattle.rht_walk.specs.Walk as walk_at
use Rattle.rht_walk.specs.Walk.{Pairs, IsWalkAtIn}
use Rattle.rht_walk.specs.declared.walk.WalkAt.{WalkAt}
use Rattle.rht_ghost.proofs.Theory.Ghosts.{Ghost}
use Rattle.rht_ghost.proofs.Theory.Wholes.{Whole}
use Rattle.rht_ghost.proofs.Theory.Knowns.{Known}
use Rattle.rht_ghost.proofs.Theory.Knowledge.{Knowing}
use Rattle.rht_ghost.proofs.Theory.Reliance.{Rely}
use Rattle.rht_ghost.proofs.Theory.KnowledgeKept.{Knowing-rely}
use Rattle.rht_ghost.proofs.Theory.Steps.{mem, Holding, Step, StepWhere, step-map, reads}
use Rattle.rht_ghost.proofs.Pieces.Locates.{IsThereFor}
use Rattle.rht_ghost.proofs.Pieces.OwnSections.{OpensNone}
use Rattle.rht_ghost.proofs.Pieces.HeldSections.{of_its_own}
use Rattle.rht_ghost.proofs.Theory.Knowns.{known_nothing}
use Rattle.rht_find.proofs.FindSteps.{FindMoved, find_step}
use Rattle.rht_bind.proofs.BindKnowledge.{known_of_bind, fits_bind, bind_holds, BindNext}
use Rattle.rht_bind.proofs.BindSteps.{bind_step}
use Rattle.rht_release.proofs.AllSteps.{known_of_all, fits_all, AllMoved, all_step}
use Rattle.rht_release.proofs.ReleaseKnowledge.{known_of_release, fits_release, ReleaseMoved, nothing_known}
use Rattle.rht_release.proofs.ReleaseSteps.{release_step}
use Rattle.rht_release.proofs.RebindKnowledge.{known_of_rebind, fits_rebind, RebindMoved}
use Rattle.rht_release.proofs.RebindSteps.{rebind_step}
use Rattle.rht_move.proofs.WorkKnowledge.{known_of_work, work_holds, WorkNext}
use Rattle.rht_move.proofs.WorkMachine.{work_step}

-- where a call stands: what its caller knows, and what it will answer should it miss a page on its way, known early
pub record JobStands : Type 0 where
  pub known : Known
  pub early : Option Answer

-- So it is by a machine's state. A look-up knows nothing of the table, a bind that misses a page enters one, and a resizing misses none.
abbrev pub stands_of : Job → JobStands
stands_of (finds port state) = record { known = known_nothing; early = None }
stands_of (binds port owner once state) = record { known = known_of_bind port owner state; early = None }
stands_of (lists port room state) =
    record { known = known_of_all port room.items state; early = (held_of (lists port room state)).early }
stands_of (releases port owner state) =
    record { known = known_of_release port owner state; early = (held_of (releases port owner state)).early }
stands_of (rebinds port owner new state) =
    record { known = known_of_rebind port owner new state; early = (held_of (rebinds port owner new state)).early }
stands_of (works state) = record { known = known_of_work state; early = None }
stands_of (tidies batch state) = record { known = known_nothing; early = None }
stands_of (walks from limit room state) = record { known = known_nothing; early = None }
stands_of counts = record { known = known_nothing; early = None }

abbrev pub known_of : Job → Known
known_of job = (stands_of job).known

abbrev pub early_of : Job → Option Answer
early_of job = (stands_of job).early

-- the page that the job may miss is there in these words
abbrev pub IsThere : Job → Memory → Type 0
IsThere job = IsThereFor (early_of job) (known_of job).table

-- and after an operation; a call that has ended misses none
abbrev pub IsThereNext : Job × Next Ending → Memory → Type 0
IsThereNext (job, Go) M = IsThere job M
IsThereNext (job, Done ending) M = ⊥

-- nothing is held
abbrev pub holds_no : Holding
holds_no = held.holds_nothing

-- all that a bind names is the table's, its port is one, and its owner has 32 bits
pub record IsBindingIn (env : Env) (port owner : ℕ) (state : BindAt) : Type 0 where
  pub port_in : IsPort port
  pub owner_in : owner < 2 ^ 32
  pub at_in : IsBindAtIn env state

-- all that a listing names is the table's, and its room may have one item a node
pub record IsListingIn (env : Env) (room : Kept ℕ) (state : AllAt) : Type 0 where
  pub at_in : IsAllAtIn env state
  pub roomy : room.limit ≡ env.geometry.nodes

-- all that a rebind names is the table's, and its new owner has 32 bits
pub record IsRebindingIn (env : Env) (new : ℕ) (state : RebindAt) : Type 0 where
  pub new_in : new < 2 ^ 32
  pub at_in : IsRebindAtIn env state

-- What is said of a job by its machine: that all it names is the table's, and that what its state keeps fits its port and its owner. Of a
-- tidying it is said which nodes its caller has.
pub record JobFacts : Type 1 where
  pub within : Type 0
  pub fits : Ghost → Type 0

module _ (env : Env) (mix : ℕ → ℕ → ℕ → ℕ) (c : ℕ) where
  -- what is said of each
  abbrev pub facts_of : Job → JobFacts
  facts_of (finds port state) = record { within = IsFindAtIn env state; fits = λ G. Unit {0} }
  facts_of (binds port owner once state) =
      record { within = IsBindingIn env port owner state; fits = λ G. fits_bind env mix c port owner once state }
  facts_of (lists port room state) =
      record { within = IsListingIn env room state; fits = λ G. fits_all port room state }
  facts_of (releases port owner state) =
      record { within = IsReleaseAtIn env state; fits = λ G. fits_release env mix c port owner state }
  facts_of (rebinds port owner new state) = record {
    within = IsRebindingIn env new state;
    fits = λ G. fits_rebind env mix c port owner new state;
  }
  facts_of (works state) = record { within = IsWorkAtIn env state; fits = λ G. Unit {0} }
  facts_of (tidies batch state) = record { within = IsTidyingIn env.geometry batch state; fits = OwnsNodes env mix c (nodes_left batch state) }
  facts_of (walks from limit room state) = record { within = IsWalkAtIn env.geometry state; fits = λ G. Unit {0} }
  facts_of counts = record { within = Unit {0}; fits = λ G. Unit {0} }

  abbrev pub JobIn : Job → Type 0
  JobIn job = (facts_of job).within

  pub record JobKnows (job : Job) (M : Memory) (G : Ghost) : Type 0 where
    pub knowing : Knowing env mix c (held_of job) (known_of job) M G
    pub fits : (facts_of job).fits G

  -- a caller in no call has nothing
  abbrev pub KnowsNothing : Memory → Ghost → Type 0
  KnowsNothing M G = Knowing env mix c holds_no known_nothing M G

  -- a tidying that ends leaves its caller these nodes
  abbrev pub leaves_of : Job → Ghost → Type 0
  leaves_of (finds port state) G = Unit {0}
  leaves_of (binds port owner once state) G = Unit {0}
  leaves_of (lists port room state) G = Unit {0}
  leaves_of (releases port owner state) G = Unit {0}
  leaves_of (rebinds port owner new state) G = Unit {0}
  leaves_of (works state) G = Unit {0}
  leaves_of (tidies batch state) G = OwnsNodes env mix c (batch.fresh ++ batch.waiting) G
  leaves_of (walks from limit room state) G = Unit {0}
  leaves_of counts G = Unit {0}

  -- what the caller knows of a call that has ended, of which this job is left
  pub record JobLeft (job : Job) (ending : Ending) (M : Memory) (G : Ghost) : Type 0 where
    pub knowing : Knowing env mix c (held.ended_with ending.answer) known_nothing M G
    pub leaves : leaves_of job G

  -- what the caller knows after an operation
  abbrev pub JobNext : Job × Next Ending → Memory → Ghost → Type 0
  JobNext (job, Go) M G = JobKnows job M G
  JobNext (job, Done ending) M G = JobLeft job ending M G

  -- an operation of a job, of which this is left
  abbrev pub JobStepOf : List ℕ → Ghost → Op → Job → Job × Next Ending → Type 0
  JobStepOf words G op job r =
      StepWhere env mix (IsThere job (mem env mix words)) (IsThereNext r (mem env mix (applied words op)))
      c (call_of job) words G op (held_of job) (held_next r) (JobNext r)

  -- the same while its caller may hold its section open over its calls: then of its own it has none open
  abbrev pub JobStepOver : Bool → List ℕ → Ghost → Op → Job → Job × Next Ending → Type 0
  JobStepOver over words G op job r =
      StepWhere env mix (IsThere job (mem env mix words)) (IsThereNext r (mem env mix (applied words op)))
      c (call_of job) words G op (of_its_own over (held_of job)) (of_its_own over (held_next r)) (JobNext r)

  fits-rely : (job : Job) (M M' : Memory) (G G' : Ghost) → Rely env mix c M G M' G' → (facts_of job).fits G → (facts_of job).fits G'
  fits-rely (tidies batch state) M M' G G' rely fits = OwnsNodes-rely env mix c (nodes_left batch state) M M' G G' rely fits
  fits-rely _ M M' G G' rely fits = fits

  -- what it knows outlives a step of anybody else
  pub JobKnows-rely : (job : Job) (M M' : Memory) (G G' : Ghost) → Whole env mix M G → G'.from c ≡ G.from c → Rely env mix c M G M' G'
      → JobKnows job M G → JobKnows job M' G'
  JobKnows-rely job M M' G G' whole from rely knows = record {
    knowing = Knowing-rely env mix c M M' G G' (held_of job) (known_of job) whole from rely knows.knowing;
    fits = fits-rely job M M' G G' rely knows.fits;
  }

  module _ (low : c < env.geometry.callers) (words : List ℕ) (G : Ghost) (all : length words ≡ words_in env.geometry)
      (whole : Whole env mix (mem env mix words) G) where
    abbrev pub JobStep : Job → Type 0
    JobStep job = JobStepOf words G (job_plan env c job) job (job_after mix env job (old_of words (job_plan env c job)))

    finds_so : (port : ℕ) (state : FindAt) (r : FindAt × Next Reply)
        → FindMoved env mix c port words G all whole low state r
        → JobStepOf words G (job_plan env c (finds port state)) (finds port state) (job_next (finds port) plain_ending r)
    finds_so port state (next, Go) step =
        step-map env mix (λ M G' w k. record { knowing = k; fits = tt }) step
    finds_so port state (next, Done reply) step =
        step-map env mix (λ M G' w k. record { knowing = k; leaves = tt }) step

    binds_so : (port owner : ℕ) (once : Bool) (state : BindAt) (r : BindAt × Next Reply)
        → Step env mix c (call_of (binds port owner once state)) words G (bind_at.plan_at env c state) (held_of (binds port owner once state)) (bind_holds env mix c port owner once r) (BindNext env mix c port owner once r)
        → JobStepOf words G (job_plan env c (binds port owner once state)) (binds port owner once state)
        (job_next (binds port owner once) plain_ending r)
    binds_so port owner once state (next, Go) step =
        step-map env mix (λ M G' w k. record { knowing = k.knowing; fits = k.fits }) step
    binds_so port owner once state (next, Done reply) step =
        step-map env mix (λ M G' w k. record { knowing = k; leaves = tt }) step

    lists_so : (port : ℕ) (room : Kept ℕ) (roomy : room.limit ≡ env.geometry.nodes) (state : AllAt)
        (after : Kept ℕ) (r : AllAt × Next (Unit {0}))
        → AllMoved env mix c port room roomy words G all whole state after r
        → JobStepOf words G (job_plan env c (lists port room state)) (lists port room state)
        (job_next (lists port after) (listing_ending after) r)
    lists_so port room roomy state after (next, Go) step =
        step-map env mix (λ M' G' w k. record { knowing = k.knowing; fits = k.fits }) step
    lists_so port room roomy state after (next, Done done) step =
        step-map env mix (λ M' G' w k. record { knowing = k; leaves = tt }) step

    releases_so : (port owner : ℕ) (state : ReleaseAt) (r : ReleaseAt × Next (Reply × Option ℕ))
        → ReleaseMoved env mix c port owner words G state r
        → JobStepOf words G (job_plan env c (releases port owner state)) (releases port owner state)
        (job_next (releases port owner) node_ending r)
    releases_so port owner state (next, Go) step =
        step-map env mix (λ M G' w k. record { knowing = k.knowing; fits = k.fits }) step
    releases_so port owner state (next, Done end) step =
        let after = held.ended_with (plain end.0) in
        step-map env mix (λ M G' w k. record { knowing = nothing_known env mix c after end.1 M G' k; leaves = tt }) step

    rebinds_so : (port owner new : ℕ) (state : RebindAt)
        (r : RebindAt × Next (Reply × Option ℕ))
        → RebindMoved env mix c port owner new words G state r
        → JobStepOf words G (job_plan env c (rebinds port owner new state)) (rebinds port owner new state)
        (job_next (rebinds port owner new) node_ending r)
    rebinds_so port owner new state (next, Go) step =
        step-map env mix (λ M G' w k. record { knowing = k.knowing; fits = k.fits }) step
    rebinds_so port owner new state (next, Done end) step =
        let after = held.ended_with (plain end.0) in
        step-map env mix (λ M G' w k. record { knowing = nothing_known env mix c after end.1 M G' k; leaves = tt }) step

    works_so : (state : WorkAt) (r : WorkAt × Next Reply)
        → Step env mix c Work words G (work_at.plan_at env c state) (held_of (works state)) (work_holds r) (WorkNext env mix c r)
        → JobStepOf words G (job_plan env c (works state)) (works state) (job_next works plain_ending r)
    works_so state (next, Go) step =
        step-map env mix (λ M G' w k. record { knowing = k; fits = tt }) step
    works_so state (next, Done reply) step =
        step-map env mix (λ M G' w k. record { knowing = k; leaves = tt }) step

    tidies_so : (batch : BatchModel) (state : TidyAt) (came : Came) → TidyMoved env mix c words G (tidy_at.plan_at env.geometry batch state) came
        → JobStepOf words G (job_plan env c (tidies batch state)) (tidies batch state) (job_next tidying plain_ending (tidied came))
    tidies_so batch state (next, after, Go) step =
        step-map env mix (λ M G' w k. record { knowing = k.knowing; fits = k.owns }) step
    tidies_so batch state (next, after, Done reply) step =
        step-map env mix (λ M G' w k. record { knowing = k.knowing; leaves = k.owns }) step

    walks_so : (from : Option Cursor) (limit : ℕ) (room : Pairs) (state : WalkAt) (after : Pairs) (r : WalkAt × Next Reply)
        → WalkMoved env mix c from limit words G all whole low room state after r
        → JobStepOf words G (job_plan env c (walks from limit room state)) (walks from limit room state)
        (job_next (walks from limit after) (walk_ending after) r)
    walks_so from limit room state after (next, Go) step =
        step-map env mix (λ M G' w k. record { knowing = k; fits = tt }) step
    walks_so from limit room state after (next, Done reply) step =
        step-map env mix (λ M G' w k. record { knowing = k; leaves = tt }) step

    -- each operation of a job leads from what the caller knows to what it knows next
    pub job_step : (job : Job) → JobIn job → OpensNone env c G (job_plan env c job) (held_of job)
        → JobKnows job (mem env mix words) G → JobStep job
    job_step (finds port state) within outside knows =
        finds_so port state (find_at.after_at mix env port state (old_of words (find_at.plan_at env c state)))
        (find_step env mix c port words G all whole low state outside knows.knowing)
    job_step (binds port owner once state) within outside knows =
        binds_so port owner once state (bind_at.after_at mix env port once state (old_of words (bind_at.plan_at env c state)))
        (bind_step env mix c port owner once within.port_in within.owner_in low words G all whole state within.at_in outside (record { knowing = knows.knowing; fits = knows.fits }))
    job_step (lists port room state) within outside knows =
        let old = old_of words (all_at.plan_at env c state) in
        lists_so port room within.roomy state (all_at.room_after state room old)
        (all_at.after_at mix env port state old)
        (all_step env mix c port room within.roomy words G all whole low state within.at_in outside
        (record { knowing = knows.knowing; fits = knows.fits }))
    job_step (releases port owner state) within outside knows =
        releases_so port owner state (release_at.after_at mix env port owner state (old_of words (release_at.plan_at env c state)))
        (release_step env mix c port owner low words G all whole state within outside (record { knowing = knows.knowing; fits = knows.fits }))
    job_step (rebinds port owner new state) within outside knows =
        rebinds_so port owner new state
        (rebind_at.after_at mix env port owner state (old_of words (rebind_at.plan_at env c state)))
        (rebind_step env mix c port owner new within.new_in low words G all whole state within.at_in outside
        (record { knowing = knows.knowing; fits = knows.fits }))
    job_step (works state) within outside knows =
        works_so state (work_at.after_at mix env state (old_of words (work_at.plan_at env c state)))
        (work_step env mix c low words G all whole state within outside knows.knowing)
    job_step (tidies batch state) within outside knows =
        tidies_so batch state (tidy_at.after_at env.geometry batch state (old_of words (tidy_at.plan_at env.geometry batch state)))
        (tidy_step env mix c words G all whole batch state within knows.knowing knows.fits)
    job_step (walks from limit room state) within outside knows =
        let old = old_of words (walk_at.plan_at env.geometry c state) in
        let after = walk_at.room_after state room old in
        walks_so from limit room state after (walk_gone env from limit room after state old)
        (walk_step env mix c from limit words G all whole low room state outside knows.knowing)
    job_step counts within outside knows =
        let old = old_of words (count_plan_in env) in
        reads env mix whole refl refl (inr (record {
          learns = record { unknown = refl; answer = plain (Counted old); known = refl; said = inr refl };
          right = record { replied = record { reply = tt; owners = refl }; tells = refl };
          takes_none = refl;
        }))
        (record { knowing = record { only = knows.knowing.only; means = knows.knowing.means }; leaves = tt })
