-- The bucket that a call has locked is one of the table at which it stands: said of jobs. And a worker that takes down a table is at
-- entries in use. It outlives what others do.
use Rattle.std.proofs.Common.{◌≡◌, ℕ, ◌/◌, ◌≤◌, List, length, Option, Some, None, refl, sym, subst, inl}
use Rattle.std.specs.Prelude.{IfSome}
use Rattle.rht_words.specs.declared.env.Env.{Env}
use Rattle.rht_words.specs.declared.machine.Next.{Next}
use Rattle.rht_words.specs.declared.machine.Next.TheVariants.{Go, Done}
use Rattle.rht_model.specs.declared.history.Call.{Call}
use Rattle.rht_model.specs.declared.history.Call.TheVariants.{Tidy}
use Rattle.rht_model.specs.Endings.{Ending, plain_ending}
use Rattle.rht_bind.specs.declared.bind.BindAt.{BindAt}
use Rattle.rht_bind.specs.declared.bind.BindAt.TheVariants as binding
use Rattle.rht_release.specs.All as all
use Rattle.rht_release.specs.declared.all.AllAt.{AllAt}
use Rattle.rht_release.specs.declared.all.AllAt.TheVariants as listing
use Rattle.rht_release.specs.declared.rebind.RebindAt.{RebindAt}
use Rattle.rht_release.specs.declared.rebind.RebindAt.TheVariants as rebinding
use Rattle.rht_release.specs.declared.release.ReleaseAt.{ReleaseAt}
use Rattle.rht_release.specs.declared.release.ReleaseAt.TheVariants as releasing
use Rattle.rht_release.specs.declared.seek.SeekAt.{SeekAt}
use Rattle.rht_release.specs.declared.seek.SeekAt.TheVariants as seeks
use Rattle.rht_grace.specs.Batch.{BatchModel}
use Rattle.rht_core.specs.Jobs.{Job, finds, binds, lists, releases, rebinds, works, tidies, tidying, walks, walk_ending, counts, first_job, listing_ending, node_ending, job_plan, job_next, job_after, told, IsFirstJob}
use Rattle.rht_core.proofs.Events.JobsOfCallers.{first_tidy-so, first-of}
use Rattle.rht_core.proofs.Machines.JobSteps.{JobIn, JobKnows}
use Rattle.rht_words.specs.Operations.{old_of}
use Rattle.rht_walk.specs.Walk as walk
use Rattle.rht_core.proofs.Returning.TiedWorks.{tied_of_work, work_ties}
use Rattle.rht_core.proofs.Returning.TiedWalks.{tied_of_walk, walk-stays, walk_ties}
use Rattle.rht_core.specs.Standings.{standing_of, standing_with}
use Rattle.rht_bind.specs.BindStanding.{standing_of_bind}
use Rattle.rht_release.specs.AllStanding.{standing_of_all}
use Rattle.rht_release.specs.ReleaseStanding.{standing_of_release}
use Rattle.rht_release.specs.RebindStanding.{standing_of_rebind}
use Rattle.rht_release.specs.SeekStanding.{standing_of_seek}
use Rattle.rht_core.proofs.Returning.TiedBuckets.{IsTied, tied_of_seek, tied_of_all, tied_of_release, tied_of_rebind, tied_of_bind, all_ties, release_ties, rebind_ties, bind_ties}
use Rattle.rht_ghost.proofs.Theory.Ghosts.{Ghost}
use Rattle.rht_ghost.proofs.Theory.Passed.{GrowsFrom, at-from}
use Rattle.rht_ghost.proofs.Theory.Steps.{mem}
use Rattle.rht_ghost.proofs.Theory.Wholes.{AreFrom, Whole, IsAt, word_index}

module _ (env : Env) (mix : ℕ → ℕ → ℕ → ℕ) where
  abbrev pub tied_of : Ghost → Job → Type 0
  tied_of G (finds port state) = Unit {0}
  tied_of G (binds port owner once state) = tied_of_bind env mix G state
  tied_of G (lists port room state) = tied_of_all env mix G state
  tied_of G (releases port owner state) = tied_of_release env mix G state
  tied_of G (rebinds port owner new state) = tied_of_rebind env mix G state
  tied_of G (works state) = tied_of_work state
  tied_of G (tidies batch state) = Unit {0}
  tied_of G (walks from limit room state) = tied_of_walk env mix G state
  tied_of G counts = Unit {0}

  abbrev pub tied_with : Ghost → Option Job → Type 0
  tied_with G None = Unit {0}
  tied_with G (Some job) = tied_of G job

  -- it is so of a job with which a call begins
  first-tied : (G : Ghost) (call : Call) (batch : Option BatchModel) (start : ℕ) → IfSome (first_job env batch call start) (tied_of G)
  first-tied G Tidy batch start = first_tidy-so (tied_of G) batch (λ own. tt)
  first-tied G _ batch start = tt

  pub first_ties : (G : Ghost) (call : Call) (job : Job) → IsFirstJob env call job → tied_of G job
  first_ties G call job is = first-of (tied_of G) env call job (first-tied G call) is

  -- ---- it outlives whatever leaves the tables what they are in which the call stands

  module _ (low : ℕ) (G G' : Ghost) (grow : GrowsFrom env mix low G G') where
    tied-stays : (slot place : ℕ) → ((at : IsAt G slot) → low ≤ at.table) → IsTied env mix G slot place → IsTied env mix G' slot place
    tied-stays slot place from tied = record {
      at = at-from env mix low G G' grow slot tied.at (from tied.at);
      of = grow.pages (word_index env mix place / 64) _ (from tied.at) tied.of;
    }

    seek-stays : (state : SeekAt) → AreFrom low G (standing_of_seek state).tables → tied_of_seek env mix G state
        → tied_of_seek env mix G' state
    seek-stays (seeks.Leaving table unlock future) from tied = tied-stays table unlock.place (from table (inl refl)) tied
    seek-stays _ from tied = tt

    all-stays : (state : AllAt) → AreFrom low G (standing_of_all state).tables → tied_of_all env mix G state → tied_of_all env mix G' state
    all-stays listing.Opening from tied = tt
    all-stays (listing.Seeking seek) from tied = seek-stays seek.at from tied
    all-stays (listing.Unlocking table unlock) from tied = tied-stays table unlock.place (from table (inl refl)) tied
    all-stays listing.Closing from tied = tt
    all-stays _ from tied = tied-stays _ _ (from _ (inl refl)) tied

    release-stays : (state : ReleaseAt) → AreFrom low G (standing_of_release state).tables → tied_of_release env mix G state
        → tied_of_release env mix G' state
    release-stays releasing.Opening from tied = tt
    release-stays (releasing.Seeking seek) from tied = seek-stays seek.at from tied
    release-stays (releasing.Lowering node shape) from tied = tt
    release-stays (releasing.Closing reply removed) from tied = tt
    release-stays _ from tied = tied-stays _ _ (from _ (inl refl)) tied

    rebind-stays : (state : RebindAt) → AreFrom low G (standing_of_rebind state).tables → tied_of_rebind env mix G state
        → tied_of_rebind env mix G' state
    rebind-stays (rebinding.Filling new) from tied = tt
    rebind-stays (rebinding.Opening node) from tied = tt
    rebind-stays (rebinding.Seeking node seek) from tied = seek-stays seek.at from tied
    rebind-stays (rebinding.Closing end) from tied = tt
    rebind-stays (rebinding.Giving give) from tied = tt
    rebind-stays _ from tied = tied-stays _ _ (from _ (inl refl)) tied

    bind-stays : (state : BindAt) → AreFrom low G (standing_of_bind state).tables → tied_of_bind env mix G state
        → tied_of_bind env mix G' state
    bind-stays (binding.Replacing list relink) from tied = tied-stays _ _ (from _ (inl refl)) tied
    bind-stays (binding.Unlocking attempt table unlock next) from tied = tied-stays _ _ (from _ (inl refl)) tied
    bind-stays (binding.UnlockingFull growing unlock) from tied = tied-stays _ _ (from _ (inl refl)) tied
    bind-stays _ from tied = tt

    job-stays : (job : Job) → AreFrom low G (standing_of job).tables → tied_of G job → tied_of G' job
    job-stays (finds port state) from tied = tt
    job-stays (binds port owner once state) from tied = bind-stays state from tied
    job-stays (lists port room state) from tied = all-stays state from tied
    job-stays (releases port owner state) from tied = release-stays state from tied
    job-stays (rebinds port owner new state) from tied = rebind-stays state from tied
    job-stays (works state) from tied = tied
    job-stays (tidies batch state) from tied = tt
    job-stays (walks from_cursor limit room state) from tied = walk-stays env mix low G G' grow state from tied
    job-stays counts from tied = tt

    pub ties_stay : (job : Option Job) → AreFrom low G (standing_with job).tables → tied_with G job → tied_with G' job
    ties_stay None from tied = tt
    ties_stay (Some job) from tied = job-stays job from tied

  -- ---- an operation

  told-tied : {S A : Type 0} (G : Ghost) (job : S → Job) (ending : A → Ending) (r : S × Next A) → tied_of G (job r.0)
      → tied_with G (told (job_next job ending r)).0
  told-tied G job ending (state, Go) tied = tied
  told-tied G job ending (state, Done end) tied = tt

  none-tied : {S A : Type 0} (G : Ghost) (job : S → Job) (ending : A → Ending) → ((state : S) → tied_of G (job state)) → (r : S × Next A)
      → tied_with G (told (job_next job ending r)).0
  none-tied G job ending each r = told-tied G job ending r (each r.0)

  pub job_ties : (words : List ℕ) (G : Ghost) → Whole env mix (mem env mix words) G → (c : ℕ) (job : Job) → JobIn env mix c job
      → JobKnows env mix c job (mem env mix words) G → (old : ℕ) → old ≡ old_of words (job_plan env c job) → tied_of G job
      → tied_with G (told (job_after mix env job old)).0
  job_ties words G whole c (finds port state) within knows old found tied = none-tied G (finds port) plain_ending (λ state. tt) _
  job_ties words G whole c (binds port owner once state) within knows old found tied =
      told-tied G (binds port owner once) plain_ending _ (bind_ties env mix words G whole c port owner once state old knows.knowing.means.table tied)
  job_ties words G whole c (lists port room state) within knows old found tied =
      let after = all.room_after state room old in
      told-tied G (lists port after) (listing_ending after) _
      (all_ties env mix words G whole c port 0 room.items state old within.at_in knows.knowing.means.table tied)
  job_ties words G whole c (releases port owner state) within knows old found tied =
      told-tied G (releases port owner) node_ending _ (release_ties env mix words G whole c port owner state old within knows.knowing.means.table tied)
  job_ties words G whole c (rebinds port owner new state) within knows old found tied =
      told-tied G (rebinds port owner new) node_ending _
      (rebind_ties env mix words G whole c port owner new state old within.at_in knows.knowing.means.table tied)
  job_ties words G whole c (works state) within knows old found tied =
      told-tied G works plain_ending _ (work_ties mix env state old)
  job_ties words G whole c (tidies batch state) within knows old found tied = none-tied G tidying plain_ending (λ at. tt) _
  job_ties words G whole c (walks from limit room state) within knows old found tied =
      told-tied G (walks from limit (walk.room_after state room old)) (walk_ending (walk.room_after state room old)) _
      (subst (λ word. tied_of_walk env mix G (walk.goes env.geometry from limit (length room.items) state word)) (sym found)
      (walk_ties env mix words G whole from limit (length room.items) c state within tied))
  job_ties words G whole c counts within knows old found tied = tt
