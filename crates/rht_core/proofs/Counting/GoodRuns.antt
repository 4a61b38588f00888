-- In every run the shape of each table is good, where that of the first one is, and good shapes lead to good ones.
--
-- By induction over the events, with the ghost: each job that makes a table has chosen it by the shape of one that was attached, which is good;
-- so what it attaches is good, and no other move of the ghost attaches any.
use Rattle.rht_core.proofs.Machines.HeldSteps.{hard-op, soft-old}
use Rattle.std.proofs.Common.{◌≡◌, ℕ, Bool, List, refl, sym, ap, ◌∙◌, subst}
use Rattle.std.specs.Prelude.{Option, Some}
use Rattle.rht_words.specs.declared.op.Op.{Op}
use Rattle.rht_words.specs.declared.env.Env.{Env}
use Rattle.rht_ghost.proofs.Pieces.HeldSections.{of_its_own}
use Rattle.rht_words.specs.Opening.{opening_word}
use Rattle.rht_words.specs.Operations.{old_of}
use Rattle.rht_words.specs.Places.{Slot, ShapeWord}
use Rattle.rht_words.proofs.Memory.{Memory}
use Rattle.rht_model.specs.Endings.{plain_ending}
use Rattle.rht_bind.specs.Bind as bind
use Rattle.rht_bind.specs.declared.bind.BindAt.{BindAt}
use Rattle.rht_nest.specs.Make.{MakeModel}
use Rattle.rht_move.specs.LastTable.{LastTableModel, last_table_plan_at}
use Rattle.rht_move.specs.declared.last_table.LastTableAt.TheVariants as last_tables
use Rattle.rht_move.specs.Work as work
use Rattle.rht_move.specs.declared.work.WorkAt.{WorkAt}
use Rattle.rht_move.specs.declared.work.WorkAt.TheVariants as work_at
use Rattle.rht_move.proofs.WorkKnowledge.{last_aim}
use Rattle.rht_core.specs.declared.event.Event.{Event}
use Rattle.rht_core.specs.Jobs.{Job, binds, works, job_of, job_plan, job_after, told, held_of, held_next}
use Rattle.rht_core.specs.Laws.{view_stepped}
use Rattle.rht_core.specs.Runs.{World, opening, local_of, planned_in, view_of, world_step, run_of, IsAdmitted, IsAdmittedEvent}
use Rattle.rht_ghost.proofs.Theory.Ghosts.{Ghost}
use Rattle.rht_ghost.proofs.Theory.Knowledge.{AimMeans}
use Rattle.rht_ghost.proofs.Theory.Wholes.{Whole}
use Rattle.rht_ghost.proofs.Theory.Steps.{ReadyFor, Does, ghost_after, mem}
use Rattle.rht_core.proofs.Machines.JobSteps.{JobIn, JobKnows}
use Rattle.rht_core.proofs.Events.Invariants.{Inv, StepOf, step_of, kept}
use Rattle.rht_core.proofs.Events.InvariantRuns.{opening_ghost, opening_inv, idle_at_opening}
use Rattle.rht_core.proofs.Events.KeptAtEvents.{views_kept, ghosts_kept}
use Rattle.rht_core.proofs.Events.JobsOfCallers.{left-job}
use Rattle.rht_core.proofs.Events.RangesInRuns.{AllIn, opens-all, event-all}
use Rattle.rht_core.proofs.Events.Worlds.{run_keeps_admitted}
use Rattle.rht_core.proofs.Counting.GoodShapes.{AreAll, AreMadeGood, AreGrownGood, GoodWork, GoodBind, IsSeenGood, good-work, good-bind, moved-good, slot-good}
use Rattle.rht_core.proofs.Counting.MakingJobs.{JobMakes, MakesLeft, told-makes, others-make, begins-making}
use Rattle.rht_core.proofs.Counting.AttachingJobs.{IsAttachingJob, job-attaches}

module _ (env : Env) (Good Fit : ℕ → Type 0) (keeps_works : AreMadeGood env Good Fit) (keeps_binds : AreGrownGood env Good Fit)
    (mix : ℕ → ℕ → ℕ → ℕ) where
  -- what it makes is of a fitting size, and what it attaches is good
  abbrev Fits : MakeModel → Type 0
  Fits make = Fit make.exponent

  abbrev Has : ℕ → ℕ → Type 0
  Has slot shape = Good shape

  abbrev Now : Job → Type 0
  Now job = JobMakes Good Fits Has job

  abbrev Left : Option Job → Type 0
  Left job = MakesLeft Good Fits Has job

  -- ---- an operation of a job

  module _ (c : ℕ) (words : List ℕ) (G : Ghost) (whole : Whole env mix (mem env mix words) G) (good : AreAll Good G) where
    abbrev M : Memory
    M = mem env mix words

    -- the table in which a bind is has a good shape
    bind-seen : (port owner : ℕ) (once : Bool) (state : BindAt) → JobKnows env mix c (binds port owner once state) M G
        → IsSeenGood Good state
    bind-seen port owner once state knows = record {
      future = λ claimed length is.
          let home = (subst (λ s. JobKnows env mix c (binds port owner once s) M G) is knows).knowing.means.table in
          subst Good home.shape_is (good _ home.passing.at.attached);
      count = λ claimed is.
          let home = (subst (λ s. JobKnows env mix c (binds port owner once s) M G) is knows).knowing.means.table in
          subst Good home.shape_is (good _ home.passing.at.attached);
    }

    -- and so has the last one that a resizing finds
    work-seen : (state : WorkAt) → JobKnows env mix c (works state) M G → (root : ℕ) (seek : LastTableModel) (slot : ℕ)
        → state ≡ work_at.LastTable root seek → seek.at ≡ last_tables.Shape slot → work.IsWorkAtIn env state
        → Good (old_of words (work.plan_at env c state))
    work-seen state knows root seek slot is shape within =
        let known = subst (λ s. JobKnows env mix c (works s) M G) is knows in
        let aim = subst (λ s. AimMeans env mix G (last_aim s)) shape known.knowing.means.work.more.aim_is in
        let seek_in = (subst (work.IsWorkAtIn env) is within).seek_in in
        let found : old_of words (work.plan_at env c state) ≡ M (Slot slot ShapeWord) =
        ap (λ s. old_of words (work.plan_at env c s)) is
        ∙ ap (λ g. old_of words (last_table_plan_at g seek.at)) seek_in.geometry_same
        ∙ ap (λ s. old_of words (last_table_plan_at env.geometry s)) shape in
        subst Good (sym found) (slot-good env mix Good words G whole good slot aim.at)

  module _ (c : ℕ) (words : List ℕ) (G : Ghost) (whole : Whole env mix (mem env mix words) G) (good : AreAll Good G) where
    goes-good : (job : Job) → JobIn env mix c job → JobKnows env mix c job (mem env mix words) G → Now job
        → Left (told (job_after mix env job (old_of words (job_plan env c job)))).0
    goes-good (binds port owner once state) within knows now =
        told-makes Good Fits Has (binds port owner once) plain_ending
        (bind.after_at mix env port once state (old_of words (bind.plan_at env c state)))
        (good-bind env Good Fit keeps_binds mix port once state (old_of words (bind.plan_at env c state)) within.at_in now
        (bind-seen c words G whole good port owner once state knows))
    goes-good (works state) within knows now =
        told-makes Good Fits Has works plain_ending (work.after_at mix env state (old_of words (work.plan_at env c state)))
        (good-work env Good Fit keeps_works mix state (old_of words (work.plan_at env c state)) within now
        (λ root seek slot is shape. work-seen c words G whole good state knows root seek slot is shape within))
    goes-good job within knows now =
        others-make Good Fits Has mix env job (old_of words (job_plan env c job)) refl

  -- the table that a good job attaches has a good shape
  attaches-good : (c : ℕ) (M : Memory) (G : Ghost) (slot shape : ℕ) → M (Slot slot ShapeWord) ≡ shape → (job : Job)
      → JobKnows env mix c job M G → Now job → IsAttachingJob job slot → Good shape
  attaches-good c M G slot shape is (binds port owner once state) knows now at =
      let known = subst (λ s. JobKnows env mix c (binds port owner once s) M G) at.is knows in
      subst Good (sym known.knowing.means.making.shape_is ∙ is) (subst (λ s. GoodBind Good Fit s) at.is now)
  attaches-good c M G slot shape is (works state) knows now at =
      let known = subst (λ s. JobKnows env mix c (works s) M G) at.is knows in
      subst Good (sym known.knowing.means.making.shape_is ∙ is) (subst (λ s. GoodWork Good Fit s) at.is now)
  attaches-good c M G slot shape is _ knows now at = absurd at

  -- ---- runs

  module _ (L : Type 0) (first : Good (opening_word env (Slot 0 ShapeWord))) where
    -- the invariant with a ghost whose tables have good shapes, and each caller is at a good job
    pub record HasGood (w : World L) : Type 0 where
      pub ghost : Ghost
      pub inv : Inv env mix L w.core ghost
      pub all : AllIn L mix env w.core
      pub good : AreAll Good ghost
      pub jobs : (c : ℕ) → Left (job_of (view_of w c).local.doing)

    module _ (w : World L) (has : HasGood w) where
      module _ (c : ℕ) (op : Op) where
        -- the ghost behind an operation
        step-tables : (of : StepOf env mix L w.core has.ghost c op) → AreAll Good (ghost_after env mix c of.step.move has.ghost)
        step-tables of =
            let now = subst Left of.is (has.jobs c) in
            moved-good env mix Good c of.step.move has.ghost has.good
            (λ slot shape seed serial at.
            let does = subst (λ m. Does env mix m op (old_of w.core.words op) (of_its_own (local_of w.core c).held (held_of of.job))
            (of_its_own (local_of w.core c).held (held_next (job_after mix env of.job (old_of w.core.words op))))) at of.step.does in
            let ready = subst (ReadyFor env mix c (mem env mix w.core.words) has.ghost) at of.step.ready in
            attaches-good c (mem env mix w.core.words) has.ghost slot shape ready.made.shape_is of.job of.knows now
            (job-attaches env c does.last slot does.within of.job does.has (sym (hard-op (local_of w.core c).held (job_plan env c of.job) _ tt (sym of.plan ∙ does.attaching)))))

        -- and the caller
        step-job : planned_in w.core c ≡ Some op → Left (job_of (view_stepped mix (old_of w.core.words op) (view_of w c)).local.doing)
        step-job is =
            let of = step_of env mix L w.core has.ghost c op has.all has.inv is in
            let local = local_of w.core c in
            let old = old_of w.core.words op in
            let left = left-job mix env local.doing of.job old (has.all.stays.locals_of c).doing of.is in
            subst Left (sym left)
            (subst (λ o. Left (told (job_after mix env of.job o)).0)
            (sym (ap (old_of w.core.words) of.plan ∙ soft-old (local_of w.core c).held (job_plan env c of.job) w.core.words))
            (goes-good c w.core.words has.ghost has.inv.whole has.good of.job of.within of.knows (subst Left of.is (has.jobs c))))

      event-good : (event : Event) → IsAdmittedEvent event → HasGood (world_step mix w event)
      event-good event may =
          let k = kept env mix L w.core has.ghost event has.all has.inv in
          record {
            ghost = k.ghost;
            inv = k.inv;
            all = event-all L mix env w event may has.all;
            good =
                ghosts_kept L mix env w (AreAll Good) has.ghost has.all has.inv has.good (λ c op of. step-tables c op of) event;
            jobs = views_kept L mix env w (λ view. Left (job_of view.local.doing)) has.all.stays has.jobs
                (λ c call machine first. subst Left (sym first.does) (begins-making Good Fits Has env call first.job first.first))
                (λ c op is. step-job c op is) event;
          }

    opening-good : HasGood (opening env)
    opening-good = record {
      ghost = opening_ghost env;
      inv = opening_inv env mix L;
      all = opens-all L mix env;
      good = λ τ l. first;
      jobs = λ c. rw (idle_at_opening env mix L c) tt;
    }

    pub runs-good : (events : List Event) → IsAdmitted events → HasGood (run_of mix env events)
    runs-good events admitted =
        run_keeps_admitted L mix HasGood (λ w event may has. event-good w has event may) (opening env) events admitted
        opening-good
