-- What a caller knows by its job. The operation which it plans is its job's, and is a step where the whole is true of the words and some
-- ghost.
use Rattle.std.proofs.Common.{◌≡◌, ℕ, zero, suc, ◌<◌, ◌++◌, Bool, true, false, length, refl, sym, ap, ◌∙◌, subst, arith}
use Rattle.std.specs.Prelude.{Option, Some, None}
use Rattle.rht_words.specs.declared.op.Op.{Op}
use Rattle.rht_words.specs.declared.env.Env.{Env}
use Rattle.rht_words.specs.declared.machine.Next.{Next}
use Rattle.rht_words.specs.declared.machine.Next.TheVariants.{Go, Done}
use Rattle.rht_words.specs.Operations.{old_of}
use Rattle.rht_words.specs.Places.{words_in}
use Rattle.rht_words.proofs.Memory.{Memory}
use Rattle.rht_words.proofs.Members.{count_below-same}
use Rattle.rht_model.specs.declared.history.Call.{Call}
use Rattle.rht_model.specs.Endings.{Ending}
use Rattle.rht_callers.specs.declared.local.Doing.{Doing}
use Rattle.rht_callers.specs.Locals.{does_nothing, machine_from, soft, may_hold}
use Rattle.rht_core.specs.Runs.{Core, local_of, planned_in}
use Rattle.rht_core.specs.Jobs.{Job, call_of, job_plan, job_after, job_of, told, held_of}
use Rattle.rht_callers.proofs.CallBeginnings.{begins_so}
use Rattle.rht_core.proofs.Events.Worlds.{planned-some}
use Rattle.rht_core.proofs.Events.RangesInRuns.{AllIn, job-in}
use Rattle.rht_core.proofs.Events.JobsOfCallers.{first_job-machine, same_call, plan-job, nothing-job, is_no_job}
use Rattle.rht_ghost.proofs.Theory.Ghosts.{Ghost, is_taken_by}
use Rattle.rht_ghost.proofs.Theory.Wholes.{outs, Whole}
use Rattle.rht_ghost.proofs.Theory.Knowledge.{IsOpenAs}
use Rattle.rht_ghost.proofs.Pieces.HeldSections.{is_in}
use Rattle.rht_core.proofs.Machines.HeldSteps.{MayHold, soft-none, held_step}
use Rattle.rht_ghost.proofs.Theory.Reliance.{Rely}
use Rattle.rht_ghost.proofs.Theory.KnowledgeKept.{Knowing-rely}
use Rattle.rht_ghost.proofs.Theory.Steps.{mem}
use Rattle.rht_ghost.proofs.Theory.Knowns.{known_nothing}
use Rattle.rht_core.proofs.Machines.TidySteps.{OwnsNodes}
use Rattle.rht_core.proofs.Machines.JobSteps.{JobIn, JobKnows, JobKnows-rely, KnowsNothing, JobNext, JobStepOver, holds_no}
use Rattle.std.proofs.lemmas.List.{nil_from_length, append-nil}
use Rattle.rht_grace.specs.Batch.{BatchModel, first_odd}
use Rattle.rht_grace.specs.Tidy.{begun, asked_at}
use Rattle.rht_grace.specs.declared.tidy.TidyAt.{TidyAt}
use Rattle.rht_grace.proofs.TidyRuns.{begun-some, begun-none}
use Rattle.rht_callers.specs.Batches.{nodes_in, nodes_left}

-- whether the caller's call has its section open; in no call it has none open
abbrev pub in_section : Option Job → Bool
in_section None = false
in_section (Some job) = (held_of job).section

-- while a caller holds its section open it does only what it may do then
abbrev pub MayHoldAs : Bool → Option Job → Type 0
MayHoldAs over None = Unit {0}
MayHoldAs over (Some job) = MayHold over job

module _ (env : Env) (mix : ℕ → ℕ → ℕ → ℕ) where
  -- a caller knows what its job says, and one in no call has nothing
  abbrev pub Knows : ℕ → Option Job → Memory → Ghost → Type 0
  Knows c None M G = KnowsNothing env mix c M G
  Knows c (Some job) M G = JobKnows env mix c job M G

  pub Knows-rely : (c : ℕ) (job : Option Job) (M M' : Memory) (G G' : Ghost) → Whole env mix M G
      → G'.from c ≡ G.from c → Rely env mix c M G M' G'
      → Knows c job M G → Knows c job M' G'
  Knows-rely c None M M' G G' whole from rely knows =
      Knowing-rely env mix c M M' G G' holds_no known_nothing whole from rely knows
  Knows-rely c (Some job) M M' G G' whole from rely knows = JobKnows-rely env mix c job M M' G G'
      whole from rely knows

  -- what a caller knows after an operation is what the job that is left says
  pub knows-told : (c : ℕ) (r : Job × Next Ending) (M : Memory) (G : Ghost) → JobNext env mix c r M G
      → Knows c (told r).0 M G
  knows-told c (job, Go) M G knows = knows
  knows-told c (job, Done ending) M G knows = record { only = knows.knowing.only; means = knows.knowing.means }

  -- and it goes on with what it may do
  pub holds-told : (over : Bool) (job : Job) (old : ℕ) → MayHold over job → MayHoldAs over (told (job_after mix env job old)).0
  holds-told over job old may = go (job_after mix env job old) (same_call mix env job old)
    where
      go : (r : Job × Next Ending) → call_of r.0 ≡ call_of job → MayHoldAs over (told r).0
      go (next, Go) same = subst (λ call. may_hold over call ≡ true) (sym same) may
      go (next, Done ending) same = tt

  module _ (L : Type 0) where
    -- who begins a call that it may make does so with what it may do
    pub begun_holds : (over : Bool) (c : ℕ) (batch : Option BatchModel) (start : ℕ) (call : Call) (machine : Doing L)
        → machine_from env c batch call start ≡ Some machine → may_hold over call ≡ true → MayHoldAs over (job_of machine)
    begun_holds over c batch start call machine is may =
        let first = first_job-machine env c batch start call machine is in
        subst (MayHoldAs over) (sym first.does) (subst (λ asked. may_hold over asked ≡ true) (sym first.asked) may)

    -- a tidying that begins has its caller's nodes
    pub begun_owns : (c : ℕ) (batch : BatchModel) (G : Ghost) → OwnsNodes env mix c (batch.fresh ++ batch.waiting) G
        → OwnsNodes env mix c (nodes_left (begun batch).0 (begun batch).1) G
    begun_owns c batch G owns = go (length batch.waiting) refl
      where
        waits : (found : Option ℕ) → OwnsNodes env mix c (nodes_left batch (asked_at found)) G
        waits None = owns
        waits (Some caller) = owns

        go : (count : ℕ) → length batch.waiting ≡ count → OwnsNodes env mix c (nodes_left (begun batch).0 (begun batch).1) G
        go zero none =
            let all : batch.fresh ++ batch.waiting ≡ batch.fresh =
            ap (λ w. batch.fresh ++ w) (nil_from_length batch.waiting none) ∙ append-nil batch.fresh in
            subst (λ (b : BatchModel × TidyAt). OwnsNodes env mix c (nodes_left b.0 b.1) G) (sym (begun-none batch none))
            (subst (λ nodes. OwnsNodes env mix c nodes G) all owns)
        go (suc count) some =
            subst (λ (b : BatchModel × TidyAt). OwnsNodes env mix c (nodes_left b.0 b.1) G)
            (sym (begun-some batch (omega (arith, some)))) (waits (first_odd batch.kept 0))

    -- a caller that is given a call knows what the first state of its machine says
    pub begun_knows : (c : ℕ) (batch : Option BatchModel) (start : ℕ) (call : Call) (machine : Doing L) (M : Memory) (G : Ghost)
        → machine_from env c batch call start ≡ Some machine → KnowsNothing env mix c M G → OwnsNodes env mix c (nodes_in batch) G
        → Knows c (job_of machine) M G
    begun_knows c batch start call machine M G is knows owns =
        begins_so L env c batch start (λ asked first. Knows c (job_of first) M G)
        (λ port. record { knowing = record { only = knows.only; means = knows.means }; fits = tt })
        (λ port owner once. record { knowing = record { only = knows.only; means = knows.means }; fits = (refl, refl) })
        (λ port. record { knowing = record { only = knows.only; means = knows.means }; fits = refl })
        (λ port owner. record { knowing = record { only = knows.only; means = knows.means }; fits = tt })
        (λ port owner new. record {
          knowing = record { only = knows.only; means = knows.means };
          fits = (refl, refl);
        })
        (record { knowing = record { only = knows.only; means = knows.means }; fits = tt })
        (record { knowing = record { only = knows.only; means = knows.means }; fits = tt })
        (λ own has. record {
          knowing = record { only = knows.only; means = knows.means };
          fits = begun_owns c own G (subst (λ b. OwnsNodes env mix c (nodes_in b) G) has owns);
        })
        (λ from limit. record { knowing = record { only = knows.only; means = knows.means }; fits = tt })
        call machine is

    -- a caller in no call has nothing
    pub idle_knows : (c : ℕ) (doing : Doing L) (M : Memory) (G : Ghost) → does_nothing doing ≡ true
        → Knows c (job_of doing) M G → KnowsNothing env mix c M G
    idle_knows c doing M G idle knows = go (job_of doing) (sym (nothing-job doing) ∙ idle) knows
      where
        go : (job : Option Job) → is_no_job job ≡ true → Knows c job M G → KnowsNothing env mix c M G
        go None none knows = knows
        go (Some job) none knows = absurd (cc)

    -- ---- one operation of a caller

    -- the operation that a caller plans is its job's, and is a step
    pub record StepOf (core : Core L) (G : Ghost) (c : ℕ) (op : Op) : Type 0 where
      pub job : Job
      pub is : job_of (local_of core c).doing ≡ Some job
      pub plan : op ≡ soft (local_of core c).held (job_plan env c job)
      pub may : MayHold (local_of core c).held job
      pub within : JobIn env mix c job
      pub knows : JobKnows env mix c job (mem env mix core.words) G
      pub is_open : IsOpenAs (is_in (local_of core c).held (held_of job).section) (G.from c)
      pub low : c < env.geometry.callers
      pub few : c < 16
      pub all : length core.words ≡ words_in env.geometry
      pub step :
          let r = job_after mix env job (old_of core.words op) in
          JobStepOver env mix c (local_of core c).held core.words G op job r

    -- of a caller that holds no section open it is the job's as it is
    pub hard-plan : {core : Core L} {G : Ghost} {c : ℕ} {op : Op} (of : StepOf core G c op) → (local_of core c).held ≡ false
        → op ≡ job_plan env c of.job
    hard-plan {core} {G} {c} of rests =
        of.plan ∙ ap (λ over. soft over (job_plan env c of.job)) rests ∙ soft-none (job_plan env c of.job)

    -- where the whole is true, and the caller knows what its job says
    pub step_from : (core : Core L) (G : Ghost) (c : ℕ) (op : Op) → AllIn L mix env core → Whole env mix (mem env mix core.words) G
        → Knows c (job_of (local_of core c).doing) (mem env mix core.words) G
        → (c < 16 → IsOpenAs (is_in (local_of core c).held (in_section (job_of (local_of core c).doing))) (G.from c))
        → MayHoldAs (local_of core c).held (job_of (local_of core c).doing)
        → planned_in core c ≡ Some op
        → StepOf core G c op
    step_from core G c op sound whole each opens holds is =
        let can = planned-some core.env core.enrolled core.locals c op is in
        let doing = (local_of core c).doing in
        let over = (local_of core c).held in
        let plans = plan-job env c (local_of core c) op (sound.locals c).doing can.plan in
        let job = plans.job in
        let knows = subst (λ j. Knows c j (mem env mix core.words) G) plans.does each in
        let low : c < env.geometry.callers = omega (arith, can.below, sound.stays.few_enrolled) in
        let local = sound.locals c in
        let few : c < 16 = (let callers = env.geometry.within.callers_within in omega (arith, low, callers.1)) in
        let is_open = subst (λ j. IsOpenAs (is_in over (in_section j)) (G.from c)) plans.does (opens few) in
        let may = subst (MayHoldAs over) plans.does holds in
        let within = job-in L env mix c doing job (local_of core c).owners plans.does local.doing local.owners in
        record {
          job = job;
          is = plans.does;
          plan = plans.plan;
          may = may;
          within = within;
          knows = knows;
          is_open = is_open;
          low = low;
          few = few;
          all = sound.stays.all_words;
          step = subst (λ o. let r = job_after mix env job (old_of core.words o) in
              JobStepOver env mix c over core.words G o job r) (sym plans.plan)
              (held_step env mix c low core.words G sound.stays.all_words whole over job may is_open within knows);
        }

    -- others see no node taken out
    pub others_outs : (k : ℕ) (M M' : Memory) (G G' : Ghost) → Rely env mix k M G M' G'
        → outs env mix G' k ≡ outs env mix G k
    others_outs k M M' G G' rely =
        count_below-same (λ n. is_taken_by k (G.node n)) (λ n. is_taken_by k (G'.node n))
        env.geometry.nodes (λ n l. rely.taken n)
