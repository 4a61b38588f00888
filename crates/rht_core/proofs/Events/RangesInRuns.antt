-- In every run all that callers name is in range, and each word is one: what each caller does names nothing that the table
-- hasn't, and its operation is on one of the words and brings what a word can have.
-- It holds at opening, where every caller is idle and the words are small. An admitted call begins in range, and each machine
-- stays in range whatever word it is told; so what it stores is a word, and it is told words. Since no machine plans an
-- operation on the word of the enrolled callers, an Enroll alone changes that word.
use Rattle.std.proofs.Common.{Bool, ◌&&◌, ◌≡◌, ℕ, ◌-◌, ◌*◌, ◌<◌, List, length, min, refl, sym, ap, subst, ◌∙◌, inl, inr, arith}
use Rattle.std.specs.Prelude.{Option, Some, None, ◌==◌}
use Rattle.std.specs.List.{AllByRecursion}
use Rattle.std.proofs.Math.Pow.{pow_mono}
use Rattle.std.proofs.lemmas.Bool.{cases_lt, cond_both}
use Rattle.std.proofs.lemmas.List.{get_or_past, length-replicate}
use Rattle.std.proofs.lemmas.Nat.{trailing_le}
use Rattle.rht_words.specs.declared.op.Op.{Op}
use Rattle.rht_words.specs.declared.op.Op.TheVariants.{Load, Store, Exchange, Add, Sub, And, Or}
use Rattle.rht_words.specs.declared.env.Env.{Env}
use Rattle.rht_words.specs.declared.geometry.Geometry.{Geometry}
use Rattle.rht_words.specs.Operations.{old_of}
use Rattle.rht_words.specs.Maps.{map_bits}
use Rattle.rht_words.specs.Opening.{first_slot, opening_word}
use Rattle.rht_words.specs.Sizes.{first_size}
use Rattle.rht_words.specs.Places.{Address, EnrolledCallers, NextSerial, Slot, NodeMap, PageMap, SlotWord, ShapeWord, SeedWord, StateWord, map_words, place_of, word_at, address_at}
use Rattle.rht_words.specs.Planned.{IsWord, IsPlannedIn}
use Rattle.rht_words.proofs.WordChanges.{applied-other}
use Rattle.rht_words.proofs.PlannedWords.{applied-fit, old_of-fits}
use Rattle.rht_words.proofs.EachElement.{AllByRecursion-map, each_set, each_replicate}
use Rattle.rht_model.specs.declared.history.Call.{Call}
use Rattle.rht_model.specs.Rooms.{Kept}
use Rattle.rht_find.specs.Find.{find_after, IsFindAtIn}
use Rattle.rht_find.proofs.FindStays.{find_stays}
use Rattle.rht_find.proofs.FindPlanned.{planned_find}
use Rattle.rht_bind.specs.Bind.{bind_after, IsBindAtIn}
use Rattle.rht_bind.proofs.BindStays.{bind_stays}
use Rattle.rht_bind.proofs.BindPlanned.{planned_bind}
use Rattle.rht_release.specs.All.{all_after, IsAllAtIn}
use Rattle.rht_release.proofs.AllStays.{all_stays, room_stays}
use Rattle.rht_release.proofs.AllPlanned.{planned_all}
use Rattle.rht_release.specs.Release.{release_after, IsReleaseAtIn}
use Rattle.rht_release.proofs.ReleaseStays.{release_stays}
use Rattle.rht_release.proofs.ReleasePlanned.{planned_release}
use Rattle.rht_release.specs.Rebind.{rebind_after, IsRebindAtIn}
use Rattle.rht_release.proofs.RebindStays.{rebind_stays}
use Rattle.rht_release.proofs.RebindPlanned.{planned_rebind}
use Rattle.rht_move.specs.Work.{work_after, IsWorkAtIn}
use Rattle.rht_move.proofs.WorkStays.{work_stays}
use Rattle.rht_move.proofs.WorkPlanned.{planned_work}
use Rattle.rht_walk.specs.Walk.{walk_after, IsWalkAtIn}
use Rattle.rht_walk.proofs.WalkStays.{walk_stays}
use Rattle.rht_walk.proofs.WalkPlanned.{planned_walk}
use Rattle.rht_core.specs.declared.event.Event.{Event}
use Rattle.rht_core.specs.declared.event.Event.TheVariants.{Enroll, Begin, Step}
use Rattle.rht_grace.specs.Batch.{BatchModel}
use Rattle.rht_grace.specs.Tidy.{TidyModel, after_at, moved}
use Rattle.rht_grace.specs.declared.tidy.TidyAt.{TidyAt}
use Rattle.rht_words.specs.declared.machine.Next.{Next}
use Rattle.rht_words.specs.declared.machine.Next.TheVariants.{Go, Done}
use Rattle.rht_model.specs.declared.history.Reply.{Reply}
use Rattle.rht_words.proofs.WordsBegun.{start_in-within}
use Rattle.rht_callers.specs.PortCounts.{count_plan_in}
use Rattle.rht_callers.specs.declared.local.Local.{Local}
use Rattle.rht_callers.specs.declared.local.Doing.{Doing}
use Rattle.rht_callers.specs.declared.local.Doing.TheVariants.{Idle, Finding, Binding, Releasing, Rebinding, Listing, Working, Counting, Tidying, Walking}
use Rattle.rht_callers.specs.Locals.{fresh, machine_from, turns_section, soft, begin_with, plan_of, doing_next, doing_after, local_after, owners_room, without_node}
use Rattle.rht_core.specs.Runs.{Core, World, local_of, beginning_in, with_machine, planned_in, with_step, enrolling, world_step, run_of, opening, IsAdmitted, IsAdmittedCall, IsAdmittedEvent}
use Rattle.rht_core.specs.Laws.{IsDoingIn, IsLocalIn, WordsFit, IsOfCaller, IsEnrolledKept, Enrolled}
use Rattle.rht_core.specs.Jobs.{Job, finds, binds, lists, releases, rebinds, works, tidies, walks, counts, job_plan, job_of}
use Rattle.rht_core.specs.Tidyings.{IsTidyingIn, IsTidyingOf}
use Rattle.rht_core.proofs.Machines.JobSteps.{JobIn}
use Rattle.rht_core.proofs.Machines.TidyRanges.{tidying_stays, tidying_begins, planned_tidying}
use Rattle.rht_callers.proofs.CallBeginnings.{begins_so}
use Rattle.rht_callers.proofs.NextDoings.{next_so}
use Rattle.rht_callers.proofs.RoomsOfCallers.{idle-limit, begun-limit, owners_after-limit, idle-pairs, begun-pairs, pairs_after-limit}
use Rattle.rht_core.proofs.Events.Worlds.{beginning-some, planned-some, run_of-push, run_keeps_admitted}
use Rattle.rht_callers.specs.Batches.{IsBatchIn, AreNodesIn, HasWords, out_of}
use Rattle.rht_callers.proofs.BatchesOfCallers.{begun-same, begun-low, begun-words, HasWords-out, idle-batch, begun-batch, batch_after-so, batch_after-in, AreNodesIn-out}
use Rattle.rht_core.proofs.Events.HandedOut.{out_in}
use Rattle.rht_core.proofs.Events.JobsOfCallers.{first-so, plan-job}
use Rattle.rht_core.proofs.Events.SoundRuns.{StaysIn, opens-in, stays-in, has_place, made_in, step-count}

-- ---- at opening

first_slot-fits : (env : Env) (word : SlotWord) → IsWord (first_slot env word)
first_slot-fits env ShapeWord = omega (arith, trailing_le 32 (first_size env.config))
first_slot-fits env SeedWord = let seed = env.settled.seed in omega arith
first_slot-fits env StateWord = omega arith
first_slot-fits env _ = omega arith

map_bits-fits : (count index : ℕ) → IsWord (map_bits count index)
map_bits-fits count index = omega (arith, pow_mono {i = min 64 (count - 64 * index)} {j = 64} (omega arith))

opening_word-fits : (env : Env) (a : Address) → IsWord (opening_word env a)
opening_word-fits env NextSerial = omega arith
opening_word-fits env (Slot slot word) =
    cond_both (slot == 0) (first_slot env word) 0 IsWord (λ t. first_slot-fits env word) (λ f. omega arith)
opening_word-fits env (NodeMap index) = map_bits-fits env.geometry.nodes index
opening_word-fits env (PageMap index) = omega (arith, map_bits-fits env.geometry.pages index)
opening_word-fits env _ = omega arith

-- ---- what a caller does

-- the reading of the count is on one of the words
planned_count : (env : Env) → IsPlannedIn env.geometry (count_plan_in env)
planned_count env = record { within = omega arith; apart = λ same. absurd (omega arith); fits = omega arith }

-- the operation of a job in range is on a word
pub planned_job : (env : Env) (mix : ℕ → ℕ → ℕ → ℕ) (c : ℕ) (job : Job) → c < 16 → JobIn env mix c job
    → IsPlannedIn env.geometry (job_plan env c job)
planned_job env mix c (finds port state) few within = planned_find env c state few within
planned_job env mix c (binds port owner once state) few within = planned_bind env c state few within.at_in
planned_job env mix c (lists port room state) few within = planned_all env c state few within.at_in
planned_job env mix c (releases port owner state) few within = planned_release env c state few within
planned_job env mix c (rebinds port owner new state) few within = planned_rebind env c state few within.at_in
planned_job env mix c (works state) few within = planned_work env c state few within
planned_job env mix c (tidies batch state) few within = planned_tidying env.geometry batch state within
planned_job env mix c (walks from limit room state) few within = planned_walk env.geometry c state few within
planned_job env mix c counts few within = planned_count env

-- an operation in a hold is on a word of the table too
pub soft-in : (g : Geometry) (over : Bool) (op : Op) → IsPlannedIn g op → IsPlannedIn g (soft over op)
soft-in g over (Add place by) planned =
    cond_both (turns_section place by && over) _ _ (IsPlannedIn g) (λ t. record { within = planned.within; apart = planned.apart; fits = omega arith }) (λ f. planned)
soft-in g over (Load place) planned = planned
soft-in g over (Store place value) planned = planned
soft-in g over (Exchange place old new) planned = planned
soft-in g over (Sub place by) planned = planned
soft-in g over (And place mask) planned = planned
soft-in g over (Or place mask) planned = planned

module _ (M : Type 0) where
  -- a caller that begins an admitted call begins in range
  begins-in : (env : Env) (c : ℕ) (batch : Option BatchModel) (start : ℕ) → IsBatchIn env batch → AreNodesIn env.geometry.nodes batch
      → HasWords env.geometry.callers batch
      → (call : Call) (machine : Doing M) → machine_from env c batch call start ≡ Some machine
      → IsAdmittedCall call → IsDoingIn env c machine
  begins-in env c batch start same among words =
      begins_so M env c batch start (λ call machine. IsAdmittedCall call → IsDoingIn env c machine)
      (λ port admitted. record { same_env = refl; same_caller = refl; port_in = admitted; at_in = tt })
      (λ port owner once admitted. record {
        same_env = refl;
        same_caller = refl;
        port_in = admitted.0;
        owner_in = admitted.1;
        at_in = record {
          geometry_same = refl;
          key_in = (let small = admitted.0 in omega arith);
          owner_in = (let small = admitted.1 in omega arith);
          at_in = record { geometry_same = refl; at_in = start_in-within env start };
        };
      })
      (λ port admitted. record { same_env = refl; same_caller = refl; port_in = admitted; at_in = tt; room_in = refl })
      (λ port owner admitted. record {
        same_env = refl;
        same_caller = refl;
        port_in = admitted.0;
        owner_in = admitted.1;
        at_in = tt;
      })
      (λ port owner new admitted. record {
        same_env = refl;
        same_caller = refl;
        port_in = admitted.0;
        owner_in = admitted.1;
        new_owner_in = admitted.2;
        at_in = record {
          geometry_same = refl;
          key_in = (let small = admitted.0 in omega arith);
          owner_in = (let small = admitted.2 in omega arith);
          at_in = record { geometry_same = refl; at_in = start_in-within env start };
        };
      })
      (λ admitted. record { same_env = refl; same_caller = refl; at_in = tt })
      (λ admitted. refl)
      (λ own has admitted. record {
        same_geometry = refl;
        at_in =
            tidying_begins env.geometry own (subst (IsBatchIn env) has same) (subst (AreNodesIn env.geometry.nodes) has among)
            (subst (HasWords env.geometry.callers) has words);
      })
      (λ from limit admitted. record { same_env = refl; same_caller = refl; at_in = tt })

  -- a tidying that goes on is in range still
  tidied-in : (env : Env) (c : ℕ) (m : TidyModel) (came : BatchModel × TidyAt × Next Reply) → m.geometry ≡ env.geometry
      → IsTidyingIn env.geometry came.0 came.1
      → IsDoingIn {M = M} env c (doing_next Tidying (moved m came)).0
  tidied-in env c m (batch, state, Go) same within = record { same_geometry = same; at_in = within }
  tidied-in env c m (batch, state, Done reply) same within = tt

  tidied-right : (env : Env) (m : TidyModel) (old : ℕ) → IsTidyingOf env m
      → let came = after_at m.geometry m.batch m.at old in IsTidyingIn env.geometry came.0 came.1
  tidied-right env m old within =
      subst (λ g. let came = after_at g m.batch m.at old in IsTidyingIn env.geometry came.0 came.1) (sym within.same_geometry)
      (tidying_stays env.geometry m.batch m.at old within.at_in)

  -- a caller that is told a word stays in range
  doing_after-in : (mix : ℕ → ℕ → ℕ → ℕ) (env : Env) (c : ℕ) (doing : Doing M) (old : ℕ)
      → IsDoingIn env c doing → IsWord old
      → IsDoingIn env c (doing_after mix doing old).0
  doing_after-in mix env c Idle old within told = tt
  doing_after-in mix env c (Finding m) old within told =
      let here = subst (λ (e : Env). IsFindAtIn e m.at) (sym within.same_env) within.at_in in
      let next = find_stays mix m.env m.port m.at old here told in
      next_so (IsDoingIn env c) Finding tt (find_after mix m old).0 (find_after mix m old).1 record {
        same_env = within.same_env;
        same_caller = within.same_caller;
        port_in = within.port_in;
        at_in = subst (λ (e : Env). IsFindAtIn e (find_after mix m old).0.at) within.same_env next;
      }
  doing_after-in mix env c (Binding m) old within told =
      let here = subst (λ (e : Env). IsBindAtIn e m.at) (sym within.same_env) within.at_in in
      let next = bind_stays mix m.env m.port m.once m.at old here told in
      next_so (IsDoingIn env c) Binding tt (bind_after mix m old).0 (bind_after mix m old).1 record {
        same_env = within.same_env;
        same_caller = within.same_caller;
        port_in = within.port_in;
        owner_in = within.owner_in;
        at_in = subst (λ (e : Env). IsBindAtIn e (bind_after mix m old).0.at) within.same_env next;
      }
  doing_after-in mix env c (Listing m) old within told =
      let here = subst (λ (e : Env). IsAllAtIn e m.at) (sym within.same_env) within.at_in in
      let next = all_stays mix m.env m.port m.at old here told in
      next_so (IsDoingIn env c) Listing tt (all_after mix m old).0 (all_after mix m old).1 record {
        same_env = within.same_env;
        same_caller = within.same_caller;
        port_in = within.port_in;
        at_in = subst (λ (e : Env). IsAllAtIn e (all_after mix m old).0.at) within.same_env next;
        room_in = room_stays mix m.env m.port m.at m.room old within.room_in;
      }
  doing_after-in mix env c (Releasing m) old within told =
      let here = subst (λ (e : Env). IsReleaseAtIn e m.at) (sym within.same_env) within.at_in in
      let next = release_stays mix m.env m.port m.owner m.at old here told in
      next_so (IsDoingIn env c) Releasing tt (release_after mix m old).0 (without_node (release_after mix m old).1) record {
        same_env = within.same_env;
        same_caller = within.same_caller;
        port_in = within.port_in;
        owner_in = within.owner_in;
        at_in = subst (λ (e : Env). IsReleaseAtIn e (release_after mix m old).0.at) within.same_env next;
      }
  doing_after-in mix env c (Rebinding m) old within told =
      let here = subst (λ (e : Env). IsRebindAtIn e m.at) (sym within.same_env) within.at_in in
      let next = rebind_stays mix m.env m.port m.owner m.at old here told in
      next_so (IsDoingIn env c) Rebinding tt (rebind_after mix m old).0 (without_node (rebind_after mix m old).1) record {
        same_env = within.same_env;
        same_caller = within.same_caller;
        port_in = within.port_in;
        owner_in = within.owner_in;
        new_owner_in = within.new_owner_in;
        at_in = subst (λ (e : Env). IsRebindAtIn e (rebind_after mix m old).0.at) within.same_env next;
      }
  doing_after-in mix env c (Working m) old within told =
      let here = subst (λ (e : Env). IsWorkAtIn e m.at) (sym within.same_env) within.at_in in
      let next = work_stays mix m.env m.at old here told in
      next_so (IsDoingIn env c) Working tt (work_after mix m old).0 (work_after mix m old).1 record {
        same_env = within.same_env;
        same_caller = within.same_caller;
        at_in = subst (λ (e : Env). IsWorkAtIn e (work_after mix m old).0.at) within.same_env next;
      }
  doing_after-in mix env c (Tidying m) old within told =
      tidied-in env c m (after_at m.geometry m.batch m.at old) within.same_geometry (tidied-right env m old within)
  doing_after-in mix env c (Walking m) old within told =
      let here = subst (λ (e : Env). IsWalkAtIn e.geometry m.at) (sym within.same_env) within.at_in in
      let next = walk_stays m.env.geometry m.from m.limit (length m.room.items) m.at old here in
      next_so (IsDoingIn env c) Walking tt (walk_after m old).0 (walk_after m old).1 record {
        same_env = within.same_env;
        same_caller = within.same_caller;
        at_in = subst (λ (e : Env). IsWalkAtIn e.geometry (walk_after m old).0.at) within.same_env next;
      }
  doing_after-in mix env c (Counting m) old within told = tt

  module _ (env : Env) (mix : ℕ → ℕ → ℕ → ℕ) (c : ℕ) where
    -- what a caller does that is in range is a job that is
    pub job-in : (doing : Doing M) (job : Job) (room : Kept ℕ) → job_of doing ≡ Some job → IsDoingIn env c doing
        → (owners_room doing room).limit ≡ env.geometry.nodes → JobIn env mix c job
    job-in Idle job room is within roomy = absurd (cc)
    job-in (Finding m) job room is within roomy = first-so (JobIn env mix c) (Some (finds m.port m.at)) job within.at_in is
    job-in (Binding m) job room is within roomy =
        first-so (JobIn env mix c) (Some (binds m.port m.owner m.once m.at)) job
        (record { port_in = within.port_in; owner_in = within.owner_in; at_in = within.at_in }) is
    job-in (Listing m) job room is within roomy =
        first-so (JobIn env mix c) (Some (lists m.port m.room m.at)) job (record { at_in = within.at_in; roomy = roomy }) is
    job-in (Releasing m) job room is within roomy = first-so (JobIn env mix c) (Some (releases m.port m.owner m.at)) job within.at_in is
    job-in (Rebinding m) job room is within roomy =
        first-so (JobIn env mix c) (Some (rebinds m.port m.owner m.new_owner m.at)) job
        (record { new_in = within.new_owner_in; at_in = within.at_in }) is
    job-in (Working m) job room is within roomy = first-so (JobIn env mix c) (Some (works m.at)) job within.at_in is
    job-in (Tidying m) job room is within roomy = first-so (JobIn env mix c) (Some (tidies m.batch m.at)) job within.at_in is
    job-in (Walking m) job room is within roomy =
        first-so (JobIn env mix c) (Some (walks m.from m.limit m.room m.at)) job within.at_in is
    job-in (Counting m) job room is within roomy = first-so (JobIn env mix c) (Some counts) job tt is

    -- so the operation that it plans is on a word
    pub plans-in : (local : Local M) (op : Op) → c < 16 → IsLocalIn env c local → plan_of local ≡ Some op
        → IsPlannedIn env.geometry op
    plans-in local op few within is =
        let plans = plan-job env c local op within.doing is in
        subst (IsPlannedIn env.geometry) (sym plans.plan)
        (soft-in env.geometry local.held (job_plan env c plans.job) (planned_job env mix c plans.job few (job-in local.doing plans.job local.owners plans.does within.doing within.owners)))

-- ---- runs

module _ (M : Type 0) (mix : ℕ → ℕ → ℕ → ℕ) (env : Env) where
  -- what each admitted event keeps
  pub record AllIn (core : Core M) : Type 0 where
    pub stays : StaysIn M mix env core
    pub words : AllByRecursion IsWord core.words
    pub locals : (c : ℕ) → IsLocalIn env c (local_of core c)

  -- who is enrolled is one of at most 16 callers
  few-enrolled : (core : Core M) (c : ℕ) → StaysIn M mix env core → c < core.enrolled → c < 16
  few-enrolled core c stays below =
      let callers = env.geometry.within.callers_within in
      let few = stays.few_enrolled in
      omega (arith, below, few, callers.1)

  -- and so is who has an operation to perform
  pub few-planning : (core : Core M) (c : ℕ) (op : Op) → StaysIn M mix env core → plan_of (local_of core c) ≡ Some op → c < 16
  few-planning core c op stays is = elim (cases_lt c (length core.locals)) [
    | inl below ↦
        let callers = env.geometry.within.callers_within in
        let all = stays.all_locals in
        omega (arith, below, all, callers.1)
    | inr past ↦
        let fresh_one = ap plan_of (get_or_past core.locals c (fresh core.env) past) in
        absurd (let both = sym fresh_one ∙ is in cc)
  ]

  pub opens-all : AllIn (opening env).core
  opens-all = record {
    stays = opens-in M mix env;
    words =
        AllByRecursion-map IsWord (λ place. opening_word env (address_at env.geometry place))
        (λ place. opening_word-fits env (address_at env.geometry place)) _;
    locals = λ c. each_replicate (IsLocalIn env c) env.geometry.callers c (fresh env)
        record {
          doing = tt;
          owners = refl;
          pairs = refl;
          batch = refl;
          among = tt;
          words = length-replicate env.geometry.callers 0;
        };
  }

  begin-all : (core : Core M) (c : ℕ) (call : Call) (start : ℕ) (machine : Option (Doing M)) → IsAdmittedCall call
      → beginning_in core c call start ≡ machine → AllIn core
      → (k : ℕ)
      → IsLocalIn env k (local_of (record core {
        locals = with_machine core.env core.locals c machine;
      }) k)
  begin-all core c call start None admitted is all k = all.locals k
  begin-all core c call start (Some machine) admitted is all k =
      let can = beginning-some core.env core.enrolled core.locals c call start machine is in
      let made = made_in M mix env core c call start machine all.stays can in
      let here = all.locals c in
      let in_table = idle-batch M (IsBatchIn env) (local_of core c) can.idle here.batch in
      let low = idle-batch M (AreNodesIn env.geometry.nodes) (local_of core c) can.idle here.among in
      let words = idle-batch M (HasWords env.geometry.callers) (local_of core c) can.idle here.words in
      each_set (IsLocalIn env) (fresh core.env) core.locals c (begin_with (local_of core c) machine)
      (has_place M mix env core c all.stays can.below)
      record {
        doing = begins-in M env c (local_of core c).batch start in_table low words call machine made admitted;
        owners =
            begun-limit M env c (local_of core c).batch start call machine made (local_of core c).owners
            (idle-limit M (local_of core c) env.geometry.nodes can.idle here.owners);
        pairs =
            begun-pairs M env c (local_of core c).batch start call machine made (local_of core c).pairs
            (idle-pairs M (local_of core c) env.geometry.nodes can.idle here.pairs);
        batch =
            begun-batch M (IsBatchIn env) env c (local_of core c).batch start call machine made in_table
            (λ own has. begun-same own ∙ subst (IsBatchIn env) has in_table);
        among =
            begun-batch M (AreNodesIn env.geometry.nodes) env c (local_of core c).batch start call machine made low
            (λ own has. begun-low env.geometry.nodes own (subst (AreNodesIn env.geometry.nodes) has low));
        words =
            begun-batch M (HasWords env.geometry.callers) env c (local_of core c).batch start call machine made words
            (λ own has. begun-words own ∙ subst (HasWords env.geometry.callers) has words);
      }
      all.locals k

  record StepsIn (core : Core M) : Type 0 where
    words : AllByRecursion IsWord core.words
    locals : (c : ℕ) → IsLocalIn env c (local_of core c)

  step-all : (core : Core M) (c : ℕ) (op : Option Op) → planned_in core c ≡ op → AllIn core
      → StepsIn (with_step mix core c op).0
  step-all core c None is all = record { words = all.words; locals = all.locals }
  step-all core c (Some op) is all =
      let can = planned-some core.env core.enrolled core.locals c op is in
      let here = all.locals c in
      let plan = plans-in M env mix c (local_of core c) op (few-enrolled core c all.stays can.below) here can.plan in
      let old = old_of core.words op in
      let next = local_after mix (local_of core c) old in
      record {
        words = applied-fit core.words op plan.fits all.words;
        locals =
            each_set (IsLocalIn env) (fresh core.env) core.locals c next.0
            (has_place M mix env core c all.stays can.below)
            record {
              doing = doing_after-in M mix env c (local_of core c).doing old here.doing
                  (old_of-fits core.words op all.words);
              owners =
                  owners_after-limit M mix (local_of core c).doing (local_of core c).owners old
                  ∙ here.owners;
              pairs =
                  pairs_after-limit M mix (local_of core c).doing (local_of core c).pairs old
                  ∙ here.pairs;
              batch = batch_after-in M mix env (local_of core c).doing (local_of core c).batch old here.batch;
              among =
                  batch_after-so M (AreNodesIn env.geometry.nodes) mix (local_of core c).doing (local_of core c).batch old
                  here.among
                  (λ beside. AreNodesIn-out env.geometry.nodes (local_of core c).batch (out_of mix (local_of core c).doing old)
                  (λ node is. out_in mix env c (local_of core c).doing old node here.doing is)
                  (subst (AreNodesIn env.geometry.nodes) beside here.among))
                  (λ m same. let now = tidied-right M env m old (subst (IsDoingIn env c) same here.doing) in now.among);
              words =
                  batch_after-so M (HasWords env.geometry.callers) mix (local_of core c).doing (local_of core c).batch old
                  here.words
                  (λ beside. HasWords-out env.geometry.callers (local_of core c).batch (out_of mix (local_of core c).doing old)
                  (subst (HasWords env.geometry.callers) beside here.words))
                  (λ m same. let now = tidied-right M env m old (subst (IsDoingIn env c) same here.doing) in now.words);
            }
            all.locals;
      }

  pub event-all : (w : World M) (event : Event) → IsAdmittedEvent event → AllIn w.core
      → AllIn (world_step mix w event).core
  event-all w Enroll admitted all = record {
    stays = stays-in M mix env w Enroll all.stays;
    words = applied-fit w.core.words (enrolling w.core.env) (omega arith) all.words;
    locals = all.locals;
  }
  event-all w (Begin c call start) admitted all = record {
    stays = stays-in M mix env w (Begin c call start) all.stays;
    words = all.words;
    locals = begin-all w.core c call start (beginning_in w.core c call start) admitted.1 refl all;
  }
  event-all w (Step c) admitted all =
      let after = step-all w.core c (planned_in w.core c) refl all in
      record { stays = stays-in M mix env w (Step c) all.stays; words = after.words; locals = after.locals }

  pub runs-all : (events : List Event) → IsAdmitted events
      → AllIn (run_of mix env events).core
  runs-all events admitted =
      run_keeps_admitted M mix (λ (w : World M). AllIn w.core) event-all (opening env)
      events admitted opens-all

  -- ---- who is enrolled

  step-kept : (core : Core M) (c : ℕ) (op : Option Op) → planned_in core c ≡ op
      → AllIn core
      → word_at env.geometry (with_step mix core c op).0.words EnrolledCallers ≡ word_at env.geometry
      core.words EnrolledCallers
  step-kept core c None is all = refl
  step-kept core c (Some op) is all =
      let can = planned-some core.env core.enrolled core.locals c op is in
      let plan = plans-in M env mix c (local_of core c) op (few-enrolled core c all.stays can.below) (all.locals c) can.plan in
      applied-other core.words op (place_of env.geometry EnrolledCallers) (λ e. plan.apart (sym e))

  -- an event of a caller leaves the word of the enrolled callers and how many there are
  event-kept : (w : World M) (event : Event) → IsOfCaller event → AllIn w.core
      → IsEnrolledKept M mix w (world_step mix w event)
  event-kept w Enroll of all = absurd of
  event-kept w (Begin c call start) of all = record { word = refl; count = refl }
  event-kept w (Step c) of all = record {
    word = step-kept w.core c (planned_in w.core c) refl all;
    count = step-count M mix env w.core c (planned_in w.core c);
  }

module _ (M : Type 0) (mix : ℕ → ℕ → ℕ → ℕ) where
  -- the operation that a caller plans is on a word
  pub planned_now : (env : Env) (events : List Event) → IsAdmitted events → (c : ℕ) (op : Op)
      → plan_of (local_of (run_of {M = M} mix env events).core c) ≡ Some op → IsPlannedIn env.geometry op
  planned_now env events admitted c op is =
      let all = runs-all M mix env events admitted in
      let core = (run_of {M = M} mix env events).core in
      plans-in M env mix c (local_of core c) op (few-planning M mix env core c op all.stays is) (all.locals c) is

  pub words_fit : WordsFit M mix
  words_fit env events admitted = (runs-all M mix env events admitted).words

  pub enrolled : Enrolled M mix
  enrolled env events event admitted more of =
      subst (IsEnrolledKept M mix (run_of mix env events)) (sym (run_of-push M mix env events event))
      (event-kept M mix env (run_of mix env events) event of (runs-all M mix env events admitted))
