-- In every run all words and callers are there, and each caller works in the table of the run.
-- It holds at opening, where every caller is idle. A call begins in that table, and no machine leaves it, so nothing has to
-- be known of the events or of the words.
use Rattle.std.proofs.Common.{◌≡◌, ℕ, ◌+◌, ◌<◌, ◌≤◌, List, length, refl, sym, ap, subst, ◌∙◌, arith}
use Rattle.std.specs.Prelude.{Option, Some, None, nat_lt, max, slice_set}
use Rattle.std.specs.List.{AllByRecursion}
use Rattle.std.proofs.lemmas.Bool.{cond_both, ltb-true}
use Rattle.std.proofs.lemmas.List.{length-set, length-replicate}
use Rattle.rht_words.specs.declared.op.Op.{Op}
use Rattle.rht_words.specs.declared.env.Env.{Env}
use Rattle.rht_words.specs.Operations.{old_of, applied}
use Rattle.rht_words.specs.Places.{words_in}
use Rattle.rht_words.proofs.WordChanges.{length-applied}
use Rattle.rht_words.proofs.OpeningLaws.{stand_in_place}
use Rattle.rht_words.proofs.EachElement.{AllByRecursion-set, AllByRecursion-replicate, each_set, each_replicate}
use Rattle.rht_model.specs.declared.history.Call.{Call}
use Rattle.rht_find.specs.Find.{find_after}
use Rattle.rht_bind.specs.Bind.{bind_after}
use Rattle.rht_release.specs.All.{all_after}
use Rattle.rht_release.specs.Release.{release_after}
use Rattle.rht_release.specs.Rebind.{rebind_after}
use Rattle.rht_move.specs.Work.{work_after}
use Rattle.rht_core.specs.declared.event.Event.{Event}
use Rattle.rht_core.specs.declared.event.Event.TheVariants.{Enroll, Begin, Step}
use Rattle.rht_callers.specs.declared.local.Local.{Local}
use Rattle.rht_callers.specs.declared.local.Doing.{Doing}
use Rattle.rht_callers.specs.declared.local.Doing.TheVariants.{Idle, Finding, Binding, Releasing, Rebinding, Listing, Working, Counting, Tidying, Walking}
use Rattle.rht_callers.specs.Locals.{fresh, machine_from, begin_with, doing_after, doing_next, local_after, without_node, IsDoingOf, IsLocalOf}
use Rattle.rht_core.specs.Runs.{Core, World, local_of, beginning_in, with_machine, planned_in, with_step, enrolling, enrolled_after, world_step, run_of, opening, opening_core, IsSound}
use Rattle.rht_callers.proofs.CallBeginnings.{begins_so}
use Rattle.rht_callers.proofs.NextDoings.{next_so}
use Rattle.rht_model.specs.declared.history.Reply.{Reply}
use Rattle.rht_words.specs.declared.machine.Next.{Next}
use Rattle.rht_words.specs.declared.machine.Next.TheVariants.{Go, Done}
use Rattle.rht_grace.specs.Batch.{BatchModel}
use Rattle.rht_grace.specs.Tidy.{TidyModel, after_at, moved}
use Rattle.rht_grace.specs.declared.tidy.TidyAt.{TidyAt}
use Rattle.rht_callers.specs.Batches.{IsBatchIn}
use Rattle.rht_callers.proofs.BatchesOfCallers.{begun-same, idle-batch, begun-batch, batch_after-in}
use Rattle.rht_callers.proofs.RoomsOfCallers.{idle-limit, begun-limit, owners_after-limit, idle-pairs, begun-pairs, pairs_after-limit}
use Rattle.rht_walk.specs.Walk.{walk_after}
use Rattle.rht_core.proofs.Events.Worlds.{CanBegin, beginning-some, planned-some, run_keeps}

-- ---- what a caller does

module _ (M : Type 0) where
  -- who begins does it in the table of the environment
  begins-of : (env : Env) (c : ℕ) (batch : Option BatchModel) (start : ℕ) (call : Call) (machine : Doing M) → machine_from env c batch call start ≡ Some machine
      → IsDoingOf env machine
  begins-of env c batch start =
      begins_so M env c batch start (λ call machine. IsDoingOf env machine) (λ port. refl) (λ port owner once. refl)
      (λ port. refl) (λ port owner. refl) (λ port owner new. refl) refl refl (λ own has. refl) (λ from limit. refl)

  -- a tidying stays in its table
  tidied-of : (env : Env) (m : TidyModel) (came : BatchModel × TidyAt × Next Reply) → IsDoingOf {M = M} env (Tidying m)
      → IsDoingOf {M = M} env (doing_next Tidying (moved m came)).0
  tidied-of env m (batch, state, Go) of = of
  tidied-of env m (batch, state, Done reply) of = tt

  -- who is told a word stays in its table
  doing_after-of : (mix : ℕ → ℕ → ℕ → ℕ) (env : Env) (doing : Doing M) (old : ℕ) → IsDoingOf env doing
      → IsDoingOf env (doing_after mix doing old).0
  doing_after-of mix env Idle old of = tt
  doing_after-of mix env (Finding m) old of =
      next_so (IsDoingOf env) Finding tt (find_after mix m old).0 (find_after mix m old).1 of
  doing_after-of mix env (Binding m) old of =
      next_so (IsDoingOf env) Binding tt (bind_after mix m old).0 (bind_after mix m old).1 of
  doing_after-of mix env (Listing m) old of =
      next_so (IsDoingOf env) Listing tt (all_after mix m old).0 (all_after mix m old).1 of
  doing_after-of mix env (Releasing m) old of =
      next_so (IsDoingOf env) Releasing tt (release_after mix m old).0 (without_node (release_after mix m old).1) of
  doing_after-of mix env (Rebinding m) old of =
      next_so (IsDoingOf env) Rebinding tt (rebind_after mix m old).0 (without_node (rebind_after mix m old).1) of
  doing_after-of mix env (Working m) old of =
      next_so (IsDoingOf env) Working tt (work_after mix m old).0 (work_after mix m old).1 of
  doing_after-of mix env (Tidying m) old of = tidied-of env m (after_at m.geometry m.batch m.at old) of
  doing_after-of mix env (Walking m) old of = next_so (IsDoingOf env) Walking tt (walk_after m old).0 (walk_after m old).1 of
  doing_after-of mix env (Counting m) old of = tt

-- ---- runs

module _ (M : Type 0) (mix : ℕ → ℕ → ℕ → ℕ) (env : Env) where
  -- what each event keeps: all words and callers are there, and each caller works in this table
  pub record StaysIn (core : Core M) : Type 0 where
    pub same_env : core.env ≡ env
    pub all_words : length core.words ≡ words_in env.geometry
    pub all_locals : length core.locals ≡ env.geometry.callers
    pub few_enrolled : core.enrolled ≤ env.geometry.callers
    pub all_local : AllByRecursion (IsLocalOf env) core.locals
    pub locals_of : (c : ℕ) → IsLocalOf env (local_of core c)

  pub opens-in : StaysIn (opening_core env)
  opens-in = record {
    same_env = refl;
    all_words = (stand_in_place env).count;
    all_locals = length-replicate env.geometry.callers (fresh env);
    few_enrolled = omega arith;
    all_local =
        AllByRecursion-replicate (IsLocalOf env) env.geometry.callers (fresh env)
        (record { doing = tt; owners = refl; pairs = refl; batch = refl });
    locals_of = λ c. each_replicate (IsLocalOf env) env.geometry.callers c (fresh env)
        (record { doing = tt; owners = refl; pairs = refl; batch = refl });
  }

  -- a caller that there is has a place in the list
  pub has_place : (core : Core M) (c : ℕ) → StaysIn core → c < core.enrolled → c < length core.locals
  has_place core c stays below = omega (arith, stays.all_locals, stays.few_enrolled)

  -- one caller does something else, in this table
  set-in : (core : Core M) (c : ℕ) (local : Local M) → StaysIn core → c < core.enrolled → IsLocalOf env local
      → StaysIn record core { locals = slice_set core.locals c local }
  set-in core c local stays enrolled of = record {
    same_env = stays.same_env;
    all_words = stays.all_words;
    all_locals = length-set core.locals c local ∙ stays.all_locals;
    few_enrolled = stays.few_enrolled;
    all_local = AllByRecursion-set (IsLocalOf env) core.locals c local of stays.all_local;
    locals_of =
        each_set (λ k other. IsLocalOf env other) (fresh core.env) core.locals c local
        (has_place core c stays enrolled) of stays.locals_of;
  }

  -- the words are changed by an operation
  applied-in : (core : Core M) (op : Op) → StaysIn core
      → StaysIn record core { words = applied core.words op }
  applied-in core op stays = record {
    same_env = stays.same_env;
    all_words = length-applied core.words op ∙ stays.all_words;
    all_locals = stays.all_locals;
    few_enrolled = stays.few_enrolled;
    all_local = stays.all_local;
    locals_of = stays.locals_of;
  }

  enrolled-in : (core : Core M) (old : ℕ) → StaysIn core
      → enrolled_after core.env core.enrolled old ≤ env.geometry.callers
  enrolled-in core old stays =
      let same : core.env.geometry.callers ≡ env.geometry.callers =
      ap (λ (e : Env). e.geometry.callers) stays.same_env in
      cond_both (nat_lt old core.env.geometry.callers) (max core.enrolled (old + 1)) core.enrolled
      (λ n. n ≤ env.geometry.callers)
      (λ t. let below = ltb-true old core.env.geometry.callers t in let few = stays.few_enrolled in omega
      arith)
      (λ f. stays.few_enrolled)

  -- who begins does what the run's environment says
  pub made_in : (core : Core M) (c : ℕ) (call : Call) (start : ℕ) (machine : Doing M) → StaysIn core
      → CanBegin core.env core.enrolled core.locals c call start machine → machine_from env c (local_of core c).batch call start ≡ Some machine
  made_in core c call start machine stays can =
      subst (λ (e : Env). machine_from e c (local_of core c).batch call start ≡ Some machine) stays.same_env can.machine_is

  begin-in : (core : Core M) (c : ℕ) (call : Call) (start : ℕ) (machine : Option (Doing M))
      → beginning_in core c call start ≡ machine → StaysIn core
      → StaysIn record core { locals = with_machine core.env core.locals c machine }
  begin-in core c call start None is stays = stays
  begin-in core c call start (Some machine) is stays =
      let can = beginning-some core.env core.enrolled core.locals c call start machine is in
      let made = made_in core c call start machine stays can in
      set-in core c (begin_with (local_of core c) machine) stays can.below (record {
        doing = begins-of M env c (local_of core c).batch start call machine made;
        owners =
            begun-limit M env c (local_of core c).batch start call machine made (local_of core c).owners
            (idle-limit M (local_of core c) env.geometry.nodes can.idle (stays.locals_of c).owners);
        pairs =
            begun-pairs M env c (local_of core c).batch start call machine made (local_of core c).pairs
            (idle-pairs M (local_of core c) env.geometry.nodes can.idle (stays.locals_of c).pairs);
        batch =
            let in_table = idle-batch M (IsBatchIn env) (local_of core c) can.idle (stays.locals_of c).batch in
            begun-batch M (IsBatchIn env) env c (local_of core c).batch start call machine made in_table
            (λ own has. begun-same own ∙ subst (IsBatchIn env) has in_table);
      })

  step-in : (core : Core M) (c : ℕ) (op : Option Op) → planned_in core c ≡ op → StaysIn core
      → StaysIn (with_step mix core c op).0
  step-in core c None is stays = stays
  step-in core c (Some op) is stays =
      let can = planned-some core.env core.enrolled core.locals c op is in
      let old = old_of core.words op in
      let next = local_after mix (local_of core c) old in
      applied-in (record core { locals = slice_set core.locals c next.0 }) op
      (set-in core c next.0 stays can.below (record {
        doing = doing_after-of M mix env (local_of core c).doing old (stays.locals_of c).doing;
        owners =
            owners_after-limit M mix (local_of core c).doing (local_of core c).owners old
            ∙ (stays.locals_of c).owners;
        pairs =
            pairs_after-limit M mix (local_of core c).doing (local_of core c).pairs old
            ∙ (stays.locals_of c).pairs;
        batch = batch_after-in M mix env (local_of core c).doing (local_of core c).batch old (stays.locals_of c).batch;
      }))

  pub stays-in : (w : World M) (event : Event) → StaysIn w.core → StaysIn (world_step mix w event).core
  stays-in w Enroll stays =
      let after = applied-in w.core (enrolling w.core.env) stays in
      record {
        same_env = after.same_env;
        all_words = after.all_words;
        all_locals = after.all_locals;
        few_enrolled = enrolled-in w.core (old_of w.core.words (enrolling w.core.env)) stays;
        all_local = after.all_local;
        locals_of = after.locals_of;
      }
  stays-in w (Begin c call start) stays =
      begin-in w.core c call start (beginning_in w.core c call start) refl stays
  stays-in w (Step c) stays = step-in w.core c (planned_in w.core c) refl stays

  pub runs-in : (events : List Event) → StaysIn (run_of mix env events).core
  runs-in events = run_keeps M mix (λ (w : World M). StaysIn w.core) stays-in (opening env) events opens-in

  -- the same as said of any words and callers
  pub IsSound-stays : (core : Core M) → StaysIn core → IsSound core
  IsSound-stays core stays =
      let g_same = ap (λ (e : Env). e.geometry) (sym stays.same_env) in
      record {
        all_words = stays.all_words ∙ ap words_in g_same;
        all_locals = stays.all_locals ∙ ap (λ g. g.callers) g_same;
        few_enrolled = subst (λ g. core.enrolled ≤ g.callers) g_same stays.few_enrolled;
        same_env = subst (λ (e : Env). AllByRecursion (IsLocalOf e) core.locals) (sym stays.same_env)
            stays.all_local;
      }

  pub step-count : (core : Core M) (c : ℕ) (op : Option Op)
      → (with_step mix core c op).0.enrolled ≡ core.enrolled
  step-count core c None = refl
  step-count core c (Some op) = refl
