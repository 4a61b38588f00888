-- In every run a node that a call hands out may be put into its caller's batch, and no node stands in a batch twice. So each batch is sound
-- before each event.
use Rattle.std.proofs.Common.{◌≡◌, ℕ, List, take, drop, Option, Some, None, sym, subst}
use Rattle.std.proofs.lemmas.List.{take-append-drop}
use Rattle.rht_words.specs.declared.op.Op.{Op}
use Rattle.rht_words.specs.declared.env.Env.{Env}
use Rattle.rht_words.specs.Operations.{old_of}
use Rattle.rht_words.proofs.EachElement.{AllByRecursion-cut}
use Rattle.rht_grace.specs.Batch.{BatchModel, IsBatch}
use Rattle.rht_callers.specs.Batches.{IsBatchIn, IsSoundBatch, CanPut, batch_room, out_of}
use Rattle.rht_core.specs.declared.event.Event.{Event}
use Rattle.rht_core.specs.Laws.{IsInRange, InRange}
use Rattle.rht_core.specs.Runs.{Core, run_of, local_of, planned_in, IsAdmitted, IsAdmittedEvent}
use Rattle.rht_core.specs.Tidied.{batch_or, batch_before}
use Rattle.rht_core.proofs.Events.OwnBatches.{put_by}
use Rattle.rht_core.proofs.Events.Invariants.{step_of}
use Rattle.rht_core.proofs.Events.InvariantRuns.{has_inv}
use Rattle.rht_core.proofs.Events.RangesInRuns.{plans-in, few-planning}
use Rattle.rht_core.proofs.Events.SoundRuns.{IsSound-stays, runs-in}

module _ (env : Env) (mix : ℕ → ℕ → ℕ → ℕ) (L : Type 0) where
  -- what a caller hands out it may put in
  pub may_put : (events : List Event) → IsAdmitted events → (c : ℕ) (op : Op)
      → let core = (run_of {M = L} mix env events).core in
      planned_in core c ≡ Some op → CanPut (local_of core c).batch (out_of mix (local_of core c).doing (old_of core.words op))
  may_put events admitted c op plan =
      let has = has_inv env mix L events admitted in
      let core = (run_of {M = L} mix env events).core in
      let of = step_of env mix L core has.ghost c op has.all has.inv plan in
      put_by env mix L core has.ghost has.all has.inv.whole c op of (has.inv.batches c)

  -- all that is in range, and each batch sound
  pub in_range : (events : List Event) → IsAdmitted events → IsInRange {M = L} env (run_of mix env events).core
  in_range events admitted =
      let has = has_inv env mix L events admitted in
      let all = has.all in
      let core = (run_of {M = L} mix env events).core in
      record {
        same_env = all.stays.same_env;
        sound = IsSound-stays L mix env core all.stays;
        locals = all.locals;
        batches = λ c. (has.inv.batches c).sound;
        plans = λ c op is. plans-in L env mix c (local_of core c) op (few-planning L mix env core c op all.stays is) (all.locals c) is;
      }

  -- ---- before each event

  -- a caller's batch is sound, and the table's
  abbrev pub AreSound : List Event → ℕ → Type 0
  AreSound events c =
      (index : ℕ) → let own = batch_before L mix env events c index in IsBatch own × (own.geometry ≡ env.geometry)

  sound-or : (batch : Option BatchModel) → IsSoundBatch batch → IsBatchIn env batch
      → IsBatch (batch_or env.geometry batch) × ((batch_or env.geometry batch).geometry ≡ env.geometry)
  sound-or None sound in_table = absurd sound
  sound-or (Some batch) sound in_table = (sound, in_table)

  pub sound_before : (events : List Event) (c : ℕ) → IsAdmitted events → AreSound events c
  sound_before events c admitted index =
      let before = take index events in
      let first = (AllByRecursion-cut IsAdmittedEvent before (drop index events)
      (subst IsAdmitted (sym (take-append-drop index events)) admitted)).0 in
      let core : Core L = (run_of {M = L} mix env before).core in
      let stays = runs-in L mix env before in
      let batch = batch_room (local_of core c).doing (local_of core c).batch in
      subst (λ (e : Env). let own = batch_or e.geometry batch in IsBatch own × (own.geometry ≡ env.geometry)) (sym stays.same_env)
      (sound-or batch ((in_range before first).batches c) (stays.locals_of c).batch)

pub all_in_range : (L : Type 0) (mix : ℕ → ℕ → ℕ → ℕ) → InRange L mix
all_in_range L mix env events admitted = in_range env mix L events admitted
