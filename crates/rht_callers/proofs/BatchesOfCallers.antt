-- A caller's batch is one of the table, wherever it lies: with its caller, or in a tidying, which takes it as it begins and gives it
-- back as it ends. Only a tidying, and a call that hands out a node, changes it.
use Rattle.std.proofs.Common.{◌≡◌, ℕ, true, refl, sym, ◌∙◌, subst, ◌+◌, ◌==◌, ◌<◌, ◌∷◌, ◌++◌, [], Bool, false}
use Rattle.std.specs.Prelude.{Option, Some, None, length, nat_lt, if◌then◌else◌}
use Rattle.rht_words.specs.declared.env.Env.{Env}
use Rattle.rht_words.proofs.EachElement.{AllByRecursion-append, AllByRecursion-cut}
use Rattle.rht_words.specs.declared.geometry.Geometry.{Geometry}
use Rattle.rht_words.specs.declared.machine.Next.{Next}
use Rattle.rht_words.specs.declared.machine.Next.TheVariants.{Go, Done}
use Rattle.rht_model.specs.declared.history.Call.{Call}
use Rattle.rht_model.specs.declared.history.Reply.{Reply}
use Rattle.rht_grace.specs.Batch.{BatchModel, turned, with_word, first_odd}
use Rattle.rht_grace.specs.Tidy.{TidyModel, IsTidyAtIn, begun, asked_at, giving, ask, asking, keeping, after_at, moved}
use Rattle.rht_grace.specs.declared.tidy.TidyAt.{TidyAt}
use Rattle.rht_grace.specs.declared.tidy.TidyAt.TheVariants as tidy_at
use Rattle.rht_grace.proofs.BatchNodes.{IsBatch-with_fresh}
use Rattle.rht_grace.proofs.TidyPlanned.{tidy_stays, begun_sound}
use Rattle.rht_callers.specs.declared.local.Local.{Local}
use Rattle.rht_callers.specs.declared.local.Doing.{Doing}
use Rattle.rht_callers.specs.declared.local.Doing.TheVariants.{Idle, Finding, Binding, Listing, Releasing, Rebinding, Working, Counting, Tidying, Walking}
use Rattle.rht_callers.specs.Batches.{IsBatchIn, AreNodesIn, HasWords, IsSoundBatch, CanPut, with_out, node_out, out_of, batch_given, batch_room, batch_beside, batch_after}
use Rattle.rht_callers.specs.Locals.{does_nothing, is_idle, machine_from, doing_after, doing_next, without_node}
use Rattle.rht_find.specs.Find.{find_after}
use Rattle.rht_bind.specs.Bind.{bind_after}
use Rattle.rht_release.specs.All.{all_after}
use Rattle.rht_release.specs.Release.{release_after}
use Rattle.rht_release.specs.Rebind.{rebind_after}
use Rattle.rht_move.specs.Work.{work_after}
use Rattle.rht_walk.specs.Walk.{walk_after}
use Rattle.rht_callers.proofs.CallBeginnings.{begins_so}

-- ---- the table of a batch

-- a tidying's operation leaves it, whatever it finds
abbrev Same : BatchModel → BatchModel × TidyAt × Next Reply → Type 0
Same batch came = came.0.geometry ≡ batch.geometry

-- both ways out of a test do
by_test : (batch : BatchModel) (test : Bool) (some none : BatchModel × TidyAt × Next Reply) → Same batch some → Same batch none
    → Same batch (if test then some else none)
by_test batch true some none is other = is
by_test batch false some none is other = other

giving-same : (batch : BatchModel) (index : ℕ) → Same batch (giving batch index)
giving-same batch index = by_test batch (nat_lt index (length batch.waiting)) _ _ refl refl

ask-same : (batch : BatchModel) (found : Option ℕ) → Same batch (ask batch found)
ask-same batch (Some caller) = refl
ask-same batch None = giving-same batch 0

asking-same : (batch : BatchModel) (caller : ℕ) → Same batch (asking batch caller)
asking-same batch caller = ask-same batch (first_odd batch.kept caller)

keeping-same : (g : Geometry) (batch : BatchModel) (caller : ℕ) → Same batch (keeping g batch caller)
keeping-same g batch caller = by_test batch (nat_lt caller g.callers) _ _ refl (asking-same batch 0)

after_at-same : (g : Geometry) (batch : BatchModel) (at : TidyAt) (word : ℕ) → Same batch (after_at g batch at word)
after_at-same g batch (tidy_at.Keeping caller) word = keeping-same g (with_word batch caller word) (caller + 1)
after_at-same g batch (tidy_at.Asking caller) word = by_test batch _ _ _ refl (asking-same (with_word batch caller 0) (caller + 1))
after_at-same g batch (tidy_at.Giving index) word = giving-same batch (index + 1)

-- what is so of the batch that it begins with, and of that with its fresh nodes waiting, is so of the one that it has then
begun-so : (So : BatchModel → Type 0) (batch : BatchModel) → So batch → So (turned batch) → So (begun batch).0
begun-so So batch is turned_is =
    go (length batch.waiting == 0) (turned batch, tidy_at.Keeping 0) (batch, asked_at (first_odd batch.kept 0)) turned_is is
  where
    go : (none : Bool) (one other : BatchModel × TidyAt) → So one.0 → So other.0 → So (if none then one else other).0
    go true one other here there = here
    go false one other here there = there

-- so its beginning stays in its table, too
pub begun-same : (batch : BatchModel) → (begun batch).0.geometry ≡ batch.geometry
begun-same batch = begun-so (λ b. b.geometry ≡ batch.geometry) batch refl refl

-- it has a word for each caller that it had
pub begun-words : (batch : BatchModel) → length (begun batch).0.kept ≡ length batch.kept
begun-words batch = begun-so (λ b. length b.kept ≡ length batch.kept) batch refl refl

-- and its nodes stay below a number
pub begun-low : (nodes : ℕ) (batch : BatchModel) → AreNodesIn nodes (Some batch) → AreNodesIn nodes (Some (begun batch).0)
begun-low nodes batch low =
    begun-so (λ b. AreNodesIn nodes (Some b)) batch low (AllByRecursion-cut (λ n. n < nodes) batch.fresh batch.waiting low).0

-- it leaves a batch's nodes, and a sound one sound
pub begun-sound : (batch : BatchModel) → IsSoundBatch (Some batch) → IsSoundBatch (Some (begun batch).0)
begun-sound batch sound = let begins = begun_sound batch.geometry batch sound refl in begins.sound

-- a batch with a node more is of the same table, and stays sound
IsBatchIn-out : (env : Env) (batch : Option BatchModel) (removed : Option ℕ) → IsBatchIn env batch
    → IsBatchIn env (with_out batch removed)
IsBatchIn-out env None removed is = is
IsBatchIn-out env (Some batch) None is = is
IsBatchIn-out env (Some batch) (Some node) is = is

-- its nodes stay below a number, where one that is put in is
pub AreNodesIn-out : (nodes : ℕ) (batch : Option BatchModel) (removed : Option ℕ)
    → ((node : ℕ) → removed ≡ Some node → node < nodes) → AreNodesIn nodes batch → AreNodesIn nodes (with_out batch removed)
AreNodesIn-out nodes None removed low is = is
AreNodesIn-out nodes (Some batch) None low is = is
AreNodesIn-out nodes (Some batch) (Some node) low is =
    let Below : ℕ → Type 0 = λ n. n < nodes in
    let parts = AllByRecursion-cut Below batch.fresh batch.waiting is in
    AllByRecursion-append Below (batch.fresh ++ node ∷ []) batch.waiting
    (AllByRecursion-append Below batch.fresh (node ∷ []) parts.0 (low node refl, tt)) parts.1

pub HasWords-out : (callers : ℕ) (batch : Option BatchModel) (removed : Option ℕ) → HasWords callers batch
    → HasWords callers (with_out batch removed)
HasWords-out callers None removed is = is
HasWords-out callers (Some batch) None is = is
HasWords-out callers (Some batch) (Some node) is = is

pub IsSoundBatch-out : (batch : Option BatchModel) (removed : Option ℕ) → CanPut batch removed → IsSoundBatch batch
    → IsSoundBatch (with_out batch removed)
IsSoundBatch-out None removed can is = is
IsSoundBatch-out (Some batch) None can is = is
IsSoundBatch-out (Some batch) (Some node) can is = IsBatch-with_fresh batch is node can.0 can.1

module _ (M : Type 0) where
  -- ---- the beginning of a call

  -- who is in no call has the batch
  pub idle-batch : (So : Option BatchModel → Type 0) (local : Local M) → is_idle local ≡ true
      → So (batch_room local.doing local.batch) → So local.batch
  idle-batch So local idle is = go local.doing idle is
    where
      go : (doing : Doing M) → does_nothing doing ≡ true → So (batch_room doing local.batch) → So local.batch
      go Idle idle is = is
      go _ idle is = absurd (cc)

  -- who has begun has what it had, or its tidying has it: the same nodes, of which none is fresh then where none waited
  pub begun-batch : (So : Option BatchModel → Type 0) (env : Env) (c : ℕ) (batch : Option BatchModel) (start : ℕ) (call : Call) (machine : Doing M)
      → machine_from env c batch call start ≡ Some machine → So batch
      → ((own : BatchModel) → batch ≡ Some own → So (Some (begun own).0))
      → So (batch_room machine (batch_beside machine batch))
  begun-batch So env c batch start =
      begins_so M env c batch start
      (λ call machine. So batch → ((own : BatchModel) → batch ≡ Some own → So (Some (begun own).0))
      → So (batch_room machine (batch_beside machine batch)))
      (λ port is tidies. is) (λ port owner once is tidies. is) (λ port is tidies. is) (λ port owner is tidies. is)
      (λ port owner new is tidies. is) (λ is tidies. is) (λ is tidies. is)
      (λ own has is tidies. tidies own has) (λ from limit is tidies. is)

  -- ---- an operation

  -- what is so of a tidying's batch is so of that which its caller has then
  tidied-batch : (So : Option BatchModel → Type 0) (m : TidyModel) (batch : Option BatchModel)
      (came : BatchModel × TidyAt × Next Reply)
      → So (Some came.0)
      → let r = moved m came in So (batch_room (doing_next {M = M} Tidying r).0 (batch_given r batch))
  tidied-batch So m batch (after, at, Go) is = is
  tidied-batch So m batch (after, at, Done reply) is = is

  -- what has no batch leaves that of its caller
  beside-batch : {A : Type 0} (So : Option BatchModel → Type 0) (doing : A → Doing M) (batch : Option BatchModel)
      → ((m : A) → batch_room (doing m) batch ≡ batch) → (r : A × Next Reply) → So batch
      → So (batch_room (doing_next doing r).0 batch)
  beside-batch So doing batch beside (m, Go) is = subst So (sym (beside m)) is
  beside-batch So doing batch beside (m, Done reply) is = is

  -- What is so of a batch with each node that is put in, and of each tidying's behind its operation, is so of what an operation of
  -- this leaves.
  pub batch_after-so : (So : Option BatchModel → Type 0) (mix : ℕ → ℕ → ℕ → ℕ) (doing : Doing M) (batch : Option BatchModel) (old : ℕ)
      → So (batch_room doing batch)
      → (batch_room doing batch ≡ batch → So (with_out batch (out_of mix doing old)))
      → ((m : TidyModel) → doing ≡ Tidying m → So (Some (after_at m.geometry m.batch m.at old).0))
      → So (batch_room (doing_after mix doing old).0 (batch_after mix doing batch old))
  batch_after-so So mix Idle batch old is put tidied = is
  batch_after-so So mix (Finding m) batch old is put tidied =
      beside-batch So Finding batch (λ n. refl) (find_after mix m old) is
  batch_after-so So mix (Binding m) batch old is put tidied =
      beside-batch So Binding batch (λ n. refl) (bind_after mix m old) is
  batch_after-so So mix (Listing m) batch old is put tidied =
      beside-batch So Listing batch (λ n. refl) (all_after mix m old) is
  batch_after-so So mix (Releasing m) batch old is put tidied =
      let next = release_after mix m old in
      beside-batch So Releasing (with_out batch (node_out (release_after mix m old).1)) (λ n. refl) (next.0, without_node next.1)
      (put refl)
  batch_after-so So mix (Rebinding m) batch old is put tidied =
      let next = rebind_after mix m old in
      beside-batch So Rebinding (with_out batch (node_out (rebind_after mix m old).1)) (λ n. refl) (next.0, without_node next.1)
      (put refl)
  batch_after-so So mix (Working m) batch old is put tidied =
      beside-batch So Working batch (λ n. refl) (work_after mix m old) is
  batch_after-so So mix (Counting m) batch old is put tidied = is
  batch_after-so So mix (Tidying m) batch old is put tidied =
      tidied-batch So m batch (after_at m.geometry m.batch m.at old) (tidied m refl)
  batch_after-so So mix (Walking m) batch old is put tidied =
      beside-batch So Walking batch (λ n. refl) (walk_after m old) is

  with_out-none : (batch : Option BatchModel) → batch ≡ with_out batch None
  with_out-none None = refl
  with_out-none (Some batch) = refl

  -- who isn't tidying has the batch with the node that is handed out, where one is
  pub batch_after-out : (mix : ℕ → ℕ → ℕ → ℕ) (doing : Doing M) (batch : Option BatchModel) (old : ℕ)
      → ((m : TidyModel) → doing ≡ Tidying m → ⊥)
      → batch_room (doing_after mix doing old).0 (batch_after mix doing batch old) ≡ with_out batch (out_of mix doing old)
  batch_after-out mix Idle batch old not = with_out-none batch
  batch_after-out mix (Finding m) batch old not =
      beside-batch (λ b. b ≡ with_out batch None) Finding batch (λ n. refl) (find_after mix m old) (with_out-none batch)
  batch_after-out mix (Binding m) batch old not =
      beside-batch (λ b. b ≡ with_out batch None) Binding batch (λ n. refl) (bind_after mix m old) (with_out-none batch)
  batch_after-out mix (Listing m) batch old not =
      beside-batch (λ b. b ≡ with_out batch None) Listing batch (λ n. refl) (all_after mix m old) (with_out-none batch)
  batch_after-out mix (Releasing m) batch old not =
      let next = release_after mix m old in
      let after = with_out batch (node_out next.1) in
      beside-batch (λ b. b ≡ after) Releasing after (λ n. refl) (next.0, without_node next.1) refl
  batch_after-out mix (Rebinding m) batch old not =
      let next = rebind_after mix m old in
      let after = with_out batch (node_out next.1) in
      beside-batch (λ b. b ≡ after) Rebinding after (λ n. refl) (next.0, without_node next.1) refl
  batch_after-out mix (Working m) batch old not =
      beside-batch (λ b. b ≡ with_out batch None) Working batch (λ n. refl) (work_after mix m old) (with_out-none batch)
  batch_after-out mix (Counting m) batch old not = with_out-none batch
  batch_after-out mix (Tidying m) batch old not = absurd (not m refl)
  batch_after-out mix (Walking m) batch old not =
      beside-batch (λ b. b ≡ with_out batch None) Walking batch (λ n. refl) (walk_after m old) (with_out-none batch)

  -- so a batch stays one of its table
  pub batch_after-in : (mix : ℕ → ℕ → ℕ → ℕ) (env : Env) (doing : Doing M) (batch : Option BatchModel) (old : ℕ)
      → IsBatchIn env (batch_room doing batch)
      → IsBatchIn env (batch_room (doing_after mix doing old).0 (batch_after mix doing batch old))
  batch_after-in mix env doing batch old is =
      batch_after-so (IsBatchIn env) mix doing batch old is
      (λ beside. IsBatchIn-out env batch (out_of mix doing old) (subst (IsBatchIn env) beside is))
      (λ m same. after_at-same m.geometry m.batch m.at old ∙ subst (λ d. IsBatchIn env (batch_room d batch)) same is)

  -- and its nodes stay the table's, and differ, where a node that is put in may be
  pub batch_after-sound : (mix : ℕ → ℕ → ℕ → ℕ) (doing : Doing M) (batch : Option BatchModel) (old : ℕ)
      → ((m : TidyModel) → doing ≡ Tidying m → (m.batch.geometry ≡ m.geometry) × IsTidyAtIn m.batch m.at)
      → CanPut batch (out_of mix doing old)
      → IsSoundBatch (batch_room doing batch)
      → IsSoundBatch (batch_room (doing_after mix doing old).0 (batch_after mix doing batch old))
  batch_after-sound mix doing batch old within can is =
      batch_after-so IsSoundBatch mix doing batch old is
      (λ beside. IsSoundBatch-out batch (out_of mix doing old) can (subst IsSoundBatch beside is))
      (λ m same.
      let sound = subst (λ d. IsSoundBatch (batch_room d batch)) same is in
      let stays = tidy_stays m.geometry m.batch m.at old
      (record { sound = sound; same = (within m same).0; at_in = (within m same).1 }) in
      stays.sound)
