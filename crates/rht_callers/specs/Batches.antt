-- The nodes that a caller's calls took out: they go into its batch, which a tidying has while it runs.
use Rattle.std.specs.Prelude.{◌≡◌, ℕ, ◌<◌, ◌++◌, List, [], length, drop, Option, Some, None}
use Rattle.std.specs.List.{AllByRecursion}
use Rattle.rht_words.specs.declared.env.Env.{Env}
use Rattle.rht_words.specs.declared.machine.Next.{Next}
use Rattle.rht_words.specs.declared.machine.Next.TheVariants.{Go, Done}
use Rattle.rht_words.specs.Members.{NotIn}
use Rattle.rht_model.specs.declared.history.Reply.{Reply}
use Rattle.rht_grace.specs.Batch.{BatchModel, IsBatch, with_fresh}
use Rattle.rht_grace.specs.Tidy.{TidyModel, tidy_after}
use Rattle.rht_grace.specs.declared.tidy.TidyAt.{TidyAt}
use Rattle.rht_grace.specs.declared.tidy.TidyAt.TheVariants as at
use Rattle.rht_release.specs.Release.{release_after}
use Rattle.rht_release.specs.Rebind.{rebind_after}
use Rattle.rht_callers.specs.declared.local.Doing.{Doing}
use Rattle.rht_callers.specs.declared.local.Doing.TheVariants.{Idle, Finding, Binding, Listing, Releasing, Rebinding, Working, Counting, Tidying, Walking}

-- the batch is there, and is one of this table
abbrev pub IsBatchIn : Env → Option BatchModel → Type 0
IsBatchIn env None = ⊥
IsBatchIn env (Some batch) = batch.geometry ≡ env.geometry

-- its nodes are below this number
abbrev pub AreNodesIn : ℕ → Option BatchModel → Type 0
AreNodesIn nodes None = ⊥
AreNodesIn nodes (Some batch) = AllByRecursion (λ node. node < nodes) (batch.fresh ++ batch.waiting)

-- it keeps a section word for each of so many callers
abbrev pub HasWords : ℕ → Option BatchModel → Type 0
HasWords callers None = ⊥
HasWords callers (Some batch) = length batch.kept ≡ callers

-- its nodes are the table's, and differ
abbrev pub IsSoundBatch : Option BatchModel → Type 0
IsSoundBatch None = ⊥
IsSoundBatch (Some batch) = IsBatch batch

-- its nodes
abbrev pub nodes_in : Option BatchModel → List ℕ
nodes_in None = []
nodes_in (Some batch) = batch.fresh ++ batch.waiting

-- those that it has while a tidying is in this state: no more those that were given back
abbrev pub nodes_left : BatchModel → TidyAt → List ℕ
nodes_left batch (at.Keeping caller) = batch.fresh ++ batch.waiting
nodes_left batch (at.Asking caller) = batch.fresh ++ batch.waiting
nodes_left batch (at.Giving index) = batch.fresh ++ drop index batch.waiting

-- the batch with the node that was taken out, where one was
abbrev pub with_out : Option BatchModel → Option ℕ → Option BatchModel
with_out None removed = None
with_out (Some batch) None = Some batch
with_out (Some batch) (Some node) = Some (with_fresh batch node)

-- the node is the table's, and is in the batch no more than once behind that
abbrev pub CanPut : Option BatchModel → Option ℕ → Type 0
CanPut None removed = Unit {0}
CanPut (Some batch) None = Unit {0}
CanPut (Some batch) (Some node) = (node < batch.geometry.nodes) × NotIn node (batch.fresh ++ batch.waiting)

-- the node that a call hands out which ends so
abbrev pub node_out : Next (Reply × Option ℕ) → Option ℕ
node_out Go = None
node_out (Done end) = end.1

-- a tidying that has ended gives the batch back; until then its caller has this one
abbrev pub batch_given : TidyModel × Next Reply → Option BatchModel → Option BatchModel
batch_given (m, Go) batch = batch
batch_given (m, Done reply) batch = Some m.batch

module _ {M : Type 0} where
  -- the node that a caller's call hands out once its operation found this value
  abbrev pub out_of : (ℕ → ℕ → ℕ → ℕ) → Doing M → ℕ → Option ℕ
  out_of mix Idle old = None
  out_of mix (Finding m) old = None
  out_of mix (Binding m) old = None
  out_of mix (Listing m) old = None
  out_of mix (Releasing m) old = node_out (release_after mix m old).1
  out_of mix (Rebinding m) old = node_out (rebind_after mix m old).1
  out_of mix (Working m) old = None
  out_of mix (Counting m) old = None
  out_of mix (Tidying m) old = None
  out_of mix (Walking m) old = None

  -- the batch, wherever it lies: a tidying has it, and otherwise its caller, whose batch this is
  abbrev pub batch_room : Doing M → Option BatchModel → Option BatchModel
  batch_room Idle batch = batch
  batch_room (Finding m) batch = batch
  batch_room (Binding m) batch = batch
  batch_room (Listing m) batch = batch
  batch_room (Releasing m) batch = batch
  batch_room (Rebinding m) batch = batch
  batch_room (Working m) batch = batch
  batch_room (Counting m) batch = batch
  batch_room (Tidying m) batch = Some m.batch
  batch_room (Walking m) batch = batch

  -- its nodes, but for those that a tidying has given back
  abbrev pub nodes_held : Doing M → Option BatchModel → List ℕ
  nodes_held Idle batch = nodes_in batch
  nodes_held (Finding m) batch = nodes_in batch
  nodes_held (Binding m) batch = nodes_in batch
  nodes_held (Listing m) batch = nodes_in batch
  nodes_held (Releasing m) batch = nodes_in batch
  nodes_held (Rebinding m) batch = nodes_in batch
  nodes_held (Working m) batch = nodes_in batch
  nodes_held (Counting m) batch = nodes_in batch
  nodes_held (Tidying m) batch = nodes_left m.batch m.at
  nodes_held (Walking m) batch = nodes_in batch

  -- the batch of its caller once it has begun
  abbrev pub batch_beside : Doing M → Option BatchModel → Option BatchModel
  batch_beside Idle batch = batch
  batch_beside (Finding m) batch = batch
  batch_beside (Binding m) batch = batch
  batch_beside (Listing m) batch = batch
  batch_beside (Releasing m) batch = batch
  batch_beside (Rebinding m) batch = batch
  batch_beside (Working m) batch = batch
  batch_beside (Counting m) batch = batch
  batch_beside (Tidying m) batch = None
  batch_beside (Walking m) batch = batch

  -- the batch of its caller after its operation found this value
  abbrev pub batch_after : (ℕ → ℕ → ℕ → ℕ) → Doing M → Option BatchModel → ℕ → Option BatchModel
  batch_after mix Idle batch old = batch
  batch_after mix (Finding m) batch old = batch
  batch_after mix (Binding m) batch old = batch
  batch_after mix (Listing m) batch old = batch
  batch_after mix (Releasing m) batch old = with_out batch (node_out (release_after mix m old).1)
  batch_after mix (Rebinding m) batch old = with_out batch (node_out (rebind_after mix m old).1)
  batch_after mix (Working m) batch old = batch
  batch_after mix (Counting m) batch old = batch
  batch_after mix (Tidying m) batch old = batch_given (tidy_after m old) batch
  batch_after mix (Walking m) batch old = batch
