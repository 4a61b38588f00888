-- Where nodes and pages are in every run. Each node in the chain of a bucket of a table in force has a key of that bucket, and each table has
-- its pages for itself.
use Rattle.std.specs.Prelude.{◌≡◌, ℕ, ◌%◌, ◌<◌, ◌⊎◌, Some, List, slice_index}
use Rattle.rht_words.specs.declared.env.Env.{Env}
use Rattle.rht_words.specs.declared.geometry.Geometry.{Geometry}
use Rattle.rht_words.specs.Members.{In}
use Rattle.rht_words.specs.Places.{WorkLock, Slot, SeedWord, StateWord, Node, KeyWord, word_at}
use Rattle.rht_words.specs.Shapes.{unpacked, size_of}
use Rattle.rht_policy.specs.Mix.{bucket_of}
use Rattle.rht_core.specs.declared.event.Event.{Event}
use Rattle.rht_core.specs.Counts.{IsPageFree, IsPageOfSlot}
use Rattle.rht_core.specs.Runs.{World, run_of, IsAdmitted}
use Rattle.rht_stands.specs.StandsFor.{in_force, shape_of, bucket_in, bucket_nodes}

module _ (mix : ℕ → ℕ → ℕ → ℕ) (g : Geometry) (words : List ℕ) where
  -- the bucket of a node's key in the table of this slot, by the table's shape and its seed
  abbrev pub own_bucket : ℕ → ℕ → ℕ
  own_bucket slot node =
      bucket_of mix (word_at g words (Node node KeyWord)) (shape_of g words slot) (word_at g words (Slot slot SeedWord))

  -- Each node of a bucket of this table is in the bucket of its key, where the bucket's word is even. While a bucket is locked a node may be on
  -- its way out of it, and behind that stand others of another bucket.
  abbrev pub AreNodesPlaced : ℕ → Type 0
  AreNodesPlaced slot =
      (bucket place node : ℕ) → bucket < size_of (unpacked (shape_of g words slot))
      → bucket_in g words (shape_of g words slot) bucket ≡ Some place → slice_index words place % 2 ≡ 0
      → In node (bucket_nodes g words (Some place)) → own_bucket slot node ≡ bucket

module _ (g : Geometry) (words : List ℕ) where
  -- the table in this slot has its pages: it is in force, or is retired while nobody has the work lock, who might be giving it back
  abbrev pub HasItsPages : ℕ → Type 0
  HasItsPages slot =
      In slot (in_force g words)
      ⊎ ((slot < 8) × (word_at g words (Slot slot StateWord) ≡ 2) × (word_at g words WorkLock ≡ 0))

  -- no page of such a table is free, and no two of these tables have a page in common
  pub record ArePagesOwn : Type 0 where
    pub taken : (slot page : ℕ) → HasItsPages slot → IsPageOfSlot g words slot page → ¬ IsPageFree g words page
    pub apart : (one other page : ℕ) → HasItsPages one → HasItsPages other → IsPageOfSlot g words one page
        → IsPageOfSlot g words other page → one ≡ other

module _ (M : Type 0) (mix : ℕ → ℕ → ℕ → ℕ) where
  -- so it is in every run, of each table in force
  abbrev pub Placed : Type 0
  Placed =
      (env : Env) (events : List Event) → IsAdmitted events
      → let w : World M = run_of mix env events in
      (slot : ℕ) → In slot (in_force env.geometry w.core.words) → AreNodesPlaced mix env.geometry w.core.words slot

  -- and in every run tables have their pages for themselves
  abbrev pub OwnPages : Type 0
  OwnPages =
      (env : Env) (events : List Event) → IsAdmitted events
      → let w : World M = run_of mix env events in ArePagesOwn env.geometry w.core.words
