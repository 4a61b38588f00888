-- Where a caller stands next it could reach before: what is so of each table and node at which it stands, and of the first node of a bucket.
use Rattle.std.proofs.Common.{◌≡◌, ℕ, ◌<◌, List, Option, Some, None, slice_index, refl, sym, ◌∙◌, ap, subst}
use Rattle.std.specs.List.{AllByRecursion}
use Rattle.std.specs.Prelude.{option_map}
use Rattle.rht_words.specs.declared.env.Env.{Env}
use Rattle.rht_words.specs.declared.geometry.Geometry.{Geometry}
use Rattle.rht_words.specs.Links.{node_of, slot_of, head_of}
use Rattle.rht_words.specs.Places.{Slot, FutureWord, word_at}
use Rattle.rht_words.specs.Shapes.{unpacked, size_of}
use Rattle.rht_words.specs.Standing.{Standing, stands_nowhere, stands_in, stands_at, if_one}
use Rattle.rht_words.proofs.Members.{In-AllByRecursion}
use Rattle.rht_core.specs.Reach.{ReachesTable, at_table, by_future, ReachesNode, at_node, in_bucket, ReachesListed, at_listed, ComesTo}
use Rattle.rht_stands.specs.StandsFor.{shape_of, bucket_in}
use Rattle.rht_ghost.proofs.Theory.Ghosts.{Ghost}
use Rattle.rht_ghost.proofs.Theory.Wholes.{place_at, Whole, IsThere}
use Rattle.rht_ghost.proofs.Theory.Steps.{mem}
use Rattle.rht_ghost.proofs.Theory.PlacesRead.{placed_in_words}

-- what is so of the one thing, where there is one
pub if_one-all : (P : ℕ → Type 0) (one : Option ℕ) → ((x : ℕ) → one ≡ Some x → P x) → AllByRecursion P (if_one one)
if_one-all P None each = tt
if_one-all P (Some x) each = (each x refl, tt)

module _ (g : Geometry) (words : List ℕ) (at : Standing) where
  abbrev pub Comes : Standing → Type 0
  Comes = ComesTo g words at

  abbrev pub Tables : List ℕ → Type 0
  Tables = AllByRecursion (ReachesTable g words at)

  abbrev pub Nodes : List ℕ → Type 0
  Nodes = AllByRecursion (ReachesNode g words at)

  abbrev pub Listed : List ℕ → Type 0
  Listed = AllByRecursion (ReachesListed g words at)

  -- where it stands it could come to
  pub all_tables : Tables at.tables
  all_tables = In-AllByRecursion (ReachesTable g words at) at.tables at_table

  pub all_nodes : Nodes at.nodes
  all_nodes = In-AllByRecursion (ReachesNode g words at) at.nodes at_node

  pub all_listed : Listed at.listed
  all_listed = In-AllByRecursion (ReachesListed g words at) at.listed at_listed

  pub stays : Comes at
  stays = record { tables = all_tables; nodes = all_nodes; listed = all_listed }

  pub to_nowhere : Comes stands_nowhere
  to_nowhere = record { tables = tt; nodes = tt; listed = tt }

  pub to_tables : (tables : List ℕ) → Tables tables → Comes (stands_in tables)
  to_tables tables each = record { tables = each; nodes = tt; listed = tt }

  pub to_nodes : (tables nodes : List ℕ) → Tables tables → Nodes nodes → Comes (stands_at tables nodes)
  to_nodes tables nodes each every = record { tables = each; nodes = every; listed = tt }

  -- and to the table to which a future leads from there
  pub to_next : (slot : ℕ) → ReachesTable g words at slot → Tables (if_one (slot_of (word_at g words (Slot slot FutureWord))))
  to_next slot there = if_one-all (ReachesTable g words at) _ (λ next leads. by_future slot next there leads)

module _ (env : Env) (mix : ℕ → ℕ → ℕ → ℕ) (words : List ℕ) (G : Ghost) (whole : Whole env mix (mem env mix words) G) (at : Standing) where
  -- the bucket of a table at which the caller stands
  pub record IsBucketThere (j : ℕ) : Type 0 where
    pub slot : ℕ
    pub there : ReachesTable env.geometry words at slot
    pub table : ℕ
    pub is_there : IsThere G table
    pub slot_is : (G.table table).slot ≡ slot
    pub number : ℕ
    pub below : number < size_of (unpacked (G.table table).shape)
    pub here : (G.table table).place number ≡ Some j

  -- it could reach the bucket's first node
  pub first_reached : (j node : ℕ) → IsBucketThere j
      → node_of env.geometry.nodes (head_of (place_at env mix j) (slice_index words (place_at env mix j))) ≡ Some node
      → ReachesNode env.geometry words at node
  first_reached j node is leads =
      let τ = is.table in
      let right = whole.tables.each τ is.is_there in
      let shape : shape_of env.geometry words is.slot ≡ (G.table τ).shape =
      ap (shape_of env.geometry words) (sym is.slot_is) ∙ right.shape_is in
      let place : bucket_in env.geometry words (G.table τ).shape is.number ≡ Some (place_at env mix j) =
      placed_in_words env mix (mem env mix words) G whole τ is.number is.is_there is.below
      ∙ ap (option_map (place_at env mix)) is.here in
      in_bucket is.slot is.number (place_at env mix j) node is.there
      (subst (λ s. is.number < size_of (unpacked s)) (sym shape) is.below)
      (ap (λ s. bucket_in env.geometry words s is.number) shape ∙ place) leads
