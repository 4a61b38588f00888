-- Tables that lie as no run leaves them: one of 4 buckets whose calls all use bucket 0, so that a node with the key 1 lies there; and two
-- that have one page.
use Rattle.std.proofs.Common.{◌≡◌, ◌≢◌, ℕ, ◌-◌, ◌/◌, ◌%◌, ◌<◌, false, cond, min, max, List, Some, slice_index, sym, ap, ◌∙◌, subst, inl, arith}
use Rattle.rht_words.specs.declared.geometry.Geometry.{Geometry}
use Rattle.rht_words.specs.Members.{In}
use Rattle.rht_words.specs.Places.{Node, KeyWord, word_at}
use Rattle.rht_words.specs.Ports.{number_of}
use Rattle.rht_words.specs.Shapes.{unpacked, size_of}
use Rattle.rht_words.proofs.Members.{In-range_with_len}
use Rattle.rht_policy.specs.Mix.{low_mix}
use Rattle.rht_nest.specs.Tables.{is_nested, run_first, run_pages}
use Rattle.rht_stands.specs.StandsFor.{shape_of, bucket_in, bucket_nodes}
use Rattle.rht_core.specs.Placed.{AreNodesPlaced, HasItsPages, ArePagesOwn}
use Rattle.rht_core.specs.TablePages.{IsPageOfTable}

module _ (g : Geometry) (words : List ℕ) (slot : ℕ) (four : size_of (unpacked (shape_of g words slot)) ≡ 4) where
  -- by the mix that is the number itself port 1 belongs to bucket 1
  pub stacked-refused : (place node : ℕ) → bucket_in g words (shape_of g words slot) 0 ≡ Some place → slice_index words place % 2 ≡ 0
      → In node (bucket_nodes g words (Some place)) → word_at g words (Node node KeyWord) ≡ 1
      → AreNodesPlaced low_mix g words slot → ⊥
  stacked-refused place node there even met key placed =
      let own : number_of (word_at g words (Node node KeyWord)) % size_of (unpacked (shape_of g words slot)) ≡ 0 =
      placed 0 place node (subst (λ n. 0 < n) (sym four) (omega arith)) there even met in
      let one : 1 % 4 ≡ 0 =
      sym (ap (λ k. number_of k % size_of (unpacked (shape_of g words slot))) key ∙ ap (λ n. 1 % n) four) ∙ own in
      absurd (omega (arith, one))

-- two flat tables that have one shape, and so one first page
module _ (g : Geometry) (words : List ℕ) (one other : ℕ) (apart : one ≢ other) where
  pub shared-refused : is_nested (shape_of g words one) ≡ false → shape_of g words other ≡ shape_of g words one → 0 < g.pages
      → HasItsPages g words one → HasItsPages g words other → ArePagesOwn g words → ⊥
  shared-refused flat same some has_one has_other own =
      let shape = shape_of g words one in
      let first = run_first g shape in
      let many : run_pages g shape ≡ min (max 1 (size_of (unpacked shape) / 64)) (g.pages - first) =
      ap (λ t. min (cond t 1 (max 1 (size_of (unpacked shape) / 64))) (g.pages - first)) flat in
      let there : IsPageOfTable g words shape first =
      inl (flat, In-range_with_len first (run_pages g shape) first (omega arith) (omega (arith, many, some))) in
      apart (own.apart one other first has_one has_other there (subst (λ s. IsPageOfTable g words s first) (sym same) there))
