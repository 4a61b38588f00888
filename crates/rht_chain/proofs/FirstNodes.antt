-- What is to be seen of a chain is its first node with the key, and what is before that.
use Rattle.std.proofs.Common.{◌≡◌, ◌≢◌, ℕ, List, [], ◌∷◌, ◌++◌, suc, take, Option, Some, None, Bool, false, inl, inr, refl, ap, arith}
use Rattle.std.proofs.lemmas.Bool.{cases_Bool, eqb-true, eqb-false}
use Rattle.std.proofs.lemmas.List.Elements.{All-nil, All-cons}
use Rattle.std.specs.List.{All, find, before_first, position_or_len}
use Rattle.rht_chain.specs.Laws.{has_key, seen_behind, IsSeen, SeenAreFirst}

module _ (key_of : ℕ → ℕ) (key : ℕ) where
  abbrev test : ℕ → Bool
  test node = has_key key_of key node

  -- a node without the key is passed
  pub node_passed : (node : ℕ) (nodes : List ℕ) → test node ≡ false
      → (find test (node ∷ nodes) ≡ find test nodes) × (before_first test
      (node ∷ nodes) ≡ node ∷ before_first test nodes)
  node_passed node nodes other =
      let further : position_or_len test (node ∷ nodes) ≡ suc (position_or_len test nodes) = rw other
      (omega arith) in
      (rw other refl, ap (λ n. take n (node ∷ nodes)) further)

  -- none of the nodes has the key, or this is the first one that has it
  abbrev IsSplit : List ℕ → List ℕ → Option ℕ → Type 0
  IsSplit nodes passed None = All (λ other. key_of other ≢ key) passed × (nodes ≡ passed)
  IsSplit nodes passed (Some node) =
      All (λ other. key_of other ≢ key) passed × (key_of node ≡ key) × (behind : List ℕ)
      × (nodes ≡ passed ++ node ∷ behind)

  -- one more node, which has another key, before a list that is split
  one_more : (node : ℕ) (nodes passed : List ℕ) (found : Option ℕ) → key_of node ≢ key
      → IsSplit nodes passed found → IsSplit (node ∷ nodes) (node ∷ passed) found
  one_more node nodes passed None other split =
      (All-cons (λ n. key_of n ≢ key) node passed other split.0, ap (λ l. node ∷ l) split.1)
  one_more node nodes passed (Some first) other split =
      (All-cons (λ n. key_of n ≢ key) node passed other split.0, split.1, split.2, ap (λ l. node ∷ l) split.3)

  -- by induction over the nodes
  splits : (nodes : List ℕ) → IsSplit nodes (before_first test nodes) (find test nodes)
  splits [] = (All-nil (λ n. key_of n ≢ key), refl)
  splits (node ∷ nodes) = elim (cases_Bool (test node)) [
    | inl is ↦ rw is (All-nil (λ n. key_of n ≢ key), eqb-true (key_of node) key is, nodes, refl)
    | inr other ↦
        let passed = node_passed node nodes other in
        rw (passed.0, passed.1) (one_more node nodes (before_first test nodes) (find test nodes)
        (eqb-false (key_of node) key other) (splits nodes))
  ]

  -- what is seen behind these nodes is so
  IsSeen-split : (nodes passed : List ℕ) (stop : ℕ) (found : Option ℕ) → IsSplit nodes passed found
      → IsSeen key_of key nodes stop (seen_behind passed stop found) (seen_behind passed stop found).found
  IsSeen-split nodes passed stop None split =
      record {
        others = rw split.1 split.0;
        before = rw split.1 refl;
        length_is = rw split.1 refl;
        end_is = refl;
      }
  IsSeen-split nodes passed stop (Some node) split =
      record {
        passed = passed;
        behind = split.2;
        split = split.3;
        others = split.0;
        has = split.1;
        before = refl;
        length_is = refl;
        end_is = refl;
      }

pub seen_are_first : SeenAreFirst
seen_are_first key_of key nodes stop =
    let test = has_key key_of key in
    IsSeen-split key_of key nodes (before_first test nodes) stop (find test nodes) (splits key_of key nodes)
