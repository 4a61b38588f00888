-- Going along links step by step finds what the whole chain holds.
-- What is left of a chain is the node at which one stands, and what is left behind it. So the
-- first node with a key is that node, or is the first in what is left; and where nothing is left
-- there is none. It is the same with the tables in force, the buckets of a table and the owners
-- of a list.
use Rattle.std.proofs.Common.{◌≡◌, ◌≢◌, ℕ, zero, suc, ◌+◌, ◌-◌, ◌<◌, Bool, true, false, Option, None, Some, List, [], ◌∷◌, ◌++◌, refl, sym, ◌∙◌, ap, arith, slice_index, append_assoc}
use Rattle.std.specs.Option.{is_some}
use Rattle.std.specs.List.{find, flat_map, range_with_len}
use Rattle.std.proofs.lemmas.Bool.{eq-eqb}
use Rattle.std.proofs.lemmas.List.{append-nil}
use Rattle.std.proofs.lemmas.List.Folds.{find-append}
use Rattle.rht_words.specs.declared.geometry.Geometry.{Geometry}
use Rattle.rht_words.specs.Links.{node_of, slot_of}
use Rattle.rht_words.specs.Ports.{owner_of}
use Rattle.rht_words.specs.Places.{Slot, FutureWord, Node, ChainLink, KeyWord, OwnerWord, ListLink, place_of}
use Rattle.rht_stands.specs.StandsFor.{chain_from, tables_from, bucket_in, bucket_nodes, table_nodes, owners_from, has_key}

-- ---- a list whose first part has been looked through

module _ {A : Type 0} (test : A → Bool) (front rest : List A) where
  -- what is found in the first part is found first
  find-front : (found : Option A) → found ≡ find test front → is_some found ≡ true
      → find test (front ++ rest) ≡ found
  find-front None first hit = cc
  find-front (Some item) first hit = rw (find-append, ← first)

  -- where nothing is in the first part, the rest decides
  find-rest : (found : Option A) → found ≡ find test front → is_some found ≡ false
      → find test (front ++ rest) ≡ find test rest
  find-rest None first miss = rw (find-append, ← first)
  find-rest (Some item) first miss = cc

module _ (g : Geometry) (words : List ℕ) where
  -- the word at a place
  abbrev word : ℕ → ℕ
  word place = slice_index words place

  module _ (key : ℕ) where
    -- ---- chains

    -- the first node with the key in what is left of a chain of at most so many nodes
    abbrev pub first_left : ℕ → Option ℕ → Option ℕ
    first_left left next = find (has_key g words key) (chain_from g words left next)

    -- a node has the key exactly where its key word is the key
    passes : (node place : ℕ) → place ≡ place_of g (Node node KeyWord) → word place ≡ key
        → has_key g words key node ≡ true
    passes node place at same = eq-eqb _ _ (ap (slice_index words) (sym at) ∙ same)

    fails : (node place : ℕ) → place ≡ place_of g (Node node KeyWord) → word place ≢ key
        → has_key g words key node ≡ false
    fails node place at other = grind arith

    module _ (count walked : ℕ) (next : Option ℕ) (node : ℕ) (whole : Option ℕ)
        (is : next ≡ Some node) (within : walked < count) (first : first_left (count - walked) next ≡ whole)
        (place : ℕ) (at : place ≡ place_of g (Node node KeyWord)) where
      -- one node stands before what is left behind it
      chain-some : chain_from g words (count - walked) next
          ≡ node ∷ chain_from g words (count - (walked + 1))
          (node_of g.nodes (word (place_of g (Node node ChainLink))))
      chain-some =
          let more : count - walked ≡ suc (count - (walked + 1)) = omega arith in
          rw (more, is)

      pub chain-here : word place ≡ key → Some node ≡ whole
      chain-here same = (rw (chain-some, passes node place at same) refl) ∙ first

      pub chain-past : word place ≢ key
          → (link : ℕ) → link ≡ place_of g (Node node ChainLink)
          → (following : Option ℕ) → following ≡ node_of g.nodes (word link)
          → first_left (count - (walked + 1)) following ≡ whole
      chain-past other link link_at following leads =
          rw (leads, link_at) ((rw (chain-some, fails node place at other) refl) ∙ first)

    -- ---- tables

    -- the first node with the key in the tables that are left, at most so many
    abbrev pub first_of_tables : ℕ → Option ℕ → Option ℕ
    first_of_tables left next =
        find (has_key g words key) (flat_map (table_nodes g words) (tables_from g words left next))

    module _ (count walked : ℕ) (next : Option ℕ) (table : ℕ) (whole : Option ℕ)
        (is : next ≡ Some table) (within : walked < count)
        (first : first_of_tables (count - walked) next ≡ whole)
        (found : Option ℕ) (searched : found ≡ find (has_key g words key) (table_nodes g words table)) where
      -- the nodes in the tables behind this one
      abbrev nodes_behind : List ℕ
      nodes_behind =
          flat_map (table_nodes g words) (tables_from g words (count - (walked + 1))
          (slot_of (word (place_of g (Slot table FutureWord)))))

      -- the nodes of one table stand before those of the tables behind it
      tables-some : first_of_tables (count - walked) next ≡ find (has_key g words key)
          (table_nodes g words table ++ nodes_behind)
      tables-some =
          let more : count - walked ≡ suc (count - (walked + 1)) = omega arith in
          rw (more, is)

      pub tables-here : is_some found ≡ true → found ≡ whole
      tables-here hit =
          sym (find-front (has_key g words key) (table_nodes g words table) nodes_behind found searched hit)
          ∙ sym tables-some ∙ first

      pub tables-past : is_some found ≡ false
          → (place : ℕ) → place ≡ place_of g (Slot table FutureWord)
          → (following : Option ℕ) → following ≡ slot_of (word place)
          → first_of_tables (count - (walked + 1)) following ≡ whole
      tables-past miss place at following leads =
          let rest = find-rest (has_key g words key) (table_nodes g words table) nodes_behind found
          searched miss in
          rw (leads, at) (sym rest ∙ sym tables-some ∙ first)

    -- behind the last table there is none
    pub tables-none : (left : ℕ) (next whole : Option ℕ) → next ≡ None
        → first_of_tables left next ≡ whole → None ≡ whole
    tables-none zero next whole none first = first
    tables-none (suc left) next whole none first = rw none at first

    -- ---- buckets

    -- the nodes of a bucket of a table with this shape
    abbrev pub nodes_in : ℕ → ℕ → List ℕ
    nodes_in shape bucket = bucket_nodes g words (bucket_in g words shape bucket)

    -- the first node with the key in the buckets of a table of so many that are left
    abbrev pub first_of_buckets : ℕ → ℕ → ℕ → Option ℕ
    first_of_buckets shape count bucket =
        find (has_key g words key) (flat_map (nodes_in shape) (range_with_len bucket (count - bucket)))

    module _ (shape count bucket : ℕ) (whole : Option ℕ)
        (within : bucket < count) (first : first_of_buckets shape count bucket ≡ whole)
        (found : Option ℕ) (place : Option ℕ) (searched : found ≡ find (has_key g words key)
        (bucket_nodes g words place))
        (at : place ≡ bucket_in g words shape bucket) where
      -- the nodes in the buckets behind this one
      abbrev behind : List ℕ
      behind = flat_map (nodes_in shape) (range_with_len (bucket + 1) (count - (bucket + 1)))

      -- the nodes of one bucket stand before those of the buckets behind it
      buckets-some : first_of_buckets shape count bucket ≡ find (has_key g words key)
          (nodes_in shape bucket ++ behind)
      buckets-some =
          let more : count - bucket ≡ suc (count - (bucket + 1)) = omega arith in
          rw more

      here : found ≡ find (has_key g words key) (nodes_in shape bucket)
      here = searched ∙ ap (λ p. find (has_key g words key) (bucket_nodes g words p)) at

      pub buckets-here : is_some found ≡ true → found ≡ whole
      buckets-here hit =
          sym (find-front (has_key g words key) (nodes_in shape bucket) behind found here hit)
          ∙ sym buckets-some ∙ first

      pub buckets-past : is_some found ≡ false → first_of_buckets shape count (bucket + 1) ≡ whole
      buckets-past miss =
          sym (find-rest (has_key g words key) (nodes_in shape bucket) behind found here miss)
          ∙ sym buckets-some ∙ first

  -- ---- owners

  module _ (count walked : ℕ) (next : Option ℕ) (node : ℕ) (before all : List ℕ)
      (is : next ≡ Some node) (within : walked < count)
      (whole : before ++ owners_from g words (count - walked) next ≡ all) where
    -- the owners behind this node's
    abbrev owners_behind : List ℕ
    owners_behind =
        owners_from g words (count - (walked + 1)) (node_of g.nodes (word (place_of g (Node node ListLink))))

    -- one owner stands before those behind it
    owners-some : owners_from g words (count - walked) next ≡ owner_of
        (word (place_of g (Node node OwnerWord))) ∷ owners_behind
    owners-some =
        let more : count - walked ≡ suc (count - (walked + 1)) = omega arith in
        rw (more, is)

    pub owners-past : (place : ℕ) → place ≡ place_of g (Node node OwnerWord)
        → (owner : ℕ) → owner ≡ owner_of (word place)
        → (after : List ℕ) → after ≡ before ++ owner ∷ []
        → (link : ℕ) → link ≡ place_of g (Node node ListLink)
        → (following : Option ℕ) → following ≡ node_of g.nodes (word link)
        → after ++ owners_from g words (count - (walked + 1)) following ≡ all
    owners-past place at owner says after pushed link link_at following leads =
        rw (pushed, leads, link_at, says, at, append_assoc)
        (ap (λ owners. before ++ owners) (sym owners-some) ∙ whole)

  -- behind the last owner there are no others
  pub owners-none : (left : ℕ) (next : Option ℕ) (before all : List ℕ) → next ≡ None
      → before ++ owners_from g words left next ≡ all → before ≡ all
  owners-none zero next before all none whole = sym (append-nil before) ∙ whole
  owners-none (suc left) next before all none whole = sym (append-nil before) ∙ (rw none at whole)
