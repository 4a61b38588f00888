-- The nodes that are marked are those that were met. Each is the first one of its port, so different ones are of different ports, and
-- where the ports don't fall they rise.
use Rattle.std.proofs.Common.{◌≡◌, ℕ, zero, suc, ◌+◌, ◌<◌, ◌≤◌, Bool, true, false, Option, Some, None, List, [], ◌∷◌, map, length, get_or, replicate, cond, ◌++◌, take, drop, refl, sym, ◌∙◌, ap, subst, inl, inr, arith, rules, slice_index}
use Rattle.std.specs.Prelude.{◌==◌}
use Rattle.std.specs.Option.{option_map}
use Rattle.std.specs.List.{AllByRecursion, find, filter, range_with_len, IsDistinct as AreApart}
use Rattle.std.specs.List.Sorted.{IsNonDecreasingBy, IsPermutation}
use Rattle.std.proofs.lemmas.Bool.{cond_both, eq-eqb, eqb-true, eqb-false, ne_eqb}
use Rattle.std.proofs.lemmas.Bool.Decides.{nat_tests}
use Rattle.std.proofs.lemmas.List.{append-nil, take_all, drop_all, length-map, length-replicate}
use Rattle.std.proofs.lemmas.List.Sorted.{IsNonDecreasingBy-from_sort_by_key, All-permutation, IsPermutation-sym, length_permutation}
use Rattle.std.proofs.lemmas.List.Elements.{All-from_recursion, recursion_from_All}
use Rattle.std.proofs.lemmas.Map.Keys.{IsDistinct-IsPermutation}
use Rattle.rht_words.specs.declared.geometry.Geometry.{Geometry}
use Rattle.rht_words.specs.Members.{In, NotIn, IsDistinct}
use Rattle.rht_words.proofs.Members.{flat_map-In, In-range_with_len, find-Some, not_in_from, in_and_not, In-AllByRecursion, count_below-most, length-count_below}
use Rattle.rht_words.specs.Links.{node_of, head_of}
use Rattle.rht_words.specs.Places.{Node, ChainLink, KeyWord, word_at}
use Rattle.rht_words.specs.Shapes.{unpacked, size_of}
use Rattle.rht_model.proofs.RisingPorts.{RisesFrom, IsStrictlyIncreasing-from_rises}
use Rattle.rht_stands.specs.StandsFor.{in_force, chain_from, shape_of, bucket_in, bucket_nodes, table_nodes, has_key, first_node}
use Rattle.rht_stands.specs.Closing.{nodes_met, with_port, node_behind, marked, is_marked, marked_below, IsListable}
use Rattle.rht_words.proofs.FilteredLists.{filter-In, In-filter, range_with_len-from}
use Rattle.rht_stands.proofs.MarkedNodes.{met-marked, marked-met, length-marked}
use Rattle.rht_stands.proofs.closing.first_nodes.Goals as goal

-- ---- what is met is among the nodes

module _ (g : Geometry) (words : List ℕ) where
  link-among : (link n : ℕ) → node_of g.nodes link ≡ Some n → n < g.nodes
  link-among link n is = grind (arith, nat_tests)

  -- by induction over the nodes that may be left
  chain-among : (left : ℕ) (next : Option ℕ) (n : ℕ) → ((m : ℕ) → next ≡ Some m → m < g.nodes)
      → In n (chain_from g words left next) → n < g.nodes
  chain-among zero next n first i = absurd i
  chain-among (suc left) None n first i = absurd i
  chain-among (suc left) (Some node) n first (inl here) = subst (λ m. m < g.nodes) (sym here) (first node refl)
  chain-among (suc left) (Some node) n first (inr behind) =
      chain-among left (node_of g.nodes (word_at g words (Node node ChainLink))) n (λ m is. link-among (word_at g words (Node node ChainLink)) m is) behind

  bucket-among : (place : Option ℕ) (n : ℕ) → In n (bucket_nodes g words place) → n < g.nodes
  bucket-among None n i = absurd i
  bucket-among (Some place) n i =
      let first = head_of place (slice_index words place) in
      chain-among g.nodes (node_of g.nodes first) n (λ m is. link-among first m is) i

  met-among : (n : ℕ) → In n (nodes_met g words) → n < g.nodes
  met-among n i =
      let table = flat_map-In (table_nodes g words) n (in_force g words) i in
      let shape = shape_of g words table.0 in
      let bucket = flat_map-In (λ b. bucket_nodes g words (bucket_in g words shape b)) n (range_with_len 0 (size_of (unpacked shape))) table.2 in
      bucket-among (bucket_in g words shape bucket.0) n bucket.2

-- ---- which nodes are put down

range-distinct : (from count : ℕ) → IsDistinct (range_with_len from count)
range-distinct from zero = tt
range-distinct from (suc count) = (
  not_in_from from (range_with_len (from + 1) count)
      (λ i. let later = range_with_len-from (from + 1) count from i in omega (arith, later)),
  range-distinct (from + 1) count,
)

filter-NotIn : (p : ℕ → Bool) (x : ℕ) (xs : List ℕ) → NotIn x xs → NotIn x (filter p xs)
filter-NotIn p x xs none = not_in_from x (filter p xs) (λ i. in_and_not x xs (filter-In p x xs i).0 none)

filter-distinct : (p : ℕ → Bool) (xs : List ℕ) → IsDistinct xs → IsDistinct (filter p xs)
filter-distinct p [] distinct = tt
filter-distinct p (x ∷ xs) distinct =
    cond_both (p x) (x ∷ filter p xs) (filter p xs) IsDistinct
    (λ here. (filter-NotIn p x xs distinct.0, filter-distinct p xs distinct.1)) (λ other. filter-distinct p xs distinct.1)

none_marked : (count n : ℕ) → is_marked (replicate count false) n ≡ false
none_marked zero n = refl
none_marked (suc count) zero = refl
none_marked (suc count) (suc n) = none_marked count n

-- two are of one port
abbrev same : ℕ × ℕ → ℕ × ℕ → Bool
same x y = x.0 == y.0

-- the node is the port's
abbrev is_of : ℕ → ℕ × ℕ → Bool
is_of port node = node.0 == port

module _ (g : Geometry) (words : List ℕ) (listable : IsListable g words) where
  abbrev f : ℕ → ℕ × ℕ
  f = with_port g words

  abbrev marks : List Bool
  marks = marked (replicate g.nodes false) (nodes_met g words)

  abbrev nodes : List ℕ
  nodes = marked_below marks g.nodes

  put-met : (n : ℕ) → In n nodes → In n (nodes_met g words)
  put-met n i = elim (marked-met (replicate g.nodes false) (nodes_met g words) n (filter-In (is_marked marks) n (range_with_len 0 g.nodes) i).1) [
    | inl met ↦ met
    | inr before ↦ let never = none_marked g.nodes n in absurd (cc)
  ]

  met-put : (n : ℕ) → In n (nodes_met g words) → In n nodes
  met-put n i =
      let among = met-among g words n i in
      In-filter (is_marked marks) n (range_with_len 0 g.nodes) (In-range_with_len 0 g.nodes n (omega arith) (omega (arith, among)))
      (met-marked (replicate g.nodes false) (nodes_met g words) n (subst (λ l. n < l) (sym (length-replicate g.nodes false)) among) i)

  -- each is the first one of its port
  abbrev IsOwn : ℕ × ℕ → Type 0
  IsOwn first = (first.1 < g.nodes) × (first_node g words first.0 ≡ Some first.1)

  port-key : (n : ℕ) → In n (nodes_met g words) → (f n).0 ≡ word_at g words (Node n KeyWord)
  port-key n i = let small = listable.port n i in omega (arith, small)

  own : (n : ℕ) → In n (nodes_met g words) → IsOwn (f n)
  own n i = (met-among g words n i, ap (first_node g words) (port-key n i) ∙ listable.first n i)

  all_own : (ns : List ℕ) → ((n : ℕ) → In n ns → In n (nodes_met g words)) → AllByRecursion IsOwn (map f ns)
  all_own [] met = tt
  all_own (n ∷ ns) met = (own n (met n (inl refl)), all_own ns (λ m i. met m (inr i)))

  -- so different ones are of different ports
  others : (n : ℕ) (ns : List ℕ) → In n (nodes_met g words) → ((m : ℕ) → In m ns → In m (nodes_met g words)) → NotIn n ns
      → AllByRecursion (λ y. same (f n) y ≡ false) (map f ns)
  others n [] here met none = tt
  others n (m ∷ ns) here met none = (
    ne_eqb (f n).0 (f m).0
        (λ e. let one : ◌≡◌ {A = Option ℕ} (Some n) (Some m) = sym (own n here).1 ∙ ap (first_node g words) e ∙ (own m (met m (inl refl))).1 in
        none.0 (cc)),
    others n ns here (λ k i. met k (inr i)) none.1,
  )

  apart : (ns : List ℕ) → IsDistinct ns → ((n : ℕ) → In n ns → In n (nodes_met g words)) → AreApart same (map f ns)
  unfolding AreApart
  apart [] distinct met = tt
  apart (n ∷ ns) distinct met = (
    others n ns (met n (inl refl)) (λ m i. met m (inr i)) distinct.0,
    apart ns distinct.1 (λ m i. met m (inr i)),
  )

  nodes-distinct : IsDistinct nodes
  nodes-distinct = filter-distinct (is_marked marks) (range_with_len 0 g.nodes) (range-distinct 0 g.nodes)

  few_put : length (map f nodes) ≤ g.nodes
  few_put =
      let few = length-count_below (λ n. true) g.nodes nodes nodes-distinct
      (In-AllByRecursion (λ n. n < g.nodes) nodes (λ n i. met-among g words n (put-met n i))) (λ n i. refl) in
      let most = count_below-most (λ n. true) g.nodes in
      let long : length (map f nodes) ≡ length nodes = length-map nodes f in
      omega (arith, few, most, long)

  -- ---- in any order

  find-own : (port : ℕ) (xs : List (ℕ × ℕ)) (x : ℕ × ℕ) → AllByRecursion IsOwn xs → find (is_of port) xs ≡ Some x
      → first_node g words port ≡ Some x.1
  find-own port [] x all is = absurd (cc)
  find-own port (y ∷ ys) x all is = go (y.0 == port) refl is (find-own port ys x all.1)
    where
      go : (t : Bool) → (y.0 == port) ≡ t → cond t (Some y) (find (is_of port) ys) ≡ Some x
          → (find (is_of port) ys ≡ Some x → first_node g words port ≡ Some x.1) → first_node g words port ≡ Some x.1
      go true here is behind =
          let one : y ≡ x = cc in
          ap (first_node g words) (sym (eqb-true y.0 port here)) ∙ all.0.1 ∙ ap (λ (z : ℕ × ℕ). Some z.1) one
      go false other is behind = behind is

  find-none : (port : ℕ) (xs : List (ℕ × ℕ)) → find (is_of port) xs ≡ None → AllByRecursion (λ x. is_of port x ≡ false) xs
  find-none port [] is = tt
  find-none port (y ∷ ys) is = go (y.0 == port) refl is (find-none port ys)
    where
      go : (t : Bool) → (y.0 == port) ≡ t → cond t (Some y) (find (is_of port) ys) ≡ None
          → (find (is_of port) ys ≡ None → AllByRecursion (λ x. is_of port x ≡ false) ys) → AllByRecursion (λ x. is_of port x ≡ false) (y ∷ ys)
      go true here is behind = absurd (cc)
      go false other is behind = (other, behind is)

  put-at : (P : ℕ × ℕ → Type 0) (ns : List ℕ) (n : ℕ) → AllByRecursion P (map f ns) → In n ns → P (f n)
  put-at P [] n all i = absurd i
  put-at P (m ∷ ns) n all (inl e) = subst (λ k. P (f k)) (sym e) all.0
  put-at P (m ∷ ns) n all (inr i) = put-at P ns n all.1 i

  module _ (sorted : List (ℕ × ℕ)) (moved : IsPermutation (map f nodes) sorted) where
    sorted_own : AllByRecursion IsOwn sorted
    sorted_own =
        recursion_from_All IsOwn sorted (All-permutation IsOwn (map f nodes) sorted moved
        (All-from_recursion IsOwn (map f nodes) (all_own nodes put-met)))

    each_port : (port : ℕ) → node_behind g words sorted port ≡ first_node g words port
    each_port port = go (find (is_of port) sorted) refl (first_node g words port) refl
      where
        go : (found : Option (ℕ × ℕ)) → find (is_of port) sorted ≡ found → (first : Option ℕ) → first_node g words port ≡ first
            → option_map (λ x. x.1) found ≡ first
        go (Some x) is first first_is = sym (find-own port sorted x sorted_own is) ∙ first_is
        go None is None first_is = refl
        go None is (Some m) first_is =
            let member = find-Some (has_key g words port) (nodes_met g words) m first_is in
            let key = port-key m member.0 ∙ eqb-true (word_at g words (Node m KeyWord)) port member.1 in
            let never = put-at (λ x. is_of port x ≡ false) nodes m (recursion_from_All (λ x. is_of port x ≡ false) (map f nodes)
            (All-permutation (λ x. is_of port x ≡ false) sorted (map f nodes) (IsPermutation-sym (map f nodes) sorted moved)
            (All-from_recursion (λ x. is_of port x ≡ false) sorted (find-none port sorted is)))) (met-put m member.0) in
            let there = eq-eqb (f m).0 port key in
            absurd (cc)

    sorted_apart : AreApart same sorted
    sorted_apart = IsDistinct-IsPermutation same (λ x y. grind (arith, nat_tests)) (map f nodes) sorted moved (apart nodes nodes-distinct put-met)

-- ---- where the ports don't fall

-- no port is below the one before it, and the first is no less than this number
abbrev AscendsFrom : ℕ → List (ℕ × ℕ) → Type 0
AscendsFrom low [] = Unit {0}
AscendsFrom low (x ∷ xs) = (low ≤ x.0) × AscendsFrom x.0 xs

ascends : (low : ℕ) (xs : List (ℕ × ℕ)) → ((d : ℕ × ℕ) → 0 < length xs → low ≤ (get_or xs 0 d).0) → IsNonDecreasingBy (λ x. x.0) xs
    → AscendsFrom low xs
ascends low [] above up = tt
ascends low (x ∷ xs) above up = (
  above x (omega arith),
  ascends x.0 xs (λ d some. up 0 1 d (omega arith) (omega arith)) (λ i j d le lt. up (suc i) (suc j) d (omega arith) (omega arith)),
)

higher : (x : ℕ × ℕ) (xs : List (ℕ × ℕ)) → AscendsFrom x.0 xs → AllByRecursion (λ y. same x y ≡ false) xs → AscendsFrom (suc x.0) xs
higher x [] up all = tt
higher x (y ∷ ys) up all = (let differs = eqb-false x.0 y.0 all.0 in omega (arith, up.0, differs), up.1)

rises : (low : ℕ) (xs : List (ℕ × ℕ)) → AscendsFrom low xs → AreApart same xs → RisesFrom low (map (λ x. x.0) xs)
unfolding AreApart
rises low [] up apart = tt
rises low (x ∷ xs) up apart = (up.0, rises (suc x.0) xs (higher x xs up.1 apart.0) apart.1)

-- a vector of which all was written
all_written : (n : ℕ) (xs ys : List Bool) → n ≡ length ys → length xs ≡ length ys → take n (xs ++ drop (length xs) ys) ≡ xs
all_written n xs ys is long =
    rw (drop_all (length xs) ys (omega (arith, long)), append-nil) (take_all n xs (omega (arith, is, long)))

pub returns : goal.returns
returns c =
    let g = c.args.geometry in
    let words = c.args.words.now in
    let listable = c.requires.listable in
    let met = c.args.met in
    let sorted = c.sort_unstable_by_key.new.self.items in
    let mets : c.mark_all.new.met ≡ marks g words listable =
    c.mark_all.ensures ∙ ap (λ l. marked l (nodes_met g words)) (c.as_mut_slice.ensures.value ∙ c.requires.met) in
    let long : length c.mark_all.new.met ≡ length met.items =
    ap length mets ∙ length-marked (replicate g.nodes false) (nodes_met g words) ∙ ap length (sym c.requires.met) in
    let read : c.as_slice.result.now ≡ marks g words listable =
    c.as_slice.ensures.value ∙ all_written met.len c.mark_all.new.met met.items met.ok.0 long ∙ mets in
    let moved = subst (λ l. IsPermutation l sorted)
    (c.put_marked.ensures ∙ ap (λ l. map (with_port g words) (marked_below l g.nodes)) read) c.sort_unstable_by_key.ensures.permutation in
    let up : IsNonDecreasingBy (λ x. x.0) sorted =
    IsNonDecreasingBy-from_sort_by_key (λ node. node.0) sorted c.sort_unstable_by_key.ensures.sorted (λ a r f k. search rules) in
    let few = few_put g words listable in
    let many = length_permutation (map (with_port g words) (nodes g words listable)) sorted moved in
    record {
      rising = IsStrictlyIncreasing-from_rises 0 (map (λ x. x.0) sorted)
          (rises 0 sorted (ascends 0 sorted (λ d some. omega arith) up) (sorted_apart g words listable sorted moved));
      each = each_port g words listable sorted moved;
      own = All-from_recursion (IsOwn g words listable) sorted (sorted_own g words listable sorted moved);
      few = omega (arith, few, many);
    }
