-- Owners that are added port by port, with the ports rising, make a pair of each port; and that list is the one of the bindings.
use Rattle.std.proofs.Common.{◌≡◌, ◌≢◌, ℕ, zero, suc, ◌+◌, ◌-◌, ◌<◌, ◌≤◌, drop, drop-cons, add-one, Option, Some, None, List, [], ◌∷◌, ◌++◌, map, length, append_assoc, refl, sym, ◌∙◌, ap, subst, inl, inr, arith}
use Rattle.std.specs.List.{AllByRecursion, flat_map}
use Rattle.std.specs.List.Sorted.{IsStrictlyIncreasing}
use Rattle.std.proofs.lemmas.Bool.{eq-eqb, ne_eqb, cases_eq}
use Rattle.std.proofs.lemmas.List.{append-nil, drop_all, length-map, length-append}
use Rattle.std.proofs.lemmas.List.Elements.{All-from_recursion, recursion_from_All}
use Rattle.rht_words.specs.declared.geometry.Geometry.{Geometry}
use Rattle.rht_words.specs.Members.{In, IsDistinct}
use Rattle.rht_words.proofs.Members.{not_in_from}
use Rattle.rht_words.proofs.EachElement.{AllByRecursion-push, AllByRecursion-weaker}
use Rattle.rht_model.specs.Listing.{added, listed_at, ports_of, Lists}
use Rattle.rht_model.proofs.RisingPorts.{RisesFrom, RisesFrom-from_increasing}
use Rattle.rht_stands.specs.StandsFor.{first_node, list_from, nodes_of, owners_at, owners_from, stands_for}
use Rattle.rht_stands.specs.Closing.{node_behind, owned, all_added, IsListable, AreFirsts}
use Rattle.rht_stands.proofs.closing.listing.Goals as goal

-- ---- owners added one after another

-- a port above all others gets a pair of its own, behind them
added-new : (pairs : List (ℕ × List ℕ)) (port owner : ℕ) → AllByRecursion (λ pair. pair.0 < port) pairs
    → added pairs port owner ≡ pairs ++ (port, owner ∷ []) ∷ []
added-new [] port owner below = refl
added-new (pair ∷ []) port owner below = rw (ne_eqb pair.0 port (λ same. omega (arith, below.0, same))) refl
added-new (pair ∷ next ∷ pairs) port owner below = ap (λ l. pair ∷ l) (added-new (next ∷ pairs) port owner below.1)

-- the port of the last pair gets its owner there
added-last : (pairs : List (ℕ × List ℕ)) (port : ℕ) (owners : List ℕ) (owner : ℕ)
    → added (pairs ++ (port, owners) ∷ []) port owner ≡ pairs ++ (port, owners ++ owner ∷ []) ∷ []
added-last [] port owners owner = rw (eq-eqb port port refl) refl
added-last (pair ∷ []) port owners owner = ap (λ l. pair ∷ l) (added-last [] port owners owner)
added-last (pair ∷ next ∷ pairs) port owners owner = ap (λ l. pair ∷ l) (added-last (next ∷ pairs) port owners owner)

all_added-append : (pairs : List (ℕ × List ℕ)) (xs ys : List (ℕ × ℕ)) → all_added pairs (xs ++ ys) ≡ all_added (all_added pairs xs) ys
all_added-append pairs [] ys = refl
all_added-append pairs (x ∷ xs) ys = all_added-append (added pairs x.0 x.1) xs ys

-- and so it gets all the owners that are its own
all_added-last : (pairs : List (ℕ × List ℕ)) (port : ℕ) (owners more : List ℕ) (rest : List (ℕ × ℕ))
    → all_added (pairs ++ (port, owners) ∷ []) (map (λ o. (port, o)) more ++ rest)
    ≡ all_added (pairs ++ (port, owners ++ more) ∷ []) rest
all_added-last pairs port owners [] rest = rw (append-nil owners) refl
all_added-last pairs port owners (owner ∷ more) rest =
    ap (λ l. all_added l (map (λ o. (port, o)) more ++ rest)) (added-last pairs port owners owner)
    ∙ all_added-last pairs port (owners ++ owner ∷ []) more rest
    ∙ ap (λ l. all_added (pairs ++ (port, l) ∷ []) rest) (append_assoc owners (owner ∷ []) more)

all_added-new : (pairs : List (ℕ × List ℕ)) (port owner : ℕ) (more : List ℕ) (rest : List (ℕ × ℕ))
    → AllByRecursion (λ pair. pair.0 < port) pairs
    → all_added pairs ((port, owner) ∷ (map (λ o. (port, o)) more ++ rest)) ≡ all_added (pairs ++ (port, owner ∷ more) ∷ []) rest
all_added-new pairs port owner more rest below =
    ap (λ l. all_added l (map (λ o. (port, o)) more ++ rest)) (added-new pairs port owner below)
    ∙ all_added-last pairs port (owner ∷ []) more rest

-- ports that rise are different ones
above : (low : ℕ) (ports : List ℕ) → RisesFrom low ports → (port : ℕ) → In port ports → low ≤ port
above low [] rises port i = absurd i
above low (p ∷ ports) rises port (inl e) = omega (arith, rises.0, e)
above low (p ∷ ports) rises port (inr i) = let more = above (suc p) ports rises.1 port i in omega (arith, rises.0, more)

rising-distinct : (low : ℕ) (ports : List ℕ) → RisesFrom low ports → IsDistinct ports
rising-distinct low [] rises = tt
rising-distinct low (p ∷ ports) rises = (
  not_in_from p ports (λ i. let more = above (suc p) ports rises.1 p i in omega (arith, more)),
  rising-distinct (suc p) ports rises.1,
)

module _ (g : Geometry) (words : List ℕ) where
  -- ---- the pairs of ports with these first nodes

  abbrev owners_behind : Option ℕ → List ℕ
  owners_behind first = owners_from g words g.nodes first

  abbrev pairs_of : List (ℕ × ℕ) → List (ℕ × List ℕ)
  pairs_of firsts = map (λ first. (first.0, owners_behind (Some first.1))) firsts

  -- a first node has an owner
  some_owner : (node : ℕ) → (owner : ℕ) × (more : List ℕ) × (owners_behind (Some node) ≡ owner ∷ more)
  some_owner node =
      let some : g.nodes ≡ suc (g.nodes - 1) = let least = g.within.nodes_within.0 in omega arith in
      (_, _, ap (λ left. owners_from g words left (Some node)) some)

  none_owned : (left : ℕ) → owners_from g words left None ≡ []
  none_owned zero = refl
  none_owned (suc left) = refl

  -- By induction over the ports: each has the next pair.
  all_added-owned : (pairs : List (ℕ × List ℕ)) (low : ℕ) (firsts : List (ℕ × ℕ)) → AllByRecursion (λ pair. pair.0 < low) pairs
      → RisesFrom low (map (λ first. first.0) firsts)
      → all_added pairs (flat_map (owned g words) firsts) ≡ pairs ++ pairs_of firsts
  all_added-owned pairs low [] below rises = sym (append-nil pairs)
  all_added-owned pairs low (first ∷ firsts) below rises =
      let port = first.0 in
      let some = some_owner first.1 in
      let own = owners_behind (Some first.1) in
      let rest = flat_map (owned g words) firsts in
      let lower = AllByRecursion-weaker (λ pair. pair.0 < low) (λ pair. pair.0 < port) (λ pair l. omega (arith, l, rises.0)) pairs below in
      let next = AllByRecursion-push (λ pair. pair.0 < suc port) pairs (port, own)
      (AllByRecursion-weaker (λ pair. pair.0 < port) (λ pair. pair.0 < suc port) (λ pair l. omega (arith, l)) pairs lower) (omega arith) in
      ap (λ l. all_added pairs (map (λ o. (port, o)) l ++ rest)) some.2
      ∙ all_added-new pairs port some.0 some.1 rest lower
      ∙ ap (λ l. all_added (pairs ++ (port, l) ∷ []) rest) (sym some.2)
      ∙ all_added-owned (pairs ++ (port, own) ∷ []) (suc port) firsts next rises.1
      ∙ append_assoc pairs ((port, own) ∷ []) (pairs_of firsts)

  -- ---- they are the listing

  ports_of-pairs_of : (firsts : List (ℕ × ℕ)) → ports_of (pairs_of firsts) ≡ map (λ first. first.0) firsts
  ports_of-pairs_of [] = refl
  ports_of-pairs_of (first ∷ firsts) = ap (λ l. first.0 ∷ l) (ports_of-pairs_of firsts)

  each_owned : (firsts : List (ℕ × ℕ)) → AllByRecursion (λ pair. pair.1 ≢ []) (pairs_of firsts)
  each_owned [] = tt
  each_owned (first ∷ firsts) = (λ none. let some = some_owner first.1 in let e = sym some.2 ∙ none in absurd (cc), each_owned firsts)

  -- they say of a port the owners behind its first node
  listed_at-pairs_of : (firsts : List (ℕ × ℕ)) (port : ℕ)
      → listed_at (pairs_of firsts) port ≡ owners_behind (node_behind g words firsts port)
  listed_at-pairs_of [] port = sym (none_owned g.nodes)
  listed_at-pairs_of (first ∷ firsts) port = elim (cases_eq port first.0) [
    | inl same ↦ rw (eq-eqb port first.0 same, eq-eqb first.0 port (sym same)) refl
    | inr other ↦ rw (ne_eqb port first.0 other, ne_eqb first.0 port (λ e. other (sym e))) (listed_at-pairs_of firsts port)
  ]

  Lists-pairs_of : (firsts : List (ℕ × ℕ)) → AreFirsts g words firsts → Lists (pairs_of firsts) (stands_for g words)
  Lists-pairs_of firsts are = record {
    rising = subst IsStrictlyIncreasing (sym (ports_of-pairs_of firsts)) are.rising;
    bound = All-from_recursion (λ pair. pair.1 ≢ []) (pairs_of firsts) (each_owned firsts);
    agree = λ port. listed_at-pairs_of firsts port ∙ ap owners_behind (are.each port);
  }

  -- ---- there is room for them

  length-owned : (firsts : List (ℕ × ℕ)) → AllByRecursion (λ first. (first.1 < g.nodes) × (first_node g words first.0 ≡ Some first.1)) firsts
      → length (flat_map (owned g words) firsts) ≡ length (flat_map (nodes_of g words) (map (λ first. first.0) firsts))
  length-owned [] own = refl
  length-owned (first ∷ firsts) own =
      let nodes = list_from g words g.nodes (Some first.1) in
      let here : length (owned g words first) ≡ length (nodes_of g words first.0) =
      length-map (owners_at g words nodes) _ ∙ length-map nodes _ ∙ ap (λ o. length (list_from g words g.nodes o)) (sym own.0.1) in
      let rest = length-owned firsts own.1 in
      let left = length-append (owned g words first) (flat_map (owned g words) firsts) in
      let right = length-append (nodes_of g words first.0) (flat_map (nodes_of g words) (map (λ first. first.0) firsts)) in
      omega (arith, here, rest, left, right)

  few_owned : (firsts : List (ℕ × ℕ)) → IsListable g words → AreFirsts g words firsts → length (flat_map (owned g words) firsts) ≤ g.nodes
  few_owned firsts listable are =
      let rises = RisesFrom-from_increasing 0 (map (λ first. first.0) firsts) (λ some. omega arith) are.rising in
      let few = listable.few (map (λ first. first.0) firsts) (rising-distinct 0 (map (λ first. first.0) firsts) rises) in
      let same = length-owned firsts (recursion_from_All _ firsts are.own) in
      omega (arith, few, same)

-- ---- the loop

pub loop-first-init : goal.loop-first-init
loop-first-init c =
    let g = c.args.geometry in
    let words = c.args.words.now in
    let firsts = c.deref-first-items.result.now in
    let are : AreFirsts g words firsts = subst (AreFirsts g words) (sym c.deref-first-items.ensures.value) c.first_nodes-firsts.ensures in
    record {
      all = ap (λ pairs. all_added pairs (flat_map (owned g words) firsts)) c.requires.room.pairs;
      room = (let few = few_owned g words firsts c.requires.listable are in let room = c.requires.room.room_left in omega (arith, few, room));
      firsts = are;
    }

pub loop-first-preserved : goal.loop-first-preserved
loop-first-preserved c =
    let g = c.args.geometry in
    let words = c.args.words.now in
    let firsts = c.deref-first-items.result.now in
    let i = c.loop-first.first-index in
    let first = c.first-item.result in
    let pairs = c.loop-first.bindings.pairs in
    let here = owned g words first in
    let rest = flat_map (owned g words) (drop (i + 1) firsts) in
    let within : i < length firsts = omega arith in
    let parts : drop i firsts ≡ first ∷ drop (i + 1) firsts = rw (add-one, drop-cons firsts i first, ← c.first-item.is) refl in
    let more : flat_map (owned g words) (drop i firsts) ≡ here ++ rest = ap (flat_map (owned g words)) parts in
    let long : length (flat_map (owned g words) (drop i firsts)) ≡ length here + length rest = ap length more ∙ length-append here rest in
    let before = c.loop-first.invariant.room in
    let after = c.add_owners.ensures.room in
    record {
      all = ap (λ l. all_added l rest) c.add_owners.ensures.pairs
          ∙ sym (all_added-append pairs here rest)
          ∙ sym (ap (all_added pairs) more)
          ∙ c.loop-first.invariant.all;
      room = omega (arith, long, before, after);
      firsts = c.loop-first.invariant.firsts;
    }

-- the bindings are in the end the pairs of the first nodes
module _ (g : Geometry) (words : List ℕ) (pairs : List (ℕ × List ℕ)) (firsts : List (ℕ × ℕ)) (i : ℕ) (over : length firsts ≤ i)
    (all : all_added pairs (flat_map (owned g words) (drop i firsts)) ≡ all_added [] (flat_map (owned g words) firsts))
    (are : AreFirsts g words firsts) where
  in_the_end : pairs ≡ pairs_of g words firsts
  in_the_end =
      let low = RisesFrom-from_increasing 0 (map (λ first. first.0) firsts) (λ some. omega arith) are.rising in
      sym (ap (λ l. all_added pairs (flat_map (owned g words) l)) (drop_all i firsts over)) ∙ all ∙ all_added-owned g words [] 0 firsts tt low

pub returns-clause-listed : goal.returns-clause-listed
returns-clause-listed c =
    let g = c.args.geometry in
    let words = c.args.words.now in
    let before = c.loop-first.invariant in
    let is = in_the_end g words c.loop-first.bindings.pairs c.deref-first-items.result.now c.loop-first.first-index c.loop-first-test.false
    before.all before.firsts in
    subst (λ l. Lists l (stands_for g words)) (sym is) (Lists-pairs_of g words c.deref-first-items.result.now before.firsts)

pub returns-clause-few : goal.returns-clause-few
returns-clause-few c =
    let g = c.args.geometry in
    let words = c.args.words.now in
    let before = c.loop-first.invariant in
    let firsts = c.deref-first-items.result.now in
    let is = in_the_end g words c.loop-first.bindings.pairs firsts c.loop-first.first-index c.loop-first-test.false before.all before.firsts in
    let long : length c.loop-first.bindings.pairs ≡ length firsts = ap length is ∙ length-map firsts _ in
    let few = before.firsts.few in
    let most = g.within.nodes_within.1 in
    omega (arith, long, few, most)
