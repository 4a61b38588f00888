-- A walk sees of its chain what is to be seen.
--
-- By induction over the nodes that are left. What was passed so far is known by its last node and its number alone.
use Rattle.std.proofs.Common.{◌≡◌, ℕ, ◌+◌, ◌^◌, ◌<◌, List, [], ◌∷◌, length, Option, Some, None, Bool, false, inl, inr, sym, ap, ◌∙◌, subst, arith}
use Rattle.std.proofs.lemmas.Bool.{cases_Bool}
use Rattle.std.proofs.lemmas.List.{set-get_or}
use Rattle.std.proofs.lemmas.List.Elements.{All-head, All-tail}
use Rattle.std.specs.List.{All, find, before_first, last_or}
use Rattle.rht_words.specs.declared.machine.Next.TheVariants.{Go, Done}
use Rattle.rht_words.specs.declared.geometry.Geometry.{Geometry}
use Rattle.rht_words.specs.Links.{head_of, node_of, link_of}
use Rattle.rht_words.specs.Operations.{applied, old_of}
use Rattle.rht_words.specs.Chains.{IsSegment, chain_in, key_in}
use Rattle.rht_words.specs.Machines.{EndsAlone}
use Rattle.rht_words.proofs.LinksRead.{links_tell_apart}
use Rattle.rht_words.specs.Places.{Node, KeyWord, ChainLink, place_of}
use Rattle.rht_words.proofs.MachineRuns.{ends_now, ends_later}
use Rattle.rht_chain.specs.declared.locked_walk.Seen.{Seen}
use Rattle.rht_chain.specs.declared.locked_walk.LockedWalkAt.{LockedWalkAt}
use Rattle.rht_chain.specs.declared.locked_walk.LockedWalkAt.TheVariants as at
use Rattle.rht_chain.specs.LockedWalk.{LockedWalkModel, locked_walk_plan, locked_walk_after, walk_plan_at, followed, one_more, not_found, walk_from}
use Rattle.rht_chain.proofs.FirstNodes.{node_passed}
use Rattle.rht_chain.specs.Laws.{has_key, seen_in, seen_behind, EndsWith, WalksSeeTheirChain}

-- what is seen of a chain where so many nodes were passed before it, of which this was the last one
abbrev seen_further : Option ℕ → ℕ → List ℕ → ℕ → Option ℕ → Seen
seen_further last count passed stop None = not_found (last_or last passed) (count + length passed) stop
seen_further last count passed stop (Some node) =
    record {
      found = Some node;
      before = last_or last passed;
      length = count + length passed + 1;
      end =
          link_of node;
    }

-- with no node before it, that is what is to be seen
seen_further-none : (passed : List ℕ) (stop : ℕ) (found : Option ℕ)
    → seen_further None 0 passed stop found ≡ seen_behind passed stop found
seen_further-none passed stop None = ap (λ n. not_found (last_or None passed) n stop) (omega arith)
seen_further-none passed stop (Some node) =
    ap (λ n. record { found = Some node; before = last_or None passed; length = n; end = link_of node })
    (omega arith)

-- one more node is passed
seen_further-more : (last : Option ℕ) (count node : ℕ) (passed : List ℕ) (stop : ℕ) (found : Option ℕ)
    → seen_further last count (node ∷ passed) stop found ≡ seen_further (Some node) (count + 1) passed
    stop found
seen_further-more last count node passed stop None =
    ap (λ n. not_found (last_or (Some node) passed) n stop) (omega arith)
seen_further-more last count node passed stop (Some n) =
    ap (λ l. record { found = Some n; before = last_or (Some node) passed; length = l; end = link_of n })
    (omega arith)

module _ (g : Geometry) (words : List ℕ) (key stop : ℕ) (stops : node_of g.nodes stop ≡ None) where
  abbrev test : ℕ → Bool
  test node = has_key (key_in g words) key node

  abbrev seen_of : Option ℕ → ℕ → List ℕ → Seen
  seen_of last count nodes = seen_further last count (before_first test nodes) stop (find test nodes)

  abbrev walk_at : Option ℕ → ℕ → LockedWalkAt → LockedWalkModel
  walk_at last count at = record { geometry = g; key = key; before = last; length = count; at = at }

  abbrev Ends : LockedWalkModel → Seen → Type 0
  Ends m seen = EndsAlone locked_walk_plan locked_walk_after m words seen words

  -- each operation is a load
  loads : (geometry : Geometry) (at : LockedWalkAt) → applied words (walk_plan_at geometry at) ≡ words
  loads geometry (at.Key node) = set-get_or words (place_of geometry (Node node KeyWord)) 0
  loads geometry (at.ChainLink node) = set-get_or words (place_of geometry (Node node ChainLink)) 0

  answers : (m next : LockedWalkModel) (seen : Seen)
      → locked_walk_after m (old_of words (locked_walk_plan m)) ≡ (next, Done seen) → Ends m seen
  answers m next seen is =
      subst (λ left. EndsAlone locked_walk_plan locked_walk_after m words seen left) (loads m.geometry m.at)
      (ends_now locked_walk_plan locked_walk_after m words seen (ap (λ p. p.1) is))

  goes_on : (m next : LockedWalkModel) (seen : Seen)
      → locked_walk_after m (old_of words (locked_walk_plan m)) ≡ (next, Go) → Ends next seen → Ends m seen
  goes_on m next seen is rest =
      let same = loads m.geometry m.at in
      let from_next : EndsAlone locked_walk_plan locked_walk_after next (applied words (locked_walk_plan m)) seen words =
      subst (λ w. EndsAlone locked_walk_plan locked_walk_after next w seen words) (sym same) rest in
      ends_later locked_walk_plan locked_walk_after m words seen words (ap (λ p. p.1) is)
      (subst (λ n. EndsAlone locked_walk_plan locked_walk_after n (applied words (locked_walk_plan m))
      seen words) (sym (ap (λ p. p.0) is)) from_next)

  -- a node without the key is passed
  passes : (last : Option ℕ) (count node : ℕ) (nodes : List ℕ) → test node ≡ false
      → seen_of last count (node ∷ nodes) ≡ seen_of (Some node) (count + 1) nodes
  passes last count node nodes other =
      let split = node_passed (key_in g words) key node nodes other in
      (ap (λ p. seen_further last count p stop (find test (node ∷ nodes))) split.1
      ∙ ap (λ f. seen_further last count (node ∷ before_first test nodes) stop f) split.0)
      ∙ seen_further-more last count node (before_first test nodes) stop (find test nodes)

  -- Before the key of a node is loaded: `behind` is the walk behind it, where the key is another.
  at_key : (node : ℕ) (nodes : List ℕ) (last : Option ℕ) (count : ℕ) → count + 1 < 2 ^ 32
      → Ends (walk_at last (count + 1) (at.ChainLink node)) (seen_of (Some node) (count + 1) nodes)
      → Ends (walk_at last count (at.Key node)) (seen_of last count (node ∷ nodes))
  at_key node nodes last count few behind =
      let exact : one_more count ≡ count + 1 = omega (arith, few) in
      elim (cases_Bool (test node)) [
        | inl is ↦ answers (walk_at last count (at.Key node))
            (walk_at last (one_more count) (at.Key node)) (seen_of last count (node ∷ nodes))
            (rw is (ap (λ n. (
              walk_at last (one_more count) (at.Key node),
              Done
                  (record { found = Some node; before = last; length = n; end = link_of node }),
            )) (exact
            ∙ omega arith)))
        | inr other ↦
            rw (passes last count node nodes other)
            (goes_on (walk_at last count (at.Key node)) (walk_at last (count + 1) (at.ChainLink node))
            (seen_of (Some node) (count + 1) nodes)
            (rw other (ap (λ n. (walk_at last n (at.ChainLink node), Go)) exact))
            behind)
      ]

  -- before the link behind a node is loaded, by induction over the nodes that are behind it
  behind_node : (node : ℕ) (nodes : List ℕ) (last : Option ℕ) (count : ℕ)
      → IsSegment (chain_in g words) (chain_in g words node) nodes stop
      → All (λ n. n < g.nodes) nodes → count + length nodes < 2 ^ 32
      → Ends (walk_at last count (at.ChainLink node)) (seen_of (Some node) count nodes)
  behind_node node [] last count segment within few =
      let link = chain_in g words node in
      let none : node_of g.nodes link ≡ None = ap (λ l. node_of g.nodes l) segment ∙ stops in
      let ended = walk_at (Some node) count (at.ChainLink node) in
      answers (walk_at last count (at.ChainLink node)) ended (seen_of (Some node) count [])
      (ap (λ o. followed (walk_at last count (at.ChainLink node)) node link o) none
      ∙ (ap (λ n. (ended, Done (not_found (Some node) n link))) (omega arith)
      ∙ ap (λ l. (ended, Done (not_found (Some node) (count + 0) l))) segment))
  behind_node node (next ∷ nodes) last count segment within few =
      let link = chain_in g words node in
      let some : node_of g.nodes link ≡ Some next =
      ap (λ l. node_of g.nodes l) segment.0
      ∙ links_tell_apart.link_names g.nodes next (All-head (λ n. n < g.nodes) next nodes within) in
      let rest : Ends (walk_at (Some node) (count + 1) (at.ChainLink next)) (seen_of (Some next) (count + 1) nodes) =
      behind_node next nodes (Some node) (count + 1) segment.1
      (All-tail (λ n. n < g.nodes) next nodes within) (omega (arith, few)) in
      goes_on (walk_at last count (at.ChainLink node)) (walk_at (Some node) count (at.Key next))
      (seen_of (Some node) count (next ∷ nodes))
      (ap (λ o. followed (walk_at last count (at.ChainLink node)) node link o) some)
      (at_key next nodes (Some node) count (omega (arith, few)) rest)

  -- before the key of a node is loaded
  at_node : (node : ℕ) (nodes : List ℕ) (last : Option ℕ) (count : ℕ)
      → IsSegment (chain_in g words) (chain_in g words node) nodes stop
      → All (λ n. n < g.nodes) nodes → count + length nodes + 1 < 2 ^ 32
      → Ends (walk_at last count (at.Key node)) (seen_of last count (node ∷ nodes))
  at_node node nodes last count segment within few =
      at_key node nodes last count (omega (arith, few))
      (behind_node node nodes last (count + 1) segment within (omega (arith, few)))

  -- a chain that is begun at its first link
  pub starts_with : (first : ℕ) (nodes : List ℕ) → IsSegment (chain_in g words) first nodes stop
      → All (λ n. n < g.nodes) nodes → length nodes < 2 ^ 32
      → EndsWith words (seen_in (key_in g words) key nodes stop)
      (walk_from g key first (node_of g.nodes first))
  starts_with first [] segment within few =
      let none : node_of g.nodes first ≡ None = ap (λ l. node_of g.nodes l) segment ∙ stops in
      subst (λ o. EndsWith words (not_found None 0 stop) (walk_from g key first o)) (sym none)
      (ap (λ l. not_found None 0 l) segment)
  starts_with first (node ∷ nodes) segment within few =
      let some : node_of g.nodes first ≡ Some node =
      ap (λ l. node_of g.nodes l) segment.0
      ∙ links_tell_apart.link_names g.nodes node (All-head (λ n. n < g.nodes) node nodes within) in
      subst (λ o. EndsWith words (seen_in (key_in g words) key (node ∷ nodes) stop)
      (walk_from g key first o)) (sym some)
      (subst (λ seen. Ends (walk_at None 0 (at.Key node)) seen)
      (seen_further-none (before_first test (node ∷ nodes)) stop (find test (node ∷ nodes)))
      (at_node node nodes None 0 segment.1 (All-tail (λ n. n < g.nodes) node nodes within)
      (omega (arith, few))))

pub walks_see_their_chain : WalksSeeTheirChain
walks_see_their_chain g words place word key nodes stop can =
    starts_with g words key stop can.stops (head_of place word) nodes can.segment can.within can.few
