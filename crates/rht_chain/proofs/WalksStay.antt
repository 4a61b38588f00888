-- A walk begins in its chain, and each of its operations leaves it there or shows what there is to see.
use Rattle.std.proofs.Common.{◌≡◌, ◌≢◌, ℕ, ◌+◌, ◌^◌, ◌<◌, List, [], ◌∷◌, ◌++◌, append_assoc, length, Option, Some, None, refl, sym, ap, ◌∙◌, subst, eqb, length-append, arith}
use Rattle.std.proofs.lemmas.Bool.{cond_both, eqb-true, eqb-false}
use Rattle.std.proofs.lemmas.List.Elements.{All-nil, All-head, All-tail, All-push}
use Rattle.std.proofs.lemmas.List.{length_push}
use Rattle.std.specs.List.{All, last_or}
use Rattle.rht_words.specs.declared.machine.Next.{Next}
use Rattle.rht_words.specs.declared.machine.Next.TheVariants.{Go, Done}
use Rattle.rht_words.specs.declared.geometry.Geometry.{Geometry}
use Rattle.rht_words.specs.Links.{head_of, node_of}
use Rattle.rht_words.specs.Chains.{IsSegment, chain_in, key_in}
use Rattle.rht_words.proofs.ChainLemmas.{IsSegment-cut, IsSegment-same}
use Rattle.rht_words.proofs.EachElement.{All-cut, last_or-push}
use Rattle.rht_words.proofs.LinksRead.{links_tell_apart}
use Rattle.rht_chain.specs.declared.locked_walk.Seen.{Seen}
use Rattle.rht_chain.specs.declared.locked_walk.LockedWalkAt.{LockedWalkAt}
use Rattle.rht_chain.specs.declared.locked_walk.LockedWalkAt.TheVariants as at
use Rattle.rht_chain.specs.LockedWalk.{LockedWalkModel, compared, found_at, followed, one_more, walk_from}
use Rattle.rht_chain.specs.Laws.{CanWalk, IsWalking, AreSameIn, IsInChain, BeginsInChain, WalksStayInChain, stepped, node_at, loaded}

-- the nodes of which the key was loaded are the first ones of the chain
loaded_first : (passed : List ℕ) (at : LockedWalkAt) (behind : List ℕ)
    → (rest : List ℕ) × (passed ++ node_at at ∷ behind ≡ loaded passed at ++ rest)
loaded_first passed (at.Key node) behind = (node ∷ behind, refl)
loaded_first passed (at.ChainLink node) behind = (behind, sym (append_assoc passed (node ∷ []) behind))

-- a walk is in its chain in other words too, where the chain's nodes are the same
IsWalking-same : (g : Geometry) (words other nodes : List ℕ) (m : LockedWalkModel)
    → AreSameIn g words other nodes
    → IsWalking g words nodes m → IsWalking g other nodes m
IsWalking-same g words other nodes m same walking =
    let Same : ℕ → Type 0 = λ node. key_in g other node ≡ key_in g words node in
    let first = loaded_first walking.passed m.at walking.behind in
    let keys : All Same (loaded walking.passed m.at) =
    (All-cut Same (loaded walking.passed m.at) first.0 (subst (λ list. All Same list) (walking.split
    ∙ first.1) same.keys)).0 in
    record {
      geometry = walking.geometry;
      passed = walking.passed;
      behind = walking.behind;
      split = walking.split;
      others = λ k d l is. walking.others k d l (sym (keys k d l) ∙ is);
      before = walking.before;
      counted = walking.counted;
    }

CanWalk-same : (g : Geometry) (words other : List ℕ) (link : ℕ) (nodes : List ℕ) (stop : ℕ)
    → AreSameIn g words other nodes
    → CanWalk g words link nodes stop → CanWalk g other link nodes stop
CanWalk-same g words other link nodes stop same can =
    record {
      segment = IsSegment-same (chain_in g words) (chain_in g other) nodes link stop same.links can.segment;
      within = can.within;
      stops = can.stops;
      few = can.few;
    }

module _ (g : Geometry) (words : List ℕ) (key stop : ℕ) where
  abbrev HasOther : ℕ → Type 0
  HasOther node = key_in g words node ≢ key

  abbrev walk_at : Option ℕ → ℕ → LockedWalkAt → LockedWalkModel
  walk_at before count at = record { geometry = g; key = key; before = before; length = count; at = at }

  -- the key of a node is loaded
  key_loaded : (nodes passed : List ℕ) (node : ℕ) (behind : List ℕ) (count : ℕ) (before : Option ℕ)
      → length nodes < 2 ^ 32
      → nodes ≡ passed ++ node ∷ behind → All HasOther passed → before ≡ last_or None passed
      → count ≡ length passed
      → let m = walk_at before (one_more count) (at.Key node) in
      IsInChain g words key nodes stop (compared m node (key_in g words node)).0
      (compared m node (key_in g words node)).1
  key_loaded nodes passed node behind count before few split others before_is count_is =
      let m = walk_at before (one_more count) (at.Key node) in
      let exact : one_more count ≡ length passed + 1 =
      omega (arith, few, count_is, ap length split, length-append passed (node ∷ behind)) in
      cond_both {A = LockedWalkModel × Next Seen} (eqb (key_in g words node) key)
      (m, Done (found_at m node)) (record m { at = at.ChainLink node }, Go)
      (λ next. IsInChain g words key nodes stop next.0 next.1)
      (λ has. record {
        passed = passed;
        behind = behind;
        split = split;
        others = others;
        has = eqb-true (key_in g words node) key has;
        before = before_is;
        length_is = exact;
        end_is = refl;
      })
      (λ other. (
        refl,
        record {
          geometry = refl;
          passed = passed;
          behind = behind;
          split = split;
          others = All-push HasOther passed node others (eqb-false (key_in g words node) key other);
          before = before_is;
          counted = exact ∙ sym (length_push passed node);
        },
      ))

  -- the link behind a node is loaded
  link_loaded : (nodes passed : List ℕ) (node : ℕ) (behind : List ℕ) (count : ℕ) (before : Option ℕ)
      → node_of g.nodes stop ≡ None
      → IsSegment (chain_in g words) (chain_in g words node) behind stop → All (λ n. n < g.nodes) behind
      → nodes ≡ passed ++ node ∷ behind → All HasOther (passed ++ node ∷ [])
      → count ≡ length (passed ++ node ∷ [])
      → let m = walk_at before count (at.ChainLink node) in let link = chain_in g words node in
      IsInChain g words key nodes stop (followed m node link (node_of g.nodes link)).0
      (followed m node link (node_of g.nodes link)).1
  link_loaded nodes passed node [] count before stops segment within split others count_is =
      let m = walk_at before count (at.ChainLink node) in
      let link = chain_in g words node in
      let none : node_of g.nodes link ≡ None = ap (λ l. node_of g.nodes l) segment ∙ stops in
      subst (λ o. IsInChain g words key nodes stop (followed m node link o).0 (followed m node link o).1)
      (sym none)
      (record {
        others = subst (λ list. All HasOther list) (sym split) others;
        before = sym (ap (λ list. last_or None list) split ∙ last_or-push None passed node);
        length_is = count_is ∙ ap length (sym split);
        end_is = segment;
      })
  link_loaded nodes passed node (next ∷ behind) count before stops segment within split others count_is =
      let m = walk_at before count (at.ChainLink node) in
      let link = chain_in g words node in
      let some : node_of g.nodes link ≡ Some next =
      ap (λ l. node_of g.nodes l) segment.0
      ∙ links_tell_apart.link_names g.nodes next (All-head (λ n. n < g.nodes) next behind within) in
      subst (λ o. IsInChain g words key nodes stop (followed m node link o).0 (followed m node link o).1)
      (sym some) (
        refl,
        record {
          geometry = refl;
          passed = passed ++ node ∷ [];
          behind = behind;
          split = split ∙ sym (append_assoc passed (node ∷ []) (next ∷ behind));
          others = others;
          before = sym (last_or-push None passed node);
          counted = count_is;
        },
      )

  -- by cases on the state
  stays_at : (link : ℕ) (nodes passed behind : List ℕ) (count : ℕ) (before : Option ℕ) (at : LockedWalkAt)
      → CanWalk g words link nodes stop
      → nodes ≡ passed ++ node_at at ∷ behind → All HasOther (loaded passed at) → before ≡ last_or None passed
      → count ≡ length (loaded passed at)
      → let next = stepped words (walk_at before count at) in IsInChain g words key nodes stop next.0 next.1
  stays_at link nodes passed behind count before (at.Key node) can split others before_is count_is =
      key_loaded nodes passed node behind count before can.few split others before_is count_is
  stays_at link nodes passed behind count before (at.ChainLink node) can split others before_is count_is =
      let segment =
      IsSegment-cut (chain_in g words) passed node behind link stop
      (subst (λ list. IsSegment (chain_in g words) link list stop) split can.segment) in
      let within =
      (All-cut (λ n. n < g.nodes) passed (node ∷ behind)
      (subst (λ list. All (λ n. n < g.nodes) list) split can.within)).1 in
      link_loaded nodes passed node behind count before can.stops segment.1
      (All-tail (λ n. n < g.nodes) node behind within) split others count_is

  -- a chain is begun at its first link
  begins_at : (link : ℕ) (nodes : List ℕ) → IsSegment (chain_in g words) link nodes stop
      → All (λ n. n < g.nodes) nodes → node_of g.nodes stop ≡ None
      → BeginsInChain g words key nodes stop (walk_from g key link (node_of g.nodes link))
  begins_at link [] segment within stops =
      let none : node_of g.nodes link ≡ None = ap (λ l. node_of g.nodes l) segment ∙ stops in
      subst (λ o. BeginsInChain g words key [] stop (walk_from g key link o)) (sym none)
      (record { others = All-nil HasOther; before = refl; length_is = refl; end_is = segment })
  begins_at link (node ∷ behind) segment within stops =
      let some : node_of g.nodes link ≡ Some node =
      ap (λ l. node_of g.nodes l) segment.0
      ∙ links_tell_apart.link_names g.nodes node (All-head (λ n. n < g.nodes) node behind within) in
      subst (λ o. BeginsInChain g words key (node ∷ behind) stop (walk_from g key link o)) (sym some) (
        refl,
        record {
          geometry = refl;
          passed = [];
          behind = behind;
          split = refl;
          others = All-nil
              HasOther;
          before = refl;
          counted = refl;
        },
      )

pub walks_stay_in_chain : WalksStayInChain
walks_stay_in_chain = record {
  begins =
      λ g words place word key nodes stop can. begins_at g words key stop (head_of place word) nodes
      can.segment can.within can.stops;
  stays = λ g words link nodes stop m can walking.
      subst (λ geometry. let next = stepped words (record m { geometry = geometry }) in IsInChain g words
      m.key nodes stop next.0 next.1)
      (sym walking.geometry)
      (stays_at g words m.key stop link nodes walking.passed walking.behind m.length m.before m.at can
      walking.split walking.others walking.before walking.counted);
  undisturbed = λ g words other link nodes stop m same can walking. (
    CanWalk-same g words other link nodes stop same can,
    IsWalking-same g words other nodes m same
        walking,
  );
}
