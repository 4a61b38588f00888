-- In every run each node that is met is the first one of its port, and no node is in two ports' lists.
use Rattle.std.proofs.Common.{◌≡◌, ℕ, ◌<◌, ◌≤◌, true, List, [], ◌∷◌, ◌++◌, length, Some, refl, sym, ◌∙◌, ap, subst, inl, inr, arith}
use Rattle.std.specs.List.{flat_map}
use Rattle.rht_words.specs.declared.env.Env.{Env}
use Rattle.rht_words.specs.Members.{In, IsDistinct}
use Rattle.rht_words.proofs.Members.{In-AllByRecursion, not_in_from, in_and_not, NotIn-append, flat_map-In, count_below-most, length-count_below}
use Rattle.rht_core.specs.declared.event.Event.{Event}
use Rattle.rht_core.specs.Runs.{run_of, IsAdmitted}
use Rattle.rht_stands.specs.StandsFor.{nodes_of}
use Rattle.rht_stands.specs.Closing.{IsListable}
use Rattle.rht_ghost.proofs.Theory.Ghosts.{Owner, Free, NodeHeld, First, Leaving, Behind, Taken, Ghost, seat_of}
use Rattle.rht_ghost.proofs.Theory.Wholes.{key_of, Whole}
use Rattle.rht_ghost.proofs.Theory.Steps.{mem}
use Rattle.rht_ghost.proofs.Pieces.Lists.{list_among}
use Rattle.rht_core.proofs.Meaning.BoundPorts.{met_bound, first_bound, listed_bound}
use Rattle.rht_core.proofs.Events.InvariantRuns.{has_inv}

-- ---- lists that have nothing in common

IsDistinct-append : (xs ys : List ℕ) → IsDistinct xs → IsDistinct ys → ((y : ℕ) → In y xs → In y ys → ⊥) → IsDistinct (xs ++ ys)
IsDistinct-append [] ys left right apart = right
IsDistinct-append (x ∷ xs) ys left right apart = (
  NotIn-append x xs ys left.0 (not_in_from x ys (apart x (inl refl))),
  IsDistinct-append xs ys left.1 right (λ y i. apart y (inr i)),
)

-- each member tells in whose list it is
pub IsDistinct-flat_map : (f : ℕ → List ℕ) (whose : ℕ → ℕ) → ((x y : ℕ) → In y (f x) → whose y ≡ x) → ((x : ℕ) → IsDistinct (f x))
    → (xs : List ℕ) → IsDistinct xs → IsDistinct (flat_map f xs)
IsDistinct-flat_map f whose told each [] distinct = tt
IsDistinct-flat_map f whose told each (x ∷ xs) distinct =
    IsDistinct-append (f x) (flat_map f xs) (each x) (IsDistinct-flat_map f whose told each xs distinct.1)
    (λ y here there.
    let from = flat_map-In f y xs there in
    in_and_not x xs (subst (λ z. In z xs) (sym (told from.0 y from.2) ∙ told x y here) from.1) distinct.0)

-- the port of a node that is in a port's list: the one behind whose first node it is, or else that of its key
abbrev port_by : Owner → ℕ → ℕ
port_by Free key = key
port_by (NodeHeld c) key = key
port_by (First j) key = key
port_by (Leaving j) key = key
port_by (Behind port) key = port
port_by (Taken c) key = key

port_by-seat : (o : Owner) (j key : ℕ) → seat_of o ≡ Some j → port_by o key ≡ key
port_by-seat (Behind port) j key is = absurd (cc)
port_by-seat _ j key is = refl

module _ (env : Env) (mix : ℕ → ℕ → ℕ → ℕ) (words : List ℕ) (G : Ghost) (whole : Whole env mix (mem env mix words) G) where
  abbrev whose : ℕ → ℕ
  whose n = port_by (G.node n) (key_of (mem env mix words) n)

  bound-whose : (port n : ℕ) → In n (G.bound port) → whose n ≡ port
  bound-whose port n i = go (G.bound port) refl i
    where
      go : (bound : List ℕ) → G.bound port ≡ bound → In n bound → whose n ≡ port
      go [] b i = absurd i
      go (first ∷ behind) b (inl same) =
          let to = whole.owned.bound_to port first behind b in
          ap whose same ∙ port_by-seat (G.node first) to.bucket (key_of (mem env mix words) first) to.first ∙ to.key_is
      go (first ∷ behind) b (inr i) =
          ap (λ o. port_by o (key_of (mem env mix words) n)) ((whole.owned.bound_to port first behind b).each n i)

  bound-distinct : (port : ℕ) → IsDistinct (G.bound port)
  bound-distinct port = go (G.bound port) refl
    where
      go : (bound : List ℕ) → G.bound port ≡ bound → IsDistinct bound
      go [] b = tt
      go (first ∷ behind) b = (whole.owned.bound_to port first behind b).distinct

  bound-among : (port n : ℕ) → In n (G.bound port) → n < env.geometry.nodes
  bound-among port n i = go (G.bound port) refl i
    where
      go : (bound : List ℕ) → G.bound port ≡ bound → In n bound → n < env.geometry.nodes
      go [] b i = absurd i
      go (first ∷ behind) b i = list_among env mix (mem env mix words) G whole port first behind b n i

  -- the nodes in the lists of different ports are different ones
  few_in_lists : (ports : List ℕ) → IsDistinct ports → length (flat_map (nodes_of env.geometry words) ports) ≤ env.geometry.nodes
  few_in_lists ports distinct =
      let f = nodes_of env.geometry words in
      let bound : (port : ℕ) → f port ≡ G.bound port = listed_bound env mix words G whole in
      let all = IsDistinct-flat_map f whose (λ port n i. bound-whose port n (subst (In n) (bound port) i))
      (λ port. subst IsDistinct (sym (bound port)) (bound-distinct port)) ports distinct in
      let few = length-count_below (λ n. true) env.geometry.nodes (flat_map f ports) all
      (In-AllByRecursion (λ n. n < env.geometry.nodes) (flat_map f ports)
      (λ n i. let from = flat_map-In f n ports i in bound-among from.0 n (subst (In n) (bound from.0) from.2)))
      (λ n i. refl) in
      let most = count_below-most (λ n. true) env.geometry.nodes in
      omega (arith, few, most)

  words_listable : IsListable env.geometry words
  words_listable = record {
    port = λ n i. let is = met_bound env mix words G whole n i in whole.owned.small (key_of (mem env mix words) n) n is.0 is.1;
    first = λ n i.
        let is = met_bound env mix words G whole n i in
        first_bound env mix words G whole (key_of (mem env mix words) n) (n ∷ is.0) is.1;
    few = few_in_lists;
  }

-- what the words of a run stand for can be listed
pub run_listable : (M : Type 0) (mix : ℕ → ℕ → ℕ → ℕ) (env : Env) (events : List Event) → IsAdmitted events
    → IsListable env.geometry (run_of {M = M} mix env events).core.words
run_listable M mix env events admitted =
    let has = has_inv env mix M events admitted in
    words_listable env mix (run_of {M = M} mix env events).core.words has.ghost has.inv.whole
