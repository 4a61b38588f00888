-- Along the list of a port's nodes: which node a list link leads to.
use Rattle.std.proofs.Common.{◌≡◌, ◌⊎◌, ℕ, ◌<◌, ◌≤◌, List, [], ◌∷◌, length, Option, true, refl, sym, ap, ◌∙◌, subst, inl, inr, arith}
use Rattle.rht_words.specs.declared.env.Env.{Env}
use Rattle.rht_words.specs.Chains.{IsSegment}
use Rattle.rht_words.specs.Links.{link_of, node_of}
use Rattle.rht_words.specs.Members.{In}
use Rattle.rht_words.proofs.ChainLemmas.{IsSegment-cut}
use Rattle.rht_words.proofs.LinksRead.{links_tell_apart}
use Rattle.rht_words.proofs.Memory.{Memory}
use Rattle.rht_words.proofs.Members.{in-middle, In-AllByRecursion, count_below-most, length-count_below}
use Rattle.rht_ghost.proofs.Theory.Ghosts.{Ghost}
use Rattle.rht_ghost.proofs.Theory.Wholes.{list_of, word_index, seated_at, Whole}
use Rattle.rht_ghost.proofs.Theory.Knowns.{IsAmong, list_link, first_of_list}
use Rattle.rht_ghost.proofs.Theory.Knowledge.{IsFound}

-- the next one of these nodes
pub record IsNextOf (nodes : List ℕ) (link : ℕ) : Type 0 where
  pub node : ℕ
  pub there : In node nodes
  pub link_is : link ≡ link_of node

-- behind each node of a list is the end or another of its nodes
segment_next : (links : ℕ → ℕ) (first : ℕ) (nodes : List ℕ) → IsSegment links (links first) nodes 0
    → (node : ℕ) → In node (first ∷ nodes) → (links node ≡ 0) ⊎ IsNextOf nodes (links node)
segment_next links first [] ends node (inl e) = inl (ap links e ∙ ends)
segment_next links first [] ends node (inr i) = absurd i
segment_next links first (next ∷ nodes) segment node (inl e) =
    inr (record { node = next; there = inl refl; link_is = ap links e ∙ segment.0 })
segment_next links first (next ∷ nodes) segment node (inr i) =
    elim (segment_next links next nodes segment.1 node i) [
      | inl ends ↦ inl ends
      | inr behind ↦ inr (record { node = behind.node; there = inr behind.there; link_is = behind.link_is })
    ]

-- the link from which nodes lie leads to the first of them, and names it
pub segment_link : (links : ℕ → ℕ) (link : ℕ) (nodes : List ℕ) → IsSegment links link nodes 0 → link ≡ list_link nodes
segment_link links link [] segment = segment
segment_link links link (node ∷ nodes) segment = segment.0

pub list_link-names : (count : ℕ) (nodes : List ℕ) → ((node : ℕ) → In node nodes → node < count)
    → node_of count (list_link nodes) ≡ first_of_list nodes
list_link-names count [] among = refl
list_link-names count (node ∷ nodes) among = links_tell_apart.link_names count node (among node (inl refl))

module _ (env : Env) (mix : ℕ → ℕ → ℕ → ℕ) (M : Memory) (G : Ghost) (whole : Whole env mix M G) where
  -- behind each node to which a port is bound is the list's end or another of them
  pub list_next : (port first : ℕ) (behind : List ℕ) → G.bound port ≡ first ∷ behind → (node : ℕ)
      → In node (first ∷ behind)
      → (list_of M node ≡ 0) ⊎ IsNextOf behind (list_of M node)
  list_next port first behind b node i =
      segment_next (list_of M) first behind (whole.owned.bound_to port first behind b).list node i

  -- each of them is one of the nodes
  pub list_among : (port first : ℕ) (behind : List ℕ) → G.bound port ≡ first ∷ behind → (node : ℕ)
      → In node (first ∷ behind)
      → node < env.geometry.nodes
  list_among port first behind b node (inl e) =
      let to = whole.owned.bound_to port first behind b in
      subst (λ n. n < env.geometry.nodes) (sym e) (seated_at env mix M G whole first to.bucket to.first).among
  list_among port first behind b node (inr i) =
      (whole.owned.behind_in node port ((whole.owned.bound_to port first behind b).each node i)).among

  -- from the link behind one of them on lie those that are behind it
  pub list_rest : (port first : ℕ) (behind : List ℕ) → G.bound port ≡ first ∷ behind
      → (node : ℕ) (before : Option ℕ) → (among : IsAmong (first ∷ behind) node before)
      → IsSegment (list_of M) (list_of M node) among.rear 0
  list_rest port first behind b node before among =
      let segment : IsSegment (list_of M) (link_of first) (first ∷ behind) 0 =
      (refl, (whole.owned.bound_to port first behind b).list) in
      (IsSegment-cut (list_of M) among.front node among.rear (link_of first) 0
      (subst (λ nodes. IsSegment (list_of M) (link_of first) nodes 0) among.split segment)).1

  -- there are no more of them than nodes
  pub list_few : (port first : ℕ) (behind : List ℕ) → G.bound port ≡ first ∷ behind
      → length (first ∷ behind) ≤ env.geometry.nodes
  list_few port first behind b =
      let distinct = (whole.owned.bound_to port first behind b).distinct in
      let among =
      In-AllByRecursion (λ n. n < env.geometry.nodes) (first ∷ behind) (list_among port first behind b) in
      let few =
      length-count_below (λ n. true) env.geometry.nodes (first ∷ behind) distinct among (λ n i. refl) in
      let most = count_below-most (λ n. true) env.geometry.nodes in
      omega (arith, few, most)

  -- a port that was found is bound to the node with its key, and to others behind it
  pub found_list : (c place word port node : ℕ) (before : Option ℕ)
      → IsFound env mix c M G place word port node before → (behind : List ℕ) × (G.bound port ≡ node ∷ behind)
  found_list c place word port node before found =
      let j = word_index env mix place in
      let stands = found.standing.stands in
      let there : In node (G.bucket j).nodes =
      subst (In node) (sym stands.split) (in-middle node stands.front stands.rear) in
      let first = whole.owned.first_at node j (whole.owned.member j node there) in
      (first.behind, ap G.bound (sym found.key_is) ∙ first.bound_to)
