-- Behind a store that changes what a port is bound to: what the caller has, which nodes it has taken out of
-- lists, and which owners the nodes have.
use Rattle.std.proofs.Common.{◌≡◌, ◌≢◌, ◌⊎◌, ℕ, suc, ◌+◌, ◌<◌, ◌≤◌, List, [], ◌∷◌, ◌++◌, Option, Some, None, Bool, true, false, refl, sym, ap, ◌∙◌, subst, inl, inr, arith}
use Rattle.std.proofs.lemmas.Bool.{cases_eq, eq-eqb}
use Rattle.rht_words.specs.declared.env.Env.{Env}
use Rattle.rht_words.specs.declared.geometry.Geometry.{Geometry}
use Rattle.rht_words.specs.Places.{Node, NodeWord, ChainLink, KeyWord, OwnerWord, ListLink, IsBucketPlace, nodes_at, pages_at, place_of}
use Rattle.rht_words.specs.Members.{In}
use Rattle.rht_words.proofs.Members.{in-middle, In-append_left, count_below, count_below-more}
use Rattle.rht_words.proofs.Memory.{Memory}
use Rattle.rht_words.proofs.PlacesApart.{parts_in_order}
use Rattle.rht_ghost.proofs.Theory.Ghosts.{put, put-same, put-other, put-all, Owner, NodeHeld, Taken, Ghost, is_used, is_taken_by}
use Rattle.rht_ghost.proofs.Theory.Wholes.{key_of, place_at, word_index, Whole}
use Rattle.rht_ghost.proofs.Theory.Knowledge.{HasOnly, HoldsLock, IsFound}
use Rattle.rht_ghost.proofs.Theory.Reliance.{bound_used}
use Rattle.rht_ghost.proofs.Theory.Passed.{NoKey-same}
use Rattle.rht_ghost.proofs.Theory.Frames.{Made}
use Rattle.rht_ghost.proofs.Theory.Readiness.{Change, changed}
use Rattle.rht_ghost.proofs.Theory.Steps.{owners_in, owners_in-same}

-- the words of nodes and of buckets stand behind the maps
pub node_behind_maps : (g : Geometry) (node : ℕ) (word : NodeWord) → nodes_at g ≤ place_of g (Node node word)
node_behind_maps g node word = omega arith

-- and those of nodes before the pages
pub node_before_pages : (g : Geometry) (node : ℕ) (word : NodeWord) → node < g.nodes → place_of g (Node node word) < pages_at g
node_before_pages g node KeyWord among = let order = parts_in_order g in omega (arith, among, order.pages)
node_before_pages g node OwnerWord among = let order = parts_in_order g in omega (arith, among, order.pages)
node_before_pages g node ChainLink among = let order = parts_in_order g in omega (arith, among, order.pages)
node_before_pages g node ListLink among = let order = parts_in_order g in omega (arith, among, order.pages)

pub bucket_behind_maps : (g : Geometry) (place : ℕ) → IsBucketPlace g place → nodes_at g ≤ place
bucket_behind_maps g place is = let order = parts_in_order g in omega (arith, is.0, order.pages)

-- One node is given to the caller as taken out, and perhaps another one to somebody else.
abbrev pub IsTakenWith : ℕ → ℕ → ℕ → Owner → (ℕ → Owner) → Type 0
IsTakenWith c m x owner node =
    (x ≡ m × owner ≡ Taken c)
    ⊎ ((x ≢ m) × (is_taken_by c (node x) ≡ false) × (is_taken_by c owner ≡ false))

pub taken_then : (c m x : ℕ) (owner : Owner) (node : ℕ → Owner) → IsTakenWith c m x owner node
    → is_taken_by c (put (put node m (Taken c)) x owner m) ≡ true
taken_then c m x owner node (inl same) =
    rw same.0 (rw same.1 (ap (is_taken_by c) (put-same (put node m (Taken c)) m (Taken c)) ∙ eq-eqb c c refl))
taken_then c m x owner node (inr two) =
    let stays = put-other (put node m (Taken c)) x owner m (λ e. two.0 (sym e)) in
    ap (is_taken_by c) (stays ∙ put-same node m (Taken c)) ∙ eq-eqb c c refl

-- it has taken out one more
pub taken_more : (c m x bound : ℕ) (owner : Owner) (node : ℕ → Owner) → m < bound
    → is_taken_by c (node m) ≡ false → IsTakenWith c m x owner node
    → count_below (λ n. is_taken_by c (put (put node m (Taken c)) x owner n)) bound
    ≡ count_below (λ n. is_taken_by c (node n)) bound + 1
taken_more c m x bound owner node l was other =
    let then = put (put node m (Taken c)) x owner in
    count_below-more (λ n. is_taken_by c (node n)) (λ n. is_taken_by c (then n)) m bound l was
    (taken_then c m x owner node other)
    (λ n ne. elim (cases_eq n x) [
      | inl e ↦ elim other [
        | inl same ↦ absurd (ne (e ∙ same.0))
        | inr two ↦
            rw e (ap (is_taken_by c) (put-same (put node m (Taken c)) x owner) ∙ two.2 ∙ sym two.1)
      ]
      | inr apart ↦
          let stays = put-other (put node m (Taken c)) x owner n apart in
          ap (is_taken_by c) (stays ∙ put-other node m (Taken c) n ne)
    ])

module _ (env : Env) (mix : ℕ → ℕ → ℕ → ℕ) (c : ℕ) (G : Ghost) where
  -- The caller had this lock, and no node but one that the change gives to the port or takes from it. It has
  -- the lock still, or none, and no node.
  pub only_left : (change : Change) (place : ℕ) (has lock : Option ℕ) (raised : Bool)
      → place_at env mix change.place ≡ place
      → change.one_owner ≢ NodeHeld c → change.other_owner ≢ NodeHeld c
      → ((n : ℕ) → has ≡ Some n → (n ≡ change.one) ⊎ (n ≡ change.other))
      → (change.bucket.holder ≡ Some c → lock ≡ Some place)
      → HasOnly env mix c G has (Some place) None raised None [] false true
      → HasOnly env mix c (changed G c change) None lock None change.raised None [] false true
  only_left change place has lock raised is one other given holder only = record {
    nodes = put-all (λ n o. o ≡ NodeHeld c → is_at None n) (put G.node change.one change.one_owner) change.other
        change.other_owner (λ e. absurd (other e))
        (λ n apart. put-all (λ m o. m ≢ change.other → o ≡ NodeHeld c → is_at None m) G.node change.one
        change.one_owner (λ ne e. absurd (one e))
        (λ m ne far held. absurd (elim (given m (only.nodes m held)) [ inl e ↦ ne e | inr e ↦ far e ])) n apart);
    locks = put-all
        (λ i b. b.holder ≡ Some c → is_at lock (place_at env mix i) ⊎ is_at None (place_at env mix i))
        G.bucket change.place change.bucket
        (λ e. inl (holder e ∙ ap Some (sym is)))
        (λ i ne holds. elim (only.locks i holds) [
          | inl first ↦
              let same : place ≡ place_at env mix i = cc in
              let there = is in
              absurd (ne (omega (arith, same, there)))
          | inr second ↦ absurd (cc)
        ]);
    raising = put-same G.raised c change.raised;
    slots = only.slots;
    pages_in = only.pages_in;
    works = only.works;
    reads = only.reads;
  }
    where
      is_at : Option ℕ → ℕ → Type 0
      is_at thing number = thing ≡ Some number

  -- the same of a caller that had no node
  pub only_rebound : (change : Change) (place : ℕ) (lock : Option ℕ) (raised : Bool)
      → place_at env mix change.place ≡ place
      → change.one_owner ≢ NodeHeld c → change.other_owner ≢ NodeHeld c
      → (change.bucket.holder ≡ Some c → lock ≡ Some place)
      → HasOnly env mix c G None (Some place) None raised None [] false true
      → HasOnly env mix c (changed G c change) None lock None change.raised None [] false true
  only_rebound change place lock raised is one other holder only =
      only_left change place None lock raised is one other (λ n none. absurd (cc)) holder only

  -- a bucket of which only the nodes change is locked still
  pub lock_stays : (change : Change) (place word : ℕ) (nodes : List ℕ) → change.place ≡ word_index env mix place
      → change.bucket ≡ record (G.bucket (word_index env mix place)) { nodes = nodes }
      → HoldsLock env mix c G place word → HoldsLock env mix c (changed G c change) place word
  lock_stays change place word nodes there same lock =
      let j = word_index env mix place in
      let kept : put G.bucket change.place change.bucket j ≡ record (G.bucket j) { nodes = nodes } =
      ap (λ i. put G.bucket i change.bucket j) there ∙ put-same G.bucket j change.bucket ∙ same in
      record {
        bucket = lock.bucket;
        holder = ap (λ b. b.holder) kept ∙ lock.holder;
        plain = ap (λ b. b.plain) kept ∙ lock.plain;
        unarmed = ap (λ b. b.armed) kept ∙ lock.unarmed;
        still = ap (λ b. b.out) kept ∙ lock.still;
      }

  -- nodes to which a port was bound keep their owners
  pub owners_kept : (M M' : Memory) (G' : Ghost) → Whole env mix M G → Made env mix c M G M' G'
      → (port : ℕ) (nodes : List ℕ)
      → ((n : ℕ) → In n nodes → In n (G.bound port)) → owners_in env mix M' nodes ≡ owners_in env mix M nodes
  owners_kept M M' G' whole made port nodes among =
      let other : suc c ≢ c = λ e. absurd (omega arith) in
      owners_in-same env mix M M' nodes (λ n i.
      let is = bound_used env mix M G whole port (G.bound port) refl n (among n i) in
      (made.others (suc c) other).owners n is.0 is.1)

  -- a node that was found is found still
  pub found_kept : (M M' : Memory) → Whole env mix M G → Made env mix c M G M' G
      → (place word key node : ℕ) (before : Option ℕ)
      → IsFound env mix c M G place word key node before → IsFound env mix c M' G place word key node before
  found_kept M M' whole made place word key node before is =
      let s = is.standing.stands in
      let j = word_index env mix place in
      let other : suc c ≢ c = λ e. absurd (omega arith) in
      let same : (n : ℕ) → In n (s.front ++ node ∷ s.rear) → key_of M' n ≡ key_of M n =
      λ n i. let f = whole.owned.member j n (subst (In n) (sym s.split) i) in
      (made.others (suc c) other).keys n (whole.owned.first_at n j f).among (ap is_used f) in
      record {
        standing = record {
          lock = is.standing.lock;
          stands = record {
            front = s.front;
            rear = s.rear;
            split = s.split;
            passed = NoKey-same M M' key s.front (λ n i. same n (In-append_left n s.front (node ∷ s.rear) i)) s.passed;
            last = s.last;
          };
        };
        key_is = same node (in-middle node s.front s.rear) ∙ is.key_is;
      }
