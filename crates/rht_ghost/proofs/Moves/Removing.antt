-- The stores that take a port's first node out of its chain: the node goes and the port is unbound, or another node comes into its
-- place. And the store that takes a node out of the list behind it.
use Rattle.std.proofs.Common.{◌≡◌, ◌≢◌, ◌⊎◌, ℕ, ◌+◌, ◌*◌, ◌<◌, List, [], ◌∷◌, ◌++◌, Option, Some, None, Bool, true, false, refl, sym, ◌∙◌, ap, subst, inl, inr, arith}
use Rattle.std.proofs.lemmas.Bool.{cases_eq}
use Rattle.rht_words.specs.declared.env.Env.{Env}
use Rattle.rht_words.specs.declared.config.Kind.TheVariants.{Single}
use Rattle.rht_words.specs.Links.{link_of, marker_of, head_of}
use Rattle.rht_words.specs.Chains.{IsSegment}
use Rattle.rht_words.specs.Places.{Address, Node, KeyWord, ListLink}
use Rattle.rht_words.specs.Members.{In, NotIn, IsDistinct}
use Rattle.rht_words.proofs.Memory.{Memory, IsWrite}
use Rattle.rht_words.proofs.ChainLemmas.{IsSegment-cut, IsSegment-members}
use Rattle.rht_words.proofs.Members.{not_in_from, in_and_not, in-middle, In-append_left, In-append_right, In-append_cases, NotIn-append, IsDistinct-cut, IsDistinct-without, IsDistinct-with, count_below, count_below-more, count_below-same}
use Rattle.rht_ghost.proofs.Theory.Ghosts.{put, put-same, put-other, put-all, Bucket, Owner, NodeHeld, First, Leaving, Behind, Taken, Ghost, is_first, is_used, is_taken_by, seat_of, taken_by_one, held_not_used, table_at, none-some, not_first-seatless, lock_bit}
use Rattle.rht_ghost.proofs.Theory.Wholes.{chain_of, list_of, key_of, place_at, stop, MovesNone, none_out, IsHomeOf, BucketRight, IsFirstAt, IsBehindIn, IsBoundTo, IsBuilt, Whole, firsts, raisers, force-there}
use Rattle.rht_ghost.proofs.Theory.Passed.{home-within, member-no_entry}
use Rattle.rht_ghost.proofs.Theory.Knowns.{last_of}
use Rattle.rht_ghost.proofs.Theory.Frames.{Made, same_tables}
use Rattle.rht_ghost.proofs.Theory.WholeFrames.{IsHomeOf-same}
use Rattle.rht_ghost.proofs.Theory.Readiness.{Change, changed, IsUnlinking, IsReplacing}
use Rattle.rht_ghost.proofs.Moves.Rebinding.{IsStoreFor, IsChanged, IsRebound, rebind}
use Rattle.rht_ghost.proofs.Moves.Relinking.{relink_address, relink_value, relinked, relinked_right, last_in}

-- the nodes of a bucket behind a relinking
relinked_row : (place link : ℕ) (b : Bucket) (nodes : List ℕ) (before : Option ℕ)
    → (relinked place link b nodes before).nodes ≡ nodes
relinked_row place link b nodes None = refl
relinked_row place link b nodes (Some before) = refl

module _ (env : Env) (mix : ℕ → ℕ → ℕ → ℕ) (d port j m : ℕ) (front rear : List ℕ) (before : Option ℕ)
    (M M' : Memory) (G : Ghost) where
  -- The caller has locked the bucket, and has found in it the first node to which the port is bound, between these other nodes. No entry
  -- of its own is on its way, nor is this node.
  pub record IsFoundIn (behind : List ℕ) : Type 0 where
    pub holder : (G.bucket j).holder ≡ Some d
    pub split : (G.bucket j).nodes ≡ front ++ m ∷ rear
    pub last : before ≡ last_of front
    pub key_is : key_of M m ≡ port
    pub bound_to : G.bound port ≡ m ∷ behind
    pub moves_none : MovesNone env mix G d
    pub not_out : (i : ℕ) → (G.bucket i).out ≢ Some m

  module _ (whole : Whole env mix M G) (behind : List ℕ) (found : IsFoundIn behind) where
    there : In m (G.bucket j).nodes
    there = subst (In m) (sym found.split) (in-middle m front rear)

    first : G.node m ≡ First j
    first = whole.owned.member j m there

    at : IsFirstAt env mix M G m j
    at = whole.owned.first_at m j first

    to : IsBoundTo env mix M G port m behind
    to = whole.owned.bound_to port m behind found.bound_to

    within : j < 64 * env.geometry.pages
    within = home-within env mix M G whole (key_of M m) (table_at G j) j
        (force-there env mix whole.tables (table_at G j) at.at_home.current at.at_home.attached) at.at_home.here

    bucket_right : BucketRight env mix M j (G.bucket j)
    bucket_right = whole.buckets j within (member-no_entry env mix M G whole j m there)

    distinct : IsDistinct (front ++ m ∷ rear)
    distinct = subst IsDistinct found.split bucket_right.chained.distinct

    apart : NotIn m front × NotIn m rear
    apart = IsDistinct-cut front m rear distinct

    -- nothing is on its way out of the bucket
    still : (G.bucket j).out ≡ None
    still = none_out env mix G d j found.moves_none found.holder

    -- the links behind the node are those of the rest of the chain
    rest : IsSegment (chain_of M) (chain_of M m) rear (marker_of (place_at env mix j))
    rest =
        let first_link = head_of (place_at env mix j) (G.bucket j).plain in
        (IsSegment-cut (chain_of M) front m rear first_link (marker_of (place_at env mix j))
        (subst (λ nodes. IsSegment (chain_of M) first_link nodes (marker_of (place_at env mix j))) found.split
        (subst (λ out. IsSegment (chain_of M) first_link (G.bucket j).nodes
        (stop env mix (place_at env mix j) out)) still bucket_right.chained.segment))).1

    -- the other nodes of the bucket are first ones of other ports
    front_first : (n : ℕ) → In n front → G.node n ≡ First j
    front_first n i = whole.owned.member j n (subst (In n) (sym found.split)
        (In-append_left n front (m ∷ rear) i))

    rear_first : (n : ℕ) → In n rear → G.node n ≡ First j
    rear_first n i = whole.owned.member j n (subst (In n) (sym found.split)
        (In-append_right n front (m ∷ rear) (inr i)))

    others_first : (n : ℕ) → In n (front ++ rear) → G.node n ≡ First j
    others_first n i = elim (In-append_cases n front rear i) [
      | inl l ↦ front_first n l
      | inr r ↦
          rear_first n r
    ]

    -- the first node with the port's key is this one alone
    only_first : (n i : ℕ) → G.node n ≡ First i → key_of M n ≡ port → n ≡ m
    only_first n i f key =
        let other = whole.owned.first_at n i f in
        let q : ◌≡◌ {A = List ℕ} (n ∷ other.behind) (m ∷ behind) = sym other.bound_to ∙ ap G.bound key
        ∙ found.bound_to in cc

    -- ---- the store is on the bucket's word, or on the link of a node in it

    relink_store : (change : Change) (link : ℕ) → change.place ≡ j
        → ((p : ℕ) → In p front → seat_of ((changed G d change).node p) ≢ None)
        → IsWrite env.geometry M M' (relink_address j before) (relink_value (place_at env mix j) link before)
        → IsStoreFor env mix d change M M' G (relink_address j before)
        (relink_value (place_at env mix j) link before)
    relink_store change link here seated write = go before found.last write
      where
        go : (b : Option ℕ) → b ≡ last_of front
            → IsWrite env.geometry M M' (relink_address j b) (relink_value (place_at env mix j) link b)
            → IsStoreFor env mix d change M M' G (relink_address j b)
            (relink_value (place_at env mix j) link b)
        go None last write = record {
          write = write;
          no_table = record { current = λ e. cc; work = λ e. cc; sections = λ k e. cc; slots = λ s w e. cc; pages = λ i e. cc };
          no_map = λ i e. cc;
          no_count = λ e. cc;
          no_key = λ n e. cc;
          no_owner = λ n e. cc;
          other_word = λ i ne e. ne (let same : i ≡ j = cc in same ∙ sym here);
          other_link = λ n i ne f e. cc;
          no_leaving = λ n i leaving e. cc;
          no_behind = λ n p f e. cc;
          no_seatless = λ n none e. cc;
          other_list = λ n p ne i e. cc;
          other_node = λ c n w ne held e. cc;
          stale_list = λ n used other e. cc;
        }
        go (Some p) last write =
            let mine = front_first p (last_in front p (sym last)) in
            record {
              write = write;
              no_table = record {
                current = λ e. cc;
                work = λ e. cc;
                sections = λ k e. cc;
                slots = λ s w e. cc;
                pages = λ i e. cc;
              };
              no_map = λ i e. cc;
              no_count = λ e. cc;
              no_key = λ n e. cc;
              no_owner = λ n e. cc;
              other_word = λ i ne e. cc;
              other_link = λ n i ne f e. ne (
                  let same : n ≡ p = cc in
                  let q : First i ≡ First j = sym f ∙ ap G.node same ∙ mine in
                  let place : i ≡ j = cc in place ∙ sym here);
              no_leaving = λ n i leaving e.
                  let same : n ≡ p = cc in
                  let q : Leaving i ≡ First j = sym leaving ∙ ap G.node same ∙ mine in cc;
              no_behind = λ n other f e.
                  let same : n ≡ p = cc in
                  let q : Behind other ≡ First j = sym f ∙ ap G.node same ∙ mine in cc;
              no_seatless = λ n none e.
                  let same : n ≡ p = cc in
                  seated p (last_in front p (sym last))
                  (ap (λ k. seat_of ((changed G d change).node k)) (sym same) ∙ none);
              other_list = λ n p ne i e. cc;
              other_node = λ c n w ne held e.
                  let same : n ≡ p = cc in
                  held_not_used (G.node n) c held (rw same (ap is_used mine));
              stale_list = λ n used other e. cc;
            }

    -- its holder is nobody else afterwards
    relinked-released : (link : ℕ) (nodes : List ℕ) (c : ℕ) → c ≢ d
        → (relinked (place_at env mix j) link (G.bucket j) nodes before).holder ≢ Some c
    relinked-released link nodes c ne = go before
      where
        go : (b : Option ℕ) → (relinked (place_at env mix j) link (G.bucket j) nodes b).holder ≢ Some c
        go None e = cc
        go (Some p) e = ne (let q : ◌≡◌ {A = Option ℕ} (Some d) (Some c) = sym found.holder ∙ e in cc)

    -- nothing gets on its way out of it, and nobody gets armed
    relinked-out : (link : ℕ) (nodes : List ℕ)
        → (relinked (place_at env mix j) link (G.bucket j) nodes before).out ≡ (G.bucket j).out
    relinked-out link nodes = go before
      where
        go : (b : Option ℕ) → (relinked (place_at env mix j) link (G.bucket j) nodes b).out ≡ (G.bucket j).out
        go None = refl
        go (Some p) = refl

    relinked-armed : (link : ℕ) (nodes : List ℕ) (c : ℕ)
        → (relinked (place_at env mix j) link (G.bucket j) nodes before).armed ≡ Some c
        → ((G.bucket j).armed ≡ Some c)
        × ((relinked (place_at env mix j) link (G.bucket j) nodes before).holder ≡ (G.bucket j).holder)
    relinked-armed link nodes c = go before
      where
        go : (b : Option ℕ) → let after = relinked (place_at env mix j) link (G.bucket j) nodes b in
            after.armed ≡ Some c → ((G.bucket j).armed ≡ Some c) × (after.holder ≡ (G.bucket j).holder)
        go None e = absurd (cc)
        go (Some p) e = (e, refl)

    relinked-nodes : (link : ℕ) (nodes : List ℕ)
        → (relinked (place_at env mix j) link (G.bucket j) nodes before).nodes ≡ nodes
    relinked-nodes link nodes = go before
      where
        go : (b : Option ℕ) → (relinked (place_at env mix j) link (G.bucket j) nodes b).nodes ≡ nodes
        go None = refl
        go (Some p) = refl

  -- ---- the port is unbound

  -- the node goes to the caller, which has still to lower the count
  abbrev pub unlinking : ℕ → Change
  unlinking link = record {
    port = port;
    nodes = [];
    place = j;
    bucket = relinked (place_at env mix j) link (G.bucket j) (front ++ ([] ++ rear)) before;
    one = m;
    one_owner = Taken d;
    other = m;
    other_owner = Taken d;
    raised = true;
  }

  module _ (whole : Whole env mix M G) (low : d < env.geometry.callers) (unraised : G.raised d ≡ false)
      (built : IsBuilt env mix (Taken d)) (link : ℕ) (link_is : chain_of M m ≡ link) (found : IsFoundIn [])
      (write : IsWrite env.geometry M M' (relink_address j before)
      (relink_value (place_at env mix j) link before)) where
    abbrev unlinked : Ghost
    unlinked = changed G d (unlinking link)

    unlinked-one : unlinked.node m ≡ Taken d
    unlinked-one = put-same (put G.node m (Taken d)) m (Taken d)

    unlinked-other : (n : ℕ) → n ≢ m → unlinked.node n ≡ G.node n
    unlinked-other n ne = put-other (put G.node m (Taken d)) m (Taken d) n ne
        ∙ put-other G.node m (Taken d) n ne

    unlinked_changed : IsChanged env mix d (unlinking link) M M' G (relink_address j before)
        (relink_value (place_at env mix j) link before) m (Taken d)
    unlinked_changed = record {
      before = inl (subst (In m) (sym found.bound_to) (inl refl));
      key_is = found.key_is;
      used = refl;
      stays = λ i e. cc;
      built = built;
      no_others = λ c ne. taken_by_one c d ne;
    }

    unlinked_counted : firsts env mix unlinked + raisers env mix unlinked ≡ firsts env mix G + raisers
        env mix G
    unlinked_counted =
        let fewer : firsts env mix G ≡ firsts env mix unlinked + 1 =
        count_below-more (λ n. is_first (unlinked.node n)) (λ n. is_first (G.node n)) m
        env.geometry.nodes (at whole [] found).among
        (ap is_first unlinked-one) (ap is_first (first whole [] found))
        (λ n ne. sym (ap is_first (unlinked-other n ne))) in
        let more : raisers env mix unlinked ≡ raisers env mix G + 1 =
        count_below-more G.raised (put G.raised d true) d env.geometry.callers low unraised
        (put-same G.raised d true) (λ c ne. put-other G.raised d true c ne) in
        omega (arith, fewer, more)

    unlinked_bound : IsRebound env mix d (unlinking link) M M' G (relink_address j before)
        (relink_value (place_at env mix j) link before)
    unlinked_bound = record {
      holder = found.holder;
      released = relinked-released whole [] found link (front ++ ([] ++ rear));
      moves_none = found.moves_none;
      head = m;
      tail = [];
      bound_to = found.bound_to;
      not_out = found.not_out;
      same_out = relinked-out whole [] found link (front ++ ([] ++ rear));
      armed = relinked-armed whole [] found link (front ++ ([] ++ rear));
      from = λ n behind e. absurd (cc);
      sits = λ n behind e. absurd (cc);
      one_changed = unlinked_changed;
      other_changed = unlinked_changed;
      right = relinked_right env mix M M' j link (G.bucket j) front m rear [] before (record {
        right = bucket_right whole [] found;
        still = still whole [] found;
        split = found.split;
        within = within whole [] found;
        behind = subst (λ l. IsSegment (chain_of M) l rear (marker_of (place_at env mix j))) link_is
            (rest whole [] found);
        distinct = IsDistinct-without front m rear (distinct whole [] found);
        among = λ n i. (whole.owned.first_at n j (others_first whole [] found n i)).among;
      }) found.last write;
      seat = λ n behind b. let same : n ≡ m = (let q = sym b
          ∙ found.bound_to in cc) in rw same (first whole [] found);
      members = λ n i.
          let is = subst (In n) (relinked-nodes whole [] found link (front ++ ([] ++ rear))) i in
          let f = others_first whole [] found n is in
          unlinked-other n (λ e. in_and_not m (front ++ rear) (subst (λ k. In k (front ++ rear)) e is)
          (NotIn-append m front rear (apart whole [] found).0 (apart whole [] found).1)) ∙ f;
      others_stay = λ n i other.
          subst (In n) (sym (relinked-nodes whole [] found link (front ++ ([] ++ rear))))
          (elim (In-append_cases n front (m ∷ rear) (subst (In n) found.split i)) [
            | inl l ↦ In-append_left n front rear l
            | inr r ↦ elim r [
              | inl e ↦ absurd (other (ap (key_of M) e ∙ found.key_is))
              | inr k ↦
                  In-append_right n front rear k
            ]
          ]);
      first_here = λ n i f key. elim (cases_eq n m) [
        | inl e ↦ absurd (let q = sym unlinked-one ∙ ap unlinked.node (sym e) ∙ f in cc)
        | inr ne ↦ absurd (ne (only_first whole [] found n i (sym (unlinked-other n ne) ∙ f) key))
      ];
      behind_here = λ n p f key. elim (cases_eq n m) [
        | inl e ↦ absurd (let q = sym unlinked-one ∙ ap unlinked.node (sym e) ∙ f in cc)
        | inr ne ↦
            let is = whole.owned.behind_in n p (sym (unlinked-other n ne) ∙ f) in
            let q : ◌≡◌ {A = List ℕ} (is.first ∷ is.behind) (m ∷ []) = sym is.bound_to
            ∙ ap G.bound (sym is.key_is ∙ key) ∙ found.bound_to in
            let none : is.behind ≡ [] = cc in
            absurd (subst (In n) none is.there)
      ];
      bound_here = λ n behind e. absurd (cc);
      single = λ one n behind e. absurd (cc);
      counted = unlinked_counted;
    }

    pub unlink : Made env mix d M G M' unlinked
    unlink =
        rebind env mix d (unlinking link) M M' G (relink_address j before)
        (relink_value (place_at env mix j) link before) whole
        (relink_store whole [] found (unlinking link) link refl
        (λ p i none. none-some none
        (ap seat_of (unlinked-other p
        (λ e. in_and_not m front (subst (λ k. In k front) e i) (apart whole [] found).0)
        ∙ front_first whole [] found p i))) write) unlinked_bound

  -- ---- another node comes into the place of the first one

  abbrev pub replacing : ℕ → List ℕ → Owner → Change
  replacing x tail owner = record {
    port = port;
    nodes = x ∷ tail;
    place = j;
    bucket = relinked (place_at env mix j) (link_of x) (G.bucket j) (front ++ ((x ∷ []) ++ rear)) before;
    one = m;
    one_owner = owner;
    other = x;
    other_owner = First j;
    raised = G.raised d;
  }

  -- The other node has the port's key and leads on as the first one does. It is the caller's, or was behind the first one. Behind it
  -- are those that were behind the first one, and that one too where it gets behind it.
  pub record CanReplace (behind : List ℕ) (x : ℕ) (tail : List ℕ) (owner : Owner) : Type 0 where
    pub among : x < env.geometry.nodes
    pub differs : x ≢ m
    pub key_is : key_of M x ≡ port
    pub chain_is : chain_of M x ≡ chain_of M m
    pub from : (G.node x ≡ NodeHeld d) ⊎ In x behind
    pub list : IsSegment (list_of M) (list_of M x) tail 0
    pub distinct : IsDistinct (x ∷ tail)
    pub used : is_used owner ≡ true
    pub built : IsBuilt env mix owner
    pub stays : (i : ℕ) → owner ≢ Leaving i
    pub no_first : is_first owner ≡ false
    pub no_others : (c : ℕ) → c ≢ d → is_taken_by c owner ≡ false
    pub listed : (n : ℕ) → In n tail → ((n ≡ m) × (owner ≡ Behind port)) ⊎ (In n behind × (n ≢ x))
    pub back : (n : ℕ) → In n behind → n ≢ x → In n tail
    pub back_one : (p : ℕ) → owner ≡ Behind p → (p ≡ port) × In m tail
    pub single : env.config.kind ≡ Single → tail ≡ []

  module _ (whole : Whole env mix M G) (behind : List ℕ) (found : IsFoundIn behind) (x : ℕ)
      (tail : List ℕ) (owner : Owner)
      (can : CanReplace behind x tail owner)
      (write : IsWrite env.geometry M M' (relink_address j before)
      (relink_value (place_at env mix j) (link_of x) before)) where
    abbrev change : Change
    change = replacing x tail owner

    abbrev replaced : Ghost
    replaced = changed G d change

    abbrev a : Address
    a = relink_address j before

    abbrev v : ℕ
    v = relink_value (place_at env mix j) (link_of x) before

    abbrev new_nodes : List ℕ
    new_nodes = front ++ ((x ∷ []) ++ rear)

    replaced-new : replaced.node x ≡ First j
    replaced-new = put-same (put G.node m owner) x (First j)

    replaced-old : replaced.node m ≡ owner
    replaced-old = put-other (put G.node m owner) x (First j) m (λ e. can.differs (sym e))
        ∙ put-same G.node m owner

    replaced-other : (n : ℕ) → n ≢ m → n ≢ x → replaced.node n ≡ G.node n
    replaced-other n old new = put-other (put G.node m owner) x (First j) n new
        ∙ put-other G.node m owner n old

    -- the other node was in no chain
    unchained : is_first (G.node x) ≡ false
    unchained = elim can.from [
      | inl held ↦ ap is_first held
      | inr i ↦ ap is_first ((to whole behind found).each x i)
    ]

    no_first : (i : ℕ) → G.node x ≡ First i → ⊥
    no_first i f = let q = sym unchained ∙ ap is_first f in cc

    others_not_new : (n : ℕ) → In n (front ++ rear) → n ≢ x
    others_not_new n i e = no_first j (ap G.node (sym e) ∙ others_first whole behind found n i)

    others_not_old : (n : ℕ) → In n (front ++ rear) → n ≢ m
    others_not_old n i e =
        in_and_not m (front ++ rear) (subst (λ k. In k (front ++ rear)) e i)
        (NotIn-append m front rear (apart whole behind found).0 (apart whole behind found).1)

    replaced-stays : (n : ℕ) → In n (front ++ rear) → replaced.node n ≡ First j
    replaced-stays n i = replaced-other n (others_not_old n i) (others_not_new n i)
        ∙ others_first whole behind found n i

    new_cases : (n : ℕ) → In n new_nodes → In n (front ++ rear) ⊎ (n ≡ x)
    new_cases n i = elim (In-append_cases n front (x ∷ rear) i) [
      | inl l ↦ inl (In-append_left n front rear l)
      | inr r ↦ elim r [ inl e ↦ inr e | inr k ↦ inl (In-append_right n front rear k) ]
    ]

    -- ---- words

    list_stays : (n : ℕ) → n < env.geometry.nodes → list_of M' n ≡ list_of M n
    list_stays n l = go before write
      where
        go : (b : Option ℕ) → IsWrite env.geometry M M' (relink_address j b)
            (relink_value (place_at env mix j) (link_of x) b)
            → list_of M' n ≡ list_of M n
        go None w = w.others (Node n ListLink) l (λ e. cc)
        go (Some p) w = w.others (Node n ListLink) l (λ e. cc)

    key_stays : (n : ℕ) → n < env.geometry.nodes → key_of M' n ≡ key_of M n
    key_stays n l = go before write
      where
        go : (b : Option ℕ) → IsWrite env.geometry M M' (relink_address j b)
            (relink_value (place_at env mix j) (link_of x) b)
            → key_of M' n ≡ key_of M n
        go None w = w.others (Node n KeyWord) l (λ e. cc)
        go (Some p) w = w.others (Node n KeyWord) l (λ e. cc)

    tail_among : (n : ℕ) → In n tail → n < env.geometry.nodes
    tail_among n i = elim (can.listed n i) [
      | inl old ↦ subst (λ k. k < env.geometry.nodes) (sym old.0) (at whole behind found).among
      | inr was ↦ (whole.owned.behind_in n port ((to whole behind found).each n was.0)).among
    ]

    tail_behind : (n : ℕ) → In n tail → replaced.node n ≡ Behind port
    tail_behind n i = elim (can.listed n i) [
      | inl old ↦ ap replaced.node old.0 ∙ replaced-old ∙ old.1
      | inr was ↦
          let is = (to whole behind found).each n was.0 in
          replaced-other n (λ e. let q : First j ≡ Behind port = sym (first whole behind found)
          ∙ ap G.node (sym e) ∙ is in cc) was.1 ∙ is
    ]

    -- ---- the change

    old_changed : IsChanged env mix d change M M' G a v m owner
    old_changed = record {
      before = inl (subst (In m) (sym found.bound_to) (inl refl));
      key_is = found.key_is;
      used = can.used;
      stays = can.stays;
      built = can.built;
      no_others = can.no_others;
    }

    new_changed : IsChanged env mix d change M M' G a v x (First j)
    new_changed = record {
      before = elim can.from [
        | inl held ↦ inr held
        | inr i ↦ inl
            (subst (In x) (sym found.bound_to) (inr i))
      ];
      key_is = can.key_is;
      used = refl;
      stays = λ i e. cc;
      built = tt;
      no_others = λ c ne. refl;
    }

    new_right : BucketRight env mix M' j change.bucket
    new_right = relinked_right env mix M M' j (link_of x) (G.bucket j) front m rear (x ∷ []) before (record {
      right = bucket_right whole behind found;
      still = still whole behind found;
      split = found.split;
      within = within whole behind found;
      behind = (
        refl,
        subst (λ l. IsSegment (chain_of M) l rear (marker_of (place_at env mix j)))
            (sym can.chain_is) (rest whole behind found),
      );
      distinct = IsDistinct-with front x rear (IsDistinct-without front m rear (distinct whole behind found))
          (not_in_from x front (λ i. no_first j (front_first whole behind found x i)))
          (not_in_from x rear (λ i. no_first j (rear_first whole behind found x i)));
      among = λ n i. elim (new_cases n i) [
        | inl was ↦ (whole.owned.first_at n j (others_first whole behind found n was)).among
        | inr e ↦ subst (λ k. k < env.geometry.nodes) (sym e) can.among
      ];
    }) found.last write

    new_first : IsFirstAt env mix M' replaced x j
    new_first =
        let key : key_of M' x ≡ port = key_stays x can.among ∙ can.key_is in
        let home = subst (λ k. IsHomeOf env mix G k j) found.key_is (at whole behind found).at_home in
        record {
          there = rw (put-same G.bucket j change.bucket)
              (rw (relinked-nodes whole behind found (link_of x) new_nodes) (in-middle x front rear));
          among = can.among;
          at_home = rw key (IsHomeOf-same env mix G replaced port j
              (same_tables env mix G replaced.bucket replaced.node replaced.bound replaced.raised) home);
          behind = tail;
          bound_to = ap replaced.bound key ∙ put-same G.bound port (x ∷ tail);
        }

    new_bound : IsBoundTo env mix M' replaced port x tail
    new_bound = record {
      bucket = j;
      first = ap seat_of replaced-new;
      key_is = key_stays x can.among ∙ can.key_is;
      list = rw (list_stays x can.among) (IsSegment-members (list_of M) (list_of M') (list_of M x) tail 0
          (λ n i. list_stays n (tail_among n i)) can.list);
      distinct = can.distinct;
      each = tail_behind;
    }

    old_behind : (p : ℕ) → owner ≡ Behind p → IsBehindIn env mix M' replaced m p
    old_behind p is =
        let back = can.back_one p is in
        record {
          among = (at whole behind found).among;
          key_is = key_stays m (at whole behind found).among ∙ found.key_is ∙ sym back.0;
          first = x;
          behind = tail;
          bound_to = ap replaced.bound back.0 ∙ put-same G.bound port (x ∷ tail);
          there = back.1;
        }

    still_behind : (n p : ℕ) → n ≢ x → G.node n ≡ Behind p → key_of M n ≡ port
        → IsBehindIn env mix M' replaced n p
    still_behind n p ne f key =
        let is = whole.owned.behind_in n p f in
        let here : p ≡ port = sym is.key_is ∙ key in
        let q : ◌≡◌ {A = List ℕ} (is.first ∷ is.behind) (m ∷ behind) = sym is.bound_to ∙ ap G.bound here
        ∙ found.bound_to in
        let same : is.behind ≡ behind = cc in
        record {
          among = is.among;
          key_is = key_stays n is.among ∙ is.key_is;
          first = x;
          behind = tail;
          bound_to = ap replaced.bound here ∙ put-same G.bound port (x ∷ tail);
          there = can.back n (subst (In n) same is.there) ne;
        }

    replaced_counted : firsts env mix replaced + raisers env mix replaced ≡ firsts env mix G + raisers
        env mix G
    replaced_counted =
        let between : ℕ → Bool = λ n. is_first (put G.node m owner n) in
        let fewer : firsts env mix G ≡ count_between between + 1 =
        count_below-more between (λ n. is_first (G.node n)) m env.geometry.nodes (at whole behind found).among
        (ap is_first (put-same G.node m owner) ∙ can.no_first) (ap is_first (first whole behind found))
        (λ n ne. sym (ap is_first (put-other G.node m owner n ne))) in
        let more : firsts env mix replaced ≡ count_between between + 1 =
        count_below-more between (λ n. is_first (replaced.node n)) x env.geometry.nodes can.among
        (ap is_first (put-other G.node m owner x can.differs) ∙ unchained) (ap is_first replaced-new)
        (λ n ne. ap is_first (put-other (put G.node m owner) x (First j) n ne)) in
        let same : raisers env mix replaced ≡ raisers env mix G =
        count_below-same G.raised (put G.raised d (G.raised d)) env.geometry.callers
        (λ c l. put-all (λ k r. r ≡ G.raised k) G.raised d (G.raised d) refl (λ k ne. refl) c) in
        omega (arith, fewer, more, same)
      where
        count_between : (ℕ → Bool) → ℕ
        count_between has = count_below has env.geometry.nodes

    replaced_bound : IsRebound env mix d change M M' G a v
    replaced_bound = record {
      holder = found.holder;
      released = relinked-released whole behind found (link_of x) new_nodes;
      moves_none = found.moves_none;
      head = m;
      tail = behind;
      bound_to = found.bound_to;
      not_out = found.not_out;
      same_out = relinked-out whole behind found (link_of x) new_nodes;
      armed = relinked-armed whole behind found (link_of x) new_nodes;
      from = λ n more e. let same : x ≡ n = cc in elim can.from [
        | inl held ↦ inr (ap G.node (sym same) ∙ held)
        | inr i ↦ inl (subst (λ k. In k (G.bound port)) same (subst (In x) (sym found.bound_to) (inr i)))
      ];
      sits = λ n more e. let same : x ≡ n = cc in ap replaced.node (sym same) ∙ replaced-new;
      one_changed = old_changed;
      other_changed = new_changed;
      right = new_right;
      seat = λ n more b. let same : n ≡ m = (let q = sym b
          ∙ found.bound_to in cc) in rw same (first whole behind found);
      members = λ n i. elim (new_cases n (subst (In n)
          (relinked-nodes whole behind found (link_of x) new_nodes) i)) [
            | inl was ↦ replaced-stays n was
            | inr e ↦ ap replaced.node e ∙ replaced-new
          ];
      others_stay = λ n i other.
          subst (In n) (sym (relinked-nodes whole behind found (link_of x) new_nodes))
          (elim (In-append_cases n front (m ∷ rear) (subst (In n) found.split i)) [
            | inl l ↦ In-append_left n front (x ∷ rear) l
            | inr r ↦ elim r [
              | inl e ↦ absurd (other (ap (key_of M) e ∙ found.key_is))
              | inr k ↦
                  In-append_right n front (x ∷ rear) (inr k)
            ]
          ]);
      first_here = λ n i f key. elim (cases_eq n x) [
        | inl e ↦
            let place : i ≡ j = (let q : First i ≡ First j = sym f ∙ ap replaced.node e
            ∙ replaced-new in cc) in
            rw e (rw place new_first)
        | inr ne ↦ elim (cases_eq n m) [
          | inl e ↦ absurd (let q = sym can.no_first ∙ ap is_first (sym replaced-old
              ∙ ap replaced.node (sym e) ∙ f) in cc)
          | inr other ↦ absurd (other (only_first whole behind found n i (sym (replaced-other n other ne)
              ∙ f) key))
        ]
      ];
      behind_here = λ n p f key. elim (cases_eq n x) [
        | inl e ↦ absurd (let q : First j ≡ Behind p = sym replaced-new ∙ ap replaced.node (sym e) ∙ f in cc)
        | inr ne ↦ elim (cases_eq n m) [
          | inl e ↦ rw e (old_behind p (sym replaced-old ∙ ap replaced.node (sym e) ∙ f))
          | inr other ↦ still_behind n p ne (sym (replaced-other n other ne) ∙ f) key
        ]
      ];
      bound_here = λ n more e.
          let same : x ≡ n = cc in
          let rest_is : tail ≡ more = cc in
          subst (λ k. IsBoundTo env mix M' replaced port k more) same
          (subst (IsBoundTo env mix M' replaced port x) rest_is new_bound);
      single = λ one n more e. let rest_is : tail ≡ more = cc in sym rest_is ∙ can.single one;
      counted = replaced_counted;
    }

    pub replace : Made env mix d M G M' replaced
    replace = rebind env mix d change M M' G a v whole
        (relink_store whole behind found change (link_of x) refl
        (λ p i none. none-some none
        (ap seat_of (replaced-stays p (In-append_left p front rear i)))) write) replaced_bound

  -- ---- what is known of these changes

  pub unlinking_known : (link : ℕ) → IsFoundIn [] → IsUnlinking env mix (unlinking link) G
  unlinking_known link found = record {
    first = m;
    front = front;
    rear = rear;
    bound_to = found.bound_to;
    split = found.split;
    left = relinked_row (place_at env mix j) link (G.bucket j) (front ++ ([] ++ rear)) before;
    none = refl;
    locked = ap lock_bit found.holder;
    one = refl;
    other = refl;
    gone = refl;
  }

  pub replacing_known : (behind : List ℕ) → IsFoundIn behind → (x : ℕ) (tail : List ℕ) (owner : Owner)
      → CanReplace behind x tail owner → IsReplacing env mix (replacing x tail owner) M G
  replacing_known behind found x tail owner can = record {
    behind = behind;
    tail = tail;
    front = front;
    rear = rear;
    bound_to = found.bound_to;
    split = found.split;
    left = relinked_row (place_at env mix j) (link_of x) (G.bucket j) (front ++ ((x ∷ []) ++ rear)) before;
    now = refl;
    listed = λ n i. elim (can.listed n i) [ inl old ↦ inl old.0 | inr was ↦ inr was.0 ];
    locked = ap lock_bit found.holder;
    differs = can.differs;
    owner = refl;
    gone = not_first-seatless owner can.no_first;
    from = elim can.from [ inl held ↦ inl (ap is_used held) | inr i ↦ inr i ];
    among = can.among;
    key_is = can.key_is;
  }
