-- The store that gives a port's list another rest behind one of its nodes. The one that was behind that goes to the caller, and none or
-- another one comes into its place.
use Rattle.std.proofs.Common.{◌≡◌, ◌≢◌, ◌⊎◌, ℕ, ◌+◌, ◌*◌, ◌<◌, List, [], ◌∷◌, ◌++◌, Option, Some, false, true, refl, sym, ◌∙◌, ap, subst, inl, inr, arith}
use Rattle.rht_words.specs.declared.env.Env.{Env}
use Rattle.rht_words.specs.Links.{link_of}
use Rattle.rht_words.specs.Chains.{IsSegment}
use Rattle.rht_words.specs.Places.{Node, ChainLink, KeyWord, ListLink, PageWord}
use Rattle.rht_words.specs.Members.{In, IsDistinct}
use Rattle.rht_words.proofs.Memory.{Memory, IsWrite}
use Rattle.rht_words.proofs.ChainLemmas.{IsSegment-cut, IsSegment-members}
use Rattle.rht_words.proofs.Members.{in_and_not, in-middle, In-append_left, In-append_right, In-append_cases, NotIn-append, IsDistinct-cut, IsDistinct-without, IsDistinct-left, IsDistinct-apart, count_below-same}
use Rattle.rht_ghost.proofs.Theory.Ghosts.{put, put-same, put-other, put-all, Owner, NodeHeld, First, Behind, Taken, Ghost, IsUsed, IsListedNode, seat_of, is_first, is_listed, taken_by_one, held_not_used, table_at}
use Rattle.rht_ghost.proofs.Theory.Passed.{home-within, held-no_entry}
use Rattle.rht_ghost.proofs.Theory.Wholes.{list_of, key_of, MovesNone, IsHomeOf, IsFirstAt, IsBehindIn, IsBoundTo, IsBuilt, Whole, firsts, raisers, force-there}
use Rattle.rht_ghost.proofs.Theory.Knowns.{last_of}
use Rattle.rht_ghost.proofs.Theory.Frames.{Made, same_tables}
use Rattle.rht_ghost.proofs.Theory.WholeFrames.{IsHomeOf-same, BucketRight-frame}
use Rattle.rht_ghost.proofs.Theory.Readiness.{Change, changed}
use Rattle.rht_ghost.proofs.Moves.Rebinding.{owners_all, IsStoreFor, IsChanged, IsRebound, rebind}
use Rattle.rht_ghost.proofs.Moves.Relinking.{segment_relinked, last_in}

-- one of a row is one of it with another one in it
pub in_with : (n m : ℕ) (front rear : List ℕ) → In n (front ++ rear) → In n (front ++ m ∷ rear)
in_with n m front rear i = elim (In-append_cases n front rear i) [
  | inl l ↦ In-append_left n front (m ∷ rear) l
  | inr r ↦ In-append_right n front (m ∷ rear) (inr r)
]

module _ (env : Env) (mix : ℕ → ℕ → ℕ → ℕ) (d port j m q p : ℕ) (us vs : List ℕ) (M M' : Memory)
    (G : Ghost) where
  -- The caller has locked the bucket of the port's first node, behind which lie these nodes, then one, then others.
  pub record IsBehindFirst : Type 0 where
    pub holder : (G.bucket j).holder ≡ Some d
    pub there : In m (G.bucket j).nodes
    pub key_is : key_of M m ≡ port
    pub bound_to : G.bound port ≡ m ∷ (us ++ q ∷ vs)
    pub last : last_of (m ∷ us) ≡ Some p
    pub moves_none : MovesNone env mix G d
    pub not_out : (i : ℕ) → (G.bucket i).out ≢ Some m

  -- the node goes to the caller, these come into its place, and another one gets an owner as well
  abbrev pub relisting : List ℕ → ℕ → Owner → Change
  relisting new other owner = record {
    port = port;
    nodes = m ∷ (us ++ (new ++ vs));
    place = j;
    bucket = G.bucket j;
    one = q;
    one_owner = Taken d;
    other = other;
    other_owner = owner;
    raised = G.raised d;
  }

  -- From the link that is stored on lie those that come, and then the ones that were behind the node. None comes but a node of the caller's
  -- own, which is behind the first one from then on.
  pub record CanRelist (new : List ℕ) (other : ℕ) (owner : Owner) (link : ℕ) : Type 0 where
    pub rest : IsSegment (list_of M) link (new ++ vs) 0
    pub distinct : IsDistinct (m ∷ (us ++ (new ++ vs)))
    pub comes : (n : ℕ) → In n new → (n ≡ other) × (owner ≡ Behind port)
    pub back : (k : ℕ) → owner ≡ Behind k → (k ≡ port) × In other new
    pub from : (other ≡ q × owner ≡ Taken d) ⊎ (G.node other ≡ NodeHeld d)
    pub among : other < env.geometry.nodes
    pub no_first : is_first owner ≡ false
    pub other_changed : IsChanged env mix d (relisting new other owner) M M' G (Node p ListLink) link other owner

  module _ (whole : Whole env mix M G) (found : IsBehindFirst) where
    first : G.node m ≡ First j
    first = whole.owned.member j m found.there

    at : IsFirstAt env mix M G m j
    at = whole.owned.first_at m j first

    to : IsBoundTo env mix M G port m (us ++ q ∷ vs)
    to = whole.owned.bound_to port m (us ++ q ∷ vs) found.bound_to

    is_behind : (n : ℕ) → In n (us ++ q ∷ vs) → G.node n ≡ Behind port
    is_behind = to.each

    pub was_behind : G.node q ≡ Behind port
    was_behind = is_behind q (in-middle q us vs)

    -- from its link on lie those behind it
    pub list_behind : IsSegment (list_of M) (list_of M q) vs 0
    list_behind = (IsSegment-cut (list_of M) us q vs (list_of M m) 0 to.list).1

    -- none of the others lies in the list twice
    pub others_distinct : IsDistinct (m ∷ (us ++ vs))
    others_distinct = IsDistinct-without (m ∷ us) q vs to.distinct

    -- each of the others is the first one, or is behind it
    others_so : (P : Owner → Type 0) → P (First j) → P (Behind port) → (n : ℕ) → In n (m ∷ (us ++ vs)) → P (G.node n)
    others_so P one more n (inl e) = subst P (sym (ap G.node e ∙ first)) one
    others_so P one more n (inr i) = subst P (sym (is_behind n (in_with n q us vs i))) more

    pub others_used : (n : ℕ) → In n (m ∷ (us ++ vs)) → IsUsed (G.node n)
    others_used = others_so IsUsed refl refl

    others_apart : (n : ℕ) → In n (m ∷ (us ++ vs)) → n ≢ q
    others_apart n i e =
        let cut = IsDistinct-cut (m ∷ us) q vs to.distinct in
        in_and_not q (m ∷ (us ++ vs)) (subst (λ k. In k (m ∷ (us ++ vs))) e i) (NotIn-append q (m ∷ us) vs cut.0 cut.1)

    -- the node goes to the caller
    pub one_changed : IsBuilt env mix (Taken d) → (new : List ℕ) (other : ℕ) (owner : Owner) (link : ℕ)
        → IsChanged env mix d (relisting new other owner) M M' G (Node p ListLink) link q (Taken d)
    one_changed built new other owner link = record {
      before = inl (subst (In q) (sym found.bound_to) (inr (in-middle q us vs)));
      key_is = (whole.owned.behind_in q port was_behind).key_is;
      used = refl;
      stays = λ i e. cc;
      built = built;
      no_others = λ c ne. taken_by_one c d ne;
    }

  module _ (whole : Whole env mix M G) (built : IsBuilt env mix (Taken d)) (found : IsBehindFirst) (new : List ℕ)
      (other : ℕ) (owner : Owner) (link : ℕ) (can : CanRelist new other owner link)
      (write : IsWrite env.geometry M M' (Node p ListLink) link) where
    abbrev change : Change
    change = relisting new other owner

    abbrev relisted : Ghost
    relisted = changed G d change

    abbrev nodes : List ℕ
    nodes = us ++ (new ++ vs)

    -- what is so of each owner that changes and of each that stays is so of each
    each_owner : (P : ℕ → Owner → Type 0) → P q (Taken d) → P other owner
        → ((n : ℕ) → n ≢ q → n ≢ other → P n (G.node n)) → (n : ℕ) → P n (relisted.node n)
    each_owner = owners_all env mix d change M M' G (Node p ListLink) link

    -- the other one was in no chain
    unchained : is_first (G.node other) ≡ false
    unchained = elim can.from [
      | inl one ↦ ap is_first (ap G.node one.0 ∙ was_behind whole found)
      | inr held ↦ ap is_first held
    ]

    other_apart : (n : ℕ) → In n (m ∷ (us ++ vs)) → n ≢ other
    other_apart n i e = elim can.from [
      | inl one ↦ others_apart whole found n i (e ∙ one.0)
      | inr held ↦ held_not_used (G.node n) d (ap G.node e ∙ held) (others_used whole found n i)
    ]

    stays : (n : ℕ) → In n (m ∷ (us ++ vs)) → relisted.node n ≡ G.node n
    stays n i =
        put-other (put G.node q (Taken d)) other owner n (other_apart n i)
        ∙ put-other G.node q (Taken d) n (others_apart whole found n i)

    -- who is in the list then
    new_cases : (n : ℕ) → In n nodes → In n (us ++ vs) ⊎ In n new
    new_cases n i = elim (In-append_cases n us (new ++ vs) i) [
      | inl l ↦ inl (In-append_left n us vs l)
      | inr r ↦ elim (In-append_cases n new vs r) [ inl come ↦ inr come | inr k ↦ inl (In-append_right n us vs k) ]
    ]

    still_in : (n : ℕ) → In n (us ++ q ∷ vs) → n ≢ q → In n nodes
    still_in n i ne = elim (In-append_cases n us (q ∷ vs) i) [
      | inl l ↦ In-append_left n us (new ++ vs) l
      | inr r ↦ elim r [
        | inl e ↦ absurd (ne e)
        | inr k ↦ In-append_right n us (new ++ vs) (In-append_right n new vs k)
      ]
    ]

    -- the node before is the first one, or is behind it as well
    before_in : In p (m ∷ us)
    before_in = last_in (m ∷ us) p found.last

    before_there : In p (m ∷ (us ++ vs))
    before_there = In-append_left p (m ∷ us) vs before_in

    before_key : key_of M p ≡ port
    before_key = elim before_there [
      | inl e ↦ ap (key_of M) e ∙ found.key_is
      | inr i ↦ (whole.owned.behind_in p port (is_behind whole found p (in_with p q us vs i))).key_is
    ]

    before_listed : is_listed (relisted.node p) ≡ true
    before_listed = ap is_listed (stays p before_there) ∙ others_so whole found IsListedNode refl refl p before_there

    -- a node to which a port is bound has the port's key
    bound_key : (k n : ℕ) → In n (G.bound k) → key_of M n ≡ k
    bound_key k n i = go (G.bound k) refl i
      where
        go : (bound : List ℕ) → G.bound k ≡ bound → In n bound → key_of M n ≡ k
        go [] b i = absurd i
        go (f ∷ behind) b (inl e) = ap (key_of M) e ∙ (whole.owned.bound_to k f behind b).key_is
        go (f ∷ behind) b (inr i) = (whole.owned.behind_in n k ((whole.owned.bound_to k f behind b).each n i)).key_is

    relist_store : IsStoreFor env mix d change M M' G (Node p ListLink) link
    relist_store = record {
      write = write;
      no_table = record { current = λ e. cc; work = λ e. cc; sections = λ k e. cc; slots = λ s w e. cc; pages = λ i e. cc };
      no_map = λ i e. cc;
      no_count = λ e. cc;
      no_key = λ n e. cc;
      no_owner = λ n e. cc;
      other_word = λ i ne e. cc;
      other_link = λ n i ne f e. cc;
      no_leaving = λ n i leaving e. cc;
      no_behind = λ n k f e. cc;
      no_seatless = λ n none e. cc;
      other_list = λ n k ne i e.
          let same : n ≡ p = cc in ne (sym (bound_key k n i) ∙ ap (key_of M) same ∙ before_key);
      other_node = λ c n w ne held e.
          let same : n ≡ p = cc in
          held_not_used (G.node n) c held (rw same (others_used whole found p before_there));
      stale_list = λ n used gone e.
          let same : n ≡ p = cc in
          let z : true ≡ false = sym (ap (λ k. is_listed (relisted.node k)) same ∙ before_listed) ∙ gone in cc;
    }

    -- ---- words

    key_stays : (n : ℕ) → n < env.geometry.nodes → key_of M' n ≡ key_of M n
    key_stays n l = write.others (Node n KeyWord) l (λ e. cc)

    list_stays : (n : ℕ) → n < env.geometry.nodes → n ≢ p → list_of M' n ≡ list_of M n
    list_stays n l ne = write.others (Node n ListLink) l (λ e. ne (cc))

    among : (n : ℕ) → In n (m ∷ nodes) → n < env.geometry.nodes
    among n (inl e) = subst (λ k. k < env.geometry.nodes) (sym e) (at whole found).among
    among n (inr i) = elim (new_cases n i) [
      | inl was ↦ (whole.owned.behind_in n port (is_behind whole found n (in_with n q us vs was))).among
      | inr come ↦ subst (λ k. k < env.geometry.nodes) (sym (can.comes n come).0) can.among
    ]

    -- ---- the list

    new_list : IsSegment (list_of M') (list_of M' m) nodes 0
    new_list =
        let parts = IsSegment-cut (list_of M) us q vs (list_of M m) 0 (to whole found).list in
        let rest : IsSegment (list_of M') link (new ++ vs) 0 =
        IsSegment-members (list_of M) (list_of M') link (new ++ vs) 0
        (λ n i. list_stays n (among n (inr (In-append_right n us (new ++ vs) i)))
        (IsDistinct-apart (m ∷ us) (new ++ vs) p n can.distinct before_in i)) can.rest in
        (segment_relinked (list_of M) (list_of M') (m ∷ us) (new ++ vs) p (link_of m) (link_of q) link 0
        found.last write.same rest
        (λ n i ne. list_stays n (among n (In-append_left n (m ∷ us) (new ++ vs) i)) ne)
        (IsDistinct-left (m ∷ us) (new ++ vs) can.distinct) (refl, parts.0)).1

    stays_first : relisted.node m ≡ First j
    stays_first = stays m (inl refl) ∙ first whole found

    -- the first one has the same chain
    new_first : IsFirstAt env mix M' relisted m j
    new_first =
        let was = at whole found in
        let key : key_of M' m ≡ port = key_stays m was.among ∙ found.key_is in
        let home = subst (λ k. IsHomeOf env mix G k j) found.key_is was.at_home in
        record {
          there = rw (put-same G.bucket j (G.bucket j)) found.there;
          among = was.among;
          at_home = rw key (IsHomeOf-same env mix G relisted port j
              (same_tables env mix G relisted.bucket relisted.node relisted.bound relisted.raised) home);
          behind = nodes;
          bound_to = ap relisted.bound key ∙ put-same G.bound port (m ∷ nodes);
        }

    new_bound : IsBoundTo env mix M' relisted port m nodes
    new_bound = record {
      bucket = j;
      first = ap seat_of stays_first;
      key_is = key_stays m (at whole found).among ∙ found.key_is;
      list = new_list;
      distinct = can.distinct;
      each = λ n i. elim (new_cases n i) [
        | inl was ↦ stays n (inr was) ∙ is_behind whole found n (in_with n q us vs was)
        | inr come ↦
            let comes = can.comes n come in
            ap relisted.node comes.0 ∙ put-same (put G.node q (Taken d)) other owner ∙ comes.1
      ];
    }

    -- who is in it is behind the first one
    behind_first : (n k : ℕ) → k ≡ port → n < env.geometry.nodes → key_of M n ≡ port → In n nodes
        → IsBehindIn env mix M' relisted n k
    behind_first n k here l key there = record {
      among = l;
      key_is = key_stays n l ∙ key ∙ sym here;
      first = m;
      behind = nodes;
      bound_to = ap relisted.bound here ∙ put-same G.bound port (m ∷ nodes);
      there = there;
    }

    still_behind : (n k : ℕ) → n ≢ q → G.node n ≡ Behind k → key_of M n ≡ port → IsBehindIn env mix M' relisted n k
    still_behind n k ne f key =
        let is = whole.owned.behind_in n k f in
        let here : k ≡ port = sym is.key_is ∙ key in
        let z : ◌≡◌ {A = List ℕ} (is.first ∷ is.behind) (m ∷ (us ++ q ∷ vs)) = sym is.bound_to ∙ ap G.bound here
        ∙ found.bound_to in
        let same : is.behind ≡ us ++ q ∷ vs = cc in
        behind_first n k here is.among key (still_in n (subst (In n) same is.there) ne)

    -- the first node with the port's key is this one alone
    only_first : (n i : ℕ) → G.node n ≡ First i → key_of M n ≡ port → n ≡ m
    only_first n i f key =
        let more = whole.owned.first_at n i f in
        let z : ◌≡◌ {A = List ℕ} (n ∷ more.behind) (m ∷ (us ++ q ∷ vs)) = sym more.bound_to ∙ ap G.bound key
        ∙ found.bound_to in cc

    still_first : (n i : ℕ) → G.node n ≡ First i → key_of M n ≡ port → IsFirstAt env mix M' relisted n i
    still_first n i f key =
        let same = only_first n i f key in
        let place : i ≡ j = (let z : First i ≡ First j = sym f ∙ ap G.node same ∙ first whole found in cc) in
        rw same (rw place new_first)

    -- ---- the change

    relisted_counted : firsts env mix relisted + raisers env mix relisted ≡ firsts env mix G + raisers env mix G
    relisted_counted =
        let same : firsts env mix relisted ≡ firsts env mix G =
        count_below-same (λ n. is_first (G.node n)) (λ n. is_first (relisted.node n)) env.geometry.nodes
        (λ n l. each_owner (λ k o. is_first o ≡ is_first (G.node k)) (sym (ap is_first (was_behind whole found)))
        (can.no_first ∙ sym unchained) (λ k apart more. refl) n) in
        let raised : raisers env mix relisted ≡ raisers env mix G =
        count_below-same G.raised (put G.raised d (G.raised d)) env.geometry.callers
        (λ c l. put-all (λ k r. r ≡ G.raised k) G.raised d (G.raised d) refl (λ k ne. refl) c) in
        omega (arith, same, raised)

    not_empty : (front : List ℕ) → front ++ q ∷ vs ≢ []
    not_empty [] e = cc
    not_empty (n ∷ front) e = cc

    within : j < 64 * env.geometry.pages
    within =
        let home = (at whole found).at_home in
        home-within env mix M G whole (key_of M m) (table_at G j) j
        (force-there env mix whole.tables (table_at G j) home.current home.attached) home.here

    relisted_bound : IsRebound env mix d change M M' G (Node p ListLink) link
    relisted_bound = record {
      holder = found.holder;
      released = λ c ne e. ne (let z : ◌≡◌ {A = Option ℕ} (Some d) (Some c) = sym found.holder ∙ e in cc);
      moves_none = found.moves_none;
      head = m;
      tail = us ++ q ∷ vs;
      bound_to = found.bound_to;
      not_out = found.not_out;
      same_out = refl;
      armed = λ c e. (e, refl);
      from = λ n more e. let same : m ≡ n = cc in
          inl (subst (λ k. In k (G.bound port)) same (subst (In m) (sym found.bound_to) (inl refl)));
      sits = λ n more e. let same : m ≡ n = cc in ap relisted.node (sym same) ∙ stays_first;
      one_changed = one_changed whole found built new other owner link;
      other_changed = can.other_changed;
      right = BucketRight-frame env mix M M' j (G.bucket j) (write.others (PageWord j) within (λ e. cc))
          (λ n i. write.others (Node n ChainLink) (whole.owned.first_at n j
          (whole.owned.member j n i)).among (λ e. cc)) (whole.buckets j within
          (held-no_entry env mix M G whole j d found.holder));
      seat = λ n more b. let same : n ≡ m = (let z = sym b ∙ found.bound_to in cc) in rw same (first whole found);
      members = λ n i. each_owner (λ k o. G.node k ≡ First j → o ≡ First j)
          (λ f. absurd (let z : First j ≡ Behind port = sym f ∙ was_behind whole found in cc))
          (λ f. absurd (let z : true ≡ false = sym (ap is_first f) ∙ unchained in cc))
          (λ k apart more f. f) n (whole.owned.member j n i);
      others_stay = λ n i k. i;
      first_here = λ n i. each_owner (λ k o. o ≡ First i → key_of M k ≡ port → IsFirstAt env mix M' relisted k i)
          (λ f key. absurd (cc)) (λ f key. absurd (let z : false ≡ true = sym can.no_first ∙ ap is_first f in cc))
          (λ k apart more f key. still_first k i f key) n;
      behind_here = λ n k. each_owner (λ x o. o ≡ Behind k → key_of M x ≡ port → IsBehindIn env mix M' relisted x k)
          (λ f key. absurd (cc))
          (λ f key.
          let back = can.back k f in
          behind_first other k back.0 can.among key (In-append_right other us (new ++ vs) (In-append_left other new vs back.1)))
          (λ x apart more f key. still_behind x k apart f key) n;
      bound_here = λ n more e.
          let same : m ≡ n = cc in
          let rest_is : nodes ≡ more = cc in
          subst (λ k. IsBoundTo env mix M' relisted port k more) same
          (subst (IsBoundTo env mix M' relisted port m) rest_is new_bound);
      single = λ one n more e. absurd (not_empty us (whole.owned.single one port m (us ++ q ∷ vs) found.bound_to));
      counted = relisted_counted;
    }

    pub relist : Made env mix d M G M' relisted
    relist = rebind env mix d change M M' G (Node p ListLink) link whole relist_store relisted_bound
