-- The store by which a caller that has locked a port's bucket changes what the port is bound to. What it does to other buckets,
-- ports and callers is shown here once; what it does to the port and to its bucket is asked of each such store.
use Rattle.std.proofs.Common.{◌≡◌, ◌≢◌, ◌⊎◌, ◌↔◌, ℕ, ◌+◌, ◌*◌, ◌/◌, ◌%◌, ◌<◌, ◌≤◌, List, [], ◌∷◌, Option, Some, None, false, refl, sym, ◌∙◌, ap, subst, inl, inr, arith, true}
use Rattle.std.specs.Int.{bit_at}
use Rattle.std.proofs.lemmas.Bool.{cases_eq, eq-eqb}
use Rattle.rht_words.specs.declared.env.Env.{Env}
use Rattle.rht_words.specs.declared.config.Kind.TheVariants.{Single}
use Rattle.rht_words.specs.Places.{Address, PortCount, Section, StateWord, NodeMap, Node, NodeWord, ChainLink, KeyWord, OwnerWord, ListLink, PageWord}
use Rattle.rht_words.specs.Members.{In}
use Rattle.rht_words.proofs.Memory.{Memory, IsWrite}
use Rattle.rht_words.proofs.ChainLemmas.{IsSegment-members}
use Rattle.rht_words.specs.Ports.{IsPort}
use Rattle.rht_ghost.proofs.Theory.Ghosts.{put, put-same, put-other, put-all, Owner, Free, NodeHeld, First, Leaving, Behind, Taken, Ghost, IsSince, is_listed, is_used, is_taken_by, IsUsed, seat_of, seat_in, seat, table_at, is_entry, held_not_used, held_by_one, none-some, some-same}
use Rattle.rht_ghost.proofs.Theory.Wholes.{list_of, key_of, IsNoBucket, BucketRight, ArmedRight, IsFirstAt, IsBehindIn, IsBoundTo, Owned, ArenaRight, IsBuilt, Whole, MovesNone, seated_at, out-seated, firsts, raisers}
use Rattle.rht_ghost.proofs.Theory.Passed.{held-bucket, PassesStay, WasSeated}
use Rattle.rht_ghost.proofs.Theory.Knowledge.{IsEmptied}
use Rattle.rht_ghost.proofs.Theory.Reliance.{bound_used}
use Rattle.rht_ghost.proofs.Theory.SectionFrames.{sections_stay, SectionsRight-write}
use Rattle.rht_ghost.proofs.Theory.Frames.{Made, Others, IsNoTableWord, no_section, SameTables, same_tables, tables_stay, slots_stay, holdings_stay, work_stays, stale_write}
use Rattle.rht_ghost.proofs.Theory.WholeFrames.{is_apart, TablesRight-write, SlotsRight-write, PagesRight-write, IsHomeOf-same, BucketRight-frame, MovingStays, EntryWords, MovingRight-frame, Leaving-frame, EntriesRight-write, locked-no_entry}
use Rattle.rht_ghost.proofs.Theory.Readiness.{Change, changed}

module _ (env : Env) (mix : ℕ → ℕ → ℕ → ℕ) (d : ℕ) (change : Change) (M M' : Memory) (G : Ghost)
    (a : Address) (v : ℕ) where
  abbrev G' : Ghost
  G' = changed G d change

  abbrev port : ℕ
  port = change.port

  abbrev here : ℕ
  here = change.place

  -- what is so of each owner that changes and of each that stays is so of each
  pub owners_all : (P : ℕ → Owner → Type 0) → P change.one change.one_owner → P change.other change.other_owner
      → ((n : ℕ) → n ≢ change.one → n ≢ change.other → P n (G.node n)) → (n : ℕ) → P n (G'.node n)
  owners_all P one other rest =
      put-all P (put G.node change.one change.one_owner) change.other change.other_owner other
      (λ n ne. put-all (λ m o. m ≢ change.other → P m o) G.node change.one change.one_owner
      (λ apart. one) (λ m apart apart_other. rest m apart apart_other) n ne)

  -- the word that is stored is no word of a table, of the maps or the count, no key or owner, no link of another bucket's nodes or
  -- of another port's list, and no word of a node that another caller has
  pub record IsStoreFor : Type 0 where
    pub write : IsWrite env.geometry M M' a v
    pub no_table : IsNoTableWord env mix a
    pub no_map : (i : ℕ) → NodeMap i ≢ a
    pub no_count : PortCount ≢ a
    pub no_key : (n : ℕ) → Node n KeyWord ≢ a
    pub no_owner : (n : ℕ) → Node n OwnerWord ≢ a
    pub other_word : (i : ℕ) → i ≢ here → PageWord i ≢ a
    pub other_link : (n i : ℕ) → i ≢ here → G.node n ≡ First i → Node n ChainLink ≢ a
    pub no_leaving : (n i : ℕ) → G.node n ≡ Leaving i → Node n ChainLink ≢ a
    pub no_behind : (n other : ℕ) → G.node n ≡ Behind other → Node n ChainLink ≢ a
    pub no_seatless : (n : ℕ) → seat_of (G'.node n) ≡ None → Node n ChainLink ≢ a
    pub other_list : (n other : ℕ) → other ≢ port → In n (G.bound other) → Node n ListLink ≢ a
    pub other_node : (c n : ℕ) (w : NodeWord) → c ≢ d → G.node n ≡ NodeHeld c → Node n w ≢ a
    -- nor is it the link of a node that is in no list then
    pub stale_list : (n : ℕ) → IsUsed (G.node n) → is_listed (G'.node n) ≡ false → Node n ListLink ≢ a

  -- a node that gets another owner is one of the port's, or the caller's that is to be one; and it is a port's then, or was one
  pub record IsChanged (n : ℕ) (owner : Owner) : Type 0 where
    pub before : In n (G.bound port) ⊎ (G.node n ≡ NodeHeld d)
    pub key_is : key_of M n ≡ port
    pub used : IsUsed owner
    pub stays : (i : ℕ) → owner ≢ Leaving i
    pub built : IsBuilt env mix owner
    pub no_others : (c : ℕ) → c ≢ d → is_taken_by c owner ≡ false

  -- what the store makes of the port and of its bucket
  pub record IsRebound : Type 0 where
    pub holder : (G.bucket here).holder ≡ Some d
    pub released : (c : ℕ) → c ≢ d → change.bucket.holder ≢ Some c
    -- nothing is on its way out of the caller's buckets, nor is the first node to which the port is bound; and nobody gets armed
    pub moves_none : MovesNone env mix G d
    pub head : ℕ
    pub tail : List ℕ
    pub bound_to : G.bound port ≡ head ∷ tail
    pub not_out : (i : ℕ) → (G.bucket i).out ≢ Some head
    pub same_out : change.bucket.out ≡ (G.bucket here).out
    pub armed : (c : ℕ) → change.bucket.armed ≡ Some c
        → ((G.bucket here).armed ≡ Some c) × (change.bucket.holder ≡ (G.bucket here).holder)
    -- the one that is the first then was one of the port's nodes or the caller's, and is in the bucket
    pub from : (n : ℕ) (behind : List ℕ) → change.nodes ≡ n ∷ behind → In n (G.bound port) ⊎ (G.node n ≡ NodeHeld d)
    pub sits : (n : ℕ) (behind : List ℕ) → change.nodes ≡ n ∷ behind → G'.node n ≡ First here
    pub one_changed : IsChanged change.one change.one_owner
    pub other_changed : IsChanged change.other change.other_owner
    pub right : BucketRight env mix M' here change.bucket
    -- the first node to which it was bound is in the bucket
    pub seat : (n : ℕ) (behind : List ℕ) → G.bound port ≡ n ∷ behind → G.node n ≡ First here
    pub members : (n : ℕ) → In n change.bucket.nodes → G'.node n ≡ First here
    pub others_stay : (n : ℕ) → In n (G.bucket here).nodes → key_of M n ≢ port → In n change.bucket.nodes
    pub first_here : (n i : ℕ) → G'.node n ≡ First i → key_of M n ≡ port → IsFirstAt env mix M' G' n i
    pub behind_here : (n other : ℕ) → G'.node n ≡ Behind other → key_of M n ≡ port
        → IsBehindIn env mix M' G' n other
    pub bound_here : (n : ℕ) (behind : List ℕ) → change.nodes ≡ n ∷ behind
        → IsBoundTo env mix M' G' port n behind
    pub single : env.config.kind ≡ Single → (n : ℕ) (behind : List ℕ) → change.nodes ≡ n ∷ behind
        → behind ≡ []
    pub counted : firsts env mix G' + raisers env mix G' ≡ firsts env mix G + raisers env mix G

  module _ (whole : Whole env mix M G) (store : IsStoreFor) (is : IsRebound) where
    same : SameTables env mix G G'
    same = same_tables env mix G G'.bucket G'.node G'.bound G'.raised

    -- ---- words that stay

    key_stays : (n : ℕ) → n < env.geometry.nodes → key_of M' n ≡ key_of M n
    key_stays n l = store.write.others (Node n KeyWord) l (store.no_key n)

    -- ---- who owns nodes

    -- a node of another port, or of another caller, keeps its owner
    record IsKept (n : ℕ) : Type 0 where
      no_one : n ≢ change.one
      no_other : n ≢ change.other

    kept_owner : (n : ℕ) → IsKept n → G'.node n ≡ G.node n
    kept_owner n kept =
        put-other (put G.node change.one change.one_owner) change.other change.other_owner n kept.no_other
        ∙ put-other G.node change.one change.one_owner n kept.no_one

    kept_from : (n : ℕ) → ((owner : Owner) → IsChanged n owner → ⊥) → IsKept n
    kept_from n never = record {
      no_one = λ e. never change.one_owner (subst (λ m. IsChanged m change.one_owner) (sym e) is.one_changed);
      no_other = λ e. never change.other_owner (subst (λ m. IsChanged m change.other_owner) (sym e)
          is.other_changed);
    }

    kept_key : (n : ℕ) → key_of M n ≢ port → IsKept n
    kept_key n other = kept_from n (λ owner at. other at.key_is)

    -- a node to which the port is bound is used
    listed_used : (n : ℕ) → In n (G.bound port) → IsUsed (G.node n)
    listed_used n = go (G.bound port) refl
      where
        go : (nodes : List ℕ) → G.bound port ≡ nodes → In n nodes → IsUsed (G.node n)
        go [] b i = absurd i
        go (first ∷ behind) b (inl e) = rw e (ap is_used (is.seat first behind b))
        go (first ∷ behind) b (inr i) = ap is_used ((whole.owned.bound_to port first behind b).each n i)

    -- no node that changes had been taken out of a list
    not_out : (n c : ℕ) → In n (G.bound port) → is_taken_by c (G.node n) ≡ false
    not_out n c = go (G.bound port) refl
      where
        go : (nodes : List ℕ) → G.bound port ≡ nodes → In n nodes → is_taken_by c (G.node n) ≡ false
        go [] b i = absurd i
        go (first ∷ behind) b (inl e) = ap (λ m. is_taken_by c (G.node m)) e
            ∙ ap (is_taken_by c) (is.seat first behind b)
        go (first ∷ behind) b (inr i) = ap (is_taken_by c)
            ((whole.owned.bound_to port first behind b).each n i)

    was_not_out : (c n : ℕ) (owner : Owner) → IsChanged n owner → is_taken_by c (G.node n) ≡ false
    was_not_out c n owner at = elim at.before [
      | inl there ↦ not_out n c there
      | inr held ↦ ap (is_taken_by c) held
    ]

    -- one of its nodes that is in a chain is in its bucket
    listed_seat : (n i : ℕ) → In n (G.bound port) → G.node n ≡ First i → i ≡ here
    listed_seat n i there first = go (G.bound port) refl there
      where
        go : (nodes : List ℕ) → G.bound port ≡ nodes → In n nodes → i ≡ here
        go [] b k = absurd k
        go (m ∷ behind) b (inl e) =
            let q : First i ≡ First here = sym first ∙ ap G.node e ∙ is.seat m behind b in cc
        go (m ∷ behind) b (inr k) =
            let q : First i ≡ Behind port = sym first
            ∙ (whole.owned.bound_to port m behind b).each n k in absurd (cc)

    held_kept : (c n : ℕ) → c ≢ d → G.node n ≡ NodeHeld c → IsKept n
    held_kept c n ne held = kept_from n (λ owner at. elim at.before [
      | inl there ↦ held_not_used (G.node n) c held (listed_used n there)
      | inr mine ↦ ne (held_by_one (G.node n) c d held mine)
    ])

    first_kept : (n i : ℕ) → i ≢ here → G.node n ≡ First i → IsKept n
    first_kept n i ne first = kept_from n (λ owner at. elim at.before [
      | inl there ↦ ne (listed_seat n i there first)
      | inr mine ↦ held_not_used (G.node n) d mine (ap is_used first)
    ])

    -- no node that changes is on its way out of a bucket, nor is any other of the port's
    listed_not_out : (n i : ℕ) → In n (G.bound port) → (G.bucket i).out ≢ Some n
    listed_not_out n i there out = go (G.bound port) refl there
      where
        go : (nodes : List ℕ) → G.bound port ≡ nodes → In n nodes → ⊥
        go [] b k = k
        go (m ∷ behind) b (inl e) =
            let q : ◌≡◌ {A = List ℕ} (is.head ∷ is.tail) (m ∷ behind) = sym is.bound_to ∙ b in
            let one : is.head ≡ m = cc in
            is.not_out i (out ∙ ap Some (e ∙ sym one))
        go (m ∷ behind) b (inr k) =
            let seat = out-seated env mix M G i n (whole.moving.out i n out) in
            none-some (ap seat_of ((whole.owned.bound_to port m behind b).each n k)) seat.1

    mine_not_out : (n i : ℕ) → G.node n ≡ NodeHeld d → (G.bucket i).out ≢ Some n
    mine_not_out n i mine out =
        let seat = out-seated env mix M G i n (whole.moving.out i n out) in
        none-some (ap seat_of mine) seat.1

    entry_kept : (i entry : ℕ) → (G.bucket i).out ≡ Some entry → IsKept entry
    entry_kept i entry out = kept_from entry (λ owner at. elim at.before [
      | inl there ↦ listed_not_out entry i there out
      | inr mine ↦ mine_not_out entry i mine out
    ])

    -- one that is out of its bucket is another port's
    leaving_key : (n i : ℕ) → G.node n ≡ Leaving i → key_of M n ≢ port
    leaving_key n i leaving e =
        let at = whole.owned.leaving_at n i leaving in
        let q : First here ≡ Leaving i = sym (is.seat n at.behind (ap G.bound (sym e) ∙ at.bound_to)) ∙ leaving in cc

    -- ---- what is on its way

    rebound_moving : MovingStays env mix M G G'
    rebound_moving = record {
      armed = λ i c. put-all (λ k b. b.armed ≡ Some c
          → (((G.bucket k).armed ≡ Some c) × (b.holder ≡ (G.bucket k).holder)) ⊎ ArmedRight env mix G' k c)
          G.bucket here change.bucket (λ e. inl (is.armed c e)) (λ k ne e. inl (e, refl)) i;
      out = λ i entry. put-all (λ k b. b.out ≡ Some entry → (G.bucket k).out ≡ Some entry) G.bucket here
          change.bucket (λ e. sym is.same_out ∙ e) (λ k ne e. e) i;
      kept = λ i c k entry holds out by. put-other G.bucket here change.bucket i
          (λ e. let one : ◌≡◌ {A = Option ℕ} (Some d) (Some c) = sym is.holder
          ∙ ap (λ m. (G.bucket m).holder) (sym e) ∙ holds in
          is.moves_none k entry out (by ∙ sym one));
      entries = λ i entry out. kept_owner entry (entry_kept i entry out);
      leaves = λ n i. owners_all (λ m o. o ≡ Leaving i → G.node m ≡ Leaving i) (λ e. absurd (is.one_changed.stays i e))
          (λ e. absurd (is.other_changed.stays i e)) (λ m apart other e. e) n;
      heads = λ n i leaving. put-other G.bound port change.nodes (key_of M n) (leaving_key n i leaving);
    }

    rebound_words : EntryWords env mix M G M'
    rebound_words = record {
      keys = λ i entry out. key_stays entry (whole.moving.out i entry out).among;
      chains = λ n i leaving.
          let at = whole.owned.leaving_at n i leaving in
          store.write.others (Node n ChainLink) (whole.moving.out i n at.out).among (store.no_leaving n i leaving);
    }

    rebound_passes : PassesStay env mix G G'
    rebound_passes = record {
      armed = λ i c. put-all (λ k b. b.armed ≡ Some c
          → ((G.bucket k).armed ≡ Some c) ⊎ (table_at G k + 1 ≡ G.attached)) G.bucket here change.bucket
          (λ e. inl (is.armed c e).0) (λ k ne e. inl e) i;
      heads = λ p n i behind b out. elim (cases_eq p port) [
        | inl e ↦
            let now : change.nodes ≡ n ∷ behind = sym (put-same G.bound port change.nodes) ∙ ap G'.bound (sym e) ∙ b in
            let was = rebound_moving.out i n out in
            absurd (elim (is.from n behind now) [
              | inl there ↦ listed_not_out n i there was
              | inr mine ↦ mine_not_out n i mine was
            ])
        | inr ne ↦ inl (record {
          behind = behind;
          bound_to = sym (put-other G.bound port change.nodes p ne) ∙ b;
          out = rebound_moving.out i n out;
        })
      ];
      seats = λ p i s. inl (elim (cases_eq p port) [
        | inl e ↦ seat_here p i e change.nodes refl s
        | inr ne ↦ record { bucket = i; seat_is = seat_same p i ne (G.bound p) refl s; earlier = omega arith }
      ]);
    }
      where
        seat_here : (p i : ℕ) → p ≡ port → (nodes : List ℕ) → change.nodes ≡ nodes → seat G' p ≡ Some i
            → WasSeated env mix G p i
        seat_here p i e [] now s =
            absurd (none-some (ap (seat_in G'.node) (ap G'.bound e ∙ put-same G.bound port change.nodes ∙ now)) s)
        seat_here p i e (n ∷ behind) now s =
            let then : seat G' p ≡ Some here =
            ap (seat_in G'.node) (ap G'.bound e ∙ put-same G.bound port change.nodes ∙ now)
            ∙ ap seat_of (is.sits n behind now) in
            let there : here ≡ i = some-same here i (sym then ∙ s) in
            record {
              bucket = here;
              seat_is = ap (seat_in G.node) (ap G.bound e ∙ is.bound_to) ∙ ap seat_of (is.seat is.head is.tail is.bound_to);
              earlier = subst (λ k. table_at G here ≤ table_at G k) there (omega arith);
            }

        seat_same : (p i : ℕ) → p ≢ port → (bound : List ℕ) → G.bound p ≡ bound → seat G' p ≡ Some i
            → seat G p ≡ Some i
        seat_same p i ne [] b s =
            absurd (none-some (ap (seat_in G'.node) (put-other G.bound port change.nodes p ne ∙ b)) s)
        seat_same p i ne (m ∷ behind) b s =
            let to = whole.owned.bound_to p m behind b in
            ap (seat_in G.node) b
            ∙ sym (ap seat_of (kept_owner m (kept_key m (λ e. ne (sym to.key_is ∙ e)))))
            ∙ sym (ap (seat_in G'.node) (put-other G.bound port change.nodes p ne ∙ b)) ∙ s

    -- ---- the whole

    other_owned : (n i : ℕ) → key_of M n ≢ port → G.node n ≡ First i → IsFirstAt env mix M' G' n i
    other_owned n i other first =
        let at = whole.owned.first_at n i first in
        let key = key_stays n at.among in
        record {
          there = put-all (λ k b. In n (G.bucket k).nodes → In n b.nodes) G.bucket here change.bucket
              (λ was. is.others_stay n was other) (λ k ne was. was) i at.there;
          among = at.among;
          at_home = rw key (IsHomeOf-same env mix G G' (key_of M n) i same at.at_home);
          behind = at.behind;
          bound_to = ap G'.bound key ∙ put-other G.bound port change.nodes (key_of M n) other ∙ at.bound_to;
        }

    other_behind : (n p : ℕ) → key_of M n ≢ port → G.node n ≡ Behind p → IsBehindIn env mix M' G' n p
    other_behind n p other behind =
        let at = whole.owned.behind_in n p behind in
        record {
          among = at.among;
          key_is = key_stays n at.among ∙ at.key_is;
          first = at.first;
          behind = at.behind;
          bound_to = put-other G.bound port change.nodes p (λ e. other (at.key_is ∙ e)) ∙ at.bound_to;
          there = at.there;
        }

    other_bound : (p n : ℕ) (behind : List ℕ) → p ≢ port → G.bound p ≡ n ∷ behind
        → IsBoundTo env mix M' G' p n behind
    other_bound p n behind ne b =
        let to = whole.owned.bound_to p n behind b in
        let at = seated_at env mix M G whole n to.bucket to.first in
        let there : (m : ℕ) → In m (n ∷ behind) → In m (G.bound p) = λ m i. subst (In m) (sym b) i in
        let link : list_of M' n ≡ list_of M n = store.write.others (Node n ListLink) at.among
        (store.other_list n p ne (there n (inl refl))) in
        record {
          bucket = to.bucket;
          first = ap seat_of (kept_owner n (kept_key n (λ e. ne (sym to.key_is ∙ e)))) ∙ to.first;
          key_is = key_stays n at.among ∙ to.key_is;
          list = rw link (IsSegment-members (list_of M) (list_of M') (list_of M n) behind 0
              (λ m i. let more = whole.owned.behind_in m p (to.each m i) in
              store.write.others (Node m ListLink) more.among
              (store.other_list m p ne (there m (inr i)))) to.list);
          distinct = to.distinct;
          each = λ m i.
              let more = whole.owned.behind_in m p (to.each m i) in
              kept_owner m (kept_key m (λ e. ne (sym more.key_is ∙ e))) ∙ to.each m i;
        }

    rebound_owned : Owned env mix M' G'
    rebound_owned = record {
      member = λ i n. put-all (λ k b. In n b.nodes → G'.node n ≡ First k) G.bucket here change.bucket
          (is.members n)
          (λ k ne there. let first = whole.owned.member k n there in kept_owner n
          (first_kept n k ne first) ∙ first) i;
      first_at = λ n i first. elim (cases_eq (key_of M n) port) [
        | inl e ↦ is.first_here n i first e
        | inr ne ↦ other_owned n i ne (sym (kept_owner n (kept_key n ne)) ∙ first)
      ];
      leaving_at = Leaving-frame env mix M M' G G' whole same rebound_moving rebound_words;
      behind_in = λ n p behind. elim (cases_eq (key_of M n) port) [
        | inl e ↦ is.behind_here n p behind e
        | inr ne ↦ other_behind n p ne (sym (kept_owner n (kept_key n ne)) ∙ behind)
      ];
      bound_to = λ p n behind b. elim (cases_eq p port) [
        | inl e ↦
            subst (λ q. IsBoundTo env mix M' G' q n behind) (sym e)
            (is.bound_here n behind (sym (put-same G.bound port change.nodes) ∙ ap G'.bound (sym e) ∙ b))
        | inr ne ↦ other_bound p n behind ne (sym (put-other G.bound port change.nodes p ne) ∙ b)
      ];
      single = λ one p n behind b. elim (cases_eq p port) [
        | inl e ↦ is.single one n behind (sym (put-same G.bound port change.nodes) ∙ ap G'.bound (sym e) ∙ b)
        | inr ne ↦ whole.owned.single one p n behind (sym (put-other G.bound port change.nodes p ne) ∙ b)
      ];
      small = λ p n behind b. elim (cases_eq p port) [
        | inl e ↦ subst IsPort (sym e) (whole.owned.small port is.head is.tail is.bound_to)
        | inr ne ↦ whole.owned.small p n behind (sym (put-other G.bound port change.nodes p ne) ∙ b)
      ];
    }

    -- no node that changes was free, and none is
    changed_bits : (n : ℕ) (owner : Owner) → IsChanged n owner → n < env.geometry.nodes
        → (bit_at (M (NodeMap (n / 64))) (n % 64) ≡ 1) ↔ (owner ≡ Free)
    changed_bits n owner at l =
        let old = whole.arena.bits n l in (
          (λ set. absurd (elim at.before [
            | inl there ↦ let q = sym (listed_used n there) ∙ ap is_used (old.0 set) in cc
            | inr mine ↦ let q = sym mine ∙ old.0 set in cc
          ])),
          (λ free. absurd (let q = sym at.used ∙ ap is_used free in cc)),
        )

    rebound_arena : ArenaRight env mix M' G'
    rebound_arena = record {
      built = owners_all (λ n o. IsBuilt env mix o) is.one_changed.built is.other_changed.built
          (λ n ne apart. whole.arena.built n);
      bits = λ n l. rw (store.write.others (NodeMap (n / 64)) (omega arith) (store.no_map (n / 64)))
          (owners_all (λ m o. m < env.geometry.nodes → (bit_at (M (NodeMap (m / 64))) (m % 64) ≡ 1) ↔
          (o ≡ Free))
          (changed_bits change.one change.one_owner is.one_changed)
          (changed_bits change.other change.other_owner is.other_changed)
          (λ m ne apart. whole.arena.bits m) n l);
    }

    rebound_whole : Whole env mix M' G'
    rebound_whole = record {
      tables = TablesRight-write env mix M M' G G' a v store.write (is_apart env mix G a store.no_table) same
          whole.tables;
      slots = SlotsRight-write env mix M M' G G' a v store.write store.no_table.work
          (λ s. store.no_table.slots s StateWord) same whole.slots;
      sections = SectionsRight-write env mix M M' G G' a v store.write (no_section env mix a store.no_table) whole.sections refl
          (λ s τ is. is)
          (put-all (λ i b. (c : ℕ) → b.holder ≡ Some c → IsSince (G.from c) (table_at G i)) G.bucket here change.bucket
          (λ c h. elim (cases_eq c d) [
            | inl e ↦ whole.sections.locked here c (is.holder ∙ ap Some (sym e))
            | inr ne ↦ absurd (is.released c ne h)
          ]) (λ i ne. whole.sections.locked i));
      pages = PagesRight-write env mix M M' G G' a v store.write store.no_table.pages same
          (λ i blank. put-other G.bucket here change.bucket i
          (λ e. held-bucket env mix M G whole here d is.holder
          (subst (λ k. IsNoBucket env mix G (G.page (k / 64)) k) e blank))) whole.pages;
      buckets = put-all (λ i b. i < 64 * env.geometry.pages → is_entry G i ≡ false → BucketRight env mix M' i b)
          G.bucket here change.bucket (λ l none. is.right)
          (λ i ne l none. BucketRight-frame env mix M M' i (G.bucket i)
          (store.write.others (PageWord i) l (store.other_word i ne))
          (λ n there. let first = whole.owned.member i n there in
          store.write.others (Node n ChainLink) (whole.owned.first_at n i first).among
          (store.other_link n i ne first)) (whole.buckets i l none));
      entries = EntriesRight-write env mix M M' G G' a v store.write
          (locked-no_entry env mix M G a d here whole is.holder store.other_word) same whole.entries;
      moving = MovingRight-frame env mix M M' G G' whole same rebound_moving rebound_words;
      owned = rebound_owned;
      arena = rebound_arena;
      counted = store.write.others PortCount tt store.no_count ∙ whole.counted ∙ sym is.counted;
    }

    rebound_others : Others env mix d M G M' G'
    rebound_others c ne =
        let elsewhere : (i : ℕ) → (G.bucket i).holder ≡ Some c → i ≢ here =
        λ i h e. ne (let q : ◌≡◌ {A = Option ℕ} (Some d) (Some c) = sym is.holder
        ∙ ap (λ k. (G.bucket k).holder) (sym e) ∙ h in cc) in
        record {
          tables = tables_stay env mix M G G' whole same rebound_passes;
          locks = λ i h. put-other G.bucket here change.bucket i (elsewhere i h);
          lists = λ i n h there.
              let first = whole.owned.member i n there in
              let at = whole.owned.first_at n i first in
              put-other G.bound port change.nodes (key_of M n) (λ e. elsewhere i h
              (listed_seat n i (subst (In n) (sym at.bound_to ∙ ap G.bound e) (inl refl)) first));
          chains = λ i n m h there listed.
              let first = whole.owned.member i n there in
              let at = whole.owned.first_at n i first in
              let used = bound_used env mix M G whole (key_of M n) (G.bound (key_of M n)) refl m listed in
              store.write.others (Node m ChainLink) used.0 (elim (subst (In m) at.bound_to listed) [
                | inl e ↦ store.other_link m i (elsewhere i h) (ap G.node e ∙ first)
                | inr k ↦ store.no_behind m (key_of M n)
                    ((whole.owned.bound_to (key_of M n) n at.behind at.bound_to).each m k)
              ]);
          keys = λ n l used. key_stays n l;
          owners = λ n l used. store.write.others (Node n OwnerWord) l (store.no_owner n);
          nodes = λ n has. kept_owner n (held_kept c n ne has.mine) ∙ has.mine;
          words = λ n has w. store.write.others (Node n w) has.among (store.other_node c n w ne has.mine);
          raised = put-other G.raised d change.raised c ne;
          taken = owners_all (λ n o. is_taken_by c o ≡ is_taken_by c (G.node n))
              (is.one_changed.no_others c ne ∙ sym (was_not_out c change.one change.one_owner is.one_changed))
              (is.other_changed.no_others c ne
              ∙ sym (was_not_out c change.other change.other_owner is.other_changed))
              (λ n apart other. refl);
          unbound = λ p τ i for. put-other G.bound port change.nodes p
              (λ e. let q : ◌≡◌ {A = List ℕ} [] (is.head ∷ is.tail) = sym for.unbound ∙ ap G.bound e
              ∙ is.bound_to in cc) ∙ for.unbound;
          holdings = holdings_stay env mix c M M' G G' same (slots_stay env mix M M' a v store.write store.no_table);
          work = work_stays env mix c M M' G G' same (record {
            emptied = put-all (λ i b. IsEmptied env mix (G.bucket i) → IsEmptied env mix b) G.bucket here change.bucket
                (λ empty. absurd (not_emptied empty.nodes)) (λ i apart empty. empty);
            entries = rebound_moving.entries;
            chains = rebound_words.chains;
          }) (slots_stay env mix M M' a v store.write store.no_table)
              (sections_stay env mix M M' G G' whole refl (λ k l. store.write.others (Section k) l (store.no_table.sections k)));
          no_work = λ works. works;
          no_node = owners_all (λ n o. o ≡ NodeHeld c → G.node n ≡ NodeHeld c)
              (λ held. absurd (held_not_used change.one_owner c held is.one_changed.used))
              (λ held. absurd (held_not_used change.other_owner c held is.other_changed.used))
              (λ n apart other held. held);
          no_lock = put-all (λ i b. b.holder ≡ Some c
              → (G.bucket i).holder ≡ Some c) G.bucket here change.bucket
              (λ h. absurd (is.released c ne h)) (λ i apart h. h);
        }
      where
        not_emptied : (G.bucket here).nodes ≡ [] → ⊥
        not_emptied e =
            let first = is.seat is.head is.tail is.bound_to in
            subst (In is.head) e (whole.owned.first_at is.head here first).there

    pub rebind : Made env mix d M G M' G'
    rebind = record {
      whole = rebound_whole;
      others = rebound_others;
      stale = stale_write env mix M M' G G' a v store.write
          (record {
            out = λ n e. owners_all (λ k o. G.node k ≡ Taken e → o ≡ Taken e)
                (λ out. absurd (none_out e change.one change.one_owner is.one_changed out))
                (λ out. absurd (none_out e change.other change.other_owner is.other_changed out))
                (λ k one other out. out) n;
            used = owners_all (λ k o. IsUsed (G.node k) → IsUsed o) (λ u. is.one_changed.used)
                (λ u. is.other_changed.used)
                (λ k one other u. u);
          })
          (λ n used. store.no_seatless n) store.stale_list;
    }
      where
        none_out : (e n : ℕ) (owner : Owner) → IsChanged n owner → G.node n ≡ Taken e → ⊥
        none_out e n owner at out =
            let z : true ≡ false = sym (eq-eqb e e refl) ∙ sym (ap (is_taken_by e) out)
            ∙ was_not_out e n owner at in cc
