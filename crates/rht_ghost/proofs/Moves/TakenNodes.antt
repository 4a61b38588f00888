-- The moves of nodes: a word of a node that the caller has is written, a free node is taken, one that the caller has is given back.
-- Others see nothing of them but that a node is or isn't free.
use Rattle.std.proofs.Common.{◌≡◌, ◌≢◌, ◌↔◌, ◌⊎◌, ℕ, ◌+◌, ◌*◌, ◌/◌, ◌%◌, ◌<◌, List, [], ◌∷◌, Some, false, refl, sym, ◌∙◌, ap, subst, inl, inr, bit_and, bit_or, arith}
use Rattle.std.specs.Int.{bit_at, bit_not, w64}
use Rattle.std.proofs.lemmas.Bool.{cases_eq}
use Rattle.rht_words.specs.declared.env.Env.{Env}
use Rattle.rht_words.specs.Maps.{bit_of, IsBitIn}
use Rattle.rht_words.specs.Places.{PortCount, Section, Slot, NodeMap, Node, NodeWord, ChainLink, KeyWord, OwnerWord, ListLink, map_words}
use Rattle.rht_words.proofs.BitChanges.{bit_at-cleared, bit_at-cleared_other, bit_at-set, bit_at-set_other}
use Rattle.rht_words.proofs.Memory.{Memory, IsWrite}
use Rattle.rht_words.specs.Members.{In}
use Rattle.rht_words.proofs.Members.{count_below-same}
use Rattle.rht_ghost.proofs.Theory.Ghosts.{put, put-same, put-other, put-all, Owner, Free, NodeHeld, First, Behind, Ghost, HasSeat, is_first, is_used, is_taken_by, IsUsed, seat_of, seat-used, none-some, behind_one, held_not_used, held_by_one, with_owner, Taken, is_listed, taken_by_one, IsListedNode, unlisted-not_first}
use Rattle.rht_ghost.proofs.Theory.Wholes.{chain_of, key_of, ArenaRight, IsBuilt, Whole, seated_at, firsts as count_firsts, raisers}
use Rattle.rht_ghost.proofs.Theory.SeatedLinks.{chain-seated}
use Rattle.rht_ghost.proofs.Theory.Knowledge.{HasNode}
use Rattle.rht_ghost.proofs.Theory.Reliance.{bound_used}
use Rattle.rht_ghost.proofs.Theory.SectionFrames.{sections_stay}
use Rattle.rht_ghost.proofs.Theory.Frames.{Made, UsedStay, used_stay, chains_stay, holdings_stay, entries_stay, work_stays, tables_stay, same_tables, Rely-same, GoesBack, owners_left, stale_write, same_owners, reowned_owners}
use Rattle.rht_ghost.proofs.Theory.WholeFrames.{chains_passes, SameChains, same_chains, Whole-frame, locks_stay, arena_stays}

module _ (env : Env) (mix : ℕ → ℕ → ℕ → ℕ) where
  -- ---- a word of a node that the caller has

  pub fill : (d n : ℕ) (w : NodeWord) (v : ℕ) (M M' : Memory) (G : Ghost) → Whole env mix M G
      → HasNode env mix d G n
      → IsWrite env.geometry M M' (Node n w) v → Made env mix d M G M' G
  fill d n w v M M' G whole has write =
      let others_node : (m : ℕ) (u : NodeWord) → m < env.geometry.nodes → m ≢ n → M' (Node m u) ≡ M (Node m u)
      = λ m u l ne. write.others (Node m u) l (λ e. ne (cc)) in
      let other : (m : ℕ) → IsUsed (G.node m) → m ≢ n = λ m used e. held_not_used (G.node n) d has.mine
      (rw (sym e) used) in
      let words : UsedStay env mix M G M' = record {
        keys = λ m l used. others_node m KeyWord l (other m used);
        owners = λ m l used. others_node m OwnerWord l (other m used);
        lists = λ m l used. others_node m ListLink l (other m used);
        chains = λ m j seat. others_node m ChainLink (seated_at env mix M G whole m j seat).among
            (other m (seat-used (G.node m) j seat));
      } in
      record {
        whole = Whole-frame env mix M M' G G (Node n w) v whole write
            (record { current = λ e. cc; work = λ e. cc; sections = λ k e. cc; slots = λ s u e. cc; pages = λ i e. cc })
            (λ j entry e. cc)
            (same_chains env mix G G.raised) words (λ j blank. refl)
            (locks_stay env mix M M' G (Node n w) v whole write (λ j e. cc))
            (arena_stays env mix M M' G (Node n w) v whole write G refl (λ i e. cc))
            (write.others PortCount tt (λ e. cc) ∙ whole.counted) refl whole.sections.locked;
        others = λ c ne. Rely-same env mix c M M' G G whole
            (same_tables env mix G G.bucket G.node G.bound G.raised) refl refl refl refl words
            (chains_stay env mix c M M' G (Node n w) v whole write (λ m used e. other m used (cc)))
            (λ s u l is. write.others (Slot s u) (l, is) (λ e. cc))
            (sections_stay env mix M M' G G whole refl (λ k l. write.others (Section k) l (λ e. cc)))
            (λ m u held. others_node m u held.among (λ e. ne
            (held_by_one (G.node n) c d (ap G.node (sym e) ∙ held.mine) has.mine)));
        stale = stale_write env mix M M' G G (Node n w) v write (same_owners env mix G G refl)
            (λ m used f e. other m used (cc)) (λ m used f e. other m used (cc));
      }

  -- ---- the link in a chain of a node that is in none

  -- a node behind a port's first one is bound to no other port
  listed_key : (M : Memory) (G : Ghost) → Whole env mix M G → (other port n : ℕ) → In n (G.bound other)
      → G.node n ≡ Behind port
      → other ≡ port
  listed_key M G whole other port n i behind = go (G.bound other) refl i
    where
      go : (nodes : List ℕ) → G.bound other ≡ nodes → In n nodes → other ≡ port
      go [] b k = absurd k
      go (f ∷ rest) b (inl e) =
          let to = whole.owned.bound_to other f rest b in
          absurd (none-some (ap seat_of (ap G.node (sym e) ∙ behind)) to.first)
      go (f ∷ rest) b (inr k) = behind_one (G.node n) other port
          ((whole.owned.bound_to other f rest b).each n k) behind

  -- A node behind a port's first one gets the link that it has once it comes into the first one's place. The caller has locked
  -- the first one's bucket.
  pub chain_behind : (d n port first j v : ℕ) (behind : List ℕ) (M M' : Memory) (G : Ghost)
      → Whole env mix M G → G.node n ≡ Behind port
      → G.bound port ≡ first ∷ behind → G.node first ≡ First j → (G.bucket j).holder ≡ Some d
      → In n behind → v ≡ chain_of M first
      → IsWrite env.geometry M M' (Node n ChainLink) v → Made env mix d M G M' G
  chain_behind d n port first j v rest M M' G whole behind bound seat holder listed link write =
      let unchained : (m j : ℕ) → seat_of (G.node m) ≡ Some j → m ≢ n =
      λ m j seat e. none-some (ap seat_of (ap G.node e ∙ behind)) seat in
      let words : UsedStay env mix M G M' = record {
        keys = λ m l used. write.others (Node m KeyWord) l (λ e. cc);
        owners = λ m l used. write.others (Node m OwnerWord) l (λ e. cc);
        lists = λ m l used. write.others (Node m ListLink) l (λ e. cc);
        chains = λ m j seat. write.others (Node m ChainLink) (seated_at env mix M G whole m j seat).among
            (λ e. unchained m j seat (cc));
      } in
      record {
        whole = Whole-frame env mix M M' G G (Node n ChainLink) v whole write
            (record { current = λ e. cc; work = λ e. cc; sections = λ k e. cc; slots = λ s u e. cc; pages = λ i e. cc })
            (λ j entry e. cc)
            (same_chains env mix G G.raised) words (λ j blank. refl)
            (locks_stay env mix M M' G (Node n ChainLink) v whole write (λ j e. cc))
            (arena_stays env mix M M' G (Node n ChainLink) v whole write G refl (λ i e. cc))
            (write.others PortCount tt (λ e. cc) ∙ whole.counted) refl whole.sections.locked;
        stale = record {
          owners = owners_left env mix (same_owners env mix G G refl);
          chains = λ m l used none. elim (cases_eq m n) [
            | inl e ↦
                let now : chain_of M' m ≡ chain_of M first = ap (chain_of M') e ∙ write.same ∙ link in
                let sits : HasSeat G first = record { bucket = j; seat = ap seat_of seat } in
                inr (record {
                  port = port;
                  first = first;
                  behind = rest;
                  bound = bound;
                  there = inr (subst (λ k. In k rest) (sym e) listed);
                  bucket = j;
                  seat = ap seat_of seat;
                  link = now;
                  leads = λ z leads. chain-seated env mix M G whole first z sits (sym now ∙ leads);
                })
            | inr ne ↦ inl (write.others (Node m ChainLink) l (λ e. ne (cc)))
          ];
          lists = λ m l used f. write.others (Node m ListLink) l (λ e. cc);
        };
        others = λ c ne. Rely-same env mix c M M' G G whole
            (same_tables env mix G G.bucket G.node G.bound G.raised) refl refl refl refl words
            (λ i k m h here b.
            let is = bound_used env mix M G whole (key_of M k) (G.bound (key_of M k)) refl m b in
            write.others (Node m ChainLink) is.0 (λ e. ne (holder_one i k m h here b (cc))))
            (λ s u l is. write.others (Slot s u) (l, is) (λ e. cc))
            (sections_stay env mix M M' G G whole refl (λ k l. write.others (Section k) l (λ e. cc)))
            (λ m u held. write.others (Node m u) held.among (λ e.
            let same : m ≡ n = cc in
            let q : NodeHeld c ≡ Behind port = sym held.mine ∙ ap G.node same ∙ behind in cc));
      }
    where
      -- who has locked a bucket in which the node's port has its first node is the caller
      holder_one : {c : ℕ} → (i k m : ℕ) → (G.bucket i).holder ≡ Some c → In k (G.bucket i).nodes
          → In m (G.bound (key_of M k))
          → m ≡ n → c ≡ d
      holder_one i k m h here b same =
          let f = whole.owned.member i k here in
          let at = whole.owned.first_at k i f in
          let key : key_of M k ≡ port = listed_key M G whole (key_of M k) port n
          (subst (λ x. In x (G.bound (key_of M k))) same b) behind in
          let q : ◌≡◌ {A = List ℕ} (k ∷ at.behind) (first ∷ rest) = sym at.bound_to ∙ ap G.bound key
          ∙ bound in
          let one : k ≡ first = cc in
          let place : First i ≡ First j = sym f ∙ ap G.node one ∙ seat in
          let bucket : i ≡ j = cc in
          let z = sym h ∙ ap (λ x. (G.bucket x).holder) bucket ∙ holder in
          cc

  -- ---- the bit of a node

  -- neither the old owner of a node nor the new one is a port
  pub reowned_chains : (G : Ghost) (n : ℕ) (owner : Owner) → is_listed (G.node n) ≡ false
      → is_listed owner ≡ false → SameChains env mix G (with_owner G n owner)
  reowned_chains G n owner was now = record {
    tables = same_tables env mix G G.bucket (put G.node n owner) G.bound G.raised;
    nodes = λ j. refl;
    plain = λ j. refl;
    out = λ j. refl;
    armed = λ j c is. (is, refl);
    kept = λ i c k entry holds is out. refl;
    used = λ m used. put-other G.node n owner m
        (λ e. let q = sym was ∙ ap is_listed (ap G.node (sym e)) ∙ used in cc);
    used_before = λ m. put-all (λ i o. IsListedNode o → o ≡ G.node i) G.node n owner
        (λ used. let q = sym now ∙ used in absurd (cc)) (λ i ne used. refl) m;
    bound = λ port. refl;
  }

  reowned_firsts : (G : Ghost) (n : ℕ) (owner : Owner) → is_first (G.node n) ≡ false → is_first owner ≡ false
      → count_firsts env mix (with_owner G n owner) ≡ count_firsts env mix G
  reowned_firsts G n owner was now =
      count_below-same (λ m. is_first (G.node m)) (λ m. is_first (put G.node n owner m)) env.geometry.nodes
      (λ m l. put-all (λ i o. is_first o ≡ is_first (G.node i)) G.node n owner (now
      ∙ sym was) (λ i ne. refl) m)

  -- a bit of the map of nodes that has the value in the word that is written which it had
  map_bit_stays : (i value n : ℕ) (M M' : Memory) → IsWrite env.geometry M M' (NodeMap i) value
      → n < env.geometry.nodes
      → (n / 64 ≡ i → bit_at value (n % 64) ≡ bit_at (M (NodeMap i)) (n % 64))
      → bit_at (M' (NodeMap (n / 64))) (n % 64) ≡ bit_at (M (NodeMap (n / 64))) (n % 64)
  map_bit_stays i value n M M' write l same = elim (cases_eq (n / 64) i) [
    | inl e ↦
        ap (λ x. bit_at (M' (NodeMap x)) (n % 64)) e ∙ ap (λ w. bit_at w (n % 64)) write.same ∙ same e
        ∙ ap (λ x. bit_at (M (NodeMap x)) (n % 64)) (sym e)
    | inr other ↦ ap (λ w. bit_at w (n % 64)) (write.others (NodeMap (n / 64)) (omega arith)
        (λ e. other (cc)))
  ]

  -- the bits after one of them was changed together with the owner of its node
  reowned_bits : (i b value : ℕ) (owner : Owner) (M M' : Memory) (G : Ghost) → Whole env mix M G
      → IsBitIn env.geometry.nodes i b → IsBuilt env mix owner
      → IsWrite env.geometry M M' (NodeMap i) value
      → ((bit_at value b ≡ 1) ↔ (owner ≡ Free))
      → ((k : ℕ) → k < 64 → k ≢ b → bit_at value k ≡ bit_at (M (NodeMap i)) k)
      → ArenaRight env mix M' (with_owner G (64 * i + b) owner)
  reowned_bits i b value owner M M' G whole at is_built write here others = record {
    built = put-all (λ k o. IsBuilt env mix o) G.node (64 * i + b) owner is_built
        (λ k ne. whole.arena.built k);
    bits = λ m l. put-all (λ n o. n < env.geometry.nodes
        → (bit_at (M' (NodeMap (n / 64))) (n % 64) ≡ 1) ↔ (o ≡ Free)) G.node (64 * i + b) owner
        (λ k. let word : (64 * i + b) / 64 ≡ i = omega (arith, at.within) in
        let bit : (64 * i + b) % 64 ≡ b = omega (arith, at.within) in
        rw word (rw bit (rw write.same here)))
        (λ n ne k. rw (map_bit_stays i value n M M' write k
        (λ e. others (n % 64) (omega arith) (λ q. ne (omega arith)))) (whole.arena.bits n k))
        m l;
  }

  -- a write to a word of the node map, with a new owner of the node whose bit was changed
  reowned : (i b value : ℕ) (owner : Owner) (M M' : Memory) (G : Ghost) → Whole env mix M G
      → IsBitIn env.geometry.nodes i b → IsBuilt env mix owner
      → IsWrite env.geometry M M' (NodeMap i) value
      → is_listed (G.node (64 * i + b)) ≡ false → is_listed owner ≡ false
      → ((bit_at value b ≡ 1) ↔ (owner ≡ Free))
      → ((k : ℕ) → k < 64 → k ≢ b → bit_at value k ≡ bit_at (M (NodeMap i)) k)
      → Whole env mix M' (with_owner G (64 * i + b) owner)
  reowned i b value owner M M' G whole at is_built write was now here others =
      let n = 64 * i + b in
      Whole-frame env mix M M' G (with_owner G n owner) (NodeMap i) value whole write
      (record { current = λ e. cc; work = λ e. cc; sections = λ k e. cc; slots = λ s u e. cc; pages = λ i e. cc })
      (λ j entry e. cc)
      (reowned_chains G n owner was now)
      (used_stay env mix M M' G (NodeMap i) value whole write (λ m w e. cc)) (λ j blank. refl)
      (locks_stay env mix M M' G (NodeMap i) value whole write (λ j e. cc))
      (reowned_bits i b value owner M M' G whole at is_built write here others)
      (write.others PortCount tt (λ e. cc) ∙ whole.counted
      ∙ ap (λ x. x + raisers env mix G) (sym (reowned_firsts G n owner
      (unlisted-not_first (G.node n) was) (unlisted-not_first owner now)))) refl whole.sections.locked

  -- a write that leaves the bits of a word of the node map as they were
  pub retouch : (d i value : ℕ) (M M' : Memory) (G : Ghost) → Whole env mix M G
      → i < map_words env.geometry.nodes → IsWrite env.geometry M M' (NodeMap i) value
      → ((k : ℕ) → k < 64 → bit_at value k ≡ bit_at (M (NodeMap i)) k) → Made env mix d M G M' G
  retouch d i value M M' G whole l write same =
      let words = used_stay env mix M M' G (NodeMap i) value whole write (λ m w e. cc) in
      record {
        whole = Whole-frame env mix M M' G G (NodeMap i) value whole write
            (record { current = λ e. cc; work = λ e. cc; sections = λ k e. cc; slots = λ s u e. cc; pages = λ i e. cc })
            (λ j entry e. cc)
            (same_chains env mix G G.raised) words (λ j blank. refl)
            (locks_stay env mix M M' G (NodeMap i) value whole write (λ j e. cc))
            (record {
              built = whole.arena.built;
              bits =
                  λ n k. rw (map_bit_stays i value n M M' write k (λ e. same (n % 64) (omega arith)))
                  (whole.arena.bits n k);
            })
            (write.others PortCount tt (λ e. cc) ∙ whole.counted) refl whole.sections.locked;
        stale = stale_write env mix M M' G G (NodeMap i) value write (same_owners env mix G G refl)
            (λ n u f e. cc) (λ n u f e. cc);
        others =
            λ c ne. Rely-same env mix c M M' G G whole
            (same_tables env mix G G.bucket G.node G.bound G.raised) refl refl refl refl words
            (chains_stay env mix c M M' G (NodeMap i) value whole write (λ m used e. cc))
            (λ s w l is. write.others (Slot s w) (l, is) (λ e. cc))
            (sections_stay env mix M M' G G whole refl (λ k l. write.others (Section k) l (λ e. cc)))
            (λ m w has. write.others (Node m w) has.among (λ e. cc));
      }

  -- the and that clears a bit which was set: the node was free
  pub take_node : (d i b : ℕ) (M M' : Memory) (G : Ghost) → Whole env mix M G
      → IsBitIn env.geometry.nodes i b → bit_at (M (NodeMap i)) b ≡ 1
      → IsWrite env.geometry M M' (NodeMap i) (bit_and (M (NodeMap i)) (bit_not w64 (bit_of b)))
      → Made env mix d M G M' (with_owner G (64 * i + b) (NodeHeld d)) × (G.node (64 * i + b) ≡ Free)
  take_node d i b M M' G whole at found write =
      let n = 64 * i + b in
      let word : n / 64 ≡ i = omega (arith, at.within) in
      let bit : n % 64 ≡ b = omega (arith, at.within) in
      let free : G.node n ≡ Free = (whole.arena.bits n at.below).0 (rw word (rw bit found)) in
      let was : is_listed (G.node n) ≡ false = ap is_listed free in
      let stay = used_stay env mix M M' G (NodeMap i) (bit_and (M (NodeMap i)) (bit_not w64 (bit_of b)))
      whole write (λ m w e. cc) in
      let same = reowned_chains G n (NodeHeld d) was refl in (
        record {
          whole = reowned i b (bit_and (M (NodeMap i)) (bit_not w64 (bit_of b))) (NodeHeld d) M M' G whole at
              tt write was refl (
                (λ set. absurd (omega (arith, bit_at-cleared (M (NodeMap i)) b at.within, set))),
                (λ e. absurd (cc)),
              )
              (λ k l ne. bit_at-cleared_other (M (NodeMap i)) b k at.within l ne);
          stale = stale_write env mix M M' G (with_owner G n (NodeHeld d)) (NodeMap i)
              (bit_and (M (NodeMap i)) (bit_not w64 (bit_of b))) write
              (reowned_owners env mix G n (NodeHeld d) (ap is_used free))
              (λ m u f e. cc) (λ m u f e. cc);
          others = λ c ne. record {
            tables = tables_stay env mix M G (with_owner G n (NodeHeld d)) whole same.tables
                (chains_passes env mix M G (with_owner G n (NodeHeld d)) whole same);
            locks = λ j h. refl;
            lists = λ j m h i. refl;
            chains = chains_stay env mix c M M' G (NodeMap i)
                (bit_and (M (NodeMap i)) (bit_not w64 (bit_of b))) whole write (λ m used e. cc);
            keys = stay.keys;
            owners = stay.owners;
            nodes = λ m has. put-other G.node n (NodeHeld d) m (λ e. let q = sym free ∙ ap G.node (sym e)
                ∙ has.mine in cc) ∙ has.mine;
            words = λ m has w. write.others (Node m w) has.among (λ e. cc);
            raised = refl;
            taken = put-all (λ k o. is_taken_by c o ≡ is_taken_by c (G.node k)) G.node n (NodeHeld d)
                (sym (ap (is_taken_by c) free)) (λ k kn. refl);
            unbound = λ port τ j is. is.unbound;
            holdings = holdings_stay env mix c M M' G (with_owner G n (NodeHeld d)) same.tables
                (λ s w l is. write.others (Slot s w) (l, is) (λ e. cc));
            work = work_stays env mix c M M' G (with_owner G n (NodeHeld d)) same.tables
                (entries_stay env mix M M' G (with_owner G n (NodeHeld d)) whole stay same.used (λ j is. is))
                (λ s w l is. write.others (Slot s w) (l, is) (λ e. cc))
                (sections_stay env mix M M' G (with_owner G n (NodeHeld d)) whole refl
                (λ k l. write.others (Section k) l (λ e. cc)));
            no_work = λ works. works;
            no_node =
                λ m. put-all (λ k o. o ≡ NodeHeld c → G.node k ≡ NodeHeld c) G.node n (NodeHeld d)
                (λ e. absurd (ne (cc))) (λ k kn h. h) m;
            no_lock = λ j h. h;
          };
        },
        free,
      )

  -- the or that sets the bit of a node which the caller has
  pub give_node : (d n : ℕ) (M M' : Memory) (G : Ghost) → Whole env mix M G → HasNode env mix d G n
      → IsWrite env.geometry M M' (NodeMap (n / 64)) (bit_or (M (NodeMap (n / 64))) (bit_of (n % 64)))
      → Made env mix d M G M' (with_owner G n Free)
  give_node d n M M' G whole has write =
      let i = n / 64 in
      let b = n % 64 in
      let parts : 64 * i + b ≡ n = omega arith in
      let was : is_listed (G.node n) ≡ false = ap is_listed has.mine in
      let stay =
      used_stay env mix M M' G (NodeMap i) (bit_or (M (NodeMap i)) (bit_of b)) whole write (λ m w e. cc) in
      let same = reowned_chains G n Free was refl in
      let made = reowned i b (bit_or (M (NodeMap i)) (bit_of b)) Free M M' G whole
      (record { within = omega arith; below = omega (arith, has.among) }) tt write
      (ap (λ m. is_listed (G.node m)) parts ∙ was) refl
      ((λ set. refl), (λ e. bit_at-set (M (NodeMap i)) b))
      (λ k l ne. bit_at-set_other (M (NodeMap i)) b k ne) in
      record {
        whole = rw parts at made;
        stale = stale_write env mix M M' G (with_owner G n Free) (NodeMap i)
            (bit_or (M (NodeMap i)) (bit_of b)) write
            (reowned_owners env mix G n Free (ap is_used has.mine)) (λ m u f e. cc) (λ m u f e. cc);
        others = λ c ne. record {
          tables = tables_stay env mix M G (with_owner G n Free) whole same.tables
              (chains_passes env mix M G (with_owner G n Free) whole same);
          locks = λ j h. refl;
          lists = λ j m h i. refl;
          chains = chains_stay env mix c M M' G (NodeMap i) (bit_or (M (NodeMap i)) (bit_of b)) whole
              write (λ m used e. cc);
          keys = stay.keys;
          owners = stay.owners;
          nodes = λ m held. put-other G.node n Free m
              (λ e. ne (held_by_one (G.node n) c d (ap G.node (sym e) ∙ held.mine) has.mine)) ∙ held.mine;
          words = λ m held w. write.others (Node m w) held.among (λ e. cc);
          raised = refl;
          taken = put-all (λ k o. is_taken_by c o ≡ is_taken_by c (G.node k)) G.node n Free
              (sym (ap (is_taken_by c) has.mine)) (λ k kn. refl);
          unbound = λ port τ j is. is.unbound;
          holdings = holdings_stay env mix c M M' G (with_owner G n Free) same.tables
              (λ s w l is. write.others (Slot s w) (l, is) (λ e. cc));
          work = work_stays env mix c M M' G (with_owner G n Free) same.tables
              (entries_stay env mix M M' G (with_owner G n Free) whole stay same.used (λ j is. is))
              (λ s w l is. write.others (Slot s w) (l, is) (λ e. cc))
              (sections_stay env mix M M' G (with_owner G n Free) whole refl (λ k l. write.others (Section k) l (λ e. cc)));
          no_work = λ works. works;
          no_node =
              λ m. put-all (λ k o. o ≡ NodeHeld c → G.node k ≡ NodeHeld c) G.node n Free (λ e. absurd (cc))
              (λ k kn h. h) m;
          no_lock = λ j h. h;
        };
      }

  -- The or that sets the bit of a node which a call of the caller has taken out. Others know what they knew.
  pub return_node : (d n : ℕ) (M M' : Memory) (G : Ghost) → Whole env mix M G → n < env.geometry.nodes
      → G.node n ≡ Taken d
      → IsWrite env.geometry M M' (NodeMap (n / 64)) (bit_or (M (NodeMap (n / 64))) (bit_of (n % 64)))
      → Made env mix d M G M' (with_owner G n Free)
  return_node d n M M' G whole among mine write =
      let i = n / 64 in
      let b = n % 64 in
      let parts : 64 * i + b ≡ n = omega arith in
      let was : is_listed (G.node n) ≡ false = ap is_listed mine in
      let stay =
      used_stay env mix M M' G (NodeMap i) (bit_or (M (NodeMap i)) (bit_of b)) whole write (λ m w e. cc) in
      let same = reowned_chains G n Free was refl in
      let made = reowned i b (bit_or (M (NodeMap i)) (bit_of b)) Free M M' G whole
      (record { within = omega arith; below = omega (arith, among) }) tt write
      (ap (λ m. is_listed (G.node m)) parts ∙ was) refl
      ((λ set. refl), (λ e. bit_at-set (M (NodeMap i)) b))
      (λ k l ne. bit_at-set_other (M (NodeMap i)) b k ne) in
      record {
        whole = rw parts at made;
        others = λ c ne. record {
          tables = tables_stay env mix M G (with_owner G n Free) whole same.tables
              (chains_passes env mix M G (with_owner G n Free) whole same);
          locks = λ j h. refl;
          lists = λ j m h i. refl;
          chains = chains_stay env mix c M M' G (NodeMap i) (bit_or (M (NodeMap i)) (bit_of b)) whole
              write (λ m used e. cc);
          keys = stay.keys;
          owners = stay.owners;
          nodes = λ m held. put-other G.node n Free m
              (λ e. let q : NodeHeld c ≡ Taken d = sym held.mine ∙ ap G.node e ∙ mine in cc) ∙ held.mine;
          words = λ m held w. write.others (Node m w) held.among (λ e. cc);
          raised = refl;
          taken = put-all (λ k o. is_taken_by c o ≡ is_taken_by c (G.node k)) G.node n Free
              (sym (ap (is_taken_by c) mine ∙ taken_by_one c d ne)) (λ k kn. refl);
          unbound = λ port τ j is. is.unbound;
          holdings = holdings_stay env mix c M M' G (with_owner G n Free) same.tables
              (λ s w l is. write.others (Slot s w) (l, is) (λ e. cc));
          work = work_stays env mix c M M' G (with_owner G n Free) same.tables
              (entries_stay env mix M M' G (with_owner G n Free) whole stay same.used (λ j is. is))
              (λ s w l is. write.others (Slot s w) (l, is) (λ e. cc))
              (sections_stay env mix M M' G (with_owner G n Free) whole refl (λ k l. write.others (Section k) l (λ e. cc)));
          no_work = λ works. works;
          no_node =
              λ m. put-all (λ k o. o ≡ NodeHeld c → G.node k ≡ NodeHeld c) G.node n Free (λ e. absurd (cc))
              (λ k kn h. h) m;
          no_lock = λ j h. h;
        };
        stale = record {
          owners = record {
            out = λ m e is. gone m (λ o. o ≡ Taken e) is;
            used = λ m used. gone m IsUsed used;
          };
          chains = λ m l used none. inl (write.others (Node m ChainLink) l (λ e. cc));
          lists = λ m l used other. write.others (Node m ListLink) l (λ e. cc);
        };
      }
    where
      gone : (m : ℕ) (P : Owner → Type 0) → P (G.node m) → P (put G.node n Free m) ⊎ GoesBack env mix d G (with_owner G n Free) m
      gone m P is = elim (cases_eq m n) [
        | inl same ↦ inr (record { was = ap G.node same ∙ mine; now = ap (put G.node n Free) same ∙ put-same G.node n Free })
        | inr ne ↦ inl (subst P (sym (put-other G.node n Free m ne)) is)
      ]
