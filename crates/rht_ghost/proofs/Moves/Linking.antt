-- The store that makes a node the first of its bucket's chain, and unlocks the bucket. From it on the port is bound.
use Rattle.std.proofs.Common.{◌≡◌, ◌≢◌, ◌⊎◌, ◌↔◌, ℕ, ◌+◌, ◌*◌, ◌/◌, ◌%◌, ◌<◌, List, [], ◌∷◌, Option, Some, None, false, refl, sym, ◌∙◌, ap, subst, inl, inr, arith}
use Rattle.std.specs.Int.{bit_at}
use Rattle.std.proofs.lemmas.Bool.{cases_eq, cases_lt}
use Rattle.std.proofs.lemmas.Bool.Decides.{nat_tests}
use Rattle.rht_words.specs.declared.env.Env.{Env}
use Rattle.rht_words.specs.Links.{link_of, head_of}
use Rattle.rht_words.specs.Chains.{IsSegment}
use Rattle.rht_words.specs.Places.{PortCount, Section, Slot, NodeMap, Node, NodeWord, ChainLink, KeyWord, ListLink, PageWord}
use Rattle.rht_words.proofs.Memory.{Memory, IsWrite}
use Rattle.rht_words.specs.Members.{In, NotIn}
use Rattle.rht_words.proofs.Members.{not_in_from, count_below-more}
use Rattle.rht_words.proofs.ChainLemmas.{IsSegment-members}
use Rattle.rht_words.specs.Ports.{IsPort}
use Rattle.rht_ghost.proofs.Theory.Ghosts.{put, put-same, put-other, put-all, Free, NodeHeld, First, Leaving, Behind, Ghost, IsSince, is_first, is_used, is_taken_by, IsUsed, seat_of, seat_in, seat, seat-used, listed-used, held_not_used, held_by_one, none-some, some-same, table_at, is_entry, table_of_page}
use Rattle.rht_ghost.proofs.Theory.Wholes.{chain_of, list_of, key_of, place_at, home, stop, IsNoBucket, BucketRight, ArmedRight, IsHomeOf, IsFirstAt, IsBehindIn, IsBoundTo, Owned, ArenaRight, IsBuilt, Whole, none_out, out-seated, firsts, raisers, force-there}
use Rattle.rht_ghost.proofs.Theory.Passed.{home-within, held-bucket, PassesStay, IsArmedFor, held-no_entry}
use Rattle.rht_ghost.proofs.Theory.Knowledge.{ArmedFor, IsEmptied}
use Rattle.rht_ghost.proofs.Theory.Reliance.{bound_used}
use Rattle.rht_ghost.proofs.Theory.Readiness.{linked_bucket, linked, IsReady}
use Rattle.rht_ghost.proofs.Theory.SectionFrames.{sections_stay, SectionsRight-write}
use Rattle.rht_ghost.proofs.Theory.Frames.{Made, UsedStay, used_stay, chains_stay, seat_stays, first_stays, SameTables, same_tables, tables_stay, holdings_stay, entries_stay, work_stays, stale_write, reowned_owners}
use Rattle.rht_ghost.proofs.Theory.WholeFrames.{TablesRight-write, SlotsRight-write, PagesRight-write, IsHomeOf-same, BucketRight-frame, MovingStays, entry_words, MovingRight-frame, Leaving-frame, EntriesRight-write, locked-no_entry}

module _ (env : Env) (mix : ℕ → ℕ → ℕ → ℕ) where
  head_of-link : (place n : ℕ) → head_of place (link_of n) ≡ link_of n
  head_of-link place n = grind (arith, nat_tests)

  module _ (d n port here : ℕ) (M M' : Memory) (G : Ghost) (whole : Whole env mix M G)
      (ready : IsReady env mix d n port here M G)
      (write : IsWrite env.geometry M M' (PageWord here) (link_of n)) where
    abbrev G' : Ghost
    G' = linked G d here n port

    same : SameTables env mix G G'
    same = same_tables env mix G (put G.bucket here (linked_bucket (G.bucket here) n))
        (put G.node n (First here)) (put G.bound port (n ∷ [])) (put G.raised d false)

    -- the bucket is one of a table in force, to which the port belongs
    table : table_at G here ≡ ready.table
    table = ap table_of_page ready.armed.of

    within : here < 64 * env.geometry.pages
    within =
        let right = whole.moving.armed here d ready.armed.armed in
        home-within env mix M G whole port ready.table here
        (force-there env mix whole.tables ready.table (omega (arith, right.current, table)) ready.armed.passed.attached) ready.armed.here

    home_of : IsHomeOf env mix G port here
    home_of =
        let right = whole.moving.armed here d ready.armed.armed in
        record {
          here = ap (home env mix G port) table ∙ ready.armed.here;
          current = right.current;
          attached = right.attached;
        }

    -- nothing is on its way out of it
    still : (G.bucket here).out ≡ None
    still = none_out env mix G d here ready.moves_none ready.holder

    used_differs : (m : ℕ) → IsUsed (G.node m) → m ≢ n
    used_differs m used e = held_not_used (G.node n) d ready.has.mine (rw (sym e) used)

    first_differs : (m j : ℕ) → G.node m ≡ First j → m ≢ n
    first_differs m j first = used_differs m (ap is_used first)

    seat_differs : (m j : ℕ) → seat_of (G.node m) ≡ Some j → m ≢ n
    seat_differs m j seat = used_differs m (seat-used (G.node m) j seat)

    word_same : (m : ℕ) (w : NodeWord) → m < env.geometry.nodes → M' (Node m w) ≡ M (Node m w)
    word_same m w l = write.others (Node m w) l (λ e. cc)

    words_stay : UsedStay env mix M G M'
    words_stay = used_stay env mix M M' G (PageWord here) (link_of n) whole write (λ m w e. cc)

    first_word : (m j : ℕ) (w : NodeWord) → G.node m ≡ First j → M' (Node m w) ≡ M (Node m w)
    first_word = first_stays env mix M M' G whole words_stay

    seat_word : (m j : ℕ) (w : NodeWord) → seat_of (G.node m) ≡ Some j → M' (Node m w) ≡ M (Node m w)
    seat_word = seat_stays env mix M M' G whole words_stay

    -- ---- what is on its way

    entry_differs : (j entry : ℕ) → (G.bucket j).out ≡ Some entry → entry ≢ n
    entry_differs j entry out =
        let seat = out-seated env mix M G j entry (whole.moving.out j entry out) in seat_differs entry seat.0 seat.1

    linked_moving : MovingStays env mix M G G'
    linked_moving = record {
      armed = λ j c. put-all (λ i b. b.armed ≡ Some c
          → (((G.bucket i).armed ≡ Some c) × (b.holder ≡ (G.bucket i).holder)) ⊎ ArmedRight env mix G' i c)
          G.bucket here (linked_bucket (G.bucket here) n) (λ e. absurd (cc)) (λ i ne e. inl (e, refl)) j;
      out = λ j entry. put-all (λ i b. b.out ≡ Some entry → (G.bucket i).out ≡ Some entry) G.bucket here
          (linked_bucket (G.bucket here) n) (λ e. e) (λ i ne e. e) j;
      kept = λ i c k entry holds out by. put-other G.bucket here (linked_bucket (G.bucket here) n) i
          (λ e. let one : ◌≡◌ {A = Option ℕ} (Some d) (Some c) = sym ready.holder
          ∙ ap (λ m. (G.bucket m).holder) (sym e) ∙ holds in
          ready.moves_none k entry out (by ∙ sym one));
      entries = λ j entry out. put-other G.node n (First here) entry (entry_differs j entry out);
      leaves = λ m j. put-all (λ i o. o ≡ Leaving j → G.node i ≡ Leaving j) G.node n (First here)
          (λ e. absurd (cc)) (λ i ne e. e) m;
      heads = λ m j leaving.
          let at = whole.owned.leaving_at m j leaving in
          put-other G.bound port (n ∷ []) (key_of M m)
          (λ e. let q : ◌≡◌ {A = List ℕ} [] (m ∷ at.behind) = sym ready.armed.unbound ∙ ap G.bound (sym e)
          ∙ at.bound_to in cc);
    }

    linked_passes : PassesStay env mix G G'
    linked_passes = record {
      armed = λ j c. put-all (λ i b. b.armed ≡ Some c
          → ((G.bucket i).armed ≡ Some c) ⊎ (table_at G i + 1 ≡ G.attached)) G.bucket here
          (linked_bucket (G.bucket here) n) (λ e. absurd (cc)) (λ i ne e. inl e) j;
      heads = λ p m j behind b out. elim (cases_eq p port) [
        | inl e ↦
            let now : ◌≡◌ {A = List ℕ} (n ∷ []) (m ∷ behind) = sym (put-same G.bound port (n ∷ []))
            ∙ ap G'.bound (sym e) ∙ b in
            let one : n ≡ m = cc in
            absurd (entry_differs j m (linked_moving.out j m out) (sym one))
        | inr ne ↦ inl (record {
          behind = behind;
          bound_to = sym (put-other G.bound port (n ∷ []) p ne) ∙ b;
          out = linked_moving.out j m out;
        })
      ];
      seats = λ p j s. elim (cases_eq p port) [
        | inl e ↦
            let now : seat_of (G'.node n) ≡ Some j = sym (ap (seat_in G'.node)
            (ap G'.bound e ∙ put-same G.bound port (n ∷ []))) ∙ s in
            let there : here ≡ j = some-same here j (sym (ap seat_of (put-same G.node n (First here))) ∙ now) in
            inr (subst (λ i. IsArmedFor env mix G p i) there (record {
              caller = d;
              armed = ready.armed.armed;
              here = ap (λ q. home env mix G q (table_at G here)) e ∙ home_of.here;
              current = home_of.current;
            }))
        | inr ne ↦ inl (record {
          bucket = j;
          seat_is = seat_same p ne (G.bound p) refl s;
          earlier = omega arith;
        })
      ];
    }
      where
        seat_same : (p : ℕ) → p ≢ port → (bound : List ℕ) → G.bound p ≡ bound
            → {j : ℕ} → seat G' p ≡ Some j → seat G p ≡ Some j
        seat_same p ne [] b s =
            let none : ◌≡◌ {A = Option ℕ} (seat G' p) None = ap (seat_in G'.node)
            (put-other G.bound port (n ∷ []) p ne ∙ b) in absurd (none-some none s)
        seat_same p ne (m ∷ behind) b s =
            let used = bound_used env mix M G whole p (m ∷ behind) b m (inl refl) in
            ap (seat_in G.node) b
            ∙ sym (ap seat_of (put-other G.node n (First here) m (used_differs m used.1)))
            ∙ sym (ap (seat_in G'.node) (put-other G.bound port (n ∷ []) p ne ∙ b)) ∙ s

    -- who is armed elsewhere isn't for this port
    linked_unbound : (c : ℕ) → c ≢ d → (p τ i : ℕ) → ArmedFor env mix G c p τ i → G'.bound p ≡ []
    linked_unbound c ne p τ i for = elim (cases_eq p port) [
      | inl e ↦ absurd (both_armed e)
      | inr apart ↦ put-other G.bound port (n ∷ []) p apart ∙ for.unbound
    ]
      where
        -- two that are armed for one port are so in the same table, and so in the same bucket
        both_armed : p ≡ port → ⊥
        both_armed e =
            let mine = ready.armed in
            let theirs = whole.moving.armed i c for.armed in
            let their_table : table_at G i ≡ τ = ap table_of_page for.of in
            let my_table = table in
            let at_home : home env mix G port τ ≡ Some i = ap (λ q. home env mix G q τ) (sym e) ∙ for.here in
            let my_home : home env mix G p ready.table ≡ Some here = ap (λ q. home env mix G q ready.table) e ∙ mine.here in
            elim (cases_lt τ ready.table) [
              | inl less ↦ none-some (mine.passed.quiet τ i (omega (arith, theirs.current, their_table)) less at_home) for.armed
              | inr least ↦ elim (cases_lt ready.table τ) [
                | inl less ↦ none-some (for.passed.quiet ready.table here
                    (omega (arith, home_of.current, my_table)) less my_home) mine.armed
                | inr most ↦
                    let same_table : τ ≡ ready.table = omega (arith, least, most) in
                    let place : i ≡ here = some-same i here (sym at_home ∙ ap (home env mix G port) same_table ∙ mine.here) in
                    let one : ◌≡◌ {A = Option ℕ} (Some c) (Some d) = sym for.armed ∙ ap (λ k. (G.bucket k).armed) place ∙ mine.armed in
                    ne (some-same c d one)
              ]
            ]

    not_in : (j : ℕ) → NotIn n (G.bucket j).nodes
    not_in j = not_in_from n (G.bucket j).nodes (λ i. first_differs n j (whole.owned.member j n i) refl)

    linked_right : BucketRight env mix M' here (linked_bucket (G.bucket here) n)
    linked_right =
        let old = whole.buckets here within (held-no_entry env mix M G whole here d ready.holder) in
        let rest : IsSegment (chain_of M') (head_of (place_at env mix here) (G.bucket here).plain) (G.bucket here).nodes (stop env mix (place_at env mix here) (G.bucket here).out)
        = IsSegment-members (chain_of M) (chain_of M')
        (head_of (place_at env mix here) (G.bucket here).plain) (G.bucket here).nodes
        (stop env mix (place_at env mix here) (G.bucket here).out)
        (λ m i. first_word m here ChainLink (whole.owned.member here m i)) old.chained.segment in
        let behind : chain_of M' n ≡ head_of (place_at env mix here) (G.bucket here).plain =
        word_same n ChainLink ready.has.among ∙ ready.chain in
        record {
          locked =
              record {
                word_is = write.same ∙ omega arith;
                even = omega arith;
              };
          chained =
              record {
                segment = (head_of-link (place_at env mix here) n, rw behind rest);
                distinct =
                    (not_in here, old.chained.distinct);
              };
        }

    linked_owned : Owned env mix M' G'
    linked_owned = record {
      member = λ j m. put-all (λ i b. In m b.nodes → put G.node n (First here) m ≡ First i) G.bucket here
          (linked_bucket (G.bucket here) n)
          (λ i. elim i [
            | inl e ↦ rw e (put-same G.node n (First here))
            | inr k ↦ let f = whole.owned.member here m k in put-other G.node n (First here) m
                (first_differs m here f) ∙ f
          ])
          (λ i ne k. let f = whole.owned.member i m k in put-other G.node n (First here) m
          (first_differs m i f) ∙ f) j;
      first_at = λ m j. put-all (λ k o. o ≡ First j → IsFirstAt env mix M' G' k j) G.node n (First here)
          (λ f. let e : here ≡ j = (cc) in rw (sym e) new_first)
          (λ k ne f. old_first k j ne f) m;
      leaving_at = Leaving-frame env mix M M' G G' whole same linked_moving
          (entry_words env mix M M' G whole words_stay);
      behind_in = λ m p. put-all (λ k o. o ≡ Behind p
          → IsBehindIn env mix M' G' k p) G.node n (First here) (λ f. absurd (cc))
          (λ k ne f. old_behind k p f) m;
      bound_to = λ p m behind. put-all (λ q nodes. nodes ≡ m ∷ behind
          → IsBoundTo env mix M' G' q m behind) G.bound port (n ∷ [])
          (λ e. let same : n ≡ m = (cc) in let none : [] ≡ behind = (cc) in subst
          (λ b. IsBoundTo env mix M' G' port m b) none record {
            bucket = here;
            first = rw (sym same) (ap seat_of (put-same G.node n (First here)));
            key_is = rw (sym same) (word_same n KeyWord ready.has.among ∙ ready.key);
            list = rw (sym same) (word_same n ListLink ready.has.among ∙ ready.list);
            distinct = (tt, tt);
            each = λ k i. absurd i;
          })
          (λ q ne e. let to = whole.owned.bound_to q m behind e in
          let link = seat_word m to.bucket ListLink to.first in
          record {
            bucket = to.bucket;
            first = ap seat_of (put-other G.node n (First here) m (seat_differs m to.bucket to.first)) ∙ to.first;
            key_is = seat_word m to.bucket KeyWord to.first ∙ to.key_is;
            list = rw link (IsSegment-members (list_of M) (list_of M') (list_of M m) behind 0
                (λ k i. words_stay.lists k (whole.owned.behind_in k q (to.each k i)).among
                (ap is_used (to.each k i))) to.list);
            distinct = to.distinct;
            each = λ k i.
                put-other G.node n (First here) k (used_differs k (ap is_used (to.each k i))) ∙ to.each k i;
          }) p;
      single = λ one p m behind. put-all (λ q nodes. nodes ≡ m ∷ behind → behind ≡ []) G.bound port (n ∷ [])
          (λ e. let none : [] ≡ behind = (cc) in sym none) (λ q ne e. whole.owned.single one q m behind e) p;
      small = λ p m behind. put-all (λ q nodes. nodes ≡ m ∷ behind → IsPort q) G.bound port (n ∷ [])
          (λ e. ready.small) (λ q ne e. whole.owned.small q m behind e) p;
    }
      where
        new_first : IsFirstAt env mix M' G' n here
        new_first = record {
          there = rw (put-same G.bucket here (linked_bucket (G.bucket here) n)) (inl refl);
          among = ready.has.among;
          at_home = rw (word_same n KeyWord ready.has.among
              ∙ ready.key) (IsHomeOf-same env mix G G' port here same home_of);
          behind = [];
          bound_to =
              ap (put G.bound port (n ∷ [])) (word_same n KeyWord ready.has.among ∙ ready.key)
              ∙ put-same G.bound port (n ∷ []);
        }

        old_first : (k j : ℕ) → k ≢ n → G.node k ≡ First j → IsFirstAt env mix M' G' k j
        old_first k j ne f =
            let at = whole.owned.first_at k j f in
            let key = first_word k j KeyWord f in
            let other : key_of M k ≢ port = λ e. let q : ◌≡◌ {A = List ℕ} [] (k ∷ at.behind) = sym
            ready.armed.unbound ∙ ap G.bound (sym e) ∙ at.bound_to in cc in
            record {
              there =
                  put-all (λ i b. In k (G.bucket i).nodes
                  → In k b.nodes) G.bucket here (linked_bucket (G.bucket here) n) (λ was. inr was)
                  (λ i ne was. was) j at.there;
              among = at.among;
              at_home = rw key (IsHomeOf-same env mix G G' (key_of M k) j same at.at_home);
              behind = at.behind;
              bound_to =
                  ap (put G.bound port (n ∷ [])) key ∙ put-other G.bound port (n ∷ []) (key_of M k) other
                  ∙ at.bound_to;
            }

        old_behind : (k p : ℕ) → G.node k ≡ Behind p → IsBehindIn env mix M' G' k p
        old_behind k p f =
            let is = whole.owned.behind_in k p f in
            let other : p ≢ port = λ e. let q : ◌≡◌ {A = List ℕ} [] (is.first ∷ is.behind) = sym
            ready.armed.unbound ∙ ap G.bound (sym e) ∙ is.bound_to in cc in
            record {
              among = is.among;
              key_is = words_stay.keys k is.among (ap is_used f) ∙ is.key_is;
              first = is.first;
              behind = is.behind;
              bound_to = put-other G.bound port (n ∷ []) p other ∙ is.bound_to;
              there = is.there;
            }

    linked_arena : ArenaRight env mix M' G'
    linked_arena = record {
      built = put-all (λ k o. IsBuilt env mix o) G.node n (First here) tt (λ k ne. whole.arena.built k);
      bits = λ m l. rw (write.others (NodeMap (m / 64)) (omega arith) (λ e. cc))
          (put-all (λ k o. k < env.geometry.nodes → (bit_at (M (NodeMap (k / 64))) (k % 64) ≡ 1) ↔
          (o ≡ Free)) G.node n (First here)
          (λ k. let old = whole.arena.bits n k in
          ((λ set. let q = sym ready.has.mine ∙ old.0 set in absurd (cc)), (λ e. absurd (cc))))
          (λ k ne j. whole.arena.bits k j) m l);
    }

    one_more_first : firsts env mix G' ≡ firsts env mix G + 1
    one_more_first = count_below-more (λ m. is_first (G.node m))
        (λ m. is_first (put G.node n (First here) m)) n env.geometry.nodes ready.has.among
        (ap is_first ready.has.mine) (ap is_first (put-same G.node n (First here)))
        (λ m ne. ap is_first (put-other G.node n (First here) m ne))

    one_less_raiser : raisers env mix G ≡ raisers env mix G' + 1
    one_less_raiser = count_below-more (put G.raised d false) G.raised d env.geometry.callers ready.low
        (put-same G.raised d false) ready.raised
        (λ c ne. sym (put-other G.raised d false c ne))

    pub link_head : Made env mix d M G M' G'
    link_head = record {
      whole = record {
        tables =
            TablesRight-write env mix M M' G G' (PageWord here) (link_of n) write
            (record { current = λ e. cc; slots = λ s w h e. cc }) same whole.tables;
        slots = SlotsRight-write env mix M M' G G' (PageWord here) (link_of n) write (λ e. cc) (λ s e. cc) same whole.slots;
        sections = SectionsRight-write env mix M M' G G' (PageWord here) (link_of n) write
            (record { own = λ k e. cc; kept = λ s k e. cc }) whole.sections refl (λ s τ is. is)
            (put-all (λ i b. (c : ℕ) → b.holder ≡ Some c → IsSince (G.from c) (table_at G i)) G.bucket here
            (linked_bucket (G.bucket here) n) (λ c e. absurd (cc)) (λ i ne. whole.sections.locked i));
        pages = PagesRight-write env mix M M' G G' (PageWord here) (link_of n) write (λ i e. cc) same
            (λ j blank. put-other G.bucket here (linked_bucket (G.bucket here) n) j
            (λ e. held-bucket env mix M G whole here d ready.holder
            (subst (λ k. IsNoBucket env mix G (G.page (k / 64)) k) e blank))) whole.pages;
        buckets = put-all (λ i b. i < 64 * env.geometry.pages → is_entry G i ≡ false → BucketRight env mix M' i b)
            G.bucket here (linked_bucket (G.bucket here) n) (λ l none. linked_right)
            (λ i ne l none. BucketRight-frame env mix M M' i (G.bucket i)
            (write.others (PageWord i) l (λ e. ne (cc)))
            (λ m k. first_word m i ChainLink (whole.owned.member i m k)) (whole.buckets i l none));
        entries = EntriesRight-write env mix M M' G G' (PageWord here) (link_of n) write
            (locked-no_entry env mix M G (PageWord here) d here whole ready.holder (λ j ne e. ne (cc))) same whole.entries;
        moving = MovingRight-frame env mix M M' G G' whole same linked_moving (entry_words env mix M M' G whole words_stay);
        owned = linked_owned;
        arena = linked_arena;
        counted = write.others PortCount tt (λ e. cc)
            ∙ omega (arith, whole.counted, one_more_first, one_less_raiser);
      };
      stale = stale_write env mix M M' G G' (PageWord here) (link_of n) write
          (let was = reowned_owners env mix G n (First here) (ap is_used ready.has.mine) in
          record { out = was.out; used = was.used })
          (λ m u f e. cc) (λ m u f e. cc);
      others = λ c ne. record {
        tables = tables_stay env mix M G G' whole same linked_passes;
        locks =
            λ j h. put-other G.bucket here (linked_bucket (G.bucket here) n) j
            (λ e. let q : ◌≡◌ {A = Option ℕ} (Some d) (Some c) = sym ready.holder
            ∙ ap (λ i. (G.bucket i).holder) (sym e) ∙ h in ne (cc));
        lists = λ j m h i.
            let at = whole.owned.first_at m j (whole.owned.member j m i) in
            put-other G.bound port (n ∷ []) (key_of M m)
            (λ e. let q : ◌≡◌ {A = List ℕ} [] (m ∷ at.behind) = sym ready.armed.unbound ∙ ap G.bound (sym e)
            ∙ at.bound_to in cc);
        chains = chains_stay env mix c M M' G (PageWord here) (link_of n) whole write (λ m used e. cc);
        keys = words_stay.keys;
        owners = words_stay.owners;
        nodes =
            λ m has. put-other G.node n (First here) m
            (λ e. ne (held_by_one (G.node n) c d (ap G.node (sym e) ∙ has.mine) ready.has.mine))
            ∙ has.mine;
        words = λ m has w. word_same m w has.among;
        raised = put-other G.raised d false c ne;
        taken = put-all (λ k o. is_taken_by c o ≡ is_taken_by c (G.node k)) G.node n (First here)
            (sym (ap (is_taken_by c) ready.has.mine)) (λ k kn. refl);
        unbound = linked_unbound c ne;
        holdings = holdings_stay env mix c M M' G G' same (λ s w l is. write.others (Slot s w) (l, is) (λ e. cc));
        work = work_stays env mix c M M' G G' same (entries_stay env mix M M' G G' whole words_stay
            (λ m used. put-other G.node n (First here) m (used_differs m (listed-used (G.node m) used)))
            (put-all (λ i b. IsEmptied env mix (G.bucket i) → IsEmptied env mix b) G.bucket here
            (linked_bucket (G.bucket here) n)
            (λ empty. absurd (none-some empty.armed ready.armed.armed)) (λ i apart empty. empty)))
            (λ s w l is. write.others (Slot s w) (l, is) (λ e. cc))
            (sections_stay env mix M M' G G' whole refl (λ k l. write.others (Section k) l (λ e. cc)));
        no_work = λ works. works;
        no_node =
            λ m. put-all (λ k o. o ≡ NodeHeld c → G.node k ≡ NodeHeld c) G.node n (First here) (λ e. absurd (cc))
            (λ k kn h. h) m;
        no_lock =
            λ j. put-all (λ i b. b.holder ≡ Some c → (G.bucket i).holder ≡ Some c) G.bucket here
            (linked_bucket (G.bucket here) n) (λ e. absurd (cc)) (λ i ni h. h) j;
      };
    }
