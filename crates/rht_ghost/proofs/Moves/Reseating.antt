-- A store by which the caller that does the work moves an entry. It changes one bucket that the caller has locked, and at most which
-- bucket is the entry's seat; ports are bound to what they were. What it does to all else is shown here once.
use Rattle.std.proofs.Common.{◌≡◌, ◌≢◌, ◌⊎◌, ◌↔◌, ℕ, ◌+◌, ◌*◌, ◌/◌, ◌%◌, ◌<◌, ◌≤◌, List, [], ◌∷◌, Option, Some, None, refl, sym, ◌∙◌, ap, subst, inl, inr, arith, false}
use Rattle.std.specs.Int.{bit_at}
use Rattle.std.proofs.lemmas.Bool.{cases_eq}
use Rattle.rht_words.specs.declared.env.Env.{Env}
use Rattle.rht_words.specs.Places.{Address, PortCount, StateWord, NodeMap, Node, NodeWord, ChainLink, KeyWord, OwnerWord, ListLink, PageWord}
use Rattle.rht_words.specs.Members.{In}
use Rattle.rht_words.proofs.Memory.{Memory, IsWrite}
use Rattle.rht_words.proofs.ChainLemmas.{IsSegment-members}
use Rattle.rht_words.proofs.Members.{count_below-same}
use Rattle.rht_ghost.proofs.Theory.Ghosts.{IsUsed, seat-used, put, put-same, put-other, put-all, Bucket, Owner, Free, NodeHeld, First, Leaving, Behind, Ghost, IsSince, is_first, is_taken_by, seat_of, seat_in, seat, seated, seat-first, table_at, is_entry, none-some, some-same}
use Rattle.rht_ghost.proofs.Theory.Wholes.{list_of, key_of, IsNoBucket, BucketRight, ArmedRight, OutRight, MovingRight, IsNextFor, IsHomeOf, IsFirstAt, IsLeavingAt, Owned, ArenaRight, IsBuilt, Whole, IsSeatedAt, seated_at, firsts, raisers}
use Rattle.rht_ghost.proofs.Theory.Passed.{held-bucket, PassesStay, WasOut, WasSeated}
use Rattle.rht_ghost.proofs.Theory.Reliance.{bound_used}
use Rattle.rht_ghost.proofs.Theory.Departures.{seat-not_out}
use Rattle.rht_ghost.proofs.Theory.SectionFrames.{SectionsRight-write}
use Rattle.rht_ghost.proofs.Theory.Frames.{Made, Others, IsNoTableWord, no_section, SameTables, same_tables, tables_stay, slots_stay, holdings_stay, stale_write}
use Rattle.rht_ghost.proofs.Theory.WholeFrames.{is_apart, TablesRight-write, SlotsRight-write, PagesRight-write, IsHomeOf-same, BucketRight-frame, EntriesRight-write, locked-no_entry}

module _ (env : Env) (mix : ℕ → ℕ → ℕ → ℕ) (d here entry : ℕ) (b : Bucket) (node : ℕ → Owner) (M M' : Memory)
    (G : Ghost) (a : Address) (v : ℕ) where
  abbrev G' : Ghost
  G' = record G { bucket = put G.bucket here b; node = node }

  -- the word that is stored is no word of a table, of the maps or the count, no word of a node but a link in a chain, and no link of
  -- another bucket's nodes, of an entry that is in no bucket, of a node without a seat, or of a node that another caller has
  pub record IsEntryStore : Type 0 where
    pub write : IsWrite env.geometry M M' a v
    pub no_table : IsNoTableWord env mix a
    pub no_map : (i : ℕ) → NodeMap i ≢ a
    pub no_count : PortCount ≢ a
    pub no_key : (n : ℕ) → Node n KeyWord ≢ a
    pub no_owner : (n : ℕ) → Node n OwnerWord ≢ a
    pub no_list : (n : ℕ) → Node n ListLink ≢ a
    pub other_word : (i : ℕ) → i ≢ here → PageWord i ≢ a
    pub other_link : (n i : ℕ) → i ≢ here → G.node n ≡ First i → Node n ChainLink ≢ a
    pub no_leaving : (n i : ℕ) → n ≢ entry → G.node n ≡ Leaving i → Node n ChainLink ≢ a
    pub no_seatless : (n : ℕ) → seat_of (G.node n) ≡ None → Node n ChainLink ≢ a
    pub other_node : (c n : ℕ) (w : NodeWord) → c ≢ d → G.node n ≡ NodeHeld c → Node n w ≢ a

  -- the entry had a seat, and has one that is no earlier
  pub record IsReseat : Type 0 where
    pub before : ℕ
    pub after : ℕ
    pub was : seat_of (G.node entry) ≡ Some before
    pub now : seat_of (node entry) ≡ Some after
    pub later : table_at G before ≤ table_at G after
    pub others : (n : ℕ) → n ≢ entry → node n ≡ G.node n

  -- what is on its way then
  pub record IsOnItsWay (j x : ℕ) : Type 0 where
    pub elsewhere : j ≢ here
    pub other : x ≢ entry
    pub out : (G.bucket j).out ≡ Some x

  -- an entry that is out of the bucket then was so, or is this one, which had its seat there
  pub record IsOutNow (x : ℕ) : Type 0 where
    pub is : x ≡ entry
    pub seat : seat_of (G.node entry) ≡ Some here

  -- what the store makes of the bucket and of the entry
  pub record IsReseated : Type 0 where
    pub works : G.worker ≡ Some d
    pub holder : (G.bucket here).holder ≡ Some d
    pub released : (c : ℕ) → c ≢ d → b.holder ≢ Some c
    pub armed : (c : ℕ) → b.armed ≡ Some c
        → ((G.bucket here).armed ≡ Some c) × (b.holder ≡ (G.bucket here).holder)
    pub reseat : IsReseat
    pub right : BucketRight env mix M' here b
    -- entries that are on their way
    pub outs : (j x : ℕ) → (G'.bucket j).out ≡ Some x → IsOnItsWay j x ⊎ OutRight env mix M' G' j x
    pub out_from : (x : ℕ) → b.out ≡ Some x → ((G.bucket here).out ≡ Some x) ⊎ IsOutNow x
    pub leaving_elsewhere : (n j : ℕ) → n ≢ entry → G.node n ≡ Leaving j → j ≢ here
    pub next_elsewhere : (n j : ℕ) → n ≢ entry → G.node n ≡ Leaving j → (next : IsNextFor env mix M G n)
        → next.bucket ≢ here
    pub leaving_here : (j : ℕ) → node entry ≡ Leaving j → IsLeavingAt env mix M' G' entry j
    -- the nodes of the bucket, and the entry's home
    pub members : (n : ℕ) → In n b.nodes → node n ≡ First here
    pub stays_first : (n j : ℕ) → j ≢ here → G.node n ≡ First j → node n ≡ First j
    pub kept : (n : ℕ) → n ≢ entry → In n (G.bucket here).nodes → In n b.nodes
    pub there : (j : ℕ) → node entry ≡ First j → In entry (G'.bucket j).nodes
    pub at_home : (j : ℕ) → node entry ≡ First j → IsHomeOf env mix G (key_of M entry) j

  module _ (whole : Whole env mix M G) (store : IsEntryStore) (is : IsReseated) where
    same : SameTables env mix G G'
    same = same_tables env mix G G'.bucket G'.node G'.bound G'.raised

    at : IsSeatedAt env mix M G entry is.reseat.before
    at = seated_at env mix M G whole entry is.reseat.before is.reseat.was

    key_stays : (n : ℕ) → n < env.geometry.nodes → key_of M' n ≡ key_of M n
    key_stays n l = store.write.others (Node n KeyWord) l (store.no_key n)

    list_stays : (n : ℕ) → n < env.geometry.nodes → list_of M' n ≡ list_of M n
    list_stays n l = store.write.others (Node n ListLink) l (store.no_list n)

    -- ---- who owns nodes

    -- what is so of the entry's owner, and of each that stays, is so of each
    owners_all : (P : ℕ → Owner → Type 0) → P entry (node entry) → ((n : ℕ) → n ≢ entry → P n (G.node n))
        → (n : ℕ) → P n (node n)
    owners_all P one rest n = elim (cases_eq n entry) [
      | inl e ↦ subst (λ k. P k (node k)) (sym e) one
      | inr ne ↦ subst (P n) (sym (is.reseat.others n ne)) (rest n ne)
    ]

    -- a node that had no seat keeps its owner, and so does one that has none
    unseated : (n : ℕ) → seat_of (G.node n) ≡ None → n ≢ entry
    unseated n none e = none-some (ap (λ k. seat_of (G.node k)) (sym e) ∙ none) is.reseat.was

    unseated_now : (n : ℕ) → seat_of (node n) ≡ None → n ≢ entry
    unseated_now n none e = none-some (ap (λ k. seat_of (node k)) (sym e) ∙ none) is.reseat.now

    -- ---- what is on its way

    out_elsewhere : (j x : ℕ) → IsOnItsWay j x → OutRight env mix M' G' j x
    out_elsewhere j x on =
        let out = whole.moving.out j x on.out in
        let bucket = put-other G.bucket here b j on.elsewhere in
        let owner = is.reseat.others x on.other in
        record {
          worker = out.worker;
          holder = ap (λ k. k.holder) bucket ∙ out.holder;
          works = out.works;
          table = out.table;
          among = out.among;
          here = rw (key_stays x out.among) out.here;
          owner = elim out.owner [
            | inl leaving ↦ inl (owner ∙ leaving)
            | inr further ↦ inr (record {
              bucket = further.bucket;
              first = owner ∙ further.first;
              later = further.later;
            })
          ];
        }

    reseated_moving : MovingRight env mix M' G'
    reseated_moving = record {
      armed = λ j c. put-all (λ k o. o.armed ≡ Some c → ArmedRight env mix G' k c) G.bucket here b
          (λ e.
          let was = is.armed c e in
          let right = whole.moving.armed here c was.0 in
          record {
            holder = ap (λ k. k.holder) (put-same G.bucket here b) ∙ was.1 ∙ right.holder;
            current = right.current;
            attached = right.attached;
          })
          (λ k ne e.
          let right = whole.moving.armed k c e in
          record {
            holder = ap (λ o. o.holder) (put-other G.bucket here b k ne) ∙ right.holder;
            current = right.current;
            attached = right.attached;
          }) j;
      out = λ j x e. elim (is.outs j x e) [ inl on ↦ out_elsewhere j x on | inr right ↦ right ];
    }

    leaving_elsewhere : (n j : ℕ) → n ≢ entry → G.node n ≡ Leaving j → IsLeavingAt env mix M' G' n j
    leaving_elsewhere n j ne leaving =
        let at = whole.owned.leaving_at n j leaving in
        let among = (whole.moving.out j n at.out).among in
        let next = at.next in
        let bucket = put-other G.bucket here b next.bucket (is.next_elsewhere n j ne leaving next) in
        record {
          out = ap (λ k. k.out) (put-other G.bucket here b j (is.leaving_elsewhere n j ne leaving)) ∙ at.out;
          behind = at.behind;
          bound_to = ap G.bound (key_stays n among) ∙ at.bound_to;
          next = record {
            bucket = next.bucket;
            later = next.later;
            attached = next.attached;
            worker = next.worker;
            holder = ap (λ k. k.holder) bucket ∙ next.holder;
            works = next.works;
            here = rw (key_stays n among) next.here;
            chain = store.write.others (Node n ChainLink) among (store.no_leaving n j ne leaving) ∙ rw bucket next.chain;
          };
        }

    -- ---- who owns what

    first_now : (n j : ℕ) → node n ≡ First j → IsFirstAt env mix M' G' n j
    first_now n j f = elim (cases_eq n entry) [
      | inl e ↦ subst (λ k. IsFirstAt env mix M' G' k j) (sym e) (entry_first (ap node (sym e) ∙ f))
      | inr ne ↦ other_first ne (sym (is.reseat.others n ne) ∙ f)
    ]
      where
        entry_first : node entry ≡ First j → IsFirstAt env mix M' G' entry j
        entry_first first =
            let key = key_stays entry at.among in
            record {
              there = is.there j first;
              among = at.among;
              at_home = rw key (IsHomeOf-same env mix G G' (key_of M entry) j same (is.at_home j first));
              behind = at.behind;
              bound_to = ap G.bound key ∙ at.bound_to;
            }

        other_first : n ≢ entry → G.node n ≡ First j → IsFirstAt env mix M' G' n j
        other_first ne first =
            let was = whole.owned.first_at n j first in
            let key = key_stays n was.among in
            record {
              there = put-all (λ k o. In n (G.bucket k).nodes → In n o.nodes) G.bucket here b (is.kept n ne)
                  (λ k apart i. i) j was.there;
              among = was.among;
              at_home = rw key (IsHomeOf-same env mix G G' (key_of M n) j same was.at_home);
              behind = was.behind;
              bound_to = ap G.bound key ∙ was.bound_to;
            }

    seat_now : (n j : ℕ) → seat_of (G.node n) ≡ Some j → (i : ℕ) × (seat_of (node n) ≡ Some i)
    seat_now n j seat = elim (cases_eq n entry) [
      | inl e ↦ (is.reseat.after, ap (λ k. seat_of (node k)) e ∙ is.reseat.now)
      | inr ne ↦ (j, ap seat_of (is.reseat.others n ne) ∙ seat)
    ]

    behind_kept : (m port : ℕ) → G.node m ≡ Behind port → node m ≡ Behind port
    behind_kept m port behind = is.reseat.others m (unseated m (ap seat_of behind)) ∙ behind

    reseated_owned : Owned env mix M' G'
    reseated_owned =
        let owned = whole.owned in
        record {
          member = λ j n. put-all (λ k o. In n o.nodes → node n ≡ First k) G.bucket here b (is.members n)
              (λ k ne i. is.stays_first n k ne (owned.member k n i)) j;
          first_at = first_now;
          leaving_at = λ n j leaving. elim (cases_eq n entry) [
            | inl e ↦ subst (λ k. IsLeavingAt env mix M' G' k j) (sym e)
                (is.leaving_here j (ap node (sym e) ∙ leaving))
            | inr ne ↦ leaving_elsewhere n j ne (sym (is.reseat.others n ne) ∙ leaving)
          ];
          behind_in = λ n port f.
              let was = owned.behind_in n port
              (sym (is.reseat.others n (unseated_now n (ap seat_of f))) ∙ f) in
              record {
                among = was.among;
                key_is = key_stays n was.among ∙ was.key_is;
                first = was.first;
                behind = was.behind;
                bound_to = was.bound_to;
                there = was.there;
              };
          bound_to = λ port n behind b.
              let to = owned.bound_to port n behind b in
              let seat = seated_at env mix M G whole n to.bucket to.first in
              let now = seat_now n to.bucket to.first in
              record {
                bucket = now.0;
                first = now.1;
                key_is = key_stays n seat.among ∙ to.key_is;
                list = rw (list_stays n seat.among) (IsSegment-members (list_of M) (list_of M') (list_of M n)
                    behind 0 (λ m i. list_stays m (owned.behind_in m port (to.each m i)).among) to.list);
                distinct = to.distinct;
                each = λ m i. behind_kept m port (to.each m i);
              };
          single = owned.single;
          small = owned.small;
        }

    -- ---- the map of nodes and the count

    built_seat : (o : Owner) (j : ℕ) → seat_of o ≡ Some j → IsBuilt env mix o
    built_seat o j seat = elim (seated o j seat) [
      | inl first ↦ subst (IsBuilt env mix) (sym first) tt
      | inr leaving ↦ subst (IsBuilt env mix) (sym leaving) tt
    ]

    reseated_arena : ArenaRight env mix M' G'
    reseated_arena = record {
      built = owners_all (λ n o. IsBuilt env mix o) (built_seat (node entry) is.reseat.after is.reseat.now)
          (λ n ne. whole.arena.built n);
      bits = λ n l. rw (store.write.others (NodeMap (n / 64)) (omega arith) (store.no_map (n / 64)))
          (owners_all (λ m o. m < env.geometry.nodes → (bit_at (M (NodeMap (m / 64))) (m % 64) ≡ 1) ↔ (o ≡ Free))
          (λ k.
          let old = whole.arena.bits entry k in (
            (λ set. absurd (none-some (ap seat_of (old.0 set)) is.reseat.was)),
            (λ free. absurd (none-some (ap seat_of free) is.reseat.now)),
          ))
          (λ m ne. whole.arena.bits m) n l);
    }

    same_firsts : firsts env mix G' ≡ firsts env mix G
    same_firsts =
        count_below-same (λ n. is_first (G.node n)) (λ n. is_first (node n)) env.geometry.nodes
        (λ n l. owners_all (λ m o. is_first o ≡ is_first (G.node m))
        (seat-first (node entry) is.reseat.after is.reseat.now
        ∙ sym (seat-first (G.node entry) is.reseat.before is.reseat.was)) (λ m ne. refl) n)

    -- ---- the whole

    reseated_whole : Whole env mix M' G'
    reseated_whole = record {
      tables = TablesRight-write env mix M M' G G' a v store.write (is_apart env mix G a store.no_table) same
          whole.tables;
      slots = SlotsRight-write env mix M M' G G' a v store.write store.no_table.work
          (λ s. store.no_table.slots s StateWord) same whole.slots;
      sections = SectionsRight-write env mix M M' G G' a v store.write (no_section env mix a store.no_table) whole.sections refl
          (λ s τ is. is)
          (put-all (λ i o. (c : ℕ) → o.holder ≡ Some c → IsSince (G.from c) (table_at G i)) G.bucket here b
          (λ c h. elim (cases_eq c d) [
            | inl e ↦ whole.sections.locked here c (is.holder ∙ ap Some (sym e))
            | inr ne ↦ absurd (is.released c ne h)
          ]) (λ i ne. whole.sections.locked i));
      pages = PagesRight-write env mix M M' G G' a v store.write store.no_table.pages same
          (λ i blank. put-other G.bucket here b i
          (λ e. held-bucket env mix M G whole here d is.holder
          (subst (λ k. IsNoBucket env mix G (G.page (k / 64)) k) e blank))) whole.pages;
      buckets = put-all (λ i o. i < 64 * env.geometry.pages → is_entry G i ≡ false → BucketRight env mix M' i o)
          G.bucket here b (λ l none. is.right)
          (λ i ne l none. BucketRight-frame env mix M M' i (G.bucket i)
          (store.write.others (PageWord i) l (store.other_word i ne))
          (λ n there. let first = whole.owned.member i n there in
          store.write.others (Node n ChainLink) (whole.owned.first_at n i first).among
          (store.other_link n i ne first)) (whole.buckets i l none));
      entries = EntriesRight-write env mix M M' G G' a v store.write
          (locked-no_entry env mix M G a d here whole is.holder store.other_word) same whole.entries;
      moving = reseated_moving;
      owned = reseated_owned;
      arena = reseated_arena;
      counted = store.write.others PortCount tt store.no_count ∙ whole.counted
          ∙ ap (λ x. x + raisers env mix G) (sym same_firsts);
    }

    -- ---- what others can count on

    reseated_passes : PassesStay env mix G G'
    reseated_passes = record {
      armed = λ j c. put-all (λ k o. o.armed ≡ Some c
          → ((G.bucket k).armed ≡ Some c) ⊎ (table_at G k + 1 ≡ G.attached)) G.bucket here b
          (λ e. inl (is.armed c e).0) (λ k ne e. inl e) j;
      heads = λ port n j behind b_is. put-all (λ k o. o.out ≡ Some n
          → WasOut env mix G port n k ⊎ (seat G port ≡ Some k)) G.bucket here b
          (λ e. elim (is.out_from n e) [
            | inl was ↦ inl (record { behind = behind; bound_to = b_is; out = was })
            | inr now ↦ inr (ap (seat_in G.node) b_is ∙ ap (λ m. seat_of (G.node m)) now.is ∙ now.seat)
          ])
          (λ k ne e. inl (record { behind = behind; bound_to = b_is; out = e })) j;
      seats = λ port j s. inl (seat_was port j (G.bound port) refl s);
    }
      where
        seat_was : (port j : ℕ) (bound : List ℕ) → G.bound port ≡ bound → seat G' port ≡ Some j
            → WasSeated env mix G port j
        seat_was port j [] b_is s = absurd (none-some (ap (seat_in node) b_is) s)
        seat_was port j (m ∷ behind) b_is s =
            let now : seat_of (node m) ≡ Some j = sym (ap (seat_in node) b_is) ∙ s in
            elim (cases_eq m entry) [
              | inl e ↦
                  let same_seat : is.reseat.after ≡ j = some-same is.reseat.after j
                  (sym is.reseat.now ∙ ap (λ k. seat_of (node k)) (sym e) ∙ now) in
                  record {
                    bucket = is.reseat.before;
                    seat_is = ap (seat_in G.node) b_is ∙ ap (λ k. seat_of (G.node k)) e ∙ is.reseat.was;
                    earlier = subst (λ k. table_at G is.reseat.before ≤ table_at G k) same_seat is.reseat.later;
                  }
              | inr ne ↦ record {
                bucket = j;
                seat_is = ap (seat_in G.node) b_is ∙ ap seat_of (sym (is.reseat.others m ne)) ∙ now;
                earlier = omega arith;
              }
            ]

    reseated_others : Others env mix d M G M' G'
    reseated_others c ne =
        let elsewhere : (i : ℕ) → (G.bucket i).holder ≡ Some c → i ≢ here =
        λ i h e. ne (let q : ◌≡◌ {A = Option ℕ} (Some d) (Some c) = sym is.holder
        ∙ ap (λ k. (G.bucket k).holder) (sym e) ∙ h in cc) in
        record {
          tables = tables_stay env mix M G G' whole same reseated_passes;
          locks = λ i h. put-other G.bucket here b i (elsewhere i h);
          lists = λ i n h there. refl;
          chains = λ i n m h there listed.
              let first = whole.owned.member i n there in
              let at = whole.owned.first_at n i first in
              let used = bound_used env mix M G whole (key_of M n) (G.bound (key_of M n)) refl m listed in
              store.write.others (Node m ChainLink) used.0 (elim (subst (In m) at.bound_to listed) [
                | inl e ↦ store.other_link m i (elsewhere i h) (ap G.node e ∙ first)
                | inr k ↦ store.no_seatless m
                    (ap seat_of ((whole.owned.bound_to (key_of M n) n at.behind at.bound_to).each m k))
              ]);
          keys = λ n l used. key_stays n l;
          owners = λ n l used. store.write.others (Node n OwnerWord) l (store.no_owner n);
          nodes = λ n has. is.reseat.others n (unseated n (ap seat_of has.mine)) ∙ has.mine;
          words = λ n has w. store.write.others (Node n w) has.among (store.other_node c n w ne has.mine);
          raised = refl;
          taken = owners_all (λ n o. is_taken_by c o ≡ is_taken_by c (G.node n))
              (seat-not_out (node entry) is.reseat.after c is.reseat.now
              ∙ sym (seat-not_out (G.node entry) is.reseat.before c is.reseat.was)) (λ n apart. refl);
          unbound = λ port τ j for. for.unbound;
          holdings = holdings_stay env mix c M M' G G' same (slots_stay env mix M M' a v store.write store.no_table);
          work = λ works. absurd (let q : ◌≡◌ {A = Option ℕ} (Some d) (Some c) = sym is.works ∙ works in ne (cc));
          no_work = λ works. works;
          no_node = λ n held. sym (is.reseat.others n (unseated_now n (ap seat_of held))) ∙ held;
          no_lock = put-all (λ i o. o.holder ≡ Some c → (G.bucket i).holder ≡ Some c) G.bucket here b
              (λ h. absurd (is.released c ne h)) (λ i apart h. h);
        }

    pub reseat : Made env mix d M G M' G'
    reseat = record {
      whole = reseated_whole;
      others = reseated_others;
      stale = stale_write env mix M M' G G' a v store.write
          (record {
            out = λ n e out. is.reseat.others n (unseated n (ap seat_of out)) ∙ out;
            used = owners_all (λ k o. IsUsed (G.node k) → IsUsed o)
                (λ u. seat-used (node entry) is.reseat.after is.reseat.now)
                (λ k ne u. u);
          })
          (λ n used none. store.no_seatless n (elim (cases_eq n entry) [
            | inl e ↦ absurd (none-some none (ap (λ k. seat_of (node k)) e ∙ is.reseat.now))
            | inr other ↦ ap seat_of (sym (is.reseat.others n other)) ∙ none
          ]))
          (λ n u f. store.no_list n);
    }
