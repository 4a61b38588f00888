-- The stores by which the work brings the last entry of a bucket of the current table into one of a table behind it: the entry's link
-- leads to the first node there, and then the other bucket's word leads to the entry.
use Rattle.std.proofs.Common.{◌≡◌, ◌≢◌, ◌⊎◌, ℕ, ◌*◌, ◌<◌, List, [], ◌∷◌, ◌++◌, Option, Some, refl, sym, ◌∙◌, ap, subst, inl, inr, arith}
use Rattle.rht_words.specs.declared.env.Env.{Env}
use Rattle.rht_words.specs.Links.{link_of, head_of, marker_of}
use Rattle.rht_words.specs.Chains.{IsSegment}
use Rattle.rht_words.specs.Places.{Node, ChainLink, KeyWord, PageWord}
use Rattle.rht_words.specs.Members.{In, IsDistinct}
use Rattle.rht_words.proofs.Memory.{Memory, IsWrite}
use Rattle.rht_words.proofs.LinksRead.{heads_come_back, plain_of-link}
use Rattle.rht_words.proofs.ChainLemmas.{IsSegment-cut, IsSegment-members}
use Rattle.rht_words.proofs.Members.{not_in_from, in_and_not, in-middle, In-append_left, In-append_cases, IsDistinct-cut, IsDistinct-left}
use Rattle.rht_ghost.proofs.Theory.Ghosts.{put-same, put-other, put-all, Bucket, NodeHeld, First, Leaving, Ghost, seat_of, table_at, none-some, some-same}
use Rattle.rht_ghost.proofs.Theory.Wholes.{chain_of, key_of, place_at, home, stop, BucketRight, OutRight, IsHomeOf, IsFirstAt, IsLeavingAt, Whole, force-there}
use Rattle.rht_ghost.proofs.Theory.Passed.{home-within, held-no_entry, member-no_entry}
use Rattle.rht_ghost.proofs.Theory.Frames.{Made}
use Rattle.rht_ghost.proofs.Theory.Readiness.{linked_bucket}
use Rattle.rht_ghost.proofs.Theory.Departures.{first_one, leaving_one, first_not_leaving, left_by, left, arrived, CanLeave, CanArrive}
use Rattle.rht_ghost.proofs.Moves.Reseating.{IsEntryStore, IsReseat, IsOnItsWay, IsReseated, reseat}

module _ (env : Env) (mix : ℕ → ℕ → ℕ → ℕ) where
  -- ---- out of its bucket

  module _ (d j i entry : ℕ) (nodes : List ℕ) (M M' : Memory) (G : Ghost) (whole : Whole env mix M G)
      (can : CanLeave env mix d j i entry nodes M G)
      (write : IsWrite env.geometry M M' (Node entry ChainLink) (head_of (place_at env mix i) (G.bucket i).plain))
    where
      abbrev gone : Ghost
      gone = left G j nodes entry

      there : In entry (G.bucket j).nodes
      there = subst (In entry) (sym can.split) (in-middle entry nodes [])

      first : G.node entry ≡ First j
      first = whole.owned.member j entry there

      at : IsFirstAt env mix M G entry j
      at = whole.owned.first_at entry j first

      within : j < 64 * env.geometry.pages
      within = home-within env mix M G whole (key_of M entry) (table_at G j) j
          (force-there env mix whole.tables (table_at G j) at.at_home.current at.at_home.attached) at.at_home.here

      old : BucketRight env mix M j (G.bucket j)
      old = whole.buckets j within (member-no_entry env mix M G whole j entry there)

      distinct : IsDistinct (nodes ++ entry ∷ [])
      distinct = subst IsDistinct can.split old.chained.distinct

      apart : (n : ℕ) → In n nodes → n ≢ entry
      apart n k e = in_and_not entry nodes (subst (λ m. In m nodes) e k) (IsDistinct-cut nodes entry [] distinct).0

      key_stays : key_of M' entry ≡ key_of M entry
      key_stays = write.others (Node entry KeyWord) at.among (λ e. cc)

      -- the entry's own bucket is another one than that to which it goes
      bucket_apart : i ≢ j
      bucket_apart e = let same = ap (table_at G) e in omega (arith, same, can.next.later, can.table)

      leave_store : IsEntryStore env mix d j entry (left_by (G.bucket j) nodes entry) gone.node M M' G
          (Node entry ChainLink) (head_of (place_at env mix i) (G.bucket i).plain)
      leave_store = record {
        write = write;
        no_table = record { current = λ e. cc; work = λ e. cc; sections = λ k e. cc; slots = λ s w e. cc; pages = λ i e. cc };
        no_map = λ k e. cc;
        no_count = λ e. cc;
        no_key = λ n e. cc;
        no_owner = λ n e. cc;
        no_list = λ n e. cc;
        other_word = λ k ne e. cc;
        other_link = λ n k ne f e. let same : n ≡ entry = cc in
            ne (first_one (G.node entry) j k first (ap G.node (sym same) ∙ f));
        no_leaving = λ n k ne leaving e. ne (cc);
        no_seatless = λ n none e.
            let same : n ≡ entry = cc in
            none-some none (ap (λ k. seat_of (G.node k)) same ∙ ap seat_of first);
        other_node = λ c n w ne f e.
            let same : n ≡ entry = cc in
            let q : First j ≡ NodeHeld c = sym first ∙ ap G.node (sym same) ∙ f in cc;
      }

      left_right : BucketRight env mix M' j (left_by (G.bucket j) nodes entry)
      left_right =
          let head = head_of (place_at env mix j) (G.bucket j).plain in
          let marker = marker_of (place_at env mix j) in
          let cut = IsSegment-cut (chain_of M) nodes entry [] head marker
          (subst (λ xs. IsSegment (chain_of M) head xs marker) can.split
          (subst (λ out. IsSegment (chain_of M) head (G.bucket j).nodes (stop env mix (place_at env mix j) out))
          can.still old.chained.segment)) in
          record {
            locked = record {
              word_is = write.others (PageWord j) within (λ e. cc) ∙ old.locked.word_is;
              even = old.locked.even;
            };
            chained = record {
              segment = IsSegment-members (chain_of M) (chain_of M') head nodes (link_of entry)
                  (λ n k. write.others (Node n ChainLink)
                  (whole.owned.first_at n j (member_of n k)).among (λ e. apart n k (cc))) cut.0;
              distinct = IsDistinct-left nodes (entry ∷ []) distinct;
            };
          }
        where
          member_of : (n : ℕ) → In n nodes → G.node n ≡ First j
          member_of n k = whole.owned.member j n (subst (In n) (sym can.split) (In-append_left n nodes (entry ∷ []) k))

      gone_node : gone.node entry ≡ Leaving j
      gone_node = put-same G.node entry (Leaving j)

      gone_bucket : gone.bucket j ≡ left_by (G.bucket j) nodes entry
      gone_bucket = put-same G.bucket j (left_by (G.bucket j) nodes entry)

      out_now : OutRight env mix M' gone j entry
      out_now = record {
        worker = d;
        holder = ap (λ b. b.holder) gone_bucket ∙ can.holder;
        works = can.works;
        table = can.table;
        among = at.among;
        here = rw key_stays (ap (home env mix G (key_of M entry)) (sym can.table) ∙ at.at_home.here);
        owner = inl gone_node;
      }

      -- no other bucket has it on its way out
      no_other_out : (k : ℕ) → (G.bucket k).out ≢ Some entry
      no_other_out k is =
          let out = whole.moving.out k entry is in
          elim out.owner [
            | inl leaving ↦ first_not_leaving (G.node entry) j k first leaving
            | inr further ↦
                let same : table_at G further.bucket ≡ table_at G j = ap (table_at G)
                (first_one (G.node entry) j further.bucket first further.first) in
                omega (arith, same, further.later, can.table)
          ]

      leaving_now : (k : ℕ) → gone.node entry ≡ Leaving k → IsLeavingAt env mix M' gone entry k
      leaving_now k is =
          let same : k ≡ j = leaving_one (gone.node entry) j k gone_node is in
          let bucket : gone.bucket i ≡ G.bucket i = put-other G.bucket j (left_by (G.bucket j) nodes entry) i bucket_apart in
          subst (IsLeavingAt env mix M' gone entry) (sym same) (record {
            out = ap (λ b. b.out) gone_bucket;
            behind = at.behind;
            bound_to = ap G.bound key_stays ∙ at.bound_to;
            next = record {
              bucket = i;
              later = can.next.later;
              attached = can.next.attached;
              worker = d;
              holder = ap (λ b. b.holder) bucket ∙ can.next.holder;
              works = can.works;
              here = rw key_stays can.next.here;
              chain = write.same ∙ ap (λ b. head_of (place_at env mix i) b.plain) (sym bucket);
            };
          })

      left_reseat : IsReseat env mix d j entry (left_by (G.bucket j) nodes entry) gone.node M M' G
          (Node entry ChainLink) (head_of (place_at env mix i) (G.bucket i).plain)
      left_reseat = record {
        before = j;
        after = j;
        was = ap seat_of first;
        now = ap seat_of gone_node;
        later = omega arith;
        others = λ n ne. put-other G.node entry (Leaving j) n ne;
      }

      left_reseated : IsReseated env mix d j entry (left_by (G.bucket j) nodes entry) gone.node M M' G
          (Node entry ChainLink) (head_of (place_at env mix i) (G.bucket i).plain)
      left_reseated = record {
        works = can.works;
        holder = can.holder;
        released = λ c ne h. let q : ◌≡◌ {A = Option ℕ} (Some d) (Some c) = sym can.holder ∙ h in ne (cc);
        armed = λ c e. (e, refl);
        reseat = left_reseat;
        right = left_right;
        outs = λ k x. put-all (λ m b. b.out ≡ Some x → IsOnItsWay env mix d j entry
            (left_by (G.bucket j) nodes entry) gone.node M M' G
            (Node entry ChainLink) (head_of (place_at env mix i) (G.bucket i).plain) m x
            ⊎ OutRight env mix M' gone m x) G.bucket j (left_by (G.bucket j) nodes entry)
            (λ e. inr (subst (OutRight env mix M' gone j) (some-same entry x e) out_now))
            (λ m ne e. inl (record {
              elsewhere = ne;
              other = λ same. no_other_out m (e ∙ ap Some same);
              out = e;
            })) k;
        out_from = λ x e. inr (record { is = sym (some-same entry x e); seat = ap seat_of first });
        leaving_elsewhere = λ n k ne leaving e.
            none-some can.still (ap (λ m. (G.bucket m).out) (sym e) ∙ (whole.owned.leaving_at n k leaving).out);
        next_elsewhere = λ n k ne leaving next e.
            let same = ap (table_at G) e in omega (arith, same, next.later, can.table);
        leaving_here = leaving_now;
        members = λ n k.
            put-other G.node entry (Leaving j) n (apart n k)
            ∙ whole.owned.member j n (subst (In n) (sym can.split) (In-append_left n nodes (entry ∷ []) k));
        stays_first = λ n k ne f. put-other G.node entry (Leaving j) n
            (λ e. ne (first_one (G.node entry) j k first (ap G.node (sym e) ∙ f))) ∙ f;
        kept = λ n ne k. elim (In-append_cases n nodes (entry ∷ []) (subst (In n) can.split k)) [
          | inl l ↦ l
          | inr r ↦ elim r [ inl e ↦ absurd (ne e) | inr none ↦ absurd none ]
        ];
        there = λ k f. absurd (first_not_leaving (gone.node entry) k j f gone_node);
        at_home = λ k f. absurd (first_not_leaving (gone.node entry) k j f gone_node);
      }

      pub leave : Made env mix d M G M' gone
      leave = reseat env mix d j entry (left_by (G.bucket j) nodes entry) gone.node M M' G (Node entry ChainLink)
          (head_of (place_at env mix i) (G.bucket i).plain) whole leave_store left_reseated

  -- ---- into the next one

  module _ (d j i entry : ℕ) (M M' : Memory) (G : Ghost) (whole : Whole env mix M G)
      (can : CanArrive env mix d j i entry M G)
      (write : IsWrite env.geometry M M' (PageWord i) (link_of entry)) where
    abbrev joined : Ghost
    joined = arrived G i entry

    abbrev joined_bucket : Bucket
    joined_bucket = linked_bucket (G.bucket i) entry

    leaves : IsLeavingAt env mix M G entry j
    leaves = whole.owned.leaving_at entry j can.leaving

    out : OutRight env mix M G j entry
    out = whole.moving.out j entry leaves.out

    next_apart : i ≢ j
    next_apart e = let same = ap (table_at G) e in omega (arith, same, can.next.later, out.table)

    next_within : i < 64 * env.geometry.pages
    next_within = home-within env mix M G whole (key_of M entry) (table_at G i) i
        (force-there env mix whole.tables (table_at G i) (let later = can.next.later in omega (arith, later)) can.next.attached) can.next.here

    -- nothing else is on its way
    out_only : (k x : ℕ) → (G.bucket k).out ≡ Some x → (k ≡ j) × (x ≡ entry)
    out_only k x is =
        let other = whole.moving.out k x is in
        let same : ◌≡◌ {A = Option ℕ} (Some other.worker) (Some d) = sym other.works ∙ can.works in
        elim (can.only k (other.holder ∙ same)) [
          | inl e ↦ (e, some-same x entry (sym is ∙ ap (λ m. (G.bucket m).out) e ∙ leaves.out))
          | inr e ↦ absurd (let table = ap (table_at G) e in omega (arith, table, other.table, can.next.later))
        ]

    not_there : (n : ℕ) → In n (G.bucket i).nodes → n ≢ entry
    not_there n k e = first_not_leaving (G.node entry) i j (ap G.node (sym e) ∙ whole.owned.member i n k) can.leaving

    joined_node : joined.node entry ≡ First i
    joined_node = put-same G.node entry (First i)

    arrive_store : IsEntryStore env mix d i entry joined_bucket joined.node M M' G (PageWord i) (link_of entry)
    arrive_store = record {
      write = write;
      no_table = record { current = λ e. cc; work = λ e. cc; sections = λ k e. cc; slots = λ s w e. cc; pages = λ i e. cc };
      no_map = λ k e. cc;
      no_count = λ e. cc;
      no_key = λ n e. cc;
      no_owner = λ n e. cc;
      no_list = λ n e. cc;
      other_word = λ k ne e. ne (cc);
      other_link = λ n k ne f e. cc;
      no_leaving = λ n k ne leaving e. cc;
      no_seatless = λ n none e. cc;
      other_node = λ c n w ne f e. cc;
    }

    joined_right : BucketRight env mix M' i joined_bucket
    joined_right =
        let was = whole.buckets i next_within (held-no_entry env mix M G whole i d can.next.holder) in
        let place = place_at env mix i in
        let ends = stop env mix place (G.bucket i).out in
        let link : chain_of M' entry ≡ head_of place (G.bucket i).plain =
        write.others (Node entry ChainLink) out.among (λ e. cc) ∙ can.chain in
        let rest : IsSegment (chain_of M') (head_of place (G.bucket i).plain) (G.bucket i).nodes ends =
        IsSegment-members (chain_of M) (chain_of M') (head_of place (G.bucket i).plain) (G.bucket i).nodes ends
        (λ n k. write.others (Node n ChainLink) (whole.owned.first_at n i (whole.owned.member i n k)).among
        (λ e. cc)) was.chained.segment in
        record {
          locked = record { word_is = write.same ∙ omega arith; even = omega arith };
          chained = record {
            segment = (
              subst (λ w. head_of place w ≡ link_of entry) (plain_of-link place entry)
                  (heads_come_back.head_link place entry),
              subst (λ l. IsSegment (chain_of M') l (G.bucket i).nodes ends) (sym link) rest,
            );
            distinct = (
              not_in_from entry (G.bucket i).nodes (λ k. not_there entry k refl),
              was.chained.distinct,
            );
          };
        }

    out_after : OutRight env mix M' joined j entry
    out_after =
        let bucket : joined.bucket j ≡ G.bucket j = put-other G.bucket i joined_bucket j (λ e. next_apart (sym e)) in
        record {
          worker = out.worker;
          holder = ap (λ b. b.holder) bucket ∙ out.holder;
          works = out.works;
          table = out.table;
          among = out.among;
          here = rw (write.others (Node entry KeyWord) out.among (λ e. cc)) out.here;
          owner = inr (record { bucket = i; first = joined_node; later = can.next.later });
        }

    joined_reseated : IsReseated env mix d i entry joined_bucket joined.node M M' G (PageWord i) (link_of entry)
    joined_reseated = record {
      works = can.works;
      holder = can.next.holder;
      released = λ c ne h. cc;
      armed = λ c e. absurd (cc);
      reseat = record {
        before = j;
        after = i;
        was = ap seat_of can.leaving;
        now = ap seat_of joined_node;
        later = omega (arith, out.table, can.next.later);
        others = λ n ne. put-other G.node entry (First i) n ne;
      };
      right = joined_right;
      outs = λ k x. put-all (λ m b. b.out ≡ Some x → IsOnItsWay env mix d i entry joined_bucket joined.node M M' G
          (PageWord i) (link_of entry) m x ⊎ OutRight env mix M' joined m x) G.bucket i joined_bucket
          (λ e. absurd (next_apart (out_only i x e).0))
          (λ m ne e.
          let one = out_only m x e in
          inr (subst (λ k. OutRight env mix M' joined k x) (sym one.0)
          (subst (OutRight env mix M' joined j) (sym one.1) out_after))) k;
      out_from = λ x e. inl e;
      leaving_elsewhere = λ n k ne leaving e. ne (out_only k n (whole.owned.leaving_at n k leaving).out).1;
      next_elsewhere = λ n k ne leaving next e. ne (out_only k n (whole.owned.leaving_at n k leaving).out).1;
      leaving_here = λ k leaving. absurd (first_not_leaving (joined.node entry) i k joined_node leaving);
      members = λ n k. elim k [
        | inl e ↦ ap joined.node e ∙ joined_node
        | inr was ↦ put-other G.node entry (First i) n (not_there n was) ∙ whole.owned.member i n was
      ];
      stays_first = λ n k ne f. put-other G.node entry (First i) n
          (λ e. first_not_leaving (G.node entry) k j (ap G.node (sym e) ∙ f) can.leaving) ∙ f;
      kept = λ n ne k. inr k;
      there = λ k f.
          let same : k ≡ i = first_one (joined.node entry) i k joined_node f in
          subst (λ m. In entry (joined.bucket m).nodes) (sym same) (rw (put-same G.bucket i joined_bucket) (inl refl));
      at_home = λ k f.
          let same : k ≡ i = first_one (joined.node entry) i k joined_node f in
          subst (IsHomeOf env mix G (key_of M entry)) (sym same) (record {
            here = can.next.here;
            current = omega (arith, can.next.later);
            attached = can.next.attached;
          });
    }

    pub arrive : Made env mix d M G M' joined
    arrive = reseat env mix d i entry joined_bucket joined.node M M' G (PageWord i) (link_of entry) whole
        arrive_store joined_reseated
