-- The store by which the bucket that an entry has left is cut off before it: the link of the node before it gets the bucket's marker, or
-- the word of an empty bucket says so, which stays locked.
use Rattle.std.proofs.Common.{◌≡◌, ◌≢◌, ◌⊎◌, ℕ, ◌*◌, ◌<◌, [], Option, Some, None, refl, sym, ◌∙◌, ap, subst, inl, arith, append-nil}
use Rattle.rht_words.specs.declared.env.Env.{Env}
use Rattle.rht_words.specs.Links.{link_of, head_of, marker_of}
use Rattle.rht_words.specs.Chains.{IsSegment}
use Rattle.rht_words.specs.Places.{Address, Node, ChainLink, PageWord}
use Rattle.rht_words.specs.Members.{In}
use Rattle.rht_words.proofs.Memory.{Memory, IsWrite}
use Rattle.rht_ghost.proofs.Theory.Ghosts.{none-some, put-all, Bucket, NodeHeld, First, Ghost, lock_bit, seat_of, table_at, some-same}
use Rattle.rht_ghost.proofs.Theory.Wholes.{chain_of, key_of, place_at, stop, BucketRight, OutRight, Whole, current-there}
use Rattle.rht_ghost.proofs.Theory.Passed.{home-within, held-no_entry}
use Rattle.rht_ghost.proofs.Theory.Knowns.{last_of}
use Rattle.rht_ghost.proofs.Theory.Frames.{Made}
use Rattle.rht_ghost.proofs.Theory.Departures.{first_one, first_not_leaving, cut_by, cut_off, CanCut}
use Rattle.rht_ghost.proofs.Moves.Relinking.{segment_relinked, last_in, last_none, relink_address}
use Rattle.rht_ghost.proofs.Moves.Reseating.{IsEntryStore, IsOnItsWay, IsReseated, reseat}

module _ (env : Env) (mix : ℕ → ℕ → ℕ → ℕ) where
  -- what is stored: a marker in the link of the node before it, or the word of an empty bucket that is locked
  abbrev pub cut_value : ℕ → Option ℕ → ℕ
  cut_value place None = 1
  cut_value place (Some before) = marker_of place

  module _ (d j entry : ℕ) (before : Option ℕ) (M M' : Memory) (G : Ghost) (whole : Whole env mix M G)
      (can : CanCut env mix d j entry before G)
      (write : IsWrite env.geometry M M' (relink_address j before) (cut_value (place_at env mix j) before))
    where
      abbrev rest : Ghost
      rest = cut_off G j before

      abbrev rest_bucket : Bucket
      rest_bucket = cut_by (G.bucket j) before

      abbrev a : Address
      a = relink_address j before

      abbrev v : ℕ
      v = cut_value (place_at env mix j) before

      was_out : OutRight env mix M G j entry
      was_out = whole.moving.out j entry can.out

      its_holder : (G.bucket j).holder ≡ Some d
      its_holder = was_out.holder ∙ sym was_out.works ∙ can.works

      cut_within : j < 64 * env.geometry.pages
      cut_within = home-within env mix M G whole (key_of M entry) G.current j (current-there env mix whole.tables) was_out.here

      -- the node before it is in the bucket still
      before_first : (p : ℕ) → Some p ≡ last_of (G.bucket j).nodes → G.node p ≡ First j
      before_first p last = whole.owned.member j p (last_in (G.bucket j).nodes p (sym last))

      cut_store : IsEntryStore env mix d j entry rest_bucket G.node M M' G a v
      cut_store = go before can.last write
        where
          go : (b : Option ℕ) → b ≡ last_of (G.bucket j).nodes
              → IsWrite env.geometry M M' (relink_address j b) (cut_value (place_at env mix j) b)
              → IsEntryStore env mix d j entry rest_bucket G.node M M' G (relink_address j b)
              (cut_value (place_at env mix j) b)
          go None last write = record {
            write = write;
            no_table = record { current = λ e. cc; work = λ e. cc; sections = λ k e. cc; slots = λ s w e. cc; pages = λ i e. cc };
            no_map = λ k e. cc;
            no_count = λ e. cc;
            no_key = λ n e. cc;
            no_owner = λ n e. cc;
            no_list = λ n e. cc;
            other_word = λ k ne e. ne (cc);
            other_link = λ n k ne f e. cc;
            no_leaving = λ n k ne leaving e. cc;
            no_seatless = λ n none e. cc;
            other_node = λ c n w ne f e. cc;
          }
          go (Some p) last write =
              let first = before_first p last in
              record {
                write = write;
                no_table = record {
                  current = λ e. cc;
                  work = λ e. cc;
                  sections = λ k e. cc;
                  slots = λ s w e. cc;
                  pages = λ i e. cc;
                };
                no_map = λ k e. cc;
                no_count = λ e. cc;
                no_key = λ n e. cc;
                no_owner = λ n e. cc;
                no_list = λ n e. cc;
                other_word = λ k ne e. cc;
                other_link = λ n k ne f e. let same : n ≡ p = cc in
                    ne (first_one (G.node p) j k first (ap G.node (sym same) ∙ f));
                no_leaving = λ n k ne leaving e. let same : n ≡ p = cc in
                    first_not_leaving (G.node p) j k first (ap G.node (sym same) ∙ leaving);
                no_seatless = λ n none e.
                    let same : n ≡ p = cc in
                    none-some none (ap (λ k. seat_of (G.node k)) same ∙ ap seat_of first);
                other_node = λ c n w ne f e.
                    let same : n ≡ p = cc in
                    let q : First j ≡ NodeHeld c = sym first ∙ ap G.node (sym same) ∙ f in cc;
              }

      cut_right : BucketRight env mix M' j rest_bucket
      cut_right = go before can.last write
        where
          old_right : BucketRight env mix M j (G.bucket j)
          old_right = whole.buckets j cut_within (held-no_entry env mix M G whole j d its_holder)

          go : (b : Option ℕ) → b ≡ last_of (G.bucket j).nodes
              → IsWrite env.geometry M M' (relink_address j b) (cut_value (place_at env mix j) b)
              → BucketRight env mix M' j (cut_by (G.bucket j) b)
          go None last write =
              let none = last_none (G.bucket j).nodes (sym last) in
              let locked : lock_bit (G.bucket j).holder ≡ 1 = ap lock_bit its_holder in
              record {
                locked = record { word_is = write.same ∙ omega (arith, locked); even = refl };
                chained = record { segment = rw none refl; distinct = old_right.chained.distinct };
              }
          go (Some p) last write =
              let nodes = (G.bucket j).nodes in
              let head = head_of (place_at env mix j) (G.bucket j).plain in
              let marker = marker_of (place_at env mix j) in
              let segment : IsSegment (chain_of M) head nodes (link_of entry) =
              subst (λ out. IsSegment (chain_of M) head nodes (stop env mix (place_at env mix j) out)) can.out
              old_right.chained.segment in
              let links : (n : ℕ) → In n nodes → n ≢ p → chain_of M' n ≡ chain_of M n =
              λ n k ne. write.others (Node n ChainLink) (whole.owned.first_at n j (whole.owned.member j n k)).among
              (λ e. ne (cc)) in
              record {
                locked = record {
                  word_is = write.others (PageWord j) cut_within (λ e. cc) ∙ old_right.locked.word_is;
                  even = old_right.locked.even;
                };
                chained = record {
                  segment = subst (λ xs. IsSegment (chain_of M') head xs marker) (append-nil nodes)
                      (segment_relinked (chain_of M) (chain_of M') nodes [] p head (link_of entry) marker marker
                      (sym last) write.same refl links old_right.chained.distinct segment);
                  distinct = old_right.chained.distinct;
                };
              }

      further_first : G.node entry ≡ First can.further.bucket
      further_first = can.further.first

      cut_reseated : IsReseated env mix d j entry rest_bucket G.node M M' G a v
      cut_reseated = record {
        works = can.works;
        holder = its_holder;
        released = λ c ne h. let q : ◌≡◌ {A = Option ℕ} (Some d) (Some c) = sym its_holder ∙ h in ne (cc);
        armed = λ c e. (e, refl);
        reseat = record {
          before = can.further.bucket;
          after = can.further.bucket;
          was = ap seat_of further_first;
          now = ap seat_of further_first;
          later = omega arith;
          others = λ n ne. refl;
        };
        right = cut_right;
        outs = λ k x. put-all (λ m b. b.out ≡ Some x → IsOnItsWay env mix d j entry rest_bucket G.node M M' G a v m x
            ⊎ OutRight env mix M' rest m x) G.bucket j rest_bucket
            (λ e. absurd (cc))
            (λ m ne e. inl (record {
              elsewhere = ne;
              other = λ same.
                  let other = whole.moving.out m entry (e ∙ ap Some same) in
                  ne (some-same m j (sym other.here ∙ was_out.here));
              out = e;
            })) k;
        out_from = λ x e. absurd (cc);
        leaving_elsewhere = λ n k ne leaving e.
            ne (some-same n entry (sym (whole.owned.leaving_at n k leaving).out ∙ ap (λ m. (G.bucket m).out) e
            ∙ can.out));
        next_elsewhere = λ n k ne leaving next e.
            let same = ap (table_at G) e in omega (arith, same, next.later, was_out.table);
        leaving_here = λ k leaving. absurd (first_not_leaving (G.node entry) can.further.bucket k further_first leaving);
        members = λ n k. whole.owned.member j n k;
        stays_first = λ n k ne f. f;
        kept = λ n ne k. k;
        there = λ k f. put-all (λ m b. In entry (G.bucket m).nodes → In entry b.nodes) G.bucket j rest_bucket
            (λ was. was) (λ m ne was. was) k (whole.owned.first_at entry k f).there;
        at_home = λ k f. (whole.owned.first_at entry k f).at_home;
      }

      pub cut : Made env mix d M G M' rest
      cut = reseat env mix d j entry rest_bucket G.node M M' G a v whole cut_store cut_reseated
