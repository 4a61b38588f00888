-- The moves of the caller that does the work, by what it knows before each of them, and what it knows after it.
use Rattle.std.proofs.Common.{◌≡◌, ◌≢◌, ◌⊎◌, ℕ, ◌+◌, ◌/◌, ◌%◌, ◌<◌, List, [], ◌∷◌, ◌++◌, Option, Some, None, refl, sym, ◌∙◌, ap, subst, inl, inr, arith}
use Rattle.std.proofs.lemmas.Bool.{cases_eq}
use Rattle.rht_words.specs.declared.env.Env.{Env}
use Rattle.rht_words.specs.Links.{link_of, head_of}
use Rattle.rht_words.specs.Shapes.{unpacked, size_of}
use Rattle.rht_words.specs.Places.{CurrentTable, WorkLock, Slot, StateWord, Node, ChainLink, KeyWord, PageWord}
use Rattle.rht_words.specs.Members.{In}
use Rattle.rht_words.proofs.Memory.{Memory, IsWrite}
use Rattle.rht_words.proofs.Members.{in-middle}
use Rattle.rht_ghost.proofs.Theory.Ghosts.{put, put-same, put-other, put-all, Bucket, Owner, First, Leaving, Live, Retiring, IsSince, Ghost, has_table, unretired, unretired-has, slot_holder, index_at, table_of_slot, table_at, held_by, with_holder, none-some, some-same}
use Rattle.rht_ghost.proofs.Theory.Wholes.{AreRetired, current-there, key_of, place_at, word_index, place_at-index, index-place_at, index-within, home, IsNoBucket, MovesNone, Whole, force-there}
use Rattle.rht_ghost.proofs.Theory.Passed.{place-table, home-table, home-bucket, place-bucket}
use Rattle.rht_ghost.proofs.Theory.Knowns.{last_of, KnownAim, NoAim, KnownRehash, KnownPlace, KnownEntry, KnownWork, NoWork, Works, Empties, LeavesBehind, HasKept, InBucket, Brings, TakesOut, HasBrought}
use Rattle.rht_ghost.proofs.Theory.Knowledge.{DoesWork, since-later, IsEmptied, IsEmptying, IsLeftBehind, IsFacing, IsNext, IsInBucket, IsBare, IsEntry, IsAim, IsAiming, IsTarget, IsBringing, IsTakenOut, IsBrought, WorkMeans}
use Rattle.rht_ghost.proofs.Theory.Frames.{Made}
use Rattle.rht_ghost.proofs.Theory.Departures.{with_worker, published, retiring, left_by, left, arrived, cut_plain, cut_by, cut_off, IsNextPlace, CanLeave, CanArrive, CanCut, CanPublish, CanRetire}
use Rattle.rht_ghost.proofs.Theory.Readiness.{linked_bucket}
use Rattle.rht_ghost.proofs.Moves.Quiet.{take_lock, drop_lock, free-still}
use Rattle.rht_ghost.proofs.Moves.Relinking.{relink_address}
use Rattle.rht_ghost.proofs.Moves.WorkLocks.{take_work, give_work}
use Rattle.rht_ghost.proofs.Moves.Publishing.{publish, retire}
use Rattle.rht_ghost.proofs.Moves.Departures.{leave, arrive}
use Rattle.rht_ghost.proofs.Moves.CutOffs.{cut_value, cut}

module _ (env : Env) (mix : ℕ → ℕ → ℕ → ℕ) (c : ℕ) where
  -- what such a move makes, and what the caller knows of the work then
  pub record Worked (M : Memory) (G : Ghost) (M' : Memory) (G' : Ghost) (known : KnownWork) : Type 0 where
    pub made : Made env mix c M G M' G'
    pub means : WorkMeans env mix c M' G' known

  -- the index of the place of a bucket that is locked is that of its word
  abbrev pub index : ℕ → ℕ
  index place = word_index env mix place

  -- the caller has locked these buckets and no others
  abbrev pub LocksOnly : Ghost → Option ℕ → Option ℕ → Type 0
  LocksOnly G lock second = (j : ℕ) → (G.bucket j).holder ≡ Some c
      → (lock ≡ Some (place_at env mix j)) ⊎ (second ≡ Some (place_at env mix j))

  index_is : (place j : ℕ) → ◌≡◌ {A = Option ℕ} (Some place) (Some (place_at env mix j)) → j ≡ index place
  index_is place j e =
      sym (index-place_at env mix j) ∙ ap (word_index env mix) (sym (some-same place (place_at env mix j) e))

  module _ (M : Memory) (G : Ghost) (whole : Whole env mix M G) where
    -- ---- what it knew

    next_table : (root : KnownRehash) (at : KnownPlace) → IsNext env mix c G root at → table_at G (index at.place) ≡ G.current
    next_table root at is =
        place-table env mix M G whole G.current at.number (index at.place) (current-there env mix whole.tables) is.below is.here

    aim_table : (entry place : ℕ) → (aim : IsAim env mix M G entry place) → table_at G (index place) ≡ aim.table
    aim_table entry place aim =
        home-table env mix M G whole (key_of M entry) aim.table (index place)
        (force-there env mix whole.tables aim.table (let later = aim.later in omega (arith, later)) aim.attached) aim.here

    next_place : (entry place word : ℕ) → IsTarget env mix c M G entry place word
        → IsNextPlace env mix c entry (index place) M G
    next_place entry place word is =
        let table = aim_table entry place is.aim in
        record {
          holder = is.lock.holder;
          later = omega (arith, table, is.aim.later);
          attached = omega (arith, table, is.aim.attached);
          here = ap (home env mix G (key_of M entry)) table ∙ is.aim.here;
        }

    pub can_leave : DoesWork c G None → (root : KnownRehash) (at : KnownPlace) (entry : KnownEntry) (place word : ℕ)
        → (is : IsBringing env mix c M G root at entry place word)
        → CanLeave env mix c (index at.place) (index place) entry.node is.tail.stands.among.front M G
    can_leave works root at entry place word is =
        let stands = is.tail.stands in
        record {
          works = works.0;
          holder = stands.bucket.next.lock.holder;
          table = next_table root at stands.bucket.next;
          still = stands.bucket.out;
          split = subst (λ rear. (G.bucket (index at.place)).nodes ≡ stands.among.front ++ entry.node ∷ rear)
              is.tail.last stands.among.split;
          next = next_place entry.node place word is.target;
        }

    pub can_arrive : DoesWork c G None → (root : KnownRehash) (at : KnownPlace) (entry : KnownEntry) (place word : ℕ)
        → IsTakenOut env mix c M G root at entry place word → LocksOnly G (Some at.place) (Some place)
        → CanArrive env mix c (index at.place) (index place) entry.node M G
    can_arrive works root at entry place word is only =
        let there = place_at-index env mix place is.target.lock.bucket in
        record {
          works = works.0;
          leaving = is.leaving;
          next = next_place entry.node place word is.target;
          chain = is.chain ∙ ap (λ p. head_of p word) (sym there)
              ∙ ap (head_of (place_at env mix (index place))) (sym is.target.lock.plain);
          only = λ k holds. elim (only k holds) [
            | inl e ↦ inl (index_is at.place k e)
            | inr e ↦ inr (index_is place k e)
          ];
        }

    pub can_cut : DoesWork c G None → (root : KnownRehash) (at : KnownPlace) (entry : KnownEntry)
        → IsBrought env mix c G root at entry → CanCut env mix c (index at.place) entry.node entry.before G
    can_cut works root at entry is =
        record { works = works.0; out = is.out.out; further = is.further; last = is.out.last }

    pub can_publish : DoesWork c G None → (root : KnownRehash) (count : ℕ) → IsEmptying env mix G root count
        → count ≡ size_of (unpacked root.shape) → CanPublish env mix c G
    can_publish works root count is all =
        let size : count ≡ size_of (unpacked (G.table G.current).shape) =
        all ∙ ap (λ s. size_of (unpacked s)) (sym is.shape_is) in
        record { works = works.0; root = root; emptied = subst (IsEmptying env mix G root) size is }

    pub can_retire : (slot : ℕ) → DoesWork c G (Some slot) → IsLeftBehind env mix G slot → CanRetire env mix c slot G
    can_retire slot works is = record {
      works = works.0;
      table = ap has_table is.live;
      live = is.live ∙ ap Live (sym (ap table_of_slot is.live));
      left_behind = let index : index_at G slot ≡ is.table = ap table_of_slot is.live in omega (arith, index, is.before);
    }

    -- what it has emptied stays so where no emptied bucket of the current table changes
    emptying_stays : (root : KnownRehash) (count : ℕ) (bucket : ℕ → Bucket) (node : ℕ → Owner) → IsEmptying env mix G root count
        → ((k : ℕ) → table_at G k ≡ G.current → IsEmptied env mix (G.bucket k) → IsEmptied env mix (bucket k))
        → IsEmptying env mix (record G { bucket = bucket; node = node }) root count
    emptying_stays root count bucket node is stays = record {
      followed = record {
        root_is = is.followed.root_is;
        future_is = is.followed.future_is;
        more = is.followed.more;
      };
      shape_is = is.shape_is;
      within = is.within;
      each = λ b k l at. stays k (place-table env mix M G whole G.current b k (current-there env mix whole.tables)
          (omega (arith, l, is.within)) at) (is.each b k l at);
    }

    -- so does where it works
    next_stays : (root : KnownRehash) (at : KnownPlace) (word : ℕ) (bucket : ℕ → Bucket) (node : ℕ → Owner)
        → IsNext env mix c G root at
        → ((k : ℕ) → table_at G k ≡ G.current → IsEmptied env mix (G.bucket k) → IsEmptied env mix (bucket k))
        → (bucket (index at.place)).holder ≡ Some c → (bucket (index at.place)).plain ≡ word
        → IsNext env mix c (record G { bucket = bucket; node = node }) root (record at { word = word })
    next_stays root at word bucket node is stays holder plain = record {
      empties = emptying_stays root at.number bucket node is.empties stays;
      below = is.below;
      lock = record { bucket = is.lock.bucket; holder = holder; plain = plain };
      here = is.here;
    }

    -- ---- an entry goes out of its bucket

    module _ (works : DoesWork c G None) (root : KnownRehash) (at : KnownPlace) (entry : KnownEntry) (place word : ℕ)
        (M' : Memory) where
      abbrev j : ℕ
      j = index at.place

      abbrev i : ℕ
      i = index place

      pub leave_work : (is : IsBringing env mix c M G root at entry place word)
          → IsWrite env.geometry M M' (Node entry.node ChainLink) (head_of place word)
          → Worked M G M' (left G j is.tail.stands.among.front entry.node) (TakesOut root at entry place word)
      leave_work is write = record {
        made = leave env mix c j i entry.node nodes M M' G whole can
            (subst (IsWrite env.geometry M M' (Node entry.node ChainLink)) head write);
        means = record {
          works = works;
          more = record {
            out = record {
              next = next_stays root at at.word gone.bucket gone.node stands.bucket.next
                  (put-all (λ k o. table_at G k ≡ G.current → IsEmptied env mix (G.bucket k) → IsEmptied env mix o)
                  G.bucket j bucket (λ t e. absurd (subst (In entry.node) e.nodes there)) (λ k ne t e. e))
                  (ap (λ o. o.holder) here ∙ can.holder) (ap (λ o. o.plain) here ∙ stands.bucket.next.lock.plain);
              out = ap (λ o. o.out) here;
              last = stands.among.last ∙ sym (ap (λ o. last_of o.nodes) here);
            };
            leaving = put-same G.node entry.node (Leaving j);
            target = record {
              lock = record {
                bucket = is.target.lock.bucket;
                holder = ap (λ o. o.holder) other ∙ is.target.lock.holder;
                plain = ap (λ o. o.plain) other ∙ is.target.lock.plain;
              };
              aim = record {
                bucket = is.target.aim.bucket;
                table = is.target.aim.table;
                later = is.target.aim.later;
                attached = is.target.aim.attached;
                here = rw key is.target.aim.here;
              };
            };
            chain = write.same;
          };
        };
      }
        where
          nodes : List ℕ
          nodes = is.tail.stands.among.front

          stands : IsEntry env mix c G root at entry NoAim
          stands = is.tail.stands

          can : CanLeave env mix c j i entry.node nodes M G
          can = can_leave works root at entry place word is

          gone : Ghost
          gone = left G j nodes entry.node

          bucket : Bucket
          bucket = left_by (G.bucket j) nodes entry.node

          head : head_of place word ≡ head_of (place_at env mix i) (G.bucket i).plain
          head = ap (λ p. head_of p word) (sym (place_at-index env mix place is.target.lock.bucket))
              ∙ ap (head_of (place_at env mix i)) (sym is.target.lock.plain)

          there : In entry.node (G.bucket j).nodes
          there = subst (In entry.node) (sym can.split) (in-middle entry.node nodes [])

          here : put G.bucket j bucket j ≡ bucket
          here = put-same G.bucket j bucket

          other : put G.bucket j bucket i ≡ G.bucket i
          other = put-other G.bucket j bucket i
              (λ e. let same = ap (table_at G) e in omega (arith, same, can.next.later, can.table))

          key : key_of M' entry.node ≡ key_of M entry.node
          key = write.others (Node entry.node KeyWord)
              (whole.owned.first_at entry.node j (whole.owned.member j entry.node there)).among (λ e. cc)

      -- ---- and into the next one

      pub arrive_work : IsTakenOut env mix c M G root at entry place word → LocksOnly G (Some at.place) (Some place)
          → IsWrite env.geometry M M' (PageWord i) (link_of entry.node)
          → Worked M G M' (arrived G i entry.node) (HasBrought root at entry)
      arrive_work is only write =
          let can = can_arrive works root at entry place word is only in
          let joined = arrived G i entry.node in
          let bucket = linked_bucket (G.bucket i) entry.node in
          let table = next_table root at is.out.next in
          let here : joined.bucket j ≡ G.bucket j = put-other G.bucket i bucket j
          (λ e. let same = ap (table_at G) e in omega (arith, same, can.next.later, table)) in
          record {
            made = arrive env mix c j i entry.node M M' G whole can write;
            means = record {
              works = works;
              more = record {
                out = record {
                  next = next_stays root at at.word joined.bucket joined.node is.out.next
                      (put-all (λ k o. table_at G k ≡ G.current → IsEmptied env mix (G.bucket k)
                      → IsEmptied env mix o) G.bucket i bucket (λ t e. absurd (omega (arith, t, can.next.later)))
                      (λ k ne t e. e))
                      (ap (λ o. o.holder) here ∙ is.out.next.lock.holder)
                      (ap (λ o. o.plain) here ∙ is.out.next.lock.plain);
                  out = ap (λ o. o.out) here ∙ is.out.out;
                  last = is.out.last ∙ sym (ap (λ o. last_of o.nodes) here);
                };
                further = record {
                  bucket = i;
                  first = put-same G.node entry.node (First i);
                  later = can.next.later;
                };
              };
            };
          }

    -- ---- the bucket is cut off

    pub cut_work : DoesWork c G None → (root : KnownRehash) (at : KnownPlace) (entry : KnownEntry) (M' : Memory)
        → IsBrought env mix c G root at entry
        → IsWrite env.geometry M M' (relink_address (index at.place) entry.before) (cut_value env mix at.place entry.before)
        → Worked M G M' (cut_off G (index at.place) entry.before)
        (InBucket root (record at { word = cut_plain at.word entry.before }) NoAim)
    cut_work works root at entry M' is write =
        let j = index at.place in
        let before = entry.before in
        let bucket = cut_by (G.bucket j) before in
        let rest = cut_off G j before in
        let here : rest.bucket j ≡ bucket = put-same G.bucket j bucket in
        let there = place_at-index env mix at.place is.out.next.lock.bucket in
        record {
          made = cut env mix c j entry.node before M M' G whole (can_cut works root at entry is)
              (subst (λ p. IsWrite env.geometry M M' (relink_address j before) (cut_value env mix p before)) (sym there)
              write);
          means = record {
            works = works;
            more = record {
              next = next_stays root at (cut_plain at.word before) rest.bucket G.node is.out.next
                  (put-all (λ k o. table_at G k ≡ G.current → IsEmptied env mix (G.bucket k) → IsEmptied env mix o)
                  G.bucket j bucket (λ t e. absurd (none-some e.out is.out.out)) (λ k ne t e. e))
                  (ap (λ o. o.holder) here ∙ is.out.next.lock.holder)
                  (ap (λ o. o.plain) here ∙ ap (λ p. cut_plain p before) is.out.next.lock.plain);
              out = ap (λ o. o.out) here;
              aim_is = tt;
            };
          };
        }

    -- ---- locks

    -- the next bucket is one
    faced_bucket : (root : KnownRehash) (number place : ℕ) → IsFacing env mix G root number place
        → IsNoBucket env mix G (G.page (index place / 64)) (index place) → ⊥
    faced_bucket root number place is bucketless =
        place-bucket env mix M G whole G.current number (index place) (current-there env mix whole.tables) is.below is.here bucketless

    -- of the current table, to which the caller's section comes
    pub faced-since : IsSince (G.from c) G.current → (root : KnownRehash) (number place : ℕ)
        → IsFacing env mix G root number place → IsSince (G.from c) (table_at G (index place))
    faced-since since root number place is =
        let table = place-table env mix M G whole G.current number (index place) (current-there env mix whole.tables) is.below
        is.here in
        subst (IsSince (G.from c)) (sym table) since

    -- so does it to that to which an entry goes
    pub aimed-since : IsSince (G.from c) G.current → (entry place : ℕ) → IsAim env mix M G entry place
        → IsSince (G.from c) (table_at G (index place))
    aimed-since since entry place aim =
        let table = aim_table entry place aim in
        since-later (G.from c) G.current (table_at G (index place)) (omega (arith, table, aim.later)) since

    -- it is locked
    pub lock_work : DoesWork c G None → IsSince (G.from c) G.current → (root : KnownRehash) (number place word : ℕ) (M' : Memory)
        → IsFacing env mix G root number place → M (PageWord (index place)) ≡ word → word % 2 ≡ 0
        → IsWrite env.geometry M M' (PageWord (index place)) (word + 1)
        → Worked M G M' (with_holder G (index place) (Some c))
        (InBucket root (record { number = number; place = place; word = word }) NoAim)
    lock_work works since root number place word M' is found even write =
        let j = index place in
        let taken = take_lock env mix c j word M M' G whole (index-within env mix place is.bucket)
        (faced_bucket root number place is) (faced-since since root number place is) found even write in
        let held = held_by (G.bucket j) (Some c) in
        let here : put G.bucket j held j ≡ held = put-same G.bucket j held in
        record {
          made = taken.0;
          means = record {
            works = works;
            more = record {
              next = record {
                empties = emptying_stays root number (put G.bucket j held) G.node is.empties
                    (put-all (λ k o. table_at G k ≡ G.current → IsEmptied env mix (G.bucket k) → IsEmptied env mix o)
                    G.bucket j held (λ t e. record { nodes = e.nodes; out = e.out; armed = refl }) (λ k ne t e. e));
                below = is.below;
                lock = record {
                  bucket = is.bucket;
                  holder = ap (λ o. o.holder) here;
                  plain = ap (λ o. o.plain) here ∙ taken.1;
                };
                here = is.here;
              };
              out = ap (λ o. o.out) here ∙ free-still env mix M G j whole taken.2;
              aim_is = tt;
            };
          };
        }

    -- and that to which its last entry goes
    pub lock_second_work : DoesWork c G None → IsSince (G.from c) G.current → (root : KnownRehash) (at : KnownPlace)
        (entry : KnownEntry) (place word : ℕ) (M' : Memory) → IsAiming env mix c M G root at entry place
        → M (PageWord (index place)) ≡ word → word % 2 ≡ 0
        → IsWrite env.geometry M M' (PageWord (index place)) (word + 1)
        → Worked M G M' (with_holder G (index place) (Some c)) (Brings root at entry place word)
    lock_second_work works since root at entry place word M' is found even write =
        let i = index place in
        let j = index at.place in
        let aim = is.aim in
        let stands = is.tail.stands in
        let next = stands.bucket.next in
        let taken = take_lock env mix c i word M M' G whole (index-within env mix place aim.bucket)
        (home-bucket env mix M G whole (key_of M entry.node) aim.table i
        (force-there env mix whole.tables aim.table (let later = aim.later in omega (arith, later)) aim.attached) aim.here)
        (aimed-since since entry.node place aim) found even write in
        let held = held_by (G.bucket i) (Some c) in
        let G' = with_holder G i (Some c) in
        let there : G'.bucket i ≡ held = put-same G.bucket i held in
        let here : G'.bucket j ≡ G.bucket j = put-other G.bucket i held j
        (λ e. none-some taken.2 (ap (λ k. (G.bucket k).holder) (sym e) ∙ next.lock.holder)) in
        let member : In entry.node (G.bucket j).nodes =
        subst (In entry.node) (sym stands.among.split) (in-middle entry.node stands.among.front stands.among.rear) in
        let key : key_of M' entry.node ≡ key_of M entry.node = write.others (Node entry.node KeyWord)
        (whole.owned.first_at entry.node j (whole.owned.member j entry.node member)).among (λ e. cc) in
        record {
          made = taken.0;
          means = record {
            works = works;
            more = record {
              tail = record {
                stands = record {
                  bucket = record {
                    next = next_stays root at at.word G'.bucket G.node next
                        (put-all (λ k o. table_at G k ≡ G.current → IsEmptied env mix (G.bucket k)
                        → IsEmptied env mix o) G.bucket i held
                        (λ t e. record { nodes = e.nodes; out = e.out; armed = refl }) (λ k ne t e. e))
                        (ap (λ o. o.holder) here ∙ next.lock.holder) (ap (λ o. o.plain) here ∙ next.lock.plain);
                    out = ap (λ o. o.out) here ∙ stands.bucket.out;
                    aim_is = tt;
                  };
                  among = record {
                    front = stands.among.front;
                    rear = stands.among.rear;
                    split = ap (λ o. o.nodes) here ∙ stands.among.split;
                    last = stands.among.last;
                  };
                };
                last = is.tail.last;
              };
              target = record {
                lock = record {
                  bucket = aim.bucket;
                  holder = ap (λ o. o.holder) there;
                  plain = ap (λ o. o.plain) there ∙ taken.1;
                };
                aim = record {
                  bucket = aim.bucket;
                  table = aim.table;
                  later = aim.later;
                  attached = aim.attached;
                  here = rw key aim.here;
                };
              };
            };
          };
        }

    -- where nothing is on its way out of the one bucket that is locked, nothing is on its way
    still_none : (root : KnownRehash) (at : KnownPlace) (aim : KnownAim) → IsInBucket env mix c G root at aim
        → LocksOnly G (Some at.place) None → MovesNone env mix G c
    still_none root at aim is only k entry out holds = elim (only k holds) [
      | inl e ↦ none-some is.out (ap (λ m. (G.bucket m).out) (sym (index_is at.place k e)) ∙ out)
      | inr e ↦ absurd (cc)
    ]

    -- the lock of a bucket with no entry is dropped
    pub unlock_work : DoesWork c G None → (root : KnownRehash) (at : KnownPlace) (M' : Memory) → IsBare env mix c G root at
        → LocksOnly G (Some at.place) None → IsWrite env.geometry M M' (PageWord (index at.place)) at.word
        → Worked M G M' (with_holder G (index at.place) None) (Empties root (at.number + 1))
    unlock_work works root at M' is only write =
        let j = index at.place in
        let next = is.bucket.next in
        let held = held_by (G.bucket j) None in
        let stays : (k : ℕ) → IsEmptied env mix (G.bucket k) → IsEmptied env mix (put G.bucket j held k) =
        put-all (λ k o. IsEmptied env mix (G.bucket k) → IsEmptied env mix o) G.bucket j held
        (λ e. record { nodes = e.nodes; out = e.out; armed = refl }) (λ k ne e. e) in
        record {
          made = drop_lock env mix c j at.word M M' G whole (index-within env mix at.place next.lock.bucket)
              (still_none root at NoAim is.bucket only) next.lock.holder next.lock.plain write;
          means = record {
            works = works;
            more = record {
              followed = record {
                root_is = next.empties.followed.root_is;
                future_is = next.empties.followed.future_is;
                more = next.empties.followed.more;
              };
              shape_is = next.empties.shape_is;
              within = omega (arith, next.below);
              each = λ b k l place. elim (cases_eq b at.number) [
                | inl e ↦
                    let same : k ≡ j = some-same k j
                    (sym place ∙ ap (G.table G.current).place e ∙ next.here) in
                    subst (λ m. IsEmptied env mix (put G.bucket j held m)) (sym same)
                    (subst (IsEmptied env mix) (sym (put-same G.bucket j held))
                    (record { nodes = is.none; out = is.bucket.out; armed = refl }))
                | inr ne ↦ stays k (next.empties.each b k (omega (arith, l, ne)) place)
              ];
            };
          };
        }

    -- and that of one where the work stops
    pub stop_work : DoesWork c G None → (root : KnownRehash) (at : KnownPlace) (aim : KnownAim) (M' : Memory)
        → IsInBucket env mix c G root at aim → LocksOnly G (Some at.place) None
        → IsWrite env.geometry M M' (PageWord (index at.place)) at.word
        → Worked M G M' (with_holder G (index at.place) None) Works
    stop_work works root at aim M' is only write = record {
      made = drop_lock env mix c (index at.place) at.word M M' G whole
          (index-within env mix at.place is.next.lock.bucket) (still_none root at aim is only) is.next.lock.holder
          is.next.lock.plain write;
      means = record { works = works; more = tt };
    }

    -- ---- tables

    -- the table whose buckets are all emptied is left behind
    pub publish_work : DoesWork c G None → (root : KnownRehash) (count : ℕ) (M' : Memory)
        → IsEmptying env mix G root count → count ≡ size_of (unpacked root.shape)
        → IsWrite env.geometry M M' CurrentTable root.future → Worked M G M' (published G) (LeavesBehind root.root)
    publish_work works root count M' is all write =
        let root_is = is.followed.root_is in
        record {
          made = publish env mix c M G whole (can_publish works root count is all) M'
              (subst (IsWrite env.geometry M M' CurrentTable) (sym is.followed.future_is) write);
          means = record {
            works = (
              works.0,
              λ s τ live l. elim (cases_eq τ G.current) [
                | inl e ↦
                    let has = unretired-has (G.slot s) τ live in
                    let index : index_at G s ≡ G.current = has.1 ∙ e in
                    let slot = (whole.tables.slots s has.0).slot in
                    ap Some (sym root_is ∙ ap (λ σ. (G.table σ).slot) (sym index) ∙ slot)
                | inr ne ↦ absurd (none-some refl (works.1 s τ live (omega (arith, l, ne))))
              ],
            );
            more = record {
              table = G.current;
              live = ap G.slot (sym root_is) ∙ whole.tables.force G.current (omega arith) whole.tables.current_in;
              before = refl;
            };
          };
        }

    -- and is being retired: no section word is kept yet
    pub retire_work : (slot : ℕ) → DoesWork c G (Some slot) → (M' : Memory) → slot < 8 → IsLeftBehind env mix G slot
        → IsWrite env.geometry M M' (Slot slot StateWord) 2 → Worked M G M' (retiring G slot) (HasKept slot 0)
    retire_work slot works M' within is write = record {
      made = retire env mix c slot M G whole (can_retire slot works is) M' write;
      means = record {
        works = (works.0, all_retired);
        more = record {
          within = within;
          table = index_at G slot;
          retiring = put-same G.slot slot (Retiring (index_at G slot));
          before = let index : index_at G slot ≡ is.table = ap table_of_slot is.live in omega (arith, index, is.before);
          kept = λ d none since. absurd (omega (arith, none));
        };
      };
    }
      where
        all_retired : AreRetired (retiring G slot) (Some slot)
        all_retired s τ =
            put-all (λ k o. unretired o ≡ Some τ → τ < G.current → Some slot ≡ Some k) G.slot slot (Retiring (index_at G slot))
            (λ is l. refl) (λ k ne is l. works.1 k τ is l) s

    -- ---- the work lock

    pub take_work_lock : (M' : Memory) → M WorkLock ≡ 0 → IsWrite env.geometry M M' WorkLock 1
        → Worked M G M' (with_worker G (Some c)) Works
    take_work_lock M' found write =
        let taken = take_work env mix c M M' G whole found write in
        record { made = taken.0; means = record { works = (refl, whole.slots.retired taken.1); more = tt } }

    pub give_work_lock : DoesWork c G None → (M' : Memory) → LocksOnly G None None → ((s : ℕ) → slot_holder (G.slot s) ≢ Some c)
        → IsWrite env.geometry M M' WorkLock 0 → Worked M G M' (with_worker G None) NoWork
    give_work_lock works M' only holds_none write = record {
      made = give_work env mix c M M' G whole works.0
          (λ k entry out holds. elim (only k holds) [ inl e ↦ absurd (cc) | inr e ↦ absurd (cc) ]) works.1 holds_none write;
      means = tt;
    }
