-- The stores to the words that say which table is the current one, what has become of the table in each slot, and whether somebody does
-- the work. What each such store leaves is shown here once.
use Rattle.std.proofs.Common.{◌≡◌, ◌≢◌, ◌⊎◌, ℕ, ◌/◌, ◌<◌, ◌≤◌, Option, Some, None, true, refl, sym, ◌∙◌, ap, inl, inr, arith}
use Rattle.std.proofs.lemmas.Bool.{both_ways}
use Rattle.rht_words.specs.declared.env.Env.{Env}
use Rattle.rht_words.specs.Places.{Address, CurrentTable, WorkLock, PortCount, Slot, SlotWord, ShapeWord, SeedWord, FutureWord, SerialWord, StateWord, NodeMap, PageMap, Node, NodeWord, ChainLink, KeyWord, ListLink, PageWord}
use Rattle.rht_words.proofs.Memory.{Memory, IsWrite}
use Rattle.rht_words.proofs.ChainLemmas.{IsSegment-members}
use Rattle.rht_ghost.proofs.Theory.Ghosts.{put, put-other, put-all, Ghost, First, Leaving, SlotOwner, SlotHeld, Live, Retired, Back, lock_bit, state_word, has_table, held-no_table, slot_holder, unretired, index_at, table_of_slot, table_at, is_used, seat_of}
use Rattle.rht_ghost.proofs.Theory.Wholes.{AreRetired, list_of, key_of, TablesRight, SectionsRight, PagesRight, OutRight, MovingRight, IsLeavingAt, Owned, Whole, IsThere}
use Rattle.rht_ghost.proofs.Theory.Passed.{TablesGrow, same-TableStays}
use Rattle.rht_ghost.proofs.Theory.SectionFrames.{IsNoSectionWord, SectionsRight-write}
use Rattle.rht_ghost.proofs.Theory.Reliance.{TablesStay, all_stay}
use Rattle.rht_ghost.proofs.Theory.Frames.{Others, Made, UsedStay, used_stay, seat_stays, chains_stay, passes_same, stale_write, same_owners}
use Rattle.rht_ghost.proofs.Theory.WholeFrames.{no_bucket, BucketRight-frame, arena_stays}
use Rattle.rht_ghost.proofs.Theory.Departures.{with_standing}

-- each slot is whose it was, but that a table in it may be retired
pub record SlotsStand (G : Ghost) (current : ℕ) (slot : ℕ → SlotOwner) : Type 0 where
  pub has : (s : ℕ) → has_table (slot s) ≡ has_table (G.slot s)
  pub index : (s : ℕ) → has_table (G.slot s) ≡ true → table_of_slot (slot s) ≡ index_at G s
  pub live : (τ : ℕ) → τ < G.attached → current ≤ τ → slot (G.table τ).slot ≡ Live τ
  pub was_unretired : (s τ : ℕ) → unretired (slot s) ≡ Some τ → unretired (G.slot s) ≡ Some τ
  pub held : (s c : ℕ) → slot_holder (G.slot s) ≡ Some c → slot s ≡ G.slot s
  pub not_held : (s c : ℕ) → slot_holder (slot s) ≡ Some c → slot_holder (G.slot s) ≡ Some c

-- the word is none of a node, of a bucket, of a map, not the count, and none of a slot that its table's readers load or that a
-- caller has
pub record IsStandingWord (G : Ghost) (a : Address) : Type 0 where
  pub no_page : (i : ℕ) → PageWord i ≢ a
  pub no_node : (n : ℕ) (w : NodeWord) → Node n w ≢ a
  pub no_map : (i : ℕ) → NodeMap i ≢ a
  pub no_page_map : (i : ℕ) → PageMap i ≢ a
  pub no_count : PortCount ≢ a
  pub no_shape : (s : ℕ) → Slot s ShapeWord ≢ a
  pub no_seed : (s : ℕ) → Slot s SeedWord ≢ a
  pub no_serial : (s : ℕ) → Slot s SerialWord ≢ a
  pub no_future : (s : ℕ) → Slot s FutureWord ≢ a
  pub no_held : (s c : ℕ) (w : SlotWord) → G.slot s ≡ SlotHeld c → Slot s w ≢ a

module _ (env : Env) (mix : ℕ → ℕ → ℕ → ℕ) where
  -- where slots stay whose they are, and the current table isn't left behind
  pub slots_stand : (M : Memory) (G : Ghost) (current : ℕ) → Whole env mix M G → G.current ≤ current
      → SlotsStand G current G.slot
  slots_stand M G current whole later = record {
    has = λ s. refl;
    index = λ s has. refl;
    live = λ τ l from. whole.tables.force τ (omega (arith, later, from)) l;
    was_unretired = λ s τ is. is;
    held = λ s c is. refl;
    not_held = λ s c is. is;
  }

  -- and where a table that was left behind has its slot otherwise than before, but isn't there again where it was retired
  pub restanding : (M : Memory) (G : Ghost) → Whole env mix M G → (s : ℕ) (owner : SlotOwner) → has_table (G.slot s) ≡ true
      → index_at G s < G.current → has_table owner ≡ true → table_of_slot owner ≡ index_at G s
      → ((τ : ℕ) → unretired owner ≡ Some τ → unretired (G.slot s) ≡ Some τ) → SlotsStand G G.current (put G.slot s owner)
  restanding M G whole s owner was left has index before =
      let none_before : (c : ℕ) → slot_holder (G.slot s) ≢ Some c =
      λ c held. both_ways (has_table (G.slot s)) (held-no_table (G.slot s) c held) was in
      let none_after : (c : ℕ) → slot_holder owner ≢ Some c =
      λ c held. both_ways (has_table owner) (held-no_table owner c held) has in
      record {
        has = put-all (λ i o. has_table o ≡ has_table (G.slot i)) G.slot s owner (has ∙ sym was) (λ i ne. refl);
        index = put-all (λ i o. has_table (G.slot i) ≡ true → table_of_slot o ≡ index_at G i) G.slot s owner
            (λ there. index) (λ i ne there. refl);
        live = λ τ l from.
            let live = whole.tables.force τ from l in
            put-other G.slot s owner (G.table τ).slot
            (λ e. let same : index_at G s ≡ τ = ap (index_at G) (sym e) ∙ ap table_of_slot live in
            omega (arith, same, from, left)) ∙ live;
        was_unretired = λ i τ. put-all (λ k o. unretired o ≡ Some τ → unretired (G.slot k) ≡ Some τ) G.slot s owner (before τ)
            (λ k ne is. is) i;
        held = λ i c. put-all (λ k o. slot_holder (G.slot k) ≡ Some c → o ≡ G.slot k) G.slot s owner
            (λ held. absurd (none_before c held)) (λ k ne held. refl) i;
        not_held = λ i c. put-all (λ k o. slot_holder o ≡ Some c → slot_holder (G.slot k) ≡ Some c) G.slot s owner
            (λ held. absurd (none_after c held)) (λ k ne held. held) i;
      }

  module _ (d : ℕ) (M M' : Memory) (G : Ghost) (current : ℕ) (slot : ℕ → SlotOwner) (worker : Option ℕ)
      (a : Address) (v : ℕ) where
    abbrev after : Ghost
    after = with_standing G current slot worker

    -- what sections say stays right where no section word is stored, and nothing is retired
    pub restated_sections : Whole env mix M G → IsWrite env.geometry M M' a v → IsNoSectionWord a
        → ((s τ : ℕ) → slot s ≡ Retired τ → G.slot s ≡ Retired τ) → SectionsRight env mix M' after
    restated_sections whole write apart was_retired =
        SectionsRight-write env mix M M' G after a v write apart whole.sections refl was_retired whole.sections.locked

    -- What the store makes of tables and of the work. No entry is on its way, or the same table is the current one and the same caller
    -- does the work.
    pub record IsRestated : Type 0 where
      pub write : IsWrite env.geometry M M' a v
      pub word : IsStandingWord G a
      pub current_in : current < G.attached
      pub later : G.current ≤ current
      pub current_is : M' CurrentTable ≡ (G.table current).slot
      pub slots : SlotsStand G current slot
      pub states : (s : ℕ) → s < 8 → M' (Slot s StateWord) ≡ state_word (slot s)
      pub worker_is : M' WorkLock ≡ lock_bit worker
      pub retired : worker ≡ None → AreRetired after None
      pub back : (s c : ℕ) → slot s ≡ Back c → worker ≡ Some c
      pub sections : SectionsRight env mix M' after
      pub no_other : (c : ℕ) → c ≢ d → G.worker ≢ Some c
      pub none_gets_it : (c : ℕ) → c ≢ d → worker ≢ Some c
      pub seats : (n j : ℕ) → G.node n ≡ First j → current ≤ table_at G j
      pub armed : (j c : ℕ) → (G.bucket j).armed ≡ Some c → current ≤ table_at G j
      pub moving : ((j entry : ℕ) → (G.bucket j).out ≢ Some entry)
          ⊎ ((current ≡ G.current) × (worker ≡ G.worker))

    module _ (whole : Whole env mix M G) (is : IsRestated) where
      words : UsedStay env mix M G M'
      words = used_stay env mix M M' G a v whole is.write is.word.no_node

      -- a table that is there is so still
      restated_there : (τ : ℕ) → IsThere G τ → IsThere after τ
      restated_there τ was =
          let s = (G.table τ).slot in
          record { has_slot = is.slots.has s ∙ was.has_slot; index = is.slots.index s was.has_slot ∙ was.index }

      restated_tables : TablesRight env mix M' after
      restated_tables = record {
        current_in = is.current_in;
        current_is = is.current_is;
        force = λ τ from l. is.slots.live τ l from;
        each = λ τ now.
            let s = (G.table τ).slot in
            let has = sym (is.slots.has s) ∙ now.has_slot in
            let r = whole.tables.each τ (record { has_slot = has; index = sym (is.slots.index s has) ∙ now.index }) in
            record {
              slot_in = r.slot_in;
              shape_is = is.write.others (Slot s ShapeWord) (r.slot_in, tt) (is.word.no_shape s) ∙ r.shape_is;
              seed_is = is.write.others (Slot s SeedWord) (r.slot_in, tt) (is.word.no_seed s) ∙ r.seed_is;
              serial_is = is.write.others (Slot s SerialWord) (r.slot_in, tt) (is.word.no_serial s) ∙ r.serial_is;
              seeded = r.seeded;
              future_is = is.write.others (Slot s FutureWord) (r.slot_in, tt) (is.word.no_future s) ∙ r.future_is;
              placed = r.placed;
            };
        slots = λ s has.
            let had = sym (is.slots.has s) ∙ has in
            let of = whole.tables.slots s had in
            let same = is.slots.index s had in
            record { attached = omega (arith, same, of.attached); slot = ap (λ τ. (G.table τ).slot) same ∙ of.slot };
      }

      restated_pages : PagesRight env mix M' after
      restated_pages = record {
        bits = λ p l. rw (is.write.others (PageMap (p / 64)) (omega arith) (is.word.no_page_map (p / 64)))
            (whole.pages.bits p l);
        page_of = whole.pages.page_of;
        there = λ p τ of. restated_there τ (whole.pages.there p τ of);
        blank = λ j blank. whole.pages.blank j (no_bucket env mix G after refl (G.page (j / 64)) j blank);
      }

      key_stays : (n : ℕ) → n < env.geometry.nodes → key_of M' n ≡ key_of M n
      key_stays n l = is.write.others (Node n KeyWord) l (is.word.no_node n KeyWord)

      restated_out : (j entry : ℕ) → (G.bucket j).out ≡ Some entry → OutRight env mix M' after j entry
      restated_out j entry at = elim is.moving [
        | inl none ↦ absurd (none j entry at)
        | inr same ↦
            let out = whole.moving.out j entry at in
            record {
              worker = out.worker;
              holder = out.holder;
              works = same.1 ∙ out.works;
              table = out.table ∙ sym same.0;
              among = out.among;
              here = rw (key_stays entry out.among) (rw same.0 out.here);
              owner = elim out.owner [
                | inl leaving ↦ inl leaving
                | inr further ↦ inr (record {
                  bucket = further.bucket;
                  first = further.first;
                  later = omega (arith, further.later, same.0);
                })
              ];
            }
      ]

      restated_moving : MovingRight env mix M' after
      restated_moving = record {
        armed = λ j c at.
            let right = whole.moving.armed j c at in
            record { holder = right.holder; current = is.armed j c at; attached = right.attached };
        out = restated_out;
      }

      restated_leaving : (n j : ℕ) → G.node n ≡ Leaving j → IsLeavingAt env mix M' after n j
      restated_leaving n j leaving =
          let at = whole.owned.leaving_at n j leaving in
          let among = (whole.moving.out j n at.out).among in
          elim is.moving [
            | inl none ↦ absurd (none j n at.out)
            | inr same ↦
                let next = at.next in
                record {
                  out = at.out;
                  behind = at.behind;
                  bound_to = ap G.bound (key_stays n among) ∙ at.bound_to;
                  next = record {
                    bucket = next.bucket;
                    later = omega (arith, next.later, same.0);
                    attached = next.attached;
                    worker = next.worker;
                    holder = next.holder;
                    works = same.1 ∙ next.works;
                    here = rw (key_stays n among) next.here;
                    chain = words.chains n j (ap seat_of leaving) ∙ next.chain;
                  };
                }
          ]

      restated_owned : Owned env mix M' after
      restated_owned =
          let owned = whole.owned in
          record {
            member = owned.member;
            first_at = λ n j f.
                let at = owned.first_at n j f in
                let key = key_stays n at.among in
                record {
                  there = at.there;
                  among = at.among;
                  at_home = rw key (record {
                    here = at.at_home.here;
                    current = is.seats n j f;
                    attached = at.at_home.attached;
                  });
                  behind = at.behind;
                  bound_to = ap G.bound key ∙ at.bound_to;
                };
            leaving_at = restated_leaving;
            behind_in = λ n port f.
                let behind = owned.behind_in n port f in
                record {
                  among = behind.among;
                  key_is = key_stays n behind.among ∙ behind.key_is;
                  first = behind.first;
                  behind = behind.behind;
                  bound_to = behind.bound_to;
                  there = behind.there;
                };
            bound_to = λ port n behind b.
                let to = owned.bound_to port n behind b in
                let link = seat_stays env mix M M' G whole words n to.bucket ListLink to.first in
                record {
                  bucket = to.bucket;
                  first = to.first;
                  key_is = seat_stays env mix M M' G whole words n to.bucket KeyWord to.first ∙ to.key_is;
                  list = rw link (IsSegment-members (list_of M) (list_of M') (list_of M n) behind 0
                      (λ m i. words.lists m (owned.behind_in m port (to.each m i)).among
                      (ap is_used (to.each m i))) to.list);
                  distinct = to.distinct;
                  each = to.each;
                };
            single = owned.single;
            small = owned.small;
          }

      restated_whole : Whole env mix M' after
      restated_whole = record {
        tables = restated_tables;
        slots = record { states = is.states; worker_is = is.worker_is; retired = is.retired; back = is.back };
        sections = is.sections;
        pages = restated_pages;
        buckets = λ j l none. BucketRight-frame env mix M M' j (G.bucket j)
            (is.write.others (PageWord j) l (is.word.no_page j))
            (λ n i. is.write.others (Node n ChainLink)
            (whole.owned.first_at n j (whole.owned.member j n i)).among (is.word.no_node n ChainLink))
            (whole.buckets j l none);
        entries = λ j l entry. is.write.others (PageWord j) l (is.word.no_page j) ∙ whole.entries j l entry;
        moving = restated_moving;
        owned = restated_owned;
        arena = arena_stays env mix M M' G a v whole is.write after refl is.word.no_map;
        counted = is.write.others PortCount tt is.word.no_count ∙ whole.counted;
      }

      restated_grow : TablesGrow env mix G after
      restated_grow = record {
        tables = λ τ l. same-TableStays G.page τ (G.table τ) (G.table τ) refl;
        placed = λ τ b j l at. inl at;
        attached = omega arith;
        current = is.later;
        live = λ s τ now l. is.slots.was_unretired s τ now;
        there = λ τ l was. restated_there τ (was l);
        pages = λ p τ of. of;
      }

      pub restated_stay : TablesStay env mix G after
      restated_stay =
          all_stay env mix M G after whole restated_grow (passes_same env mix M G after whole (record {
            armed = λ j c at. at;
            out = λ j. refl;
            bound = λ port. refl;
            used = λ n used. refl;
          }))

      restated_others : Others env mix d M G M' after
      restated_others c ne = record {
        tables = restated_stay;
        locks = λ j h. refl;
        lists = λ j n h i. refl;
        chains = chains_stay env mix c M M' G a v whole is.write (λ n used. is.word.no_node n ChainLink);
        keys = words.keys;
        owners = words.owners;
        nodes = λ n has. has.mine;
        words = λ n has w. is.write.others (Node n w) has.among (is.word.no_node n w);
        raised = refl;
        taken = λ n. refl;
        unbound = λ port τ j for. for.unbound;
        holdings = record {
          slots = λ s at. is.slots.held s c at;
          slot_words = λ s w has known. is.write.others (Slot s w) (has.within, known)
              (is.word.no_held s c w has.mine);
          no_slot = λ s at. is.slots.not_held s c at;
          pages = λ p at. at;
          no_page = λ p at. at;
        };
        work = λ works. absurd (is.no_other c ne works);
        no_work = λ works. absurd (is.none_gets_it c ne works);
        no_node = λ n h. h;
        no_lock = λ j h. h;
      }

      pub restate : Made env mix d M G M' after
      restate = record {
        whole = restated_whole;
        others = restated_others;
        stale = stale_write env mix M M' G after a v is.write (same_owners env mix G after refl)
            (λ n u f. is.word.no_node n ChainLink) (λ n u f. is.word.no_node n ListLink);
      }
