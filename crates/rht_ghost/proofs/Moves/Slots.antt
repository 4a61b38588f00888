-- The moves of slots: a free slot is taken; one that the caller has, or of which it gives back what was a table's, is given back;
-- and a word of it is written that says something of its table. Others see nothing of them but that a slot is or isn't free. The
-- next serial is nobody's.
use Rattle.std.proofs.Common.{◌≡◌, ◌≢◌, ℕ, ◌<◌, Option, Some, None, true, false, refl, sym, ◌∙◌, ap, subst, arith}
use Rattle.rht_words.specs.declared.env.Env.{Env}
use Rattle.rht_words.specs.Places.{WorkLock, NextSerial, Slot, SlotWord, StateWord, LoadedSection}
use Rattle.rht_words.proofs.Memory.{Memory, IsWrite}
use Rattle.rht_words.specs.TableWords.{IsTableWord}
use Rattle.rht_ghost.proofs.Theory.Ghosts.{put, put-other, put-all, SlotOwner, SlotFree, SlotHeld, Back, Ghost, table_of_slot, state_word, has_table, held-no_table, slot_holder, with_slot}
use Rattle.rht_ghost.proofs.Theory.Wholes.{retired_stay, SlotsRight, Whole}
use Rattle.rht_ghost.proofs.Theory.Knowledge.{HasSlot}
use Rattle.rht_ghost.proofs.Theory.Frames.{Others, Made, same_tables, stale_write, same_owners}
use Rattle.rht_ghost.proofs.Theory.WholeFrames.{SlotsRight-write}
use Rattle.rht_ghost.proofs.Theory.TableFrames.{TablesKept, live_kept, same_kept, none_fresh, IsNoBucketWord, Whole-retabled, Rely-retabled, EntriesRight-kept}
use Rattle.rht_ghost.proofs.Theory.TablesUnchanged.{TablesRight-kept, PagesRight-kept}
use Rattle.rht_ghost.proofs.Moves.Quiet.{aside}

-- a slot with state word 0 is free
free_state : (owner : SlotOwner) → state_word owner ≡ 0 → owner ≡ SlotFree
free_state SlotFree is = refl
free_state _ is = absurd (omega arith)

-- no word of a slot is a bucket's or a node's, where it keeps no section word
pub slot_word-apart : (G : Ghost) (s : ℕ) (w : SlotWord) → ((c : ℕ) → LoadedSection c ≢ w) → IsNoBucketWord G (Slot s w)
slot_word-apart G s w plain = record {
  nodes = λ n u e. cc;
  buckets = λ j none e. cc;
  map = λ i e. cc;
  count = λ e. cc;
  sections = record { own = λ c e. cc; kept = λ t c e. plain c (cc) };
}

-- so it is of the state word, and of each that says something of the slot's table
pub state_word-apart : (G : Ghost) (s : ℕ) → IsNoBucketWord G (Slot s StateWord)
state_word-apart G s = slot_word-apart G s StateWord (λ c e. cc)

pub table_word-apart : (G : Ghost) (s : ℕ) (w : SlotWord) → IsTableWord w → IsNoBucketWord G (Slot s w)
table_word-apart G s w of_table = slot_word-apart G s w (λ c e. subst IsTableWord (sym e) of_table)

-- who has a slot is one caller
pub held_by_two : (c d : ℕ) → c ≢ d → (owner : SlotOwner) → slot_holder owner ≡ Some d → slot_holder owner ≢ Some c
held_by_two c d ne owner one two = let z : ◌≡◌ {A = Option ℕ} (Some d) (Some c) = sym one ∙ two in ne (cc)

module _ (env : Env) (mix : ℕ → ℕ → ℕ → ℕ) where
  -- ---- the owner of a slot that has no table, before and after

  module _ (s : ℕ) (owner : SlotOwner) (M M' : Memory) (G : Ghost) (whole : Whole env mix M G) (l : s < 8)
      (was : has_table (G.slot s) ≡ false) (now : has_table owner ≡ false) (unless : (c : ℕ) → owner ≢ Back c)
      (write : IsWrite env.geometry M M' (Slot s StateWord) (state_word owner)) where
    abbrev slot : ℕ → SlotOwner
    slot = put G.slot s owner

    abbrev G' : Ghost
    G' = with_slot G s owner

    no_table : (t : ℕ) → has_table (G.slot t) ≡ true → t ≢ s
    no_table t has e = let z : true ≡ false = sym has ∙ ap (λ i. has_table (G.slot i)) e ∙ was in cc

    pub slots_kept : TablesKept env mix G G.table G.attached slot G.page
    slots_kept = same_kept env mix G G.table G.attached slot G.page whole.tables.current_in (λ τ l. refl) (omega arith)
        (λ t has. put-other G.slot s owner t (no_table t has))
        (put-all (λ t o. has_table o ≡ true → table_of_slot o < G.attached → o ≡ G.slot t) G.slot s owner
        (λ has k. let z : true ≡ false = sym has ∙ now in absurd (cc)) (λ t ne has k. refl)) (λ p τ is. is)
        (λ p τ k is. is) (none_fresh env mix G _)

    slots_right : SlotsRight env mix M' G'
    slots_right = record {
      states = put-all (λ t o. t < 8 → M' (Slot t StateWord) ≡ state_word o) G.slot s owner (λ k. write.same)
          (λ t ne k. write.others (Slot t StateWord) (k, tt) (λ e. ne (cc)) ∙ whole.slots.states t k);
      worker_is = write.others WorkLock tt (λ e. cc) ∙ whole.slots.worker_is;
      retired = λ idle. retired_stay G G' None refl
          (λ t τ is k. live_kept env mix G G.table G.attached slot G.page slots_kept t τ is (omega (arith, k, whole.tables.current_in))) (whole.slots.retired idle);
      back = λ t c. put-all (λ k o. o ≡ Back c → G.worker ≡ Some c) G.slot s owner (λ is. absurd (unless c is))
          (λ k ne is. whole.slots.back k c is) t;
    }

    reslotted : Whole env mix M' G'
    reslotted = Whole-retabled env mix M M' G G.table G.attached slot G.page whole slots_kept (Slot s StateWord)
        (state_word owner) write (state_word-apart G s)
        (TablesRight-kept env mix M M' G slot G.page whole slots_kept (Slot s StateWord) (state_word owner) write
        (state_word-apart G s)
        (record { current = λ e. cc; slots = λ t w has e. no_table t has (cc) })
        (put-all (λ t o. has_table o ≡ true → o ≡ G.slot t) G.slot s owner
        (λ has. let z : true ≡ false = sym has ∙ now in absurd (cc)) (λ t ne has. refl)) (λ p τ is. is))
        slots_right
        (PagesRight-kept env mix M M' G slot slots_kept (Slot s StateWord) (state_word owner) write (λ i e. cc) whole.pages)
        (EntriesRight-kept env mix M M' G G.table G.attached slot G.page whole slots_kept (Slot s StateWord)
        (state_word owner) write (state_word-apart G s) (λ τ l. refl) (λ p τ of has. of) (λ j e. cc))

    reslotted_others : (d : ℕ) → ((c : ℕ) → c ≢ d → slot_holder (G.slot s) ≢ Some c)
        → ((c : ℕ) → c ≢ d → slot_holder owner ≢ Some c) → Others env mix d M G M' G'
    reslotted_others d before after c ne =
        Rely-retabled env mix M M' G G.table G.attached slot G.page whole slots_kept (Slot s StateWord)
        (state_word owner) write (state_word-apart G s) c
        (record {
          slots = λ t is. put-other G.slot s owner t
              (λ e. before c ne (ap (λ k. slot_holder (G.slot k)) (sym e) ∙ is));
          slot_words = λ t w has is. write.others (Slot t w) (has.within, is)
              (λ e. let same : t ≡ s = cc in before c ne (ap (λ k. slot_holder (G.slot k)) (sym same) ∙ ap slot_holder has.mine));
          no_slot = put-all (λ t o. slot_holder o ≡ Some c → slot_holder (G.slot t) ≡ Some c) G.slot s owner
              (λ is. absurd (after c ne is)) (λ t other is. is);
          pages = λ p is. is;
          no_page = λ p is. is;
        })

  -- the exchange that takes a slot whose state word was 0
  pub take_slot : (d s : ℕ) (M M' : Memory) (G : Ghost) → Whole env mix M G → s < 8
      → M (Slot s StateWord) ≡ 0 → IsWrite env.geometry M M' (Slot s StateWord) 1
      → Made env mix d M G M' (with_slot G s (SlotHeld d)) × (G.slot s ≡ SlotFree)
  take_slot d s M M' G whole l found write =
      let free = free_state (G.slot s) (sym (whole.slots.states s l) ∙ found) in
      let was : has_table (G.slot s) ≡ false = ap has_table free in (
        record {
          whole = reslotted s (SlotHeld d) M M' G whole l was refl (λ c e. cc) write;
          others = reslotted_others s (SlotHeld d) M M' G whole l was refl (λ c e. cc) write d
              (λ c ne is. let z : ◌≡◌ {A = Option ℕ} None (Some c) = sym (ap slot_holder free) ∙ is in cc) (λ c ne is. ne (cc));
          stale = stale_write env mix M M' G (with_slot G s (SlotHeld d)) (Slot s StateWord) 1 write
              (same_owners env mix G (with_slot G s (SlotHeld d)) refl) (λ n u f e. cc) (λ n u f e. cc);
        },
        free,
      )

  -- the store that gives back a slot which the caller has, whether a table was there or not
  pub give_slot : (d s : ℕ) (M M' : Memory) (G : Ghost) → Whole env mix M G → s < 8 → slot_holder (G.slot s) ≡ Some d
      → IsWrite env.geometry M M' (Slot s StateWord) 0 → Made env mix d M G M' (with_slot G s SlotFree)
  give_slot d s M M' G whole within mine write =
      let was : has_table (G.slot s) ≡ false = held-no_table (G.slot s) d mine in
      record {
        whole = reslotted s SlotFree M M' G whole within was refl (λ c e. cc) write;
        others = reslotted_others s SlotFree M M' G whole within was refl (λ c e. cc) write d
            (λ c ne. held_by_two c d ne (G.slot s) mine) (λ c ne is. cc);
        stale = stale_write env mix M M' G (with_slot G s SlotFree) (Slot s StateWord) 0 write
            (same_owners env mix G (with_slot G s SlotFree) refl) (λ n u f e. cc) (λ n u f e. cc);
      }

  -- ---- a word of a slot that the caller has

  pub fill_slot : (d s : ℕ) (w : SlotWord) (v : ℕ) (M M' : Memory) (G : Ghost) → Whole env mix M G
      → HasSlot env mix d G s → IsTableWord w → IsWrite env.geometry M M' (Slot s w) v
      → Made env mix d M G M' G
  fill_slot d s w v M M' G whole has of_table write =
      let kept : TablesKept env mix G G.table G.attached G.slot G.page =
      same_kept env mix G G.table G.attached G.slot G.page whole.tables.current_in (λ τ l. refl) (omega arith) (λ t is. refl)
      (λ t has l. refl) (λ p τ is. is) (λ p τ l is. is) (none_fresh env mix G _) in
      let words = table_word-apart G s w of_table in
      let no_table : (t : ℕ) → has_table (G.slot t) ≡ true → t ≢ s = λ t is e.
      (let z : true ≡ false = sym is ∙ ap (λ i. has_table (G.slot i)) e ∙ ap has_table has.mine in cc) in
      record {
        whole = Whole-retabled env mix M M' G G.table G.attached G.slot G.page whole kept (Slot s w) v write words
            (TablesRight-kept env mix M M' G G.slot G.page whole kept (Slot s w) v write words
            (record { current = λ e. cc; slots = λ t u is e. no_table t is (cc) }) (λ t is. refl) (λ p τ is. is))
            (SlotsRight-write env mix M M' G G (Slot s w) v write (λ e. cc)
            (λ t e. state_differs w of_table (cc)) (same_tables env mix G G.bucket G.node G.bound G.raised) whole.slots)
            (PagesRight-kept env mix M M' G G.slot kept (Slot s w) v write (λ i e. cc) whole.pages)
            (EntriesRight-kept env mix M M' G G.table G.attached G.slot G.page whole kept (Slot s w) v write words
            (λ τ l. refl) (λ p τ of has. of) (λ j e. cc));
        stale = stale_write env mix M M' G G (Slot s w) v write (same_owners env mix G G refl) (λ n u f e. cc)
            (λ n u f e. cc);
        others = λ c ne. Rely-retabled env mix M M' G G.table G.attached G.slot G.page whole kept (Slot s w) v
            write words c (record {
              slots = λ t is. refl;
              slot_words = λ t u mine is. write.others (Slot t u) (mine.within, is)
                  (λ e. let same : t ≡ s = cc in
                  held_by_two c d ne (G.slot s) (ap slot_holder has.mine) (ap slot_holder (ap G.slot (sym same) ∙ mine.mine)));
              no_slot = λ t is. is;
              pages = λ p is. is;
              no_page = λ p is. is;
            });
      }
    where
      state_differs : (u : SlotWord) → IsTableWord u → StateWord ≢ u
      state_differs u is e = subst IsTableWord (sym e) is

  -- ---- the next serial

  pub take_serial : (d v : ℕ) (M M' : Memory) (G : Ghost) → Whole env mix M G
      → IsWrite env.geometry M M' NextSerial v → Made env mix d M G M' G
  take_serial d v M M' G whole write =
      let kept = aside env mix NextSerial v M M' G whole write
      (record { current = λ e. cc; work = λ e. cc; sections = λ k e. cc; slots = λ s w e. cc; pages = λ i e. cc }) (λ j e. cc)
      (λ n w e. cc) (λ i e. cc) (λ e. cc) in
      record {
        whole = kept.0;
        others = λ c ne. kept.1 c;
        stale = stale_write env mix M M' G G NextSerial v write (same_owners env mix G G refl) (λ n u f e. cc)
            (λ n u f e. cc);
      }
