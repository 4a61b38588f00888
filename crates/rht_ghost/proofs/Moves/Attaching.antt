-- The exchange that attaches a table: the future of the last table, which was 0, leads from then on to the slot of the one that the
-- caller has made. The slot and its pages are the table's, whose buckets are empty, and it is the last one.
--
-- The future that is written was 0, so that table was the last: each other table's leads to the one behind it.
use Rattle.std.proofs.Common.{◌≡◌, ◌≢◌, ◌↔◌, ℕ, ◌+◌, ◌*◌, ◌/◌, ◌%◌, ◌<◌, ◌≤◌, cond, nat_lt, None, true, false, refl, sym, ◌∙◌, ap, subst, inl, inr, arith, Some}
use Rattle.std.specs.Prelude.{nat_le}
use Rattle.std.specs.Int.{bit_at}
use Rattle.std.proofs.lemmas.Bool.{cases_eq, cases_lt, lt-ltb, le-ltb, ltb-true, leb-true, and_parts}
use Rattle.std.proofs.lemmas.Bool.Decides.{nat_tests}
use Rattle.rht_words.specs.declared.env.Env.{Env}
use Rattle.rht_words.specs.Links.{future_of}
use Rattle.rht_words.specs.Shapes.{unpacked}
use Rattle.rht_words.specs.Places.{CurrentTable, WorkLock, Slot, SlotWord, ShapeWord, SeedWord, FutureWord, SerialWord, StateWord, PageMap, IsSlotWord, PageWord}
use Rattle.rht_words.proofs.Memory.{Memory, IsWrite}
use Rattle.rht_nest.specs.Tables.{table_pages, is_nested, table_seed}
use Rattle.rht_nest.proofs.MakesMade.{size_of-fits}
use Rattle.rht_ghost.proofs.Theory.Ghosts.{has_entries, Table, blank_bucket, put, put-same, put-other, put-all, put_in, put_in-there, put_in-all, PageOwner, PageFree, PageHeld, PageOf, SlotOwner, Live, Back, Ghost, slot_holder, state_word, table_of_slot, has_table, index_at, made_table, is_page_for, with_table, Row, Top, lock_bit, is_entry, is_entry_of, entry_word, table_at, table_of_page}
use Rattle.rht_ghost.proofs.Theory.Wholes.{IsThere, live-there, there-attached, one_slot, retired_stay, IsNoBucket, EntriesRight, SlotIsOf, TableRight, TablesRight, SlotsRight, PagesRight, PlacedRight, future_in, Whole, IsFlat, IsNested}
use Rattle.rht_ghost.proofs.Theory.Ways.{IsSpareIn, StandsAs}
use Rattle.rht_ghost.proofs.Theory.Readiness.{IsAttaching}
use Rattle.rht_ghost.proofs.Theory.Frames.{Others, Made, stale_write, same_owners}
use Rattle.rht_ghost.proofs.Theory.TableFrames.{TablesKept, same_kept, live_kept, there_kept, there_before, no_table-no_bucket, Whole-retabled, Rely-retabled, TableRight-kept, placed_kept, entry_word-kept}
use Rattle.rht_ghost.proofs.Moves.Slots.{table_word-apart, held_by_two}
use Rattle.rht_ghost.proofs.Theory.Knowledge.{IsFlatMade, IsNestedMade}
use Rattle.rht_ghost.proofs.Theory.Entries.{entry_in}

-- a page of a table with this shape
pub page_for-is : (shape p : ℕ) → is_page_for shape p ≡ true
    → ((unpacked shape).page ≤ p) × (p < (unpacked shape).page + table_pages (unpacked shape))
page_for-is shape p is =
    let first = (unpacked shape).page in
    let both = and_parts (nat_le first p) (nat_lt p (first + table_pages (unpacked shape))) is in
    (leb-true first p both.0, ltb-true p (first + table_pages (unpacked shape)) both.1)

pub is_page-for : (shape p : ℕ) → (unpacked shape).page ≤ p
    → p < (unpacked shape).page + table_pages (unpacked shape) → is_page_for shape p ≡ true
is_page-for shape p from below = grind (arith, nat_tests, from, below)

module _ (env : Env) (mix : ℕ → ℕ → ℕ → ℕ) where
  -- the table whose future says that none is behind it is the last one
  pub last_of_future : (M : Memory) (G : Ghost) → Whole env mix M G → (τ : ℕ) → IsThere G τ
      → M (Slot (G.table τ).slot FutureWord) ≡ 0 → τ + 1 ≡ G.attached
  last_of_future M G whole τ there none = elim (cases_lt (τ + 1) G.attached) [
    | inl more ↦
        let leads : future_in env mix G τ ≡ future_of (G.table (τ + 1)).slot =
        ap (λ t. cond t (future_of (G.table (τ + 1)).slot) 0) (lt-ltb (τ + 1) G.attached more) in
        let is : future_of (G.table (τ + 1)).slot ≡ 0 = sym leads ∙ sym (whole.tables.each τ there).future_is ∙ none in
        absurd (omega (arith, is))
    | inr least ↦ let l = there-attached env mix whole.tables τ there in omega (arith, l, least)
  ]

  module _ (d slot shape seed serial τ : ℕ) (M M' : Memory) (G : Ghost) (whole : Whole env mix M G)
      (ready : IsAttaching env mix d slot shape seed serial M G) (there : IsThere G τ)
      (none : M (Slot (G.table τ).slot FutureWord) ≡ 0)
      (write : IsWrite env.geometry M M' (Slot (G.table τ).slot FutureWord) (future_of slot)) where
    abbrev new : Table
    new = made_table slot shape seed serial

    abbrev G' : Ghost
    G' = with_table G new

    abbrev slots : ℕ → SlotOwner
    slots = put G.slot slot (Live G.attached)

    abbrev page : ℕ → PageOwner
    page = put_in (is_page_for shape) (PageOf G.attached) G.page

    abbrev tables : ℕ → Table
    tables = put G.table G.attached new

    abbrev last : ℕ
    last = (G.table τ).slot

    l : τ < G.attached
    l = there-attached env mix whole.tables τ there

    is_last : τ + 1 ≡ G.attached
    is_last = last_of_future M G whole τ there none

    -- the caller has the pages of the run, and the slot
    mine : (p : ℕ) → is_page_for shape p ≡ true → G.page p ≡ PageHeld d
    mine p is = let both = page_for-is shape p is in ready.made.run p both.0 both.1

    no_table : (s : ℕ) → has_table (G.slot s) ≡ true → s ≢ slot
    no_table s has e =
        let z : true ≡ false = sym has ∙ ap (λ i. has_table (G.slot i)) e ∙ ap has_table ready.made.has.mine in cc

    -- the tables that there were stay, and get no page
    table_same : (σ : ℕ) → σ < G.attached → tables σ ≡ G.table σ
    table_same σ k = put-other G.table G.attached new σ (omega (arith, k))

    page_before : (p σ : ℕ) → σ < G.attached → page p ≡ PageOf σ → G.page p ≡ PageOf σ
    page_before p σ k = put_in-all (λ q o. o ≡ PageOf σ → G.page q ≡ PageOf σ) (is_page_for shape) (PageOf G.attached)
        G.page (λ q there is. let same : G.attached ≡ σ = cc in absurd (omega (arith, same, k))) (λ q there is. is) p

    same_new : tables G.attached ≡ new
    same_new = put-same G.table G.attached new

    live : slots slot ≡ Live G.attached
    live = put-same G.slot slot (Live G.attached)

    -- the new one is in its slot
    new_live : (σ : ℕ) → σ ≡ G.attached → slots (tables σ).slot ≡ Live σ
    new_live σ e =
        ap (λ i. slots (tables i).slot) e ∙ ap (λ (t : Table). slots t.slot) same_new ∙ live ∙ ap Live (sym e)

    pub attached_kept : TablesKept env mix G tables (G.attached + 1) slots page
    attached_kept = same_kept env mix G tables (G.attached + 1) slots page whole.tables.current_in table_same (omega arith)
        (λ s has. put-other G.slot slot (Live G.attached) s (no_table s has))
        (put-all (λ t o. has_table o ≡ true → table_of_slot o < G.attached → o ≡ G.slot t) G.slot slot (Live G.attached)
        (λ has k. let less : G.attached < G.attached = k in absurd (omega (arith, less))) (λ t ne has k. refl))
        (λ p σ. put_in-all (λ q o. G.page q ≡ PageOf σ → o ≡ PageOf σ) (is_page_for shape) (PageOf G.attached) G.page
        (λ q there is. let z : PageHeld d ≡ PageOf σ = sym (mine q there) ∙ is in absurd (cc)) (λ q there is. is) p)
        (λ p σ k. page_before p σ k) (λ σ from k. live-there env mix G' σ (new_live σ (omega (arith, from, k))))

    -- ---- the tables

    -- tables have different slots
    slot_differs : (σ : ℕ) → IsThere G σ → (G.table σ).slot ≡ last → σ ≡ τ
    slot_differs σ here = one_slot G σ τ here there

    other_word : (s : ℕ) (w : SlotWord) → s < 8 → IsSlotWord w → Slot s w ≢ Slot last FutureWord
        → M' (Slot s w) ≡ M (Slot s w)
    other_word s w k is ne = write.others (Slot s w) (k, is) ne

    old_future : (σ : ℕ) → σ < G.attached → IsThere G σ → M' (Slot (G.table σ).slot FutureWord) ≡ future_in env mix G' σ
    old_future σ k is_there = elim (cases_eq σ τ) [
      | inl e ↦
          let now : future_in env mix G' τ ≡ future_of slot =
          ap (λ t. cond t (future_of (tables (τ + 1)).slot) 0) (lt-ltb (τ + 1) (G.attached + 1) (omega (arith, l)))
          ∙ ap (λ i. future_of (tables i).slot) is_last
          ∙ ap (λ (t : Table). future_of t.slot) (put-same G.table G.attached new) in
          ap (λ i. M' (Slot (G.table i).slot FutureWord)) e ∙ write.same ∙ sym now
          ∙ ap (future_in env mix G') (sym e)
      | inr ne ↦
          let more : σ + 1 < G.attached = omega (arith, k, ne, is_last) in
          let was : future_in env mix G σ ≡ future_of (G.table (σ + 1)).slot =
          ap (λ t. cond t (future_of (G.table (σ + 1)).slot) 0) (lt-ltb (σ + 1) G.attached more) in
          let now : future_in env mix G' σ ≡ future_of (tables (σ + 1)).slot =
          ap (λ t. cond t (future_of (tables (σ + 1)).slot) 0) (lt-ltb (σ + 1) (G.attached + 1) (omega (arith, more))) in
          let here = whole.tables.each σ is_there in
          other_word (G.table σ).slot FutureWord here.slot_in tt (λ e. ne (slot_differs σ is_there (cc)))
          ∙ here.future_is ∙ was
          ∙ ap (λ (t : Table). future_of t.slot) (sym (table_same (σ + 1) more)) ∙ sym now
    ]

    old_table : (σ : ℕ) → σ < G.attached → IsThere G σ → TableRight env mix M' G' σ
    old_table σ k is_there =
        let here = whole.tables.each σ is_there in
        TableRight-kept env mix M M' G tables (G.attached + 1) slots page whole attached_kept
        (Slot last FutureWord) (future_of slot) write (table_word-apart G last FutureWord tt) σ k is_there
        (other_word (G.table σ).slot ShapeWord here.slot_in tt (λ e. cc))
        (other_word (G.table σ).slot SeedWord here.slot_in tt (λ e. cc))
        (other_word (G.table σ).slot SerialWord here.slot_in tt (λ e. cc))
        (old_future σ k is_there)
        (placed_kept env mix M M' G tables (G.attached + 1) slots page whole attached_kept (Slot last FutureWord)
        (future_of slot) write (table_word-apart G last FutureWord tt) σ is_there (table_same σ k) (λ p. page_before p σ k))

    -- the new one
    own_word : (w : SlotWord) → IsSlotWord w → M' (Slot slot w) ≡ M (Slot slot w)
    own_word w is = other_word slot w ready.made.has.within is
        (λ e. let same : last ≡ slot = cc in no_table last there.has_slot same)

    -- its pages are those of which it is made
    own_page : (p : ℕ) → is_page_for shape p ≡ true → page p ≡ PageOf G.attached
    own_page p there = put_in-there (is_page_for shape) (PageOf G.attached) G.page p there

    page_own : (p : ℕ) → page p ≡ PageOf G.attached → is_page_for shape p ≡ true
    page_own = put_in-all (λ p o. o ≡ PageOf G.attached → is_page_for shape p ≡ true) (is_page_for shape)
        (PageOf G.attached) G.page (λ p there is. there)
        (λ p there is. let before = whole.pages.page_of p G.attached is in absurd (omega (arith, before)))

    flat_placed : IsFlatMade env mix shape → IsFlat env mix new page G.attached
    flat_placed made =
        let size = size_of-fits (unpacked shape) made.flat in
        let flat : is_nested shape ≡ false = ap (nat_lt 0) made.flat in
        record {
          flat = made.flat;
          fits = omega (arith, size, made.many, ready.made.fits);
          places = λ b k. ap (λ t. cond t None (Some (64 * (unpacked shape).page + b))) flat;
          pages = λ b k.
              let p = (64 * (unpacked shape).page + b) / 64 in
              own_page p (is_page-for shape p (omega arith) (omega (arith, k, size, made.many)));
          run = λ p is.
              let both = page_for-is shape p (page_own p is) in
              record { from = both.0; below = omega (arith, both.1, made.many) };
          rows = λ p is. ap (λ t. cond t Top Row) flat;
        }

    nested_placed : IsNestedMade env mix shape → IsNested env mix new page G.attached
    nested_placed made =
        let first = (unpacked shape).page in
        let nested : is_nested shape ≡ true = lt-ltb 0 (unpacked shape).nest (omega (arith, made.shaped.nest_is)) in
        let top : (p : ℕ) → new.part p ≡ Top = λ p. ap (λ t. cond t Top Row) nested in
        record {
          shaped = made.shaped;
          top_within = omega (arith, made.one, ready.made.fits);
          top_of = own_page first (is_page-for shape first (omega arith) (omega (arith, made.one)));
          top_part = top first;
          stands = λ p is.
              let both = page_for-is shape p (page_own p is) in
              subst (StandsAs new p) (sym (top p)) (omega (arith, both.0, both.1, made.one));
          leads = λ j p of has entry. absurd (cc);
          places = λ b. ap (λ t. cond t None (Some (64 * first + b))) nested;
        }

    new_placed : PlacedRight env mix new page G.attached
    new_placed = elim ready.made.kind [
      | inl flat ↦ inl (flat_placed flat)
      | inr nested ↦ inr (nested_placed nested)
    ]

    new_table : TableRight env mix M' G' G.attached
    new_table = record {
      slot_in = subst (λ (t : Table). t.slot < 8) (sym same_new) ready.made.has.within;
      shape_is = ap (λ (t : Table). M' (Slot t.slot ShapeWord)) same_new ∙ own_word ShapeWord tt
          ∙ ready.made.shape_is ∙ sym (ap (λ (t : Table). t.shape) same_new);
      seed_is = ap (λ (t : Table). M' (Slot t.slot SeedWord)) same_new ∙ own_word SeedWord tt
          ∙ ready.seed_is ∙ sym (ap (λ (t : Table). t.seed) same_new);
      serial_is = ap (λ (t : Table). M' (Slot t.slot SerialWord)) same_new ∙ own_word SerialWord tt
          ∙ ready.serial_is ∙ sym (ap (λ (t : Table). t.serial) same_new);
      seeded = ap (λ (t : Table). t.seed) same_new ∙ sym ready.seed_is ∙ ready.made.seeded
          ∙ ap (table_seed env.config.seed) (ready.serial_is ∙ sym (ap (λ (t : Table). t.serial) same_new));
      future_is = ap (λ (t : Table). M' (Slot t.slot FutureWord)) same_new ∙ own_word FutureWord tt
          ∙ ready.made.future_is
          ∙ sym (ap (λ t. cond t (future_of (tables (G.attached + 1)).slot) 0)
          (le-ltb (G.attached + 1) (G.attached + 1) (omega arith)));
      placed = subst (λ t. PlacedRight env mix t page G.attached) (sym same_new) new_placed;
    }

    slot_is : (s : ℕ) → has_table (slots s) ≡ true → SlotIsOf env mix G' s
    slot_is s has = elim (cases_eq s slot) [
      | inl e ↦
          let index : index_at G' s ≡ G.attached = ap (λ i. table_of_slot (slots i)) e ∙ ap table_of_slot live in
          record {
            attached = omega (arith, index);
            slot = ap (λ i. (tables i).slot) index ∙ ap (λ (t : Table). t.slot) same_new ∙ sym e;
          }
      | inr ne ↦
          let owner = put-other G.slot slot (Live G.attached) s ne in
          let index : index_at G' s ≡ index_at G s = ap table_of_slot owner in
          let is = whole.tables.slots s (sym (ap has_table owner) ∙ has) in
          record {
            attached = omega (arith, is.attached, index);
            slot = ap (λ i. (tables i).slot) index
                ∙ ap (λ (t : Table). t.slot) (table_same (index_at G s) is.attached) ∙ is.slot;
          }
    ]

    tables_right : TablesRight env mix M' G'
    tables_right = record {
      current_in = omega (arith, whole.tables.current_in);
      current_is = write.others CurrentTable tt (λ e. cc) ∙ whole.tables.current_is
          ∙ sym (ap (λ (t : Table). t.slot) (table_same G.current whole.tables.current_in));
      force = λ σ from k. elim (cases_eq σ G.attached) [
        | inl e ↦ new_live σ e
        | inr ne ↦
            let before : σ < G.attached = omega (arith, k, ne) in
            let was = whole.tables.force σ from before in
            ap (λ (t : Table). slots t.slot) (table_same σ before)
            ∙ attached_kept.slots (G.table σ).slot (ap has_table was) ∙ was
      ];
      each = λ σ now. elim (cases_eq σ G.attached) [
        | inl e ↦ subst (TableRight env mix M' G') (sym e) new_table
        | inr ne ↦
            let of = (slot_is (tables σ).slot now.has_slot).attached in
            let before : σ < G.attached = omega (arith, of, now.index, ne) in
            old_table σ before (there_before env mix G tables (G.attached + 1) slots page attached_kept σ before now)
      ];
      slots = slot_is;
    }

    -- ---- slots and pages

    slots_right : SlotsRight env mix M' G'
    slots_right = record {
      states = put-all (λ s o. s < 8 → M' (Slot s StateWord) ≡ state_word o) G.slot slot (Live G.attached)
          (λ k. other_word slot StateWord k tt (λ e. cc) ∙ whole.slots.states slot k
          ∙ ap state_word ready.made.has.mine)
          (λ s ne k. other_word s StateWord k tt (λ e. cc) ∙ whole.slots.states s k);
      worker_is = write.others WorkLock tt (λ e. cc) ∙ whole.slots.worker_is;
      retired = λ idle. retired_stay G G' None refl
          (λ s σ is k. live_kept env mix G tables (G.attached + 1) slots page attached_kept s σ is
          (omega (arith, k, whole.tables.current_in))) (whole.slots.retired idle);
      back = λ s c. put-all (λ i o. o ≡ Back c → G.worker ≡ Some c) G.slot slot (Live G.attached) (λ is. absurd (cc))
          (λ i ne is. whole.slots.back i c is) s;
    }

    -- a word that is no bucket's was none before, or was one of the caller's pages
    old_no_bucket : (owner : PageOwner) (j : ℕ) → ((σ : ℕ) → owner ≡ PageOf σ → σ < G.attached)
        → IsNoBucket env mix G' owner j → IsNoBucket env mix G owner j
    old_no_bucket PageFree j within is = tt
    old_no_bucket (PageHeld c) j within is = tt
    old_no_bucket (PageOf σ) j within is =
        subst (λ (t : Table). IsSpareIn t.shape (t.part (j / 64)) j) (table_same σ (within σ refl)) is

    blank_right : (j : ℕ) → IsNoBucket env mix G' (page (j / 64)) j → G.bucket j ≡ blank_bucket
    blank_right j = put_in-all (λ p o. p ≡ j / 64 → IsNoBucket env mix G' o j → G.bucket j ≡ blank_bucket)
        (is_page_for shape) (PageOf G.attached) G.page
        (λ p there same is. whole.pages.blank j (no_table-no_bucket env mix G (G.page (j / 64)) j
        (λ σ of. let z : PageHeld d ≡ PageOf σ = sym (mine p there) ∙ ap G.page same ∙ of in absurd (cc))))
        (λ p there same is. whole.pages.blank j (subst (λ q. IsNoBucket env mix G (G.page q) j) same
        (old_no_bucket (G.page p) j (λ σ of. whole.pages.page_of p σ of) is))) (j / 64) refl

    pages_right : PagesRight env mix M' G'
    pages_right = record {
      bits = put_in-all (λ p o. p < env.geometry.pages
          → (bit_at (M' (PageMap (p / 64))) (p % 64) ≡ 1) ↔ (o ≡ PageFree)) (is_page_for shape)
          (PageOf G.attached) G.page
          (λ p there k.
          let was = whole.pages.bits p k in (
            (λ set. let z : PageHeld d ≡ PageFree = sym (mine p there) ∙ was.0 (sym (bit_same p k) ∙ set) in absurd (cc)),
            (λ e. absurd (cc)),
          ))
          (λ p there k. rw (write.others (PageMap (p / 64)) (omega arith) (λ e. cc)) (whole.pages.bits p k));
      page_of = λ p σ. put_in-all (λ q o. o ≡ PageOf σ → σ < G.attached + 1) (is_page_for shape) (PageOf G.attached)
          G.page (λ q there is. let same : G.attached ≡ σ = cc in omega (arith, same))
          (λ q there is. omega (arith, whole.pages.page_of q σ is)) p;
      there = λ p σ. put_in-all (λ q o. o ≡ PageOf σ → IsThere G' σ) (is_page_for shape) (PageOf G.attached) G.page
          (λ q own is. let same : σ ≡ G.attached = cc in live-there env mix G' σ (new_live σ same))
          (λ q own is. there_kept env mix G tables (G.attached + 1) slots page attached_kept σ (whole.pages.page_of q σ is)
          (whole.pages.there q σ is)) p;
      blank = blank_right;
    }
      where
        bit_same : (p : ℕ) → p < env.geometry.pages
            → bit_at (M' (PageMap (p / 64))) (p % 64) ≡ bit_at (M (PageMap (p / 64))) (p % 64)
        bit_same p k = ap (λ w. bit_at w (p % 64)) (write.others (PageMap (p / 64)) (omega arith) (λ e. cc))

    -- the entries of the new table lead to no page, as their words say
    new_entry : (j : ℕ) → j < 64 * env.geometry.pages → is_page_for shape (j / 64) ≡ true → M' (PageWord j) ≡ 0
    new_entry j l there =
        let own = mine (j / 64) there in
        let plain : is_entry G j ≡ false = ap (λ o. is_entry_of G.table o (j / 64)) own in
        let right = (whole.buckets j l plain).locked in
        let blank = whole.pages.blank j (subst (λ o. IsNoBucket env mix G o j) (sym own) tt) in
        write.others (PageWord j) l (λ e. cc) ∙ right.word_is ∙ ap (λ b. b.plain + lock_bit b.holder) blank

    entry_right : (j σ p : ℕ) → j < 64 * env.geometry.pages → p ≡ j / 64 → page p ≡ PageOf σ
        → has_entries ((tables σ).part p) ≡ true → M' (PageWord j) ≡ entry_word ((tables σ).entry j)
    entry_right j σ p l = put_in-all (λ q o. q ≡ j / 64 → o ≡ PageOf σ → has_entries ((tables σ).part q) ≡ true
        → M' (PageWord j) ≡ entry_word ((tables σ).entry j)) (is_page_for shape) (PageOf G.attached) G.page
        (λ q there at of has.
        let same : G.attached ≡ σ = cc in
        new_entry j l (subst (λ k. is_page_for shape k ≡ true) at there)
        ∙ sym (ap (λ i. entry_word ((tables i).entry j)) (sym same) ∙ ap (λ (t : Table). entry_word (t.entry j)) same_new))
        (λ q there at of has.
        let was : G.page (j / 64) ≡ PageOf σ = ap G.page (sym at) ∙ of in
        let before = whole.pages.page_of q σ of in
        let now : table_at G' j ≡ σ = ap table_of_page (attached_kept.pages (j / 64) σ was) in
        entry_word-kept env mix M M' G tables (G.attached + 1) slots page whole attached_kept (Slot last FutureWord)
        (future_of slot) write (table_word-apart G last FutureWord tt) j σ l was (table_same σ before)
        (ap (λ k. has_entries ((tables σ).part k)) (sym at) ∙ has) (λ e. cc)
        ∙ ap (λ i. entry_word ((tables i).entry j)) now) p

    entries_right : EntriesRight env mix M' G'
    entries_right j l is =
        let in_page = entry_in env mix G' j is in
        entry_right j (table_at G' j) (j / 64) l refl in_page.of in_page.has

    -- ---- the move

    attached_whole : Whole env mix M' G'
    attached_whole = Whole-retabled env mix M M' G tables (G.attached + 1) slots page whole attached_kept
        (Slot last FutureWord) (future_of slot) write (table_word-apart G last FutureWord tt) tables_right slots_right
        pages_right entries_right

    attached_others : Others env mix d M G M' G'
    attached_others c ne = Rely-retabled env mix M M' G tables (G.attached + 1) slots page whole attached_kept
        (Slot last FutureWord) (future_of slot) write (table_word-apart G last FutureWord tt) c (record {
          slots = λ s is. put-other G.slot slot (Live G.attached) s
              (λ e. held_by_two c d ne (G.slot slot) (ap slot_holder ready.made.has.mine)
              (ap (λ i. slot_holder (G.slot i)) (sym e) ∙ is));
          slot_words = λ s w has is. other_word s w has.within is (λ e.
              let same : s ≡ last = cc in
              let z : true ≡ false = sym there.has_slot ∙ ap (λ i. has_table (G.slot i)) (sym same)
              ∙ ap has_table has.mine in cc);
          no_slot = put-all (λ s o. slot_holder o ≡ Some c → slot_holder (G.slot s) ≡ Some c) G.slot slot (Live G.attached)
              (λ is. absurd (cc)) (λ s other is. is);
          pages = λ p. put_in-all (λ q o. G.page q ≡ PageHeld c → o ≡ PageHeld c) (is_page_for shape)
              (PageOf G.attached) G.page
              (λ q there is. let z : PageHeld d ≡ PageHeld c = sym (mine q there) ∙ is in absurd (ne (cc)))
              (λ q there is. is) p;
          no_page = λ p. put_in-all (λ q o. o ≡ PageHeld c → G.page q ≡ PageHeld c) (is_page_for shape)
              (PageOf G.attached) G.page (λ q there is. absurd (cc)) (λ q there is. is) p;
        })

    pub attach : Made env mix d M G M' G'
    attach = record {
      whole = attached_whole;
      others = attached_others;
      stale = stale_write env mix M M' G G' (Slot (G.table τ).slot FutureWord) (future_of slot) write
          (same_owners env mix G G' refl) (λ n u f e. cc) (λ n u f e. cc);
    }
