-- Where tables stay what they are, and slots alone change, or pages that no table has, all tables are right, and all pages.
use Rattle.std.proofs.Common.{◌≡◌, ◌≢◌, ℕ, ◌/◌, true, refl, sym, ◌∙◌, ap, arith}
use Rattle.rht_words.specs.declared.env.Env.{Env}
use Rattle.rht_words.specs.Places.{Address, CurrentTable, Slot, SlotWord, IsSlotWord, ShapeWord, SeedWord, FutureWord, SerialWord, PageMap}
use Rattle.rht_words.proofs.Memory.{Memory, IsWrite}
use Rattle.rht_ghost.proofs.Theory.Ghosts.{PageOwner, PageOf, SlotOwner, Ghost, table_of_slot, has_table, index_at}
use Rattle.rht_ghost.proofs.Theory.Wholes.{TablesRight, PagesRight, Whole, IsThere, there-attached}
use Rattle.rht_ghost.proofs.Theory.WholeFrames.{IsApart, no_bucket}
use Rattle.rht_ghost.proofs.Theory.TableFrames.{IsNoBucketWord, retabled, TablesKept, there_kept, TableRight-kept, placed_kept}

module _ (env : Env) (mix : ℕ → ℕ → ℕ → ℕ) where
  -- tables that stay are right, where the slots that have tables are those that had them, with the words that they had, and no table
  -- gets a page
  pub TablesRight-kept : (M M' : Memory) (G : Ghost) (slot : ℕ → SlotOwner) (page : ℕ → PageOwner)
      → Whole env mix M G → TablesKept env mix G G.table G.attached slot page → (a : Address) (v : ℕ)
      → IsWrite env.geometry M M' a v → IsNoBucketWord G a → IsApart env mix G a
      → ((s : ℕ) → has_table (slot s) ≡ true → slot s ≡ G.slot s)
      → ((p τ : ℕ) → page p ≡ PageOf τ → G.page p ≡ PageOf τ)
      → TablesRight env mix M' (retabled env mix G G.table G.attached slot page)
  TablesRight-kept M M' G slot page whole kept a v write words apart back pages_back =
      let right = whole.tables in
      record {
        current_in = right.current_in;
        current_is = write.others CurrentTable tt apart.current ∙ right.current_is;
        force = λ τ from l.
            let live = right.force τ from l in kept.slots (G.table τ).slot (ap has_table live) ∙ live;
        each = λ τ now.
            let s = (G.table τ).slot in
            let owner = back s now.has_slot in
            let there : IsThere G τ = record {
              has_slot = sym (ap has_table owner) ∙ now.has_slot;
              index = sym (ap table_of_slot owner) ∙ now.index;
            } in
            let l = there-attached env mix right τ there in
            let here = right.each τ there in
            let same : (w : SlotWord) → IsSlotWord w → M' (Slot s w) ≡ M (Slot s w) =
            λ w is. write.others (Slot s w) (here.slot_in, is) (apart.slots s w there.has_slot) in
            TableRight-kept env mix M M' G G.table G.attached slot page whole kept a v write words τ l there (same ShapeWord tt)
            (same SeedWord tt) (same SerialWord tt) (same FutureWord tt ∙ here.future_is)
            (placed_kept env mix M M' G G.table G.attached slot page whole kept a v write words τ there refl (λ p. pages_back p τ));
        slots = λ s has.
            let owner = back s has in
            let is = right.slots s (sym (ap has_table owner) ∙ has) in
            let index : table_of_slot (slot s) ≡ index_at G s = ap table_of_slot owner in
            record {
              attached = omega (arith, is.attached, index);
              slot = ap (λ τ. (G.table τ).slot) index ∙ is.slot;
            };
      }

  -- and pages are, where only slots change
  pub PagesRight-kept : (M M' : Memory) (G : Ghost) (slot : ℕ → SlotOwner) → TablesKept env mix G G.table G.attached slot G.page
      → (a : Address) (v : ℕ) → IsWrite env.geometry M M' a v → ((i : ℕ) → PageMap i ≢ a) → PagesRight env mix M G
      → PagesRight env mix M' (retabled env mix G G.table G.attached slot G.page)
  PagesRight-kept M M' G slot kept a v write apart right = record {
    bits = λ p l. rw (write.others (PageMap (p / 64)) (omega arith) (apart (p / 64))) (right.bits p l);
    page_of = right.page_of;
    there = λ p τ of. there_kept env mix G G.table G.attached slot G.page kept τ (right.page_of p τ of) (right.there p τ of);
    blank = λ j is. right.blank j
        (no_bucket env mix G (retabled env mix G G.table G.attached slot G.page) refl (G.page (j / 64)) j is);
  }
