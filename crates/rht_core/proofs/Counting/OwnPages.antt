-- A table that is in force, or retired, has its pages for itself: by the words a page is one of its own exactly where the ghost says so, which
-- has one owner for each page.
use Rattle.std.proofs.Common.{◌≡◌, ◌≢◌, ℕ, true, List, refl, sym, ◌∙◌, ap, subst, inl, inr, arith}
use Rattle.rht_words.specs.declared.env.Env.{Env}
use Rattle.rht_core.specs.Runs.{run_of}
use Rattle.rht_core.specs.Counts.{IsPageOfSlot}
use Rattle.rht_core.specs.Placed.{HasItsPages, ArePagesOwn, OwnPages}
use Rattle.rht_core.specs.TablePages.{IsPageOfTable}
use Rattle.rht_stands.specs.StandsFor.{shape_of}
use Rattle.rht_ghost.proofs.Theory.Ghosts.{SlotOwner, SlotFree, SlotHeld, Live, Retiring, Retired, Back, PageOf, Ghost, has_table, index_at, lock_bit, state_word, table_of_page}
use Rattle.rht_ghost.proofs.Theory.Wholes.{Whole, force-there, slot-there}
use Rattle.rht_ghost.proofs.Theory.Entries.{page_within}
use Rattle.rht_ghost.proofs.Theory.Steps.{mem}
use Rattle.rht_core.proofs.Events.InvariantRuns.{has_inv}
use Rattle.rht_core.proofs.Meaning.TablesInForce.{in_force_is}
use Rattle.rht_core.proofs.Counting.RestingBuckets.{IsTableIn}
use Rattle.rht_core.proofs.Counting.TablePages.{pages_in_words}

-- a slot that is retired, and whose table nobody gives back, has a table
retired_has : (o : SlotOwner) → ((c : ℕ) → o ≢ Back c) → state_word o ≡ 2 → has_table o ≡ true
retired_has SlotFree none is = absurd (cc)
retired_has (SlotHeld c) none is = absurd (cc)
retired_has (Live τ) none is = refl
retired_has (Retiring τ) none is = refl
retired_has (Retired τ) none is = refl
retired_has (Back c) none is = absurd (none c refl)

module _ (env : Env) (mix : ℕ → ℕ → ℕ → ℕ) (words : List ℕ) (G : Ghost) (whole : Whole env mix (mem env mix words) G) where
  -- such a table was attached
  own_table : (slot : ℕ) → HasItsPages env.geometry words slot → IsTableIn env mix words G whole slot
  own_table slot (inl i) =
      let is = in_force_is env mix words G whole slot i in
      let there = force-there env mix whole.tables is.table is.current is.attached in
      record { table = is.table; attached = is.attached; there = there; slot_is = is.slot_is }
  own_table slot (inr (low, retired, free)) =
      let has = retired_has (G.slot slot) (λ c back.
      let locked : 0 ≡ 1 = sym free ∙ whole.slots.worker_is ∙ ap lock_bit (whole.slots.back slot c back) in omega (arith, locked))
      (sym (whole.slots.states slot low) ∙ retired) in
      let is = whole.tables.slots slot has in
      let there = slot-there env mix whole.tables slot has in
      record { table = index_at G slot; attached = is.attached; there = there; slot_is = sym is.slot }

  -- so by the ghost a page of it is its own
  page_owner : (slot page : ℕ) → (has : IsTableIn env mix words G whole slot) → IsPageOfSlot env.geometry words slot page
      → G.page page ≡ PageOf has.table
  page_owner slot page has is =
      let shape : shape_of env.geometry words slot ≡ (G.table has.table).shape =
      ap (shape_of env.geometry words) has.slot_is ∙ (whole.tables.each has.table has.there).shape_is in
      (pages_in_words env mix words G whole has.table has.there page).0
      (subst (λ s. IsPageOfTable env.geometry words s page) shape is)

  pub pages_own : ArePagesOwn env.geometry words
  pages_own = record {
    taken = λ slot page has is free.
        let in_slot = own_table slot has in
        let of = page_owner slot page in_slot is in
        let within = page_within env mix (G.table in_slot.table) G.page in_slot.table
        (whole.tables.each in_slot.table in_slot.there).placed page of in
        let both = sym ((whole.pages.bits page within).0 free) ∙ of in cc;
    apart = λ one other page has_one has_other of_one of_other.
        let first = own_table one has_one in
        let second = own_table other has_other in
        let same : first.table ≡ second.table =
        ap table_of_page (sym (page_owner one page first of_one) ∙ page_owner other page second of_other) in
        first.slot_is ∙ ap (λ τ. (G.table τ).slot) same ∙ sym second.slot_is;
  }

pub own_pages : (M : Type 0) (mix : ℕ → ℕ → ℕ → ℕ) → OwnPages M mix
own_pages M mix env events admitted =
    let has = has_inv env mix M events admitted in
    pages_own env mix (run_of {M = M} mix env events).core.words has.ghost has.inv.whole
