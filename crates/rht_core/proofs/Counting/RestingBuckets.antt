-- The words of buckets while no caller holds a lock or a slot: that of a table in a slot that isn't free is unlocked, and that of a
-- retired table is 0.
use Rattle.std.proofs.Common.{◌≡◌, ◌≢◌, ℕ, ◌+◌, ◌%◌, ◌<◌, slice_index, true, List, Option, Some, None, refl, sym, ◌∙◌, ap, subst, inl, inr, arith}
use Rattle.std.specs.Option.{option_map}
use Rattle.std.proofs.lemmas.Bool.{cases_lt}
use Rattle.rht_words.specs.declared.env.Env.{Env}
use Rattle.rht_words.specs.declared.geometry.Geometry.{Geometry}
use Rattle.rht_words.specs.Places.{Slot, StateWord, word_at}
use Rattle.rht_words.specs.Shapes.{unpacked, size_of}
use Rattle.rht_stands.specs.StandsFor.{bucket_in, shape_of}
use Rattle.rht_core.specs.Counts.{HasTable, IsBucketOfSlot}
use Rattle.rht_ghost.proofs.Theory.Ghosts.{SlotOwner, SlotFree, SlotHeld, Live, Retiring, Retired, Back, slot_holder, Bucket, Ghost, has_table, index_at, state_word, lock_bit, some-same}
use Rattle.rht_ghost.proofs.Theory.Wholes.{place_at, Whole, IsThere, force-there, slot-there}
use Rattle.rht_ghost.proofs.Theory.Passed.{place-word, place-bucket}
use Rattle.rht_ghost.proofs.Theory.Entries.{bucket-no_entry}
use Rattle.rht_ghost.proofs.Theory.Steps.{mem}
use Rattle.rht_core.proofs.Meaning.TablesInForce.{in_force_is}
use Rattle.rht_ghost.proofs.Theory.PlacesRead.{placed_in_words}
use Rattle.rht_core.proofs.Returning.RetiredTables.{behind-blank}

-- a slot that isn't free, and that no caller has, has a table
pub state_has : (o : SlotOwner) → ((c : ℕ) → slot_holder o ≢ Some c) → state_word o ≢ 0 → has_table o ≡ true
state_has SlotFree unheld is = absurd (is refl)
state_has (SlotHeld c) unheld is = absurd (unheld c refl)
state_has (Live τ) unheld is = refl
state_has (Retiring τ) unheld is = refl
state_has (Retired τ) unheld is = refl
state_has (Back c) unheld is = absurd (unheld c refl)

-- one with this state word isn't in use
retired_not_live : (o : SlotOwner) (τ : ℕ) → state_word o ≡ 2 → o ≡ Live τ → ⊥
retired_not_live o τ is live = let both = sym is ∙ ap state_word live in cc

-- ---- the words of buckets

module _ (env : Env) (mix : ℕ → ℕ → ℕ → ℕ) (words : List ℕ) (G : Ghost) (whole : Whole env mix (mem env mix words) G) where
  abbrev g : Geometry
  g = env.geometry

  -- the table in a slot was attached, and has the slot
  pub record IsTableIn (slot : ℕ) : Type 0 where
    pub table : ℕ
    pub attached : table < G.attached
    pub there : IsThere G table
    pub slot_is : slot ≡ (G.table table).slot

  -- the word of a bucket is that of one of the words of all pages
  pub record IsWordIn (τ bucket place : ℕ) : Type 0 where
    pub index : ℕ
    pub here : (G.table τ).place bucket ≡ Some index
    pub place_is : place ≡ place_at env mix index

  pub word_in : (slot place : ℕ) (has : IsTableIn slot) (is : IsBucketOfSlot g words slot place)
      → (is.bucket < size_of (unpacked (G.table has.table).shape)) × IsWordIn has.table is.bucket place
  word_in slot place has is = (below, go ((G.table has.table).place is.bucket) refl there)
    where
      shape_is : shape_of g words slot ≡ (G.table has.table).shape
      shape_is = ap (shape_of g words) has.slot_is ∙ (whole.tables.each has.table has.there).shape_is

      below : is.bucket < size_of (unpacked (G.table has.table).shape)
      below = subst (λ s. is.bucket < size_of (unpacked s)) shape_is is.within

      there : option_map (place_at env mix) ((G.table has.table).place is.bucket) ≡ Some place
      there =
          sym (placed_in_words env mix (mem env mix words) G whole has.table is.bucket has.there below)
          ∙ subst (λ s. bucket_in g words s is.bucket ≡ Some place) shape_is is.there

      go : (o : Option ℕ) → (G.table has.table).place is.bucket ≡ o → option_map (place_at env mix) o ≡ Some place
          → IsWordIn has.table is.bucket place
      go None e found = absurd (cc)
      go (Some j) e found = record { index = j; here = e; place_is = sym (some-same (place_at env mix j) place found) }

-- ---- while no caller holds a lock or a slot

module _ (env : Env) (mix : ℕ → ℕ → ℕ → ℕ) (words : List ℕ) (G : Ghost) (whole : Whole env mix (mem env mix words) G)
    (unheld : (c s : ℕ) → slot_holder (G.slot s) ≢ Some c) (unlocked : (c j : ℕ) → (G.bucket j).holder ≢ Some c) where
  nobody : (j : ℕ) → (G.bucket j).holder ≡ None
  nobody j = go (G.bucket j).holder refl
    where
      go : (holder : Option ℕ) → (G.bucket j).holder ≡ holder → (G.bucket j).holder ≡ None
      go None is = is
      go (Some c) is = absurd (unlocked c j is)

  table_in : (slot : ℕ) → HasTable env.geometry words slot → IsTableIn env mix words G whole slot
  table_in slot (inl i) =
      let is = in_force_is env mix words G whole slot i in
      let there = force-there env mix whole.tables is.table is.current is.attached in
      record { table = is.table; attached = is.attached; there = there; slot_is = is.slot_is }
  table_in slot (inr (low, taken)) =
      let has = state_has (G.slot slot) (λ c. unheld c slot) (λ e. taken (whole.slots.states slot low ∙ e)) in
      let is = whole.tables.slots slot has in
      let there = slot-there env mix whole.tables slot has in
      record { table = index_at G slot; attached = is.attached; there = there; slot_is = sym is.slot }

  -- the word of a bucket has its plain part alone
  plain_word : (τ bucket place : ℕ) → IsThere G τ → bucket < size_of (unpacked (G.table τ).shape)
      → (word : IsWordIn env mix words G whole τ bucket place)
      → (slice_index words place ≡ (G.bucket word.index).plain) × ((G.bucket word.index).plain % 2 ≡ 0)
  plain_word τ bucket place is_there below word =
      let j = word.index in
      let within = (place-word env mix (mem env mix words) G whole τ bucket j is_there below word.here).within in
      let plain = bucket-no_entry env mix G j (place-bucket env mix (mem env mix words) G whole τ bucket j is_there below word.here) in
      let right = (whole.buckets j within plain).locked in
      let free : (G.bucket j).plain + lock_bit (G.bucket j).holder ≡ (G.bucket j).plain =
      ap (λ h. (G.bucket j).plain + lock_bit h) (nobody j) ∙ omega arith in (
        ap (slice_index words) word.place_is ∙ right.word_is ∙ free,
        right.even,
      )

  pub bucket_unlocked : (slot place : ℕ) → HasTable env.geometry words slot → IsBucketOfSlot env.geometry words slot place
      → slice_index words place % 2 ≡ 0
  bucket_unlocked slot place has is =
      let in_slot = table_in slot has in
      let word = word_in env mix words G whole slot place in_slot is in
      let plain = plain_word in_slot.table is.bucket place in_slot.there word.0 word.1 in
      ap (λ w. w % 2) plain.0 ∙ plain.1

  pub bucket_emptied : (slot place : ℕ) → slot < 8 → word_at env.geometry words (Slot slot StateWord) ≡ 2
      → IsBucketOfSlot env.geometry words slot place → slice_index words place ≡ 0
  bucket_emptied slot place low retired is =
      let in_slot = table_in slot (inr (low, λ e. let both = sym retired ∙ e in cc)) in
      let τ = in_slot.table in
      let word = word_in env mix words G whole slot place in_slot is in
      let plain = plain_word τ is.bucket place in_slot.there word.0 word.1 in
      let state : state_word (G.slot slot) ≡ 2 = sym (whole.slots.states slot low) ∙ retired in
      let behind : τ < G.current = elim (cases_lt τ G.current) [
        | inl before ↦ before
        | inr from ↦ absurd (retired_not_live (G.slot slot) τ state (ap G.slot in_slot.slot_is ∙ whole.tables.force τ from in_slot.attached))
      ] in
      plain.0
      ∙ ap (λ (b : Bucket). b.plain)
      (behind-blank env mix (mem env mix words) G whole τ is.bucket word.1.index behind in_slot.there word.0 word.1.here
      (nobody word.1.index))
