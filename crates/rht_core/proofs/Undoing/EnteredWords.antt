-- What the words say of an entry behind which a page is entered: the way to some bucket of its table ends there. No word of a bucket is
-- such an entry.
use Rattle.std.proofs.Common.{◌≡◌, ℕ, ◌/◌, ◌<◌, List, Some, true, false, sym, ◌∙◌, ap, subst, inl, inr, arith}
use Rattle.std.proofs.lemmas.Bool.{lt-ltb, le-ltb, both_ways}
use Rattle.rht_words.specs.declared.env.Env.{Env}
use Rattle.rht_words.specs.Places.{Slot, ShapeWord, PageWord}
use Rattle.rht_words.specs.Shapes.{unpacked, size_of}
use Rattle.rht_words.proofs.Memory.{Memory}
use Rattle.rht_nest.specs.Place.{nested_place, missing_at}
use Rattle.rht_nest.specs.Tables.{is_nested}
use Rattle.rht_core.specs.Traces.{Did}
use Rattle.rht_core.specs.Seen.{CameTo}
use Rattle.rht_core.specs.Refused.{IsMissingEntry, IsWaysEnd}
use Rattle.rht_ghost.proofs.Theory.Ghosts.{PageOf, has_entries, Ghost, is_entry, is_entry_of, entry_word, table_of_page, table_at}
use Rattle.rht_ghost.proofs.Theory.Wholes.{IsNested, Whole, IsThere, IsAt, at-there}
use Rattle.rht_ghost.proofs.Theory.Entries.{page_within, entry_in, entry_nested}
use Rattle.rht_ghost.proofs.Theory.MissingEntries.{missed_at, ends_at_entry}
use Rattle.rht_ghost.proofs.Theory.Readiness.{IsEntering}
use Rattle.rht_ghost.proofs.Theory.Steps.{mem}

module _ (env : Env) (mix : ℕ → ℕ → ℕ → ℕ) where
  -- entries of a table lead where their words do
  pub entries_read : (M : Memory) (G : Ghost) → Whole env mix M G → (τ : ℕ) → IsThere G τ
      → (j : ℕ) → G.page (j / 64) ≡ PageOf τ → has_entries ((G.table τ).part (j / 64)) ≡ true
      → M (PageWord j) ≡ entry_word ((G.table τ).entry j)
  entries_read M G whole τ there j of has =
      let within = page_within env mix (G.table τ) G.page τ (whole.tables.each τ there).placed (j / 64) of in
      let is : is_entry G j ≡ true = ap (λ o. is_entry_of G.table o (j / 64)) of ∙ has in
      whole.entries j (omega (arith, within)) is
      ∙ ap (λ o. entry_word ((G.table (table_of_page o)).entry j)) of

  -- the entry behind which a page is entered, by a call that came to its table
  pub entering_missing : (d j p : ℕ) (words : List ℕ) (G : Ghost) (steps : List Did) → Whole env mix (mem env mix words) G
      → IsEntering env mix d j p G → mem env mix words (PageWord j) ≡ 0
      → CameTo env.geometry (G.table (table_at G j)).slot steps → IsMissingEntry env.geometry words j steps
  entering_missing d j p words G steps whole ready unset came =
      let M = mem env mix words in
      let at = entry_in env mix G j ready.entry in
      let τ = table_at G j in
      let table = G.table τ in
      let there = whole.pages.there (j / 64) τ at.of in
      let right = whole.tables.each τ there in
      let nested : IsNested env mix table G.page τ = entry_nested env mix M G whole j at in
      let missed = missed_at env mix table G.page τ nested (λ i. M (PageWord i))
      (entries_read M G whole τ there) j unset at.of ready.used in
      let shape = right.shape_is in
      record {
        table = table.slot;
        table_in = right.slot_in;
        came = came;
        way = record {
          nested = subst (λ s. is_nested s ≡ true) (sym shape)
              (lt-ltb 0 (unpacked table.shape).nest (let is = nested.shaped.nest_is in omega (arith, is)));
          bucket = missed.bucket;
          within = subst (λ s. missed.bucket < size_of (unpacked s)) (sym shape) missed.within;
          ends = subst (λ s. missing_at (λ i. M (PageWord i)) (nested_place env.geometry s missed.bucket) ≡ Some j) (sym shape)
              missed.ends;
        };
      }

  -- an entry of a table that was attached at which a way ends is none of a bucket's words
  pub missing_is_entry : (words : List ℕ) (G : Ghost) → Whole env mix (mem env mix words) G → (j slot : ℕ)
      → IsWaysEnd env.geometry words slot j → IsAt G slot → is_entry G j ≡ true
  missing_is_entry words G whole j slot way at_slot =
      let M = mem env mix words in
      let τ = at_slot.table in
      let table = G.table τ in
      let there = at-there at_slot in
      let right = whole.tables.each τ there in
      let shape : M (Slot slot ShapeWord) ≡ table.shape =
      ap (λ s. M (Slot s ShapeWord)) (sym at_slot.slot_is) ∙ right.shape_is in
      elim right.placed [
        | inl flat ↦
            let is : is_nested table.shape ≡ true = sym (ap is_nested shape) ∙ way.nested in
            let none : is_nested table.shape ≡ false = le-ltb 0 (unpacked table.shape).nest (let f = flat.flat in omega (arith, f)) in
            absurd (both_ways (is_nested table.shape) none is)
        | inr nested ↦
            let at = ends_at_entry env mix table G.page τ nested (λ i. M (PageWord i)) (entries_read M G whole τ there)
            way.bucket j
            (subst (λ s. missing_at (λ i. M (PageWord i)) (nested_place env.geometry s way.bucket) ≡ Some j) shape way.ends) in
            ap (λ o. is_entry_of G.table o (j / 64)) at.of ∙ at.has
      ]
