-- What loads of a table's words tell, and of the entries on the way to a port's bucket there, whoever makes them. They tell it of any table
-- that is known by its slot, whatever the caller knows of those before.
use Rattle.std.proofs.Common.{◌≡◌, ℕ, ◌+◌, ◌<◌, Option, Some, None, true, false, cond, refl, sym, ◌∙◌, ap, subst, inl, inr, arith}
use Rattle.std.specs.Option.{option_map}
use Rattle.std.proofs.lemmas.Bool.{lt-ltb, cases_lt, le-ltb}
use Rattle.std.proofs.lemmas.Bool.Decides.{nat_tests}
use Rattle.rht_words.specs.declared.env.Env.{Env}
use Rattle.rht_words.specs.declared.machine.Start.TheVariants as starts
use Rattle.rht_words.specs.Links.{slot_of, future_of, page_of}
use Rattle.rht_words.specs.Places.{Slot, SlotWord, ShapeWord, SeedWord, FutureWord, PageWord}
use Rattle.rht_words.proofs.Memory.{Memory}
use Rattle.rht_policy.specs.Mix.{bucket_of}
use Rattle.rht_nest.specs.Tables.{is_nested}
use Rattle.rht_nest.specs.Place.{PlaceModel, flat_place, nested_place, entered, place_or_last}
use Rattle.rht_ghost.proofs.Theory.Ghosts.{Ghost}
use Rattle.rht_ghost.proofs.Theory.Wholes.{IsThere, IsAt, at-there, at-right, Whole, hash_in, home, place_at, future_in}
use Rattle.rht_ghost.proofs.Theory.Knowledge.{IsRightBehind, IsWayTo}
use Rattle.rht_ghost.proofs.Theory.WaysRead.{words_of_pages, read_by_entry, home_flat, on_way_read, missing_home}

module _ (env : Env) (mix : ℕ → ℕ → ℕ → ℕ) (M : Memory) (G : Ghost) (whole : Whole env mix M G) where
  -- ---- the table that a slot has, and what its words say

  slot_word : (slot : ℕ) (w : SlotWord) (at : IsAt G slot) → M (Slot slot w) ≡ M (Slot (G.table at.table).slot w)
  slot_word slot w at = ap (λ s. M (Slot s w)) (sym at.slot_is)

  pub shape_word : (slot : ℕ) (at : IsAt G slot) → M (Slot slot ShapeWord) ≡ (G.table at.table).shape
  shape_word slot at = slot_word slot ShapeWord at ∙ (at-right env mix whole.tables slot at).shape_is

  pub seed_word : (slot : ℕ) (at : IsAt G slot) → M (Slot slot SeedWord) ≡ (G.table at.table).seed
  seed_word slot at = slot_word slot SeedWord at ∙ (at-right env mix whole.tables slot at).seed_is

  pub future_word : (slot : ℕ) (at : IsAt G slot) → M (Slot slot FutureWord) ≡ future_in env mix G at.table
  future_word slot at = slot_word slot FutureWord at ∙ (at-right env mix whole.tables slot at).future_is

  -- ---- by its future

  slot_named : (next : ℕ) → next < 8 → slot_of (future_of next) ≡ Some next
  slot_named next l = grind (arith, nat_tests)

  -- it leads to no table, which is the last one then, or to the table right behind
  abbrev pub LeadsBehind : ℕ → Option ℕ → Type 0
  LeadsBehind τ None = τ + 1 ≡ G.attached
  LeadsBehind τ (Some next) = IsRightBehind env mix G τ next

  pub future_leads : (slot : ℕ) (at : IsAt G slot) → LeadsBehind at.table (slot_of (M (Slot slot FutureWord)))
  future_leads slot at =
      let τ = at.table in
      rw (future_word slot at) (elim (cases_lt (τ + 1) G.attached) [
        | inl more ↦
            let right = whole.tables.each (τ + 1) (at.on (τ + 1) (omega arith) more) in
            let next = (G.table (τ + 1)).slot in
            let is : slot_of (future_in env mix G τ) ≡ Some next =
            ap (λ t. slot_of (cond t (future_of next) 0)) (lt-ltb (τ + 1) G.attached more)
            ∙ slot_named next right.slot_in in
            subst (LeadsBehind τ) (sym is) (record { attached = more; slot_is = refl })
        | inr last ↦
            let is : slot_of (future_in env mix G τ) ≡ None =
            ap (λ t. slot_of (cond t (future_of (G.table (τ + 1)).slot) 0)) (le-ltb (τ + 1) G.attached last) in
            subst (LeadsBehind τ) (sym is) (omega (arith, at.attached, last))
      ])

  module _ (port slot : ℕ) (at : IsAt G slot) where
    abbrev τ : ℕ
    τ = at.table

    is_there : IsThere G τ
    is_there = at-there at

    -- ---- by its shape and its seed

    module _ (shape : ℕ) (shape_is : (G.table τ).shape ≡ shape) where
      -- the number of the port's bucket, as it is loaded
      abbrev loaded_number : ℕ
      loaded_number = bucket_of mix port shape (M (Slot slot SeedWord))

      number_is : loaded_number ≡ hash_in env mix G port τ
      number_is =
          ap (λ s. bucket_of mix port s (M (Slot slot SeedWord))) (sym shape_is)
          ∙ ap (bucket_of mix port (G.table τ).shape) (seed_word slot at)

      -- where the table is nested the way begins
      pub way_begins : is_nested shape ≡ true → IsWayTo env mix G port τ (nested_place env.geometry shape loaded_number)
      way_begins nested = record {
        nested = ap is_nested shape_is ∙ nested;
        way = inl (ap (nested_place env.geometry shape) number_is
            ∙ ap (λ s. nested_place env.geometry s (hash_in env mix G port τ)) (sym shape_is));
      }

      -- and where it is flat there is the bucket
      pub flat_home : is_nested shape ≡ false
          → option_map (place_at env mix) (home env mix G port τ) ≡ Some (flat_place env.geometry shape loaded_number)
      flat_home flat =
          home_flat env mix M G whole port τ is_there (ap is_nested shape_is ∙ flat)
          ∙ ap (λ s. Some (flat_place env.geometry s (hash_in env mix G port τ))) shape_is
          ∙ ap (λ b. Some (flat_place env.geometry shape b)) (sym number_is)

    -- ---- by the entry at which the way stands

    module _ (place : PlaceModel) (same : place.geometry ≡ env.geometry) (to : IsWayTo env mix G port τ place) where
      -- one that leads to no page: the bucket is missing
      pub way_missing : page_of env.geometry.pages (M (PageWord place.entry)) ≡ None → home env mix G port τ ≡ None
      way_missing none =
          missing_home env mix (home env mix G port τ)
          (sym (on_way_read env mix M G whole port τ is_there place to)
          ∙ read_by_entry (words_of_pages M) place env.geometry None same none)

      -- one that leads to the page of the bucket's word
      pub way_home : (page there : ℕ) → page_of env.geometry.pages (M (PageWord place.entry)) ≡ Some page
          → entered place page ≡ starts.Done there
          → option_map (place_at env mix) (home env mix G port τ) ≡ Some there
      way_home page there leads e =
          sym (on_way_read env mix M G whole port τ is_there place to)
          ∙ read_by_entry (words_of_pages M) place env.geometry (Some page) same leads
          ∙ ap (place_or_last (words_of_pages M)) e
