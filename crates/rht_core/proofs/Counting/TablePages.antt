-- The pages of a table, as the words have them, are those that the ghost gives it: the run of a flat one, and in a nested one the top page
-- and those to which entries lead.
use Rattle.std.proofs.Common.{◌≡◌, ◌↔◌, ℕ, ◌+◌, ◌-◌, ◌*◌, ◌/◌, ◌%◌, ◌^◌, ◌<◌, ◌≤◌, cond, min, List, Bool, true, false, Option, Some, None, refl, sym, ◌∙◌, ap, subst, inl, inr, arith}
use Rattle.std.proofs.lemmas.Bool.{lt-ltb, le-ltb, both_ways}
use Rattle.std.proofs.lemmas.Nat.{mod_below}
use Rattle.rht_words.specs.declared.env.Env.{Env}
use Rattle.rht_words.specs.declared.geometry.Geometry.{Geometry}
use Rattle.rht_words.specs.Members.{In}
use Rattle.rht_words.specs.Links.{page_of}
use Rattle.rht_words.specs.Places.{PageWord}
use Rattle.rht_words.specs.Shapes.{unpacked, size_of}
use Rattle.rht_words.proofs.Members.{In-range_with_len, range_with_len-In}
use Rattle.rht_words.proofs.ShapeSizes.{IsSizeUpTo-size_of}
use Rattle.rht_nest.specs.Place.{is_deep, top_page, top_entries}
use Rattle.rht_nest.specs.Tables.{is_nested, run_first, run_pages, pages_of_table}
use Rattle.rht_stands.specs.StandsFor.{page_word}
use Rattle.rht_core.specs.TablePages.{IsEntryOfTable, LeadsOn, IsNestedPage, IsPageOfTable}
use Rattle.rht_ghost.proofs.Theory.Ghosts.{Part, Row, Leaf, Middle, Top, has_entries, Table, PageOwner, PageOf, Ghost, entry_word, none-some}
use Rattle.rht_ghost.proofs.Theory.Ways.{first_page, entries_in, behind_top, StandsAs}
use Rattle.rht_ghost.proofs.Theory.Wholes.{pages_of, IsFlat, IsNested, Whole, IsThere}
use Rattle.rht_ghost.proofs.Theory.Entries.{few_entries, some_entries, word_leads, top_leads}
use Rattle.rht_ghost.proofs.Theory.PlacesRead.{entry_read}
use Rattle.rht_words.proofs.FilteredLists.{range_with_len-from}
use Rattle.rht_ghost.proofs.Theory.Steps.{mem}
use Rattle.rht_core.proofs.Undoing.EnteredWords.{entries_read}

module _ (env : Env) (mix : ℕ → ℕ → ℕ → ℕ) (words : List ℕ) where
  abbrev g : Geometry
  g = env.geometry

  -- ---- a flat table

  module _ (table : Table) (page : ℕ → PageOwner) (τ : ℕ) (flat : IsFlat env mix table page τ) where
    first_is : run_first g table.shape ≡ first_page table.shape
    first_is =
        let least = (IsSizeUpTo-size_of (unpacked table.shape)).least in
        let fits = flat.fits in omega (arith, fits, least)

    flat_kind : is_nested table.shape ≡ false
    flat_kind = let is = flat.flat in le-ltb 0 (unpacked table.shape).nest (omega (arith, is))

    many_is : run_pages g table.shape ≡ pages_of env mix table.shape
    many_is =
        let least = (IsSizeUpTo-size_of (unpacked table.shape)).least in
        let fits = flat.fits in
        let first = first_is in
        ap (λ t. min (cond t 1 (pages_of env mix table.shape)) (g.pages - run_first g table.shape)) flat_kind
        ∙ omega (arith, fits, least, first)

    -- a page of the run has a bucket's word, so it is the table's
    flat_of : (p : ℕ) → first_page table.shape ≤ p → p < first_page table.shape + pages_of env mix table.shape → page p ≡ PageOf τ
    flat_of p from below =
        let shape = unpacked table.shape in
        let least = (IsSizeUpTo-size_of shape).least in
        let b = 64 * (p - first_page table.shape) in
        let within : b < size_of shape = omega (arith, from, below, least) in
        let same : (64 * first_page table.shape + b) / 64 ≡ p = omega (arith, from) in
        subst (λ q. page q ≡ PageOf τ) same (flat.pages b within)

    flat_pages : (p : ℕ) → In p (pages_of_table g table.shape) ↔ (page p ≡ PageOf τ)
    flat_pages p =
        let first = first_is in
        let many = many_is in (
          λ i.
              let from = range_with_len-from (run_first g table.shape) (run_pages g table.shape) p i in
              let until = range_with_len-In (run_first g table.shape) (run_pages g table.shape) p i in
              flat_of p (omega (arith, from, first)) (omega (arith, until, first, many)),
          λ of.
              let run = flat.run p of in
              let from = run.from in
              let below = run.below in
              In-range_with_len (run_first g table.shape) (run_pages g table.shape) p (omega (arith, first, from))
              (omega (arith, first, many, below)),
        )

  -- ---- a nested one

  module _ (table : Table) (page : ℕ → PageOwner) (τ : ℕ) (nested : IsNested env mix table page τ)
      (reads : (j : ℕ) → page (j / 64) ≡ PageOf τ → has_entries (table.part (j / 64)) ≡ true
      → mem env mix words (PageWord j) ≡ entry_word (table.entry j)) where
    abbrev shape : ℕ
    shape = table.shape

    abbrev N : ℕ
    N = entries_in shape

    pub top_is : top_page g shape ≡ first_page shape
    top_is = omega (arith, nested.top_within)

    pub many_entries : top_entries shape ≡ N
    many_entries = ap (λ n. 2 ^ n) (omega (arith, nested.shaped.nest_is))

    nested_kind : is_nested shape ≡ true
    nested_kind = let is = nested.shaped.nest_is in lt-ltb 0 (unpacked shape).nest (omega (arith, is))

    -- an entry of a page of entries leads where its word does
    pub read_of : (part : Part) (q index : ℕ) → index < 64 → page q ≡ PageOf τ → table.part q ≡ part → has_entries part ≡ true
        → page_of g.pages (page_word g words (64 * q + index)) ≡ table.entry (64 * q + index)
    read_of part q index l of is has =
        entry_read env mix table page τ (inr nested) (λ j. mem env mix words (PageWord j)) reads nested part q index l of is has

    few : N ≤ 64
    few = few_entries shape nested.shaped

    from_top : (p : ℕ) → (on : LeadsOn g words (top_page g shape) (top_entries shape) p)
        → table.entry (64 * first_page shape + on.index) ≡ Some p
    from_top p on =
        let below = on.below in
        let some = few in
        let many = many_entries in
        sym (read_of Top (first_page shape) on.index (omega (arith, below, some, many)) nested.top_of nested.top_part refl)
        ∙ ap (λ t. page_of g.pages (page_word g words (64 * t + on.index))) (sym top_is) ∙ on.leads

    pub top_leads_to : (low p : ℕ) → low < N → table.entry (64 * first_page shape + low) ≡ Some p
        → LeadsOn g words (top_page g shape) (top_entries shape) p
    top_leads_to low p l entry = record {
      index = low;
      below = let many = many_entries in omega (arith, l, many);
      leads =
          ap (λ t. page_of g.pages (page_word g words (64 * t + low))) top_is
          ∙ read_of Top (first_page shape) low (let some = few in omega (arith, l, some)) nested.top_of nested.top_part refl ∙ entry;
    }

    middle_part : (low q : ℕ) → low < N → is_deep shape ≡ true → table.entry (64 * first_page shape + low) ≡ Some q
        → (page q ≡ PageOf τ) × (table.part q ≡ Middle low)
    middle_part low q l deep entry =
        let lead = top_leads env mix table page τ nested low q l entry in
        (lead.of, lead.part_is ∙ ap (λ t. cond t (Middle low) (Leaf low)) deep)

    nested_of : (p : ℕ) → IsNestedPage g words shape p → page p ≡ PageOf τ
    nested_of p (inl top) = ap page (top ∙ top_is) ∙ nested.top_of
    nested_of p (inr (inl on)) =
        (top_leads env mix table page τ nested on.index p (let l = on.below in let many = many_entries in omega (arith, l, many))
        (from_top p on)).of
    nested_of p (inr (inr over)) =
        let low = over.first.index in
        let q = over.middle in
        let l : low < N = (let k = over.first.below in let many = many_entries in omega (arith, k, many)) in
        let middle = middle_part low q l over.deep (from_top q over.first) in
        let index = over.second.index in
        (word_leads env mix table page τ nested (Middle low) q index p over.second.below middle.0 middle.1 refl
        (sym (read_of (Middle low) q index over.second.below middle.0 middle.1 refl) ∙ over.second.leads)).of

    -- a page of buckets is behind an entry of the top page, or behind one of a page behind that
    leaf_named : (deep : Bool) (low q p : ℕ) → is_deep shape ≡ deep → table.entry (64 * first_page shape + low % N) ≡ Some q
        → cond deep (table.entry (64 * q + low / N % 64)) (Some q) ≡ Some p → IsNestedPage g words shape p
    leaf_named false low q p depth e is =
        inr (inl (top_leads_to (low % N) p (mod_below low N (some_entries shape)) (e ∙ is)))
    leaf_named true low q p depth e is =
        let l = mod_below low N (some_entries shape) in
        let middle = middle_part (low % N) q l depth e in
        inr (inr (record {
          deep = depth;
          middle = q;
          first = top_leads_to (low % N) q l e;
          second = record {
            index = low / N % 64;
            below = omega arith;
            leads = read_of (Middle (low % N)) q (low / N % 64) (omega arith) middle.0 middle.1 refl ∙ is;
          };
        }))

    nested_named : (p : ℕ) → page p ≡ PageOf τ → IsNestedPage g words shape p
    nested_named p of = go (table.part p) (nested.stands p of)
      where
        leaf : (low : ℕ) (entry : Option ℕ) → table.entry (64 * first_page shape + low % N) ≡ entry
            → behind_top table entry (low / N) ≡ Some p → IsNestedPage g words shape p
        leaf low None e is = absurd (none-some refl is)
        leaf low (Some q) e is = leaf_named (is_deep shape) low q p refl e is

        go : (part : Part) → StandsAs table p part → IsNestedPage g words shape p
        go Row at = absurd at
        go (Leaf low) at = leaf low (table.entry (64 * first_page shape + low % N)) refl at.entered
        go (Middle low) at = inr (inl (top_leads_to low p at.below at.entered))
        go Top at = inl (at ∙ sym top_is)

    -- each of its entries is in a page of its own that has entries
    entry_of_nested : (index : ℕ) → IsEntryOfTable g words shape index
        → (page (index / 64) ≡ PageOf τ) × (has_entries (table.part (index / 64)) ≡ true)
    entry_of_nested index of = elim of.entry [
      | inl top ↦ (
        ap page (top.page ∙ top_is) ∙ nested.top_of,
        ap (λ q. has_entries (table.part q)) (top.page ∙ top_is) ∙ ap has_entries nested.top_part,
      )
      | inr lower ↦
          let on = lower.above in
          let l : on.index < N = (let k = on.below in let many = many_entries in omega (arith, k, many)) in
          let middle = middle_part on.index (index / 64) l lower.deep (from_top (index / 64) on) in
          (middle.0, ap has_entries middle.1)
    ]

  -- ---- a table that is there

  -- its entries are in pages of its own that have entries
  pub entry_in_words : (G : Ghost) → Whole env mix (mem env mix words) G → (τ : ℕ) → IsThere G τ → (index : ℕ)
      → IsEntryOfTable g words (G.table τ).shape index
      → (G.page (index / 64) ≡ PageOf τ) × (has_entries ((G.table τ).part (index / 64)) ≡ true)
  entry_in_words G whole τ there index of = elim (whole.tables.each τ there).placed [
    | inl flat ↦ absurd (both_ways (is_nested (G.table τ).shape) (flat_kind (G.table τ) G.page τ flat) of.nested)
    | inr nested ↦
        entry_of_nested (G.table τ) G.page τ nested (entries_read env mix (mem env mix words) G whole τ there) index of
  ]

  pub pages_in_words : (G : Ghost) → Whole env mix (mem env mix words) G → (τ : ℕ) → IsThere G τ → (p : ℕ)
      → IsPageOfTable g words (G.table τ).shape p ↔ (G.page p ≡ PageOf τ)
  pages_in_words G whole τ there p = elim (whole.tables.each τ there).placed [
    | inl flat ↦ (
      λ is. elim is [
        | inl run ↦ (flat_pages (G.table τ) G.page τ flat p).0 run.1
        | inr other ↦ absurd (both_ways (is_nested (G.table τ).shape) (flat_kind (G.table τ) G.page τ flat) other.0)
      ],
      λ of. inl (flat_kind (G.table τ) G.page τ flat, (flat_pages (G.table τ) G.page τ flat p).1 of),
    )
    | inr nested ↦
        let reads = entries_read env mix (mem env mix words) G whole τ there in (
          λ is. elim is [
            | inl other ↦ absurd (both_ways (is_nested (G.table τ).shape) other.0 (nested_kind (G.table τ) G.page τ nested reads))
            | inr named ↦ nested_of (G.table τ) G.page τ nested reads p named.1
          ],
          λ of. inr (nested_kind (G.table τ) G.page τ nested reads, nested_named (G.table τ) G.page τ nested reads p of),
        )
  ]
