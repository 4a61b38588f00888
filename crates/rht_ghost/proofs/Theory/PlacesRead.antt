-- Where the words of entries lead where the ghost says, the place of a bucket's word that the words of the pages say is its place.
use Rattle.std.proofs.Common.{◌≡◌, ℕ, ◌+◌, ◌*◌, ◌/◌, ◌%◌, ◌^◌, ◌<◌, cond, true, false, Option, Some, None, refl, sym, ◌∙◌, ap, subst, inl, inr, arith}
use Rattle.std.specs.Option.{option_map}
use Rattle.std.proofs.lemmas.Bool.{lt-ltb, le-ltb}
use Rattle.std.proofs.lemmas.Nat.{mod_below}
use Rattle.rht_words.specs.declared.env.Env.{Env}
use Rattle.rht_words.specs.declared.geometry.Geometry.{Geometry}
use Rattle.rht_words.specs.declared.machine.Start.TheVariants as starts
use Rattle.rht_words.specs.Links.{page_of}
use Rattle.rht_words.specs.Places.{PageWord}
use Rattle.rht_words.specs.Shapes.{unpacked, size_of}
use Rattle.rht_words.proofs.LinksRead.{entries_come_back}
use Rattle.rht_words.proofs.Memory.{Memory}
use Rattle.rht_nest.specs.Place.{PlaceModel, is_deep, top_page, top_entries, flat_place, nested_place, behind_entry, place_at_once, place_or_last, read_place, place_in}
use Rattle.rht_ghost.proofs.Theory.Ghosts.{Part, Leaf, Middle, Top, has_entries, Table, PageOwner, PageOf, Ghost, is_entry, is_entry_of, entry_word, table_of_page}
use Rattle.rht_ghost.proofs.Theory.LowBits.{low_alone, low_bits, middle_bits, high_bits}
use Rattle.rht_ghost.proofs.Theory.Ways.{first_page, entries_in, leaves_in, behind_top, word_in, IsMiddleAt, StandsAs}
use Rattle.rht_ghost.proofs.Theory.Wholes.{place_at, IsFlat, IsNested, PlacedRight, Whole, IsThere}
use Rattle.rht_ghost.proofs.Theory.Entries.{IsShallow, IsDeep, depth_of, few_entries, some_entries, word_leads, top_leads, page_within}

module _ (env : Env) (mix : ℕ → ℕ → ℕ → ℕ) where
  module _ (table : Table) (page : ℕ → PageOwner) (τ : ℕ) (placed : PlacedRight env mix table page τ) (read : ℕ → ℕ)
      (reads : (j : ℕ) → page (j / 64) ≡ PageOf τ → has_entries (table.part (j / 64)) ≡ true
      → read j ≡ entry_word (table.entry j)) where
    abbrev g : Geometry
    g = env.geometry

    -- an entry of a page leads where its word does
    pub entry_read : (nested : IsNested env mix table page τ) (part : Part) (q index : ℕ) → index < 64 → page q ≡ PageOf τ
        → table.part q ≡ part → has_entries part ≡ true
        → page_of g.pages (read (64 * q + index)) ≡ table.entry (64 * q + index)
    entry_read nested part q index l of is has =
        let quotient : (64 * q + index) / 64 ≡ q = omega arith in
        ap (page_of g.pages) (reads (64 * q + index) (ap page quotient ∙ of)
        (ap (λ k. has_entries (table.part k)) quotient ∙ ap has_entries is ∙ has))
        ∙ go (table.entry (64 * q + index)) refl
      where
        go : (entry : Option ℕ) → table.entry (64 * q + index) ≡ entry → page_of g.pages (entry_word entry) ≡ entry
        go None e = refl
        go (Some p) e =
            let behind = word_leads env mix table page τ nested part q index p l of is has e in
            entries_come_back.entry_names g.pages p behind.within

    module _ (nested : IsNested env mix table page τ) (b : ℕ) where
      abbrev top : ℕ
      top = first_page table.shape

      abbrev low : ℕ
      low = b % entries_in table.shape

      abbrev high : ℕ
      high = b / entries_in table.shape

      -- the machine at the entry of the top page with which the way begins, and behind one that leads to a page of entries
      abbrev pub at_top : PlaceModel
      at_top = record { geometry = g; entry = 64 * top + low; rest = high; deep = is_deep table.shape }

      abbrev pub at_middle : ℕ → PlaceModel
      at_middle q = record { geometry = g; entry = 64 * q + high % 64; rest = high / 64; deep = false }

      pub begins_at_top : nested_place g table.shape b ≡ at_top
      begins_at_top =
          let page_is : top_page g table.shape ≡ top = omega (arith, nested.top_within) in
          let entries_are : top_entries table.shape ≡ entries_in table.shape =
          ap (λ n. 2 ^ n) (omega (arith, nested.shaped.nest_is)) in
          ap (λ p. record {
            geometry = g;
            entry = 64 * p + b % top_entries table.shape;
            rest = b / top_entries table.shape;
            deep = is_deep table.shape;
          }) page_is
          ∙ ap (λ n. record { geometry = g; entry = 64 * top + b % n; rest = b / n; deep = is_deep table.shape }) entries_are

      -- what the ghost has behind an entry of the top page
      abbrev behind : Option ℕ → Option ℕ
      behind entry = option_map (place_at env mix)
          (word_in (behind_top table entry (b % leaves_in table.shape / entries_in table.shape)) (b / leaves_in table.shape))

      shallow_behind : IsShallow table.shape → (entry : Option ℕ)
          → behind_entry (place_or_last read) at_top entry ≡ behind entry
      shallow_behind shallow None = refl
      shallow_behind shallow (Some q) =
          ap (λ t. place_or_last read (cond t (starts.Running (at_middle q)) (starts.Done (place_at env mix (64 * q + high % 64)))))
          shallow.depth
          ∙ ap (λ n. Some (place_at env mix (64 * q + b / n % 64))) (sym shallow.leaves)
          ∙ ap (λ t. option_map (place_at env mix) (word_in
          (cond t (table.entry (64 * q + b % leaves_in table.shape / entries_in table.shape % 64)) (Some q))
          (b / leaves_in table.shape))) (sym shallow.depth)

      -- the page of buckets behind an entry of a middle page
      leaf_behind : (q : ℕ) (leaf : Option ℕ) → behind_entry place_at_once (at_middle q) leaf
          ≡ option_map (place_at env mix) (word_in leaf (high / 64))
      leaf_behind q None = refl
      leaf_behind q (Some p) = refl

      deep_behind : IsDeep table.shape → (entry : Option ℕ) → table.entry (64 * top + low) ≡ entry
          → behind_entry (place_or_last read) at_top entry ≡ behind entry
      deep_behind deep None e = refl
      deep_behind deep (Some q) e =
          let some = some_entries table.shape in
          let first = top_leads env mix table page τ nested low q (mod_below b (entries_in table.shape) some) e in
          let middle : table.part q ≡ Middle low =
          first.part_is ∙ ap (λ t. cond t (Middle low) (Leaf low)) deep.depth in
          let bits : b % leaves_in table.shape / entries_in table.shape % 64 ≡ high % 64 =
          ap (λ n. b % n / entries_in table.shape % 64) deep.leaves
          ∙ ap (λ k. k % 64) (middle_bits (entries_in table.shape) some b) ∙ omega arith in
          let above : b / leaves_in table.shape ≡ high / 64 =
          ap (λ n. b / n) deep.leaves ∙ high_bits (entries_in table.shape) some b in
          ap (λ t. place_or_last read (cond t (starts.Running (at_middle q)) (starts.Done (place_at env mix (64 * q + high % 64)))))
          deep.depth
          ∙ ap (behind_entry place_at_once (at_middle q))
          (entry_read nested (Middle low) q (high % 64) (omega arith) first.of middle refl)
          ∙ leaf_behind q (table.entry (64 * q + high % 64))
          ∙ ap (λ k. option_map (place_at env mix) (word_in (table.entry (64 * q + high % 64)) k)) (sym above)
          ∙ ap (λ k. option_map (place_at env mix) (word_in (table.entry (64 * q + k)) (b / leaves_in table.shape))) (sym bits)
          ∙ ap (λ t. option_map (place_at env mix) (word_in
          (cond t (table.entry (64 * q + b % leaves_in table.shape / entries_in table.shape % 64)) (Some q))
          (b / leaves_in table.shape))) (sym deep.depth)

      -- the entry with which the way of a bucket begins is that of its low bits
      top_bits : b % leaves_in table.shape % entries_in table.shape ≡ low
      top_bits =
          let some = some_entries table.shape in
          elim (depth_of table.shape nested.shaped) [
            | inl shallow ↦ ap (λ n. b % n % entries_in table.shape) shallow.leaves
                ∙ low_alone (entries_in table.shape) some low (mod_below b (entries_in table.shape) some)
            | inr deep ↦ ap (λ n. b % n % entries_in table.shape) deep.leaves
                ∙ low_bits (entries_in table.shape) some b
          ]

      -- the entry of the top page leads where its word does
      low_in : low < 64
      low_in = omega (
        arith,
        mod_below b (entries_in table.shape) (some_entries table.shape),
        few_entries table.shape nested.shaped,
      )

      top_read : page_of g.pages (read (64 * top + low)) ≡ table.entry (64 * top + low)
      top_read = entry_read nested Top top low low_in nested.top_of nested.top_part refl

      abbrev pub FirstLeadsTo : ℕ → Type 0
      FirstLeadsTo q = page_of g.pages (read (nested_place g table.shape b).entry) ≡ Some q

      pub first_led : (q : ℕ) → FirstLeadsTo q → table.entry (64 * top + low) ≡ Some q
      first_led q is = sym top_read ∙ ap (λ (m : PlaceModel). page_of g.pages (read m.entry)) (sym begins_at_top) ∙ is

      -- in a table with two levels of entries it leads to a page of entries
      pub leads_to_middle : (q : ℕ) → FirstLeadsTo q → is_deep table.shape ≡ true
          → (page q ≡ PageOf τ) × (table.part q ≡ Middle low)
      leads_to_middle q is deep =
          let first = top_leads env mix table page τ nested low q
          (mod_below b (entries_in table.shape) (some_entries table.shape)) (first_led q is) in
          (first.of, first.part_is ∙ ap (λ t. cond t (Middle low) (Leaf low)) deep)

      -- and so does that behind which such a page stands
      pub middle_behind : (q : ℕ) → page q ≡ PageOf τ → table.part q ≡ Middle low → FirstLeadsTo q
      middle_behind q of part =
          let at : IsMiddleAt table low q = subst (StandsAs table q) part (nested.stands q of) in
          ap (λ (m : PlaceModel). page_of g.pages (read m.entry)) begins_at_top ∙ top_read ∙ at.entered

      nested_in_words : place_in read g table.shape b ≡ option_map (place_at env mix) (table.place b)
      nested_in_words =
          let entry = table.entry (64 * top + low) in
          let led : behind_entry (place_or_last read) at_top entry ≡ behind entry =
          elim (depth_of table.shape nested.shaped) [
            | inl shallow ↦ shallow_behind shallow entry
            | inr deep ↦ deep_behind deep entry refl
          ] in
          ap (λ t. cond t (read_place read (nested_place g table.shape b)) (Some (flat_place g table.shape b)))
          (lt-ltb 0 (unpacked table.shape).nest (omega (arith, nested.shaped.nest_is)))
          ∙ ap (read_place read) begins_at_top
          ∙ ap (behind_entry (place_or_last read) at_top)
          top_read
          ∙ led
          ∙ ap (λ k. option_map (place_at env mix) (word_in (behind_top table (table.entry (64 * top + k))
          (b % leaves_in table.shape / entries_in table.shape)) (b / leaves_in table.shape))) (sym top_bits)
          ∙ ap (option_map (place_at env mix)) (sym (nested.places b))

    flat_in_words : IsFlat env mix table page τ → (b : ℕ) → b < size_of (unpacked table.shape)
        → place_in read g table.shape b ≡ option_map (place_at env mix) (table.place b)
    flat_in_words flat b l =
        let index = 64 * first_page table.shape + b in
        ap (λ t. cond t (read_place read (nested_place g table.shape b)) (Some (flat_place g table.shape b)))
        (le-ltb 0 (unpacked table.shape).nest (omega (arith, flat.flat)))
        ∙ ap (λ j. Some (place_at env mix j)) (omega (arith, flat.fits, l))
        ∙ ap (option_map (place_at env mix)) (sym (flat.places b l))

    -- the place of a bucket as the words have it is that of its word
    pub placed_in_read : (b : ℕ) → b < size_of (unpacked table.shape)
        → place_in read g table.shape b ≡ option_map (place_at env mix) (table.place b)
    placed_in_read b l = elim placed [
      | inl flat ↦ flat_in_words flat b l
      | inr nested ↦ nested_in_words nested b
    ]

  -- the words of a table's entries are right
  pub entries_in_words : (M : Memory) (G : Ghost) → Whole env mix M G → (τ : ℕ) → IsThere G τ → (j : ℕ)
      → G.page (j / 64) ≡ PageOf τ → has_entries ((G.table τ).part (j / 64)) ≡ true
      → M (PageWord j) ≡ entry_word ((G.table τ).entry j)
  entries_in_words M G whole τ is_there j of has =
      let within = page_within env mix (G.table τ) G.page τ (whole.tables.each τ is_there).placed (j / 64) of in
      let is : is_entry G j ≡ true = ap (λ o. is_entry_of G.table o (j / 64)) of ∙ has in
      whole.entries j (omega (arith, within)) is
      ∙ ap (λ o. entry_word ((G.table (table_of_page o)).entry j)) of

  -- so it is of places
  pub placed_in_words : (M : Memory) (G : Ghost) → Whole env mix M G → (τ b : ℕ) → IsThere G τ
      → b < size_of (unpacked (G.table τ).shape)
      → place_in (λ j. M (PageWord j)) env.geometry (G.table τ).shape b
      ≡ option_map (place_at env mix) ((G.table τ).place b)
  placed_in_words M G whole τ b is_there below =
      placed_in_read (G.table τ) G.page τ (whole.tables.each τ is_there).placed (λ j. M (PageWord j))
      (entries_in_words M G whole τ is_there) b below
