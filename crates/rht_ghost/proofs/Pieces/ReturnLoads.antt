-- What the caller that does the work learns by its loads while it gives retired tables back: which slots have one, that no open section
-- comes to it any more, and which pages it has still.
--
-- Of a caller whose section comes to the table its section word was kept, which is odd. So none comes whose kept word is even, or another
-- one than its section word. And no later section comes to a table before the current one.
use Rattle.std.proofs.Common.{◌≡◌, ◌≢◌, ℕ, ◌^◌, ◌+◌, ◌-◌, ◌*◌, ◌%◌, ◌/◌, ◌<◌, ◌≤◌, cond, max, min, Option, Some, None, true, false, refl, sym, ◌∙◌, ap, subst, inl, inr, arith}
use Rattle.std.proofs.lemmas.Bool.{cases_lt, lt-ltb, both_ways}
use Rattle.rht_words.specs.declared.env.Env.{Env}
use Rattle.rht_words.specs.Links.{page_of}
use Rattle.rht_words.specs.Places.{Section, Slot, StateWord, ShapeWord, LoadedSection, PageWord}
use Rattle.rht_words.specs.Shapes.{unpacked, size_of}
use Rattle.rht_words.proofs.Memory.{Memory}
use Rattle.rht_words.proofs.ShapeSizes.{IsSizeUpTo-size_of}
use Rattle.rht_nest.specs.Tables.{is_nested, run_first, run_pages}
use Rattle.rht_nest.specs.Place.{top_page, top_entries, is_deep}
use Rattle.rht_ghost.proofs.Theory.Ghosts.{Part, Leaf, Middle, Top, has_entries, Table, SlotOwner, SlotFree, SlotHeld, Live, Retiring, Retired, Back, PageOf, Ghost, state_word, slot_holder, unretired, IsSince}
use Rattle.rht_ghost.proofs.Theory.Ways.{first_page, entries_in}
use Rattle.rht_ghost.proofs.Theory.Wholes.{IsFlat, IsNested, IsBehind, IsTurned, Whole}
use Rattle.rht_ghost.proofs.Theory.Entries.{word_leads}
use Rattle.rht_ghost.proofs.Theory.BareTables.{unused-bare}
use Rattle.rht_ghost.proofs.Theory.PlacesRead.{entry_read, entries_in_words}
use Rattle.rht_ghost.proofs.Theory.WaysRead.{nested_placed}
use Rattle.rht_ghost.proofs.Theory.SectionFrames.{open-among, open-within, retiring-before}
use Rattle.rht_ghost.proofs.Theory.GivingStays.{retired-slot, retired-there, retired-within}
use Rattle.rht_ghost.proofs.Theory.Knowns.{KnownWork, Works, Asks, Compares, GivesBack, Over, InRun, AtTop, AtLeaf, ClearsLeaf, ClearsTop}
use Rattle.rht_ghost.proofs.Theory.Knowledge.{IsWorking, IsAsking, IsOverAt, IsTakenDown, AreBare, WorkMeans}

module _ (env : Env) (mix : ℕ → ℕ → ℕ → ℕ) (c : ℕ) (M : Memory) (G : Ghost) (whole : Whole env mix M G) where
  abbrev Knows : KnownWork → Type 0
  Knows known = WorkMeans env mix c M G known

  -- ---- retired tables, and who comes to them

  -- a slot with the state 2 has a retired table: the caller itself gives none back, and none is being retired
  pub state_seen : (slot : ℕ) → slot < 8 → M (Slot slot StateWord) ≡ 2
      → ((s : ℕ) → slot_holder (G.slot s) ≡ Some c → ◌≡◌ {A = Option ℕ} None (Some s)) → Knows Works → Knows (Asks slot 0)
  state_seen slot l is alone knows = go (G.slot slot) refl
    where
      word : state_word (G.slot slot) ≡ 2
      word = sym (whole.slots.states slot l) ∙ is

      go : (owner : SlotOwner) → G.slot slot ≡ owner → Knows (Asks slot 0)
      go SlotFree e = let z : 0 ≡ 2 = sym (ap state_word e) ∙ word in absurd (omega (arith, z))
      go (SlotHeld d) e = let z : 1 ≡ 2 = sym (ap state_word e) ∙ word in absurd (omega (arith, z))
      go (Live τ) e = let z : 1 ≡ 2 = sym (ap state_word e) ∙ word in absurd (omega (arith, z))
      go (Retiring τ) e =
          let none = knows.works.1 slot τ (ap unretired e) (retiring-before env mix M G whole.tables slot τ e) in absurd (cc)
      go (Retired τ) e =
          record { works = knows.works; more = record { table = τ; retired = e; before = λ d below since. omega (arith, below) } }
      go (Back d) e =
          let same : ◌≡◌ {A = Option ℕ} (Some d) (Some c) = sym (whole.slots.back slot d e) ∙ knows.works.0 in
          let none = alone slot (ap slot_holder e ∙ same) in absurd (cc)

  -- the word of a section that is open is odd
  odd : (d τ : ℕ) → IsSince (G.from d) τ → M (Section d) % 2 ≡ 1
  odd d τ since = go (G.from d) refl since
    where
      go : (from : Option ℕ) → G.from d ≡ from → IsSince from τ → M (Section d) % 2 ≡ 1
      go None e comes = absurd comes
      go (Some low) e comes =
          subst (λ f. IsTurned env mix f (M (Section d))) e
          (whole.sections.words d (open-within env mix M G whole.sections d τ since))

  -- of one that comes to the table it was kept
  kept_word : (slot count : ℕ) (is : IsAsking env mix G slot count) → IsSince (G.from count) is.table
      → M (Slot slot (LoadedSection count)) ≡ M (Section count)
  kept_word slot count is since =
      whole.sections.kept slot is.table count (retired-within env mix M G whole slot is.table is.retired) is.retired since

  -- none comes of one caller more
  one_more : (slot count : ℕ) → Knows (Asks slot count)
      → ((is : IsAsking env mix G slot count) → IsSince (G.from count) is.table → ⊥) → Knows (Asks slot (count + 1))
  one_more slot count knows none =
      let is = knows.more in
      record {
        works = knows.works;
        more = record {
          table = is.table;
          retired = is.retired;
          before = λ d l since. elim (cases_lt d count) [
            | inl less ↦ is.before d less since
            | inr from ↦
                let same : d ≡ count = omega (arith, l, from) in
                none is (subst (λ k. IsSince (G.from k) is.table) same since)
          ];
        };
      }

  pub kept_even : (slot count : ℕ) → M (Slot slot (LoadedSection count)) % 2 ≢ 1 → Knows (Asks slot count)
      → Knows (Asks slot (count + 1))
  kept_even slot count even knows = one_more slot count knows
      (λ is since. even (ap (λ w. w % 2) (kept_word slot count is since) ∙ odd count is.table since))

  pub kept_odd : (slot count : ℕ) → count < 16 → Knows (Asks slot count)
      → Knows (Compares slot count (M (Slot slot (LoadedSection count))))
  kept_odd slot count l knows =
      record { works = knows.works; more = record { asking = knows.more; among = l; kept_is = refl } }

  pub left_seen : (slot count kept : ℕ) → M (Section count) ≢ kept → Knows (Compares slot count kept)
      → Knows (Asks slot (count + 1))
  left_seen slot count kept other knows = one_more slot count (record { works = knows.works; more = knows.more.asking })
      (λ is since. other (sym (kept_word slot count is since) ∙ knows.more.kept_is))

  -- what is known of the table need not be known any more
  pub works_alone : {More : Type 0} → IsWorking env mix c G None More → Knows Works
  works_alone knows = record { works = knows.works; more = tt }

  -- once all callers were asked none comes at all
  pub all_asked : (slot count : ℕ) → env.geometry.callers ≤ count → Knows (Asks slot count) → Knows (GivesBack slot Over)
  all_asked slot count all knows =
      let is = knows.more in
      record {
        works = knows.works;
        more = record {
          table = is.table;
          retired = is.retired;
          over = λ d since.
              let among = open-among env mix M G whole.sections d is.table since in
              is.before d (omega (arith, among, all)) since;
        };
      }

  -- ---- its shape

  module _ (slot : ℕ) (is : IsOverAt env mix G slot) where
    abbrev table : Table
    table = G.table is.table

    shape_word : M (Slot slot ShapeWord) ≡ table.shape
    shape_word =
        ap (λ s. M (Slot s ShapeWord)) (sym (retired-slot env mix M G whole slot is.table is.retired))
        ∙ (whole.tables.each is.table (retired-there env mix M G whole slot is.table is.retired)).shape_is

    pub flat_placed : is_nested table.shape ≡ false → IsFlat env mix table G.page is.table
    flat_placed none =
        elim (whole.tables.each is.table (retired-there env mix M G whole slot is.table is.retired)).placed [
          | inl flat ↦ flat
          | inr nested ↦ absurd (both_ways (is_nested table.shape) none
              (lt-ltb 0 (unpacked table.shape).nest (omega (arith, nested.shaped.nest_is))))
        ]

    run_known : is_nested table.shape ≡ false
        → Knows Works → Knows (GivesBack slot (InRun (run_first env.geometry table.shape) (run_pages env.geometry table.shape)))
    run_known none knows =
        let flat = flat_placed none in
        let some = (IsSizeUpTo-size_of (unpacked table.shape)).least in
        let first : first_page table.shape ≡ run_first env.geometry table.shape = omega (arith, flat.fits, some) in
        record {
          works = knows.works;
          more = record {
            going = is;
            flat = none;
            first_is = first;
            pages_are = omega (arith, flat.fits, some, first)
                ∙ ap (λ t. min (cond t 1 (max 1 (size_of (unpacked table.shape) / 64)))
                (env.geometry.pages - run_first env.geometry table.shape)) (sym none);
          };
        }

  pub shape_flat : (slot : ℕ) → is_nested (M (Slot slot ShapeWord)) ≡ false → Knows (GivesBack slot Over)
      → let shape = M (Slot slot ShapeWord) in
      Knows (GivesBack slot (InRun (run_first env.geometry shape) (run_pages env.geometry shape)))
  shape_flat slot none knows =
      let word = shape_word slot knows.more in
      subst (λ w. Knows (GivesBack slot (InRun (run_first env.geometry w) (run_pages env.geometry w)))) (sym word)
      (run_known slot knows.more (ap is_nested (sym word) ∙ none) (works_alone knows))

  pub shape_nested : (slot : ℕ) → is_nested (M (Slot slot ShapeWord)) ≡ true → Knows (GivesBack slot Over)
      → Knows (GivesBack slot (AtTop (M (Slot slot ShapeWord)) 0))
  shape_nested slot nested knows = record {
    works = knows.works;
    more = record {
      going = knows.more;
      shape_is = sym (shape_word slot knows.more);
      nested = nested;
      bare = λ i l. absurd (omega (arith, l));
    };
  }

  -- ---- the entries of its top page

  module _ (slot shape top : ℕ) (is : IsTakenDown env mix G slot shape top) where
    abbrev τ : ℕ
    τ = is.going.table

    pub down-there : (G.table τ).slot < 8
    down-there = (whole.tables.each τ (retired-there env mix M G whole slot τ is.going.retired)).slot_in

    pub down-nested : IsNested env mix (G.table τ) G.page τ
    down-nested =
        nested_placed env mix M G whole τ (retired-there env mix M G whole slot τ is.going.retired)
        (ap is_nested is.shape_is ∙ is.nested)

    -- the entry with this number, and where its word leads
    pub top_entry : (i : ℕ)
        → (G.table τ).entry (64 * first_page (G.table τ).shape + i) ≡ (G.table τ).entry (64 * first_page shape + i)
    top_entry i = ap (λ s. (G.table τ).entry (64 * first_page s + i)) is.shape_is

    abbrev read : ℕ → ℕ
    read j = M (PageWord j)

    entry_led : (part : Part) (q i : ℕ) → i < 64 → G.page q ≡ PageOf τ → (G.table τ).part q ≡ part → has_entries part ≡ true
        → page_of env.geometry.pages (read (64 * q + i)) ≡ (G.table τ).entry (64 * q + i)
    entry_led part q i l of here has =
        let there = retired-there env mix M G whole slot τ is.going.retired in
        entry_read env mix (G.table τ) G.page τ (whole.tables.each τ there).placed read
        (entries_in_words env mix M G whole τ there) down-nested part q i l of here has

    pub top_led : (i : ℕ) → i < 64
        → page_of env.geometry.pages (read (64 * top_page env.geometry shape + i)) ≡ (G.table τ).entry (64 * first_page shape + i)
    top_led i l =
        let within = down-nested.top_within in
        let here : top_page env.geometry shape ≡ first_page (G.table τ).shape =
        ap (top_page env.geometry) (sym is.shape_is) ∙ omega (arith, within) in
        ap (λ q. page_of env.geometry.pages (read (64 * q + i))) here
        ∙ entry_led Top (first_page (G.table τ).shape) i l down-nested.top_of down-nested.top_part refl
        ∙ top_entry i

    -- what is behind it
    pub top_behind : (i page : ℕ) → i < 64 → (G.table τ).entry (64 * first_page shape + i) ≡ Some page
        → IsBehind env mix (G.table τ) G.page τ Top i page
    top_behind i page l leads =
        word_leads env mix (G.table τ) G.page τ down-nested Top (first_page (G.table τ).shape) i page l down-nested.top_of
        down-nested.top_part refl (top_entry i ∙ leads)

    pub top_part : (i page : ℕ) → i < 64 → (G.table τ).entry (64 * first_page shape + i) ≡ Some page
        → (G.table τ).part page ≡ cond (is_deep shape) (Middle i) (Leaf i)
    top_part i page l leads =
        (top_behind i page l leads).part_is ∙ ap (λ s. cond (is_deep s) (Middle i) (Leaf i)) is.shape_is

    -- an entry of a page of entries, and where its word leads
    pub leaf_led : (page i : ℕ) → top < 64 → is_deep shape ≡ true → (G.table τ).entry (64 * first_page shape + top) ≡ Some page
        → i < 64 → page_of env.geometry.pages (read (64 * page + i)) ≡ (G.table τ).entry (64 * page + i)
    leaf_led page i l deep leads k =
        entry_led (Middle top) page i k (top_behind top page l leads).of
        (top_part top page l leads ∙ ap (λ t. cond t (Middle top) (Leaf top)) deep) refl

  -- one entry more leads to no page
  bare_more : (τ page count : ℕ) → AreBare env mix G τ page count → (G.table τ).entry (64 * page + count) ≡ None
      → AreBare env mix G τ page (count + 1)
  bare_more τ page count bare none i l = elim (cases_lt i count) [
    | inl less ↦ bare i less
    | inr from ↦
        let same : i ≡ count = omega (arith, l, from) in ap (λ k. (G.table τ).entry (64 * page + k)) same ∙ none
  ]

  -- where the word of an entry of the top page leads, and that of one of this page
  abbrev pub led_from_top : ℕ → ℕ → Option ℕ
  led_from_top shape top = page_of env.geometry.pages (M (PageWord (64 * top_page env.geometry shape + top)))

  abbrev pub led_from : ℕ → ℕ → Option ℕ
  led_from page leaf = page_of env.geometry.pages (M (PageWord (64 * page + leaf)))

  pub top_none : (slot shape top : ℕ) → top < 64 → led_from_top shape top ≡ None → Knows (GivesBack slot (AtTop shape top))
      → Knows (GivesBack slot (AtTop shape (top + 1)))
  top_none slot shape top l led knows =
      let is = knows.more in
      record {
        works = knows.works;
        more = record {
          going = is.going;
          shape_is = is.shape_is;
          nested = is.nested;
          bare = bare_more is.going.table (first_page shape) top is.bare (sym (top_led slot shape top is top l) ∙ led);
        };
      }

  pub top_deep : (slot shape top page : ℕ) → top < 64 → is_deep shape ≡ true → led_from_top shape top ≡ Some page
      → Knows (GivesBack slot (AtTop shape top)) → Knows (GivesBack slot (AtLeaf shape top page 0))
  top_deep slot shape top page l deep led knows = record {
    works = knows.works;
    more = record {
      down = knows.more;
      deep = deep;
      leads = sym (top_led slot shape top knows.more top l) ∙ led;
      bare = λ i k. absurd (omega (arith, k));
    };
  }

  pub top_shallow : (slot shape top page : ℕ) → top < 64 → is_deep shape ≡ false → led_from_top shape top ≡ Some page
      → Knows (GivesBack slot (AtTop shape top)) → Knows (GivesBack slot (ClearsTop shape top page))
  top_shallow slot shape top page l shallow led knows =
      let is = knows.more in
      let leads = sym (top_led slot shape top is top l) ∙ led in
      let leaf : (G.table is.going.table).part page ≡ Leaf top =
      top_part slot shape top is top page l leads ∙ ap (λ t. cond t (Middle top) (Leaf top)) shallow in
      record {
        works = knows.works;
        more = record {
          down = is;
          leads = leads;
          bare = λ has. absurd (both_ways (has_entries ((G.table is.going.table).part page)) (ap has_entries leaf) has);
        };
      }

  -- behind the last one in use no entry leads to a page
  pub tops_done : (slot shape top : ℕ) → top_entries shape ≤ top → Knows (GivesBack slot (AtTop shape top))
      → Knows (GivesBack slot (AtTop shape 64))
  tops_done slot shape top all knows =
      let is = knows.more in
      let τ = is.going.table in
      let nested = down-nested slot shape top is in
      let in_use : entries_in (G.table τ).shape ≡ top_entries shape =
      ap (λ n. 2 ^ n) (omega (arith, nested.shaped.nest_is)) ∙ ap top_entries is.shape_is in
      record {
        works = knows.works;
        more = record {
          going = is.going;
          shape_is = is.shape_is;
          nested = is.nested;
          bare = λ i l. elim (cases_lt i top) [
            | inl less ↦ is.bare i less
            | inr from ↦
                sym (top_entry slot shape top is i)
                ∙ unused-bare env mix (G.table τ) G.page τ nested i (omega (arith, from, all, in_use)) l
          ];
        };
      }

  -- ---- the entries of a page of entries

  pub leaf_none : (slot shape top page leaf : ℕ) → top < 64 → leaf < 64 → led_from page leaf ≡ None
      → Knows (GivesBack slot (AtLeaf shape top page leaf)) → Knows (GivesBack slot (AtLeaf shape top page (leaf + 1)))
  leaf_none slot shape top page leaf l k led knows =
      let is = knows.more in
      let τ = is.down.going.table in
      record {
        works = knows.works;
        more = record {
          down = is.down;
          deep = is.deep;
          leads = is.leads;
          bare = bare_more τ page leaf is.bare (sym (leaf_led slot shape top is.down page leaf l is.deep is.leads k) ∙ led);
        };
      }

  pub leaf_some : (slot shape top page leaf below : ℕ) → top < 64 → leaf < 64 → led_from page leaf ≡ Some below
      → Knows (GivesBack slot (AtLeaf shape top page leaf)) → Knows (GivesBack slot (ClearsLeaf shape top page leaf below))
  leaf_some slot shape top page leaf below l k led knows =
      let is = knows.more in
      record {
        works = knows.works;
        more = record { at = is; leads_on = sym (leaf_led slot shape top is.down page leaf l is.deep is.leads k) ∙ led };
      }

  -- behind the last one none of them leads to a page
  pub leaves_done : (slot shape top page leaf : ℕ) → 64 ≤ leaf → Knows (GivesBack slot (AtLeaf shape top page leaf))
      → Knows (GivesBack slot (ClearsTop shape top page))
  leaves_done slot shape top page leaf all knows =
      let is = knows.more in
      record {
        works = knows.works;
        more = record {
          down = is.down;
          leads = is.leads;
          bare = λ has i l. is.bare i (omega (arith, l, all));
        };
      }
