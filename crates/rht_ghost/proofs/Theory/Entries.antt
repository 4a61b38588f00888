-- What follows of the words of buckets and of entries, in a table of either kind: the word of a bucket is in one of the table's pages,
-- and no other bucket has it; and each word of such a page that is neither spare nor an entry is that of a bucket.
use Rattle.std.proofs.Common.{◌≡◌, ℕ, ◌+◌, ◌-◌, ◌*◌, ◌/◌, ◌%◌, ◌^◌, ◌<◌, ◌≤◌, ◌⊎◌, cond, Bool, true, false, Option, Some, None, refl, sym, ◌∙◌, ap, subst, inl, inr, arith}
use Rattle.std.proofs.lemmas.Bool.{leb-true, leb-false, cases_lt, both_ways}
use Rattle.std.proofs.lemmas.Nat.{pow-add, pow_pos, div_below, mod_below}
use Rattle.rht_words.specs.declared.env.Env.{Env}
use Rattle.rht_words.specs.Shapes.{unpacked, size_of}
use Rattle.rht_words.proofs.Memory.{Memory}
use Rattle.rht_words.proofs.Rounding.{powers-rise}
use Rattle.rht_words.proofs.ShapeSizes.{IsSizeUpTo-size_of}
use Rattle.rht_nest.specs.Place.{is_deep}
use Rattle.rht_ghost.proofs.Theory.Ghosts.{Part, Row, Leaf, Middle, Top, has_entries, Table, PageOwner, PageFree, PageHeld, PageOf, Ghost, is_entry, is_entry_of, some-same, table_of_page, table_at}
use Rattle.rht_ghost.proofs.Theory.LowBits.{whole_of, low_of, high_of, low_alone, below_of}
use Rattle.rht_ghost.proofs.Theory.Ways.{IsNestedShape, first_page, entries_in, leaves_in, behind_top, leaf_page, word_in, followed, number_of, number_in, IsSpareIn, IsLeafAt, StandsAs}
use Rattle.rht_ghost.proofs.Theory.Wholes.{IsFlat, IsNested, IsBehind, PlacedRight, IsNoBucket, Whole}

-- ---- how many levels of entries a nested table has

-- one
pub record IsShallow (shape : ℕ) : Type 0 where
  pub depth : is_deep shape ≡ false
  pub leaves : leaves_in shape ≡ entries_in shape
  pub size : size_of (unpacked shape) ≡ 64 * entries_in shape

-- or two
pub record IsDeep (shape : ℕ) : Type 0 where
  pub depth : is_deep shape ≡ true
  pub leaves : leaves_in shape ≡ 64 * entries_in shape
  pub size : size_of (unpacked shape) ≡ 64 * (64 * entries_in shape)

pub depth_of : (shape : ℕ) → IsNestedShape shape → IsShallow shape ⊎ IsDeep shape
depth_of shape shaped = go (is_deep shape) refl
  where
    go : (deep : Bool) → is_deep shape ≡ deep → IsShallow shape ⊎ IsDeep shape
    go false is =
        let few = leb-false 13 (unpacked shape).exponent is in
        inl (record {
          depth = is;
          leaves = ap (λ t. cond t (64 * entries_in shape) (entries_in shape)) is;
          size = ap (λ e. 2 ^ e) (omega (arith, few, shaped.least, shaped.nest_is))
              ∙ pow-add 2 (unpacked shape).nest 6 ∙ omega arith;
        })
    go true is =
        let many = leb-true 13 (unpacked shape).exponent is in
        inr (record {
          depth = is;
          leaves = ap (λ t. cond t (64 * entries_in shape) (entries_in shape)) is;
          size = ap (λ e. 2 ^ e) (omega (arith, many, shaped.most, shaped.nest_is))
              ∙ pow-add 2 (unpacked shape).nest 12 ∙ omega arith;
        })

-- a page has no more than 64 entries
pub few_entries : (shape : ℕ) → IsNestedShape shape → entries_in shape ≤ 64
few_entries shape shaped = powers-rise (unpacked shape).nest 6 (omega (arith, shaped.nest_is))

pub some_entries : (shape : ℕ) → 0 < entries_in shape
some_entries shape = pow_pos (unpacked shape).nest

pub some_leaves : (shape : ℕ) → IsNestedShape shape → 0 < leaves_in shape
some_leaves shape shaped = elim (depth_of shape shaped) [
  | inl shallow ↦ omega (arith, shallow.leaves, some_entries shape)
  | inr deep ↦ omega (arith, deep.leaves, some_entries shape)
]

-- the buckets of a nested table fill its pages of buckets
pub size_in_leaves : (shape : ℕ) → IsNestedShape shape → size_of (unpacked shape) ≡ leaves_in shape * 64
size_in_leaves shape shaped = elim (depth_of shape shaped) [
  | inl shallow ↦ omega (arith, shallow.leaves, shallow.size)
  | inr deep ↦ omega (arith, deep.leaves, deep.size)
]

-- a page with entries has no bucket's word
pub entry-spare : (shape : ℕ) (part : Part) (j : ℕ) → has_entries part ≡ true → IsSpareIn shape part j
entry-spare shape Row j is = absurd (cc)
entry-spare shape (Leaf low) j is = absurd (cc)
entry-spare shape (Middle low) j is = tt
entry-spare shape Top j is = tt

module _ (env : Env) (mix : ℕ → ℕ → ℕ → ℕ) where
  -- the word of a bucket is one of a page of the table that has no entries, and tells the bucket's number
  pub record IsWordOf (table : Table) (page : ℕ → PageOwner) (τ b j : ℕ) : Type 0 where
    pub within : j < 64 * env.geometry.pages
    pub of : page (j / 64) ≡ PageOf τ
    pub plain : has_entries (table.part (j / 64)) ≡ false
    pub bucket : IsSpareIn table.shape (table.part (j / 64)) j → ⊥
    pub number : number_in table j ≡ b

  -- and a word that isn't spare is that of the bucket with this number
  pub record IsBucketOf (table : Table) (j : ℕ) : Type 0 where
    pub below : number_in table j < size_of (unpacked table.shape)
    pub here : table.place (number_in table j) ≡ Some j

  -- ---- a nested table

  module _ (table : Table) (page : ℕ → PageOwner) (τ : ℕ) (nested : IsNested env mix table page τ) where
    abbrev N : ℕ
    N = entries_in table.shape

    abbrev L : ℕ
    L = leaves_in table.shape

    -- behind an entry of a page is what is to be there
    pub word_leads : (part : Part) (q index p : ℕ) → index < 64 → page q ≡ PageOf τ → table.part q ≡ part
        → has_entries part ≡ true → table.entry (64 * q + index) ≡ Some p → IsBehind env mix table page τ part index p
    word_leads part q index p l of is has entry =
        let quotient : (64 * q + index) / 64 ≡ q = omega arith in
        let remainder : (64 * q + index) % 64 ≡ index = omega arith in
        let behind = nested.leads (64 * q + index) p (ap page quotient ∙ of)
        (ap (λ k. has_entries (table.part k)) quotient ∙ ap has_entries is ∙ has) entry in
        subst (λ r. IsBehind env mix table page τ part r p) remainder
        (subst (λ o. IsBehind env mix table page τ o ((64 * q + index) % 64) p) (ap table.part quotient ∙ is) behind)

    pub top_leads : (low p : ℕ) → low < N → table.entry (64 * first_page table.shape + low) ≡ Some p
        → IsBehind env mix table page τ Top low p
    top_leads low p l entry =
        word_leads Top (first_page table.shape) low p (omega (arith, l, few_entries table.shape nested.shaped))
        nested.top_of nested.top_part refl entry

    -- the page at which low bits end is one of the table, and has the buckets with these low bits
    pub record IsLeafOf (low p : ℕ) : Type 0 where
      pub within : p < env.geometry.pages
      pub of : page p ≡ PageOf τ
      pub part_is : table.part p ≡ Leaf low

    shallow_leaf : (low p : ℕ) → IsShallow table.shape → low < L → leaf_page table low ≡ Some p → IsLeafOf low p
    shallow_leaf low p shallow l = go (table.entry (64 * first_page table.shape + low % N)) refl
      where
        go : (top : Option ℕ) → table.entry (64 * first_page table.shape + low % N) ≡ top
            → behind_top table top (low / N) ≡ Some p → IsLeafOf low p
        go None e is = absurd (cc)
        go (Some q) e is =
            let same : q ≡ p = some-same q p
            (sym (ap (λ t. cond t (table.entry (64 * q + low / N % 64)) (Some q)) shallow.depth) ∙ is) in
            let lead = top_leads (low % N) q (mod_below low N (some_entries table.shape)) e in
            let alone = low_alone N (some_entries table.shape) low (omega (arith, l, shallow.leaves)) in
            record {
              within = omega (arith, same, lead.within);
              of = ap page (sym same) ∙ lead.of;
              part_is = ap table.part (sym same) ∙ lead.part_is
                  ∙ ap (λ t. cond t (Middle (low % N)) (Leaf (low % N))) shallow.depth ∙ ap Leaf alone;
            }

    deep_leaf : (low p : ℕ) → IsDeep table.shape → low < L → leaf_page table low ≡ Some p → IsLeafOf low p
    deep_leaf low p deep l = go (table.entry (64 * first_page table.shape + low % N)) refl
      where
        go : (top : Option ℕ) → table.entry (64 * first_page table.shape + low % N) ≡ top
            → behind_top table top (low / N) ≡ Some p → IsLeafOf low p
        go None e is = absurd (cc)
        go (Some q) e is =
            let first = top_leads (low % N) q (mod_below low N (some_entries table.shape)) e in
            let middle : table.part q ≡ Middle (low % N) =
            first.part_is ∙ ap (λ t. cond t (Middle (low % N)) (Leaf (low % N))) deep.depth in
            let entry : table.entry (64 * q + low / N % 64) ≡ Some p =
            sym (ap (λ t. cond t (table.entry (64 * q + low / N % 64)) (Some q)) deep.depth) ∙ is in
            let lead = word_leads (Middle (low % N)) q (low / N % 64) p (omega arith) first.of middle refl entry in
            let high = div_below low N 64 (some_entries table.shape) (omega (arith, l, deep.leaves)) in
            record {
              within = lead.within;
              of = lead.of;
              part_is = lead.part_is ∙ ap (λ k. Leaf (low % N + N * k)) (omega (arith, high))
                  ∙ ap Leaf (whole_of N low);
            }

    pub leaf_is : (low p : ℕ) → low < L → leaf_page table low ≡ Some p → IsLeafOf low p
    leaf_is low p l is = elim (depth_of table.shape nested.shaped) [
      | inl shallow ↦ shallow_leaf low p shallow l is
      | inr deep ↦ deep_leaf low p deep l is
    ]

    -- so the word to which the way leads is the bucket's
    nested_word : (b j : ℕ) → b < size_of (unpacked table.shape) → followed table b ≡ Some j
        → IsWordOf table page τ b j
    nested_word b j l = go (leaf_page table (b % L)) refl
      where
        go : (leaf : Option ℕ) → leaf_page table (b % L) ≡ leaf → word_in leaf (b / L) ≡ Some j
            → IsWordOf table page τ b j
        go None e is = absurd (cc)
        go (Some p) e is =
            let some = some_leaves table.shape nested.shaped in
            let same = some-same (64 * p + b / L % 64) j is in
            let leaf = leaf_is (b % L) p (mod_below b L some) e in
            let quotient : j / 64 ≡ p = omega (arith, same) in
            let part : table.part (j / 64) ≡ Leaf (b % L) = ap table.part quotient ∙ leaf.part_is in
            let high = div_below b L 64 some (omega (arith, l, size_in_leaves table.shape nested.shaped)) in
            record {
              within = omega (arith, quotient, leaf.within);
              of = ap page quotient ∙ leaf.of;
              plain = ap has_entries part;
              bucket = λ spare. subst (λ o. IsSpareIn table.shape o j) part spare;
              number = ap (λ o. number_of table.shape o j) part
                  ∙ ap (λ k. b % L + L * k) (omega (arith, same, high)) ∙ whole_of L b;
            }

    -- and a word that is neither spare nor an entry is at the end of such a way
    nested_bucket : (j : ℕ) → page (j / 64) ≡ PageOf τ → (IsSpareIn table.shape (table.part (j / 64)) j → ⊥)
        → IsBucketOf table j
    nested_bucket j of = go (table.part (j / 64)) refl
      where
        go : (part : Part) → table.part (j / 64) ≡ part → (IsSpareIn table.shape part j → ⊥) → IsBucketOf table j
        go Row e bucket = absurd (subst (StandsAs table (j / 64)) e (nested.stands (j / 64) of))
        go (Middle low) e bucket = absurd (bucket tt)
        go Top e bucket = absurd (bucket tt)
        go (Leaf low) e bucket =
            let some = some_leaves table.shape nested.shaped in
            let at : IsLeafAt table low (j / 64) = subst (StandsAs table (j / 64)) e (nested.stands (j / 64) of) in
            let number : number_in table j ≡ low + L * (j % 64) = ap (λ o. number_of table.shape o j) e in
            record {
              below = omega (
                arith,
                number,
                below_of L some low (j % 64) 64 at.below (omega arith),
                size_in_leaves table.shape nested.shaped,
              );
              here = ap table.place number ∙ nested.places (low + L * (j % 64))
                  ∙ ap (λ k. word_in (leaf_page table k) ((low + L * (j % 64)) / L)) (low_of L some low (j % 64) at.below)
                  ∙ ap (λ k. word_in (leaf_page table low) k) (high_of L some low (j % 64) at.below)
                  ∙ ap (λ p. word_in p (j % 64)) at.entered ∙ ap Some (omega arith);
            }

    -- each page of the table is one of the pages
    nested_page : (p : ℕ) → page p ≡ PageOf τ → p < env.geometry.pages
    nested_page p of = go (table.part p) (nested.stands p of)
      where
        go : (part : Part) → StandsAs table p part → p < env.geometry.pages
        go Row is = absurd is
        go (Leaf low) is = (leaf_is low p is.below is.entered).within
        go (Middle low) is = (top_leads low p is.below is.entered).within
        go Top is = omega (arith, is, nested.top_within)

  -- ---- a flat table

  module _ (table : Table) (page : ℕ → PageOwner) (τ : ℕ) (flat : IsFlat env mix table page τ) where
    flat_word : (b j : ℕ) → b < size_of (unpacked table.shape) → table.place b ≡ Some j → IsWordOf table page τ b j
    flat_word b j l is =
        let index = 64 * first_page table.shape + b in
        let same : index ≡ j = some-same index j (sym (flat.places b l) ∙ is) in
        let of : page (j / 64) ≡ PageOf τ = ap (λ k. page (k / 64)) (sym same) ∙ flat.pages b l in
        let row : table.part (j / 64) ≡ Row = flat.rows (j / 64) of in
        record {
          within = omega (arith, same, l, flat.fits);
          of = of;
          plain = ap has_entries row;
          bucket = λ spare. let far = subst (λ o. IsSpareIn table.shape o j) row spare in omega (arith, same, l, far);
          number = ap (λ o. number_of table.shape o j) row ∙ omega (arith, same);
        }

    flat_bucket : (j : ℕ) → page (j / 64) ≡ PageOf τ → (IsSpareIn table.shape (table.part (j / 64)) j → ⊥)
        → IsBucketOf table j
    flat_bucket j of bucket = elim (cases_lt j (64 * first_page table.shape + size_of (unpacked table.shape))) [
      | inl below ↦
          let row : table.part (j / 64) ≡ Row = flat.rows (j / 64) of in
          let from = (flat.run (j / 64) of).from in
          let number : number_in table j ≡ j - 64 * first_page table.shape = ap (λ o. number_of table.shape o j) row in
          let less : number_in table j < size_of (unpacked table.shape) = omega (arith, number, below, from) in
          record { below = less; here = flat.places (number_in table j) less ∙ ap Some (omega (arith, number, from)) }
      | inr past ↦ absurd (bucket (subst (λ o. IsSpareIn table.shape o j) (sym (flat.rows (j / 64) of)) past))
    ]

    flat_page : (p : ℕ) → page p ≡ PageOf τ → p < env.geometry.pages
    flat_page p of =
        let run = flat.run p of in
        omega (arith, run.from, run.below, flat.fits, (IsSizeUpTo-size_of (unpacked table.shape)).least)

  -- ---- either

  module _ (table : Table) (page : ℕ → PageOwner) (τ : ℕ) (placed : PlacedRight env mix table page τ) where
    pub word_of : (b j : ℕ) → b < size_of (unpacked table.shape) → table.place b ≡ Some j → IsWordOf table page τ b j
    word_of b j l is = elim placed [
      | inl flat ↦ flat_word table page τ flat b j l is
      | inr nested ↦ nested_word table page τ nested b j l (sym (nested.places b) ∙ is)
    ]

    pub bucket_of_word : (j : ℕ) → page (j / 64) ≡ PageOf τ → (IsSpareIn table.shape (table.part (j / 64)) j → ⊥)
        → IsBucketOf table j
    bucket_of_word j of bucket = elim placed [
      | inl flat ↦ flat_bucket table page τ flat j of bucket
      | inr nested ↦ nested_bucket table page τ nested j of bucket
    ]

    pub page_within : (p : ℕ) → page p ≡ PageOf τ → p < env.geometry.pages
    page_within p of = elim placed [
      | inl flat ↦ flat_page table page τ flat p of
      | inr nested ↦ nested_page table page τ nested p of
    ]

    -- no two buckets have one word
    pub one_bucket : (b c j : ℕ) → b < size_of (unpacked table.shape) → c < size_of (unpacked table.shape)
        → table.place b ≡ Some j → table.place c ≡ Some j → b ≡ c
    one_bucket b c j l m is other = sym (word_of b j l is).number ∙ (word_of c j m other).number

  -- so it is where others have the other pages
  pub PlacedRight-pages : (table : Table) (page page' : ℕ → PageOwner) (τ : ℕ)
      → ((p : ℕ) → page p ≡ PageOf τ → page' p ≡ PageOf τ) → ((p : ℕ) → page' p ≡ PageOf τ → page p ≡ PageOf τ)
      → PlacedRight env mix table page τ → PlacedRight env mix table page' τ
  PlacedRight-pages table page page' τ stay back placed = elim placed [
    | inl flat ↦ inl (record {
      flat = flat.flat;
      fits = flat.fits;
      places = flat.places;
      pages = λ b l. stay ((64 * first_page table.shape + b) / 64) (flat.pages b l);
      run = λ p of. flat.run p (back p of);
      rows = λ p of. flat.rows p (back p of);
    })
    | inr nested ↦ inr (record {
      shaped = nested.shaped;
      top_within = nested.top_within;
      top_of = stay (first_page table.shape) nested.top_of;
      top_part = nested.top_part;
      stands = λ p of. nested.stands p (back p of);
      leads = λ j p of has entry.
          let behind = nested.leads j p (back (j / 64) of) has entry in
          record { within = behind.within; of = stay p behind.of; part_is = behind.part_is };
      places = nested.places;
    })
  ]

  -- ---- which words are entries

  -- an entry is no bucket's word
  pub entry-no_bucket : (G : Ghost) (j : ℕ) → is_entry G j ≡ true → IsNoBucket env mix G (G.page (j / 64)) j
  entry-no_bucket G j = go (G.page (j / 64))
    where
      go : (owner : PageOwner) → is_entry_of G.table owner (j / 64) ≡ true → IsNoBucket env mix G owner j
      go PageFree is = tt
      go (PageHeld c) is = tt
      go (PageOf τ) is = entry-spare (G.table τ).shape ((G.table τ).part (j / 64)) j is

  pub bucket-no_entry : (G : Ghost) (j : ℕ) → (IsNoBucket env mix G (G.page (j / 64)) j → ⊥) → is_entry G j ≡ false
  bucket-no_entry G j bucket = go (is_entry G j) refl
    where
      go : (t : Bool) → is_entry G j ≡ t → is_entry G j ≡ false
      go true is = absurd (bucket (entry-no_bucket G j is))
      go false is = is

  -- an entry is in a page of a table that has entries
  pub record IsEntryIn (G : Ghost) (j : ℕ) : Type 0 where
    pub of : G.page (j / 64) ≡ PageOf (table_at G j)
    pub has : has_entries ((G.table (table_at G j)).part (j / 64)) ≡ true

  pub entry_in : (G : Ghost) (j : ℕ) → is_entry G j ≡ true → IsEntryIn G j
  entry_in G j is = go (G.page (j / 64)) refl is
    where
      go : (owner : PageOwner) → G.page (j / 64) ≡ owner → is_entry_of G.table owner (j / 64) ≡ true → IsEntryIn G j
      go PageFree e is = absurd (cc)
      go (PageHeld c) e is = absurd (cc)
      go (PageOf τ) e is =
          let table : table_at G j ≡ τ = ap table_of_page e in
          record { of = e ∙ ap PageOf (sym table); has = ap (λ σ. has_entries ((G.table σ).part (j / 64))) table ∙ is }

  -- which is nested
  pub entry_nested : (M : Memory) (G : Ghost) → Whole env mix M G → (j : ℕ) → IsEntryIn G j
      → IsNested env mix (G.table (table_at G j)) G.page (table_at G j)
  entry_nested M G whole j is =
      elim (whole.tables.each (table_at G j) (whole.pages.there (j / 64) (table_at G j) is.of)).placed [
        | inl flat ↦ absurd (both_ways (has_entries ((G.table (table_at G j)).part (j / 64)))
            (ap has_entries (flat.rows (j / 64) is.of)) is.has)
        | inr nested ↦ nested
      ]
