-- What is left of a nested table when the page behind one of its entries is withdrawn, behind none of whose own entries there
-- is a page: a nested table, each other way of which leads where it led.
--
-- Each entry that leads to the page is this one, since what a page has says behind which entry it stands. So nothing leads to
-- the page any more; and a way over the page led to the page alone.
use Rattle.std.proofs.Common.{◌≡◌, ◌≢◌, ℕ, ◌+◌, ◌*◌, ◌/◌, ◌%◌, ◌<◌, cond, Bool, true, false, Option, Some, None, refl, sym, ◌∙◌, ap, subst, inl, inr, arith}
use Rattle.std.proofs.lemmas.Bool.{cases_eq}
use Rattle.std.proofs.lemmas.Nat.{mod_below}
use Rattle.rht_words.specs.declared.env.Env.{Env}
use Rattle.rht_nest.specs.Place.{is_deep}
use Rattle.rht_ghost.proofs.Theory.Ghosts.{put, put-same, put-other, Part, Row, Leaf, Middle, Top, has_entries, Table, PageOwner, PageOf, none-some, some-same}
use Rattle.rht_ghost.proofs.Theory.LowBits.{low_of, high_of}
use Rattle.rht_ghost.proofs.Theory.Ways.{first_page, entries_in, child, behind_top, leaf_page, StandsAs}
use Rattle.rht_ghost.proofs.Theory.Wholes.{IsNested, IsBehind}
use Rattle.rht_ghost.proofs.Theory.Entries.{some_entries, few_entries}
use Rattle.rht_ghost.proofs.Theory.Departures.{withdrawn_table}

module _ (env : Env) (mix : ℕ → ℕ → ℕ → ℕ) (table : Table) (page : ℕ → PageOwner) (τ : ℕ)
    (nested : IsNested env mix table page τ) where
  abbrev N : ℕ
  N = entries_in table.shape

  -- ---- one entry leads to a page

  one_page : (q r : ℕ) (part : Part) → has_entries part ≡ true → StandsAs table q part → StandsAs table r part → q ≡ r
  one_page q r Row has first second = absurd (cc)
  one_page q r (Leaf low) has first second = absurd (cc)
  one_page q r (Middle low) has first second = some-same q r (sym first.entered ∙ second.entered)
  one_page q r Top has first second = first ∙ sym second

  abbrev Same : Part → Part → ℕ → ℕ → Type 0
  Same one other a b = (one ≡ other) × (a ≡ b)

  tops : (deep : Bool) (a b : ℕ)
      → ◌≡◌ {A = Part} (cond deep (Middle a) (Leaf a)) (cond deep (Middle b) (Leaf b)) → a ≡ b
  tops true a b is = cc
  tops false a b is = cc

  top_and_middle : (deep : Bool) (a low : ℕ) → deep ≡ true → ◌≡◌ {A = Part} (cond deep (Middle a) (Leaf a)) (Leaf low) → ⊥
  top_and_middle true a low is same = cc
  top_and_middle false a low is same = let e : false ≡ true = is in cc

  leaves_same : (low high : ℕ) → ◌≡◌ {A = Part} (Leaf low) (Leaf high) → low ≡ high
  leaves_same low high is = cc

  middles : (low high a b : ℕ) → low < N → high < N → low + N * a ≡ high + N * b → Same (Middle low) (Middle high) a b
  middles low high a b l h is =
      let some = some_entries table.shape in (
        ap Middle (sym (low_of N some low a l) ∙ ap (λ k. k % N) is ∙ low_of N some high b h),
        sym (high_of N some low a l) ∙ ap (λ k. k / N) is ∙ high_of N some high b h,
      )

  one_child : (q r : ℕ) (one other : Part) (a b : ℕ) → has_entries one ≡ true → has_entries other ≡ true
      → StandsAs table q one → StandsAs table r other → child table.shape one a ≡ child table.shape other b
      → Same one other a b
  one_child q r Row other a b has too first second is = absurd (cc)
  one_child q r (Leaf low) other a b has too first second is = absurd (cc)
  one_child q r (Middle low) Row a b has too first second is = absurd (cc)
  one_child q r (Middle low) (Leaf high) a b has too first second is = absurd (cc)
  one_child q r (Middle low) (Middle high) a b has too first second is =
      middles low high a b first.below second.below (leaves_same (low + N * a) (high + N * b) is)
  one_child q r (Middle low) Top a b has too first second is =
      absurd (top_and_middle (is_deep table.shape) b (low + N * a) first.deep (sym is))
  one_child q r Top Row a b has too first second is = absurd (cc)
  one_child q r Top (Leaf high) a b has too first second is = absurd (cc)
  one_child q r Top (Middle high) a b has too first second is =
      absurd (top_and_middle (is_deep table.shape) a (high + N * b) second.deep is)
  one_child q r Top Top a b has too first second is = (refl, tops (is_deep table.shape) a b is)

  -- two entries of the table's pages that lead to one page are one
  pub one_entry : (i j p : ℕ) → page (i / 64) ≡ PageOf τ → page (j / 64) ≡ PageOf τ → has_entries (table.part (i / 64)) ≡ true
      → has_entries (table.part (j / 64)) ≡ true → table.entry i ≡ Some p → table.entry j ≡ Some p → i ≡ j
  one_entry i j p of too has have first second =
      let one = nested.leads i p of has first in
      let other = nested.leads j p too have second in
      let same = one_child (i / 64) (j / 64) (table.part (i / 64)) (table.part (j / 64)) (i % 64) (j % 64) has have
      (nested.stands (i / 64) of) (nested.stands (j / 64) too) (sym one.part_is ∙ other.part_is) in
      let pages = one_page (i / 64) (j / 64) (table.part (j / 64)) have
      (subst (StandsAs table (i / 64)) same.0 (nested.stands (i / 64) of)) (nested.stands (j / 64) too) in
      omega (arith, pages, same.1)

  -- ---- the table without a page

  module _ (j p : ℕ) (of : page (j / 64) ≡ PageOf τ) (has : has_entries (table.part (j / 64)) ≡ true)
      (leads : table.entry j ≡ Some p)
      (none : has_entries (table.part p) ≡ true → (i : ℕ) → i / 64 ≡ p → table.entry i ≡ None) (owner : PageOwner)
      (given : owner ≢ PageOf τ) where
    abbrev t : Table
    t = withdrawn_table table j

    behind : IsBehind env mix table page τ (table.part (j / 64)) (j % 64) p
    behind = nested.leads j p of has leads

    entry-here : t.entry j ≡ None
    entry-here = put-same table.entry j None

    entry-other : (i q : ℕ) → table.entry i ≡ Some q → q ≢ p → t.entry i ≡ Some q
    entry-other i q is other =
        put-other table.entry j None i (λ e. other (some-same q p (sym is ∙ ap table.entry e ∙ leads))) ∙ is

    entry-was : (i q : ℕ) → t.entry i ≡ Some q → (i ≢ j) × (table.entry i ≡ Some q)
    entry-was i q is = elim (cases_eq i j) [
      | inl e ↦ absurd (none-some (ap t.entry e ∙ entry-here) is)
      | inr other ↦ (other, sym (put-other table.entry j None i other) ∙ is)
    ]

    -- the page is none of those with the top's part, and none but it is given
    no_top : (one : Part) (index : ℕ) → child table.shape one index ≡ Top → one ≢ Row → ⊥
    no_top Row index is other = other refl
    no_top (Leaf low) index is other = cc
    no_top (Middle low) index is other = cc
    no_top Top index is other = go (is_deep table.shape) is
      where
        go : (deep : Bool) → ◌≡◌ {A = Part} (cond deep (Middle index) (Leaf index)) Top → ⊥
        go true e = cc
        go false e = cc

    not_row : (part : Part) → has_entries part ≡ true → part ≢ Row
    not_row Row has e = absurd (cc)
    not_row (Leaf low) has e = cc
    not_row (Middle low) has e = cc
    not_row Top has e = cc

    top_apart : first_page table.shape ≢ p
    top_apart e =
        no_top (table.part (j / 64)) (j % 64) (sym behind.part_is ∙ ap table.part (sym e) ∙ nested.top_part)
        (not_row (table.part (j / 64)) has)

    abbrev pages : ℕ → PageOwner
    pages = put page p owner

    own : (q : ℕ) → pages q ≡ PageOf τ → (q ≢ p) × (page q ≡ PageOf τ)
    own q is = elim (cases_eq q p) [
      | inl e ↦ absurd (given (sym (put-same page p owner) ∙ ap pages (sym e) ∙ is))
      | inr other ↦ (other, sym (put-other page p owner q other) ∙ is)
    ]

    -- ---- where pages stand

    abbrev first_entry : ℕ → ℕ
    first_entry low = 64 * first_page table.shape + low % N

    in_top : (low : ℕ) → first_entry low / 64 ≡ first_page table.shape
    in_top low =
        let below = mod_below low N (some_entries table.shape) in
        let few = few_entries table.shape nested.shaped in
        omega (arith, below, few)

    -- where the entry of the top page leads to the page, and pages of entries are behind the top page, it is one of these
    is_middle : (low : ℕ) → first_entry low ≡ j → is_deep table.shape ≡ true → has_entries (table.part p) ≡ true
    is_middle low here deep =
        let at_top : table.part (j / 64) ≡ Top =
        ap (λ k. table.part (k / 64)) (sym here) ∙ ap table.part (in_top low) ∙ nested.top_part in
        ap has_entries (behind.part_is ∙ ap (λ part. child table.shape part (j % 64)) at_top)
        ∙ ap (λ d. has_entries (cond d (Middle (j % 64)) (Leaf (j % 64)))) deep

    behind-stays : (deep : Bool) (q r rest : ℕ) → r ≢ p → cond deep (table.entry (64 * q + rest % 64)) (Some q) ≡ Some r
        → cond deep (t.entry (64 * q + rest % 64)) (Some q) ≡ Some r
    behind-stays false q r rest other is = is
    behind-stays true q r rest other is = entry-other (64 * q + rest % 64) r is other

    -- behind the page itself there is no other one
    behind-here : (deep : Bool) (r rest : ℕ) → (deep ≡ true → has_entries (table.part p) ≡ true) → r ≢ p
        → cond deep (table.entry (64 * p + rest % 64)) (Some p) ≡ Some r → ⊥
    behind-here false r rest middle other is = other (sym (some-same p r is))
    behind-here true r rest middle other is = none-some (none (middle refl) (64 * p + rest % 64) (omega arith)) is

    leaf-stays : (low r : ℕ) → r ≢ p → leaf_page table low ≡ Some r → leaf_page t low ≡ Some r
    leaf-stays low r other = go (table.entry (first_entry low)) refl
      where
        go : (entry : Option ℕ) → table.entry (first_entry low) ≡ entry → behind_top table entry (low / N) ≡ Some r
            → leaf_page t low ≡ Some r
        go None e is = absurd (cc)
        go (Some q) e is = elim (cases_eq q p) [
          | inl here ↦
              let at : first_entry low ≡ j =
              one_entry (first_entry low) j p (ap page (in_top low) ∙ nested.top_of) of
              (ap (λ k. has_entries (table.part k)) (in_top low) ∙ ap has_entries nested.top_part) has
              (e ∙ ap Some here) leads in
              absurd (behind-here (is_deep table.shape) r (low / N) (is_middle low at) other
              (subst (λ k. behind_top table (Some k) (low / N) ≡ Some r) here is))
          | inr apart ↦
              ap (λ o. behind_top t o (low / N)) (entry-other (first_entry low) q e apart)
              ∙ behind-stays (is_deep table.shape) q r (low / N) other is
        ]

    stands-stay : (q : ℕ) (part : Part) → q ≢ p → StandsAs table q part → StandsAs t q part
    stands-stay q Row other is = is
    stands-stay q (Leaf low) other is = record { below = is.below; entered = leaf-stays low q other is.entered }
    stands-stay q (Middle low) other is = record {
      deep = is.deep;
      below = is.below;
      entered = entry-other (64 * first_page table.shape + low) q is.entered other;
    }
    stands-stay q Top other is = is

    -- it is a nested table still
    pub withdrawn-nested : IsNested env mix t pages τ
    withdrawn-nested = record {
      shaped = nested.shaped;
      top_within = nested.top_within;
      top_of = put-other page p owner (first_page table.shape) top_apart ∙ nested.top_of;
      top_part = nested.top_part;
      stands = λ q is. let mine = own q is in stands-stay q (table.part q) mine.0 (nested.stands q mine.1);
      leads = λ i q is entries leads_to.
          let mine = own (i / 64) is in
          let was = entry-was i q leads_to in
          let at = nested.leads i q mine.1 entries was.1 in
          record {
            within = at.within;
            of = put-other page p owner q (λ e. was.0 (one_entry i j p mine.1 of entries has (was.1 ∙ ap Some e) leads)) ∙ at.of;
            part_is = at.part_is;
          };
      places = λ b. refl;
    }
