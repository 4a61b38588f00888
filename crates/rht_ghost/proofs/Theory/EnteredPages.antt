-- What a page that is entered behind an entry leaves of a nested table, and what it adds: each way that led to a page still does, and a
-- way that leads to one from then on leads to that page.
use Rattle.std.proofs.Common.{◌≡◌, ◌≢◌, ◌⊎◌, ℕ, ◌+◌, ◌*◌, ◌/◌, ◌%◌, ◌<◌, cond, Bool, true, false, Option, Some, None, refl, sym, ◌∙◌, ap, subst, inl, inr, arith}
use Rattle.std.specs.Prelude.{◌==◌}
use Rattle.std.proofs.lemmas.Bool.{cases_eq, eq-eqb, ne_eqb}
use Rattle.std.proofs.lemmas.Nat.{mod_below}
use Rattle.rht_words.specs.declared.env.Env.{Env}
use Rattle.rht_nest.specs.Place.{is_deep}
use Rattle.rht_ghost.proofs.Theory.Ghosts.{put-same, put-other, put_in, put_in-there, put_in-other, Part, Row, Leaf, Middle, Top, Table, PageOwner, PageOf, none-some, some-same}
use Rattle.rht_ghost.proofs.Theory.LowBits.{low_of, high_of, low_alone, below_of}
use Rattle.rht_ghost.proofs.Theory.Ways.{first_page, entries_in, leaves_in, child, behind_top, leaf_page, word_in, followed, StandsAs, IsMiddleAt, IsInUse, entered_table}
use Rattle.rht_ghost.proofs.Theory.Wholes.{IsNested}
use Rattle.rht_ghost.proofs.Theory.Entries.{depth_of, few_entries, some_entries, top_leads}

-- ---- entries, which the page and its entry alone change

module _ (table : Table) (j p : ℕ) (none : table.entry j ≡ None) (apart : j / 64 ≢ p) where
  abbrev after : Table
  after = entered_table table j p

  abbrev cleared : ℕ → Option ℕ
  cleared = put_in (λ i. i / 64 == p) None table.entry

  pub entry-here : after.entry j ≡ Some p
  entry-here = put-same cleared j (Some p)

  pub entry-inside : (i : ℕ) → i / 64 ≡ p → after.entry i ≡ None
  entry-inside i inside =
      put-other cleared j (Some p) i (λ e. apart (ap (λ k. k / 64) (sym e) ∙ inside))
      ∙ put_in-there (λ k. k / 64 == p) None table.entry i (eq-eqb (i / 64) p inside)

  pub entry-other : (i : ℕ) → i ≢ j → i / 64 ≢ p → after.entry i ≡ table.entry i
  entry-other i other outside =
      put-other cleared j (Some p) i other
      ∙ put_in-other (λ k. k / 64 == p) None table.entry i (ne_eqb (i / 64) p outside)

  pub entry-stays : (i q : ℕ) → i / 64 ≢ p → table.entry i ≡ Some q → after.entry i ≡ Some q
  entry-stays i q outside is = elim (cases_eq i j) [
    | inl e ↦ absurd (none-some none (ap table.entry (sym e) ∙ is))
    | inr other ↦ entry-other i other outside ∙ is
  ]

  -- an entry that leads to a page did so, or is this one
  pub entry-new : (i q : ℕ) → after.entry i ≡ Some q → (table.entry i ≡ Some q) ⊎ (q ≡ p)
  entry-new i q is = elim (cases_eq i j) [
    | inl e ↦ inr (sym (some-same p q (sym entry-here ∙ ap after.entry (sym e) ∙ is)))
    | inr other ↦ elim (cases_eq (i / 64) p) [
      | inl inside ↦ absurd (none-some (entry-inside i inside) is)
      | inr outside ↦ inl (sym (entry-other i other outside) ∙ is)
    ]
  ]

  -- ---- parts

  pub part-here : after.part p ≡ child table.shape (table.part (j / 64)) (j % 64)
  part-here = put-same table.part p (child table.shape (table.part (j / 64)) (j % 64))

  pub part-other : (q : ℕ) → q ≢ p → after.part q ≡ table.part q
  part-other q other = put-other table.part p (child table.shape (table.part (j / 64)) (j % 64)) q other

module _ (env : Env) (mix : ℕ → ℕ → ℕ → ℕ) (table : Table) (page : ℕ → PageOwner) (τ : ℕ)
    (nested : IsNested env mix table page τ) (j p : ℕ) (none : table.entry j ≡ None)
    (of : page (j / 64) ≡ PageOf τ) (mine : page p ≢ PageOf τ) where
  abbrev N : ℕ
  N = entries_in table.shape

  abbrev top : ℕ
  top = first_page table.shape

  abbrev t : Table
  t = entered_table table j p

  -- the page is none of the table's
  not_own : (q : ℕ) → page q ≡ PageOf τ → q ≢ p
  not_own q own e = mine (ap page (sym e) ∙ own)

  pub apart : j / 64 ≢ p
  apart = not_own (j / 64) of

  -- ---- ways

  abbrev first_entry : ℕ → ℕ
  first_entry low = 64 * top + low % N

  in_top : (low : ℕ) → first_entry low / 64 ≡ top
  in_top low =
      let below = mod_below low N (some_entries table.shape) in
      let few = few_entries table.shape nested.shaped in
      omega (arith, below, few)

  -- an entry of the top page that leads to a page leads to one of the table's
  top_own : (low q : ℕ) → table.entry (first_entry low) ≡ Some q → page q ≡ PageOf τ
  top_own low q is =
      (top_leads env mix table page τ nested (low % N) q (mod_below low N (some_entries table.shape)) is).of

  top-stays : (low q : ℕ) → table.entry (first_entry low) ≡ Some q → t.entry (first_entry low) ≡ Some q
  top-stays low q is =
      entry-stays table j p none apart (first_entry low) q
      (λ e. not_own top nested.top_of (sym (in_top low) ∙ e)) is

  behind-stays : (deep : Bool) (low q r rest : ℕ) → table.entry (first_entry low) ≡ Some q
      → cond deep (table.entry (64 * q + rest % 64)) (Some q) ≡ Some r
      → cond deep (t.entry (64 * q + rest % 64)) (Some q) ≡ Some r
  behind-stays false low q r rest e is = is
  behind-stays true low q r rest e is =
      entry-stays table j p none apart (64 * q + rest % 64) r
      (λ same. not_own q (top_own low q e) (omega (arith, same))) is

  pub leaf-stays : (low r : ℕ) → leaf_page table low ≡ Some r → leaf_page t low ≡ Some r
  leaf-stays low r = go (table.entry (first_entry low)) refl
    where
      go : (entry : Option ℕ) → table.entry (first_entry low) ≡ entry
          → behind_top table entry (low / N) ≡ Some r → leaf_page t low ≡ Some r
      go None e is = absurd (cc)
      go (Some q) e is =
          ap (λ o. behind_top t o (low / N)) (top-stays low q e)
          ∙ behind-stays (is_deep table.shape) low q r (low / N) e is

  behind-new : (deep : Bool) (q r rest : ℕ) → cond deep (t.entry (64 * q + rest % 64)) (Some q) ≡ Some r
      → (cond deep (table.entry (64 * q + rest % 64)) (Some q) ≡ Some r) ⊎ (r ≡ p)
  behind-new false q r rest is = inl is
  behind-new true q r rest is = entry-new table j p none apart (64 * q + rest % 64) r is

  -- behind the page that was entered itself no other one is
  behind-here : (deep : Bool) (r rest : ℕ) → cond deep (t.entry (64 * p + rest % 64)) (Some p) ≡ Some r → r ≡ p
  behind-here false r rest is = sym (some-same p r is)
  behind-here true r rest is =
      absurd (none-some (entry-inside table j p none apart (64 * p + rest % 64) (omega arith)) is)

  pub leaf-new : (low r : ℕ) → leaf_page t low ≡ Some r → (leaf_page table low ≡ Some r) ⊎ (r ≡ p)
  leaf-new low r = go (t.entry (first_entry low)) refl
    where
      go : (entry : Option ℕ) → t.entry (first_entry low) ≡ entry
          → behind_top t entry (low / N) ≡ Some r → (leaf_page table low ≡ Some r) ⊎ (r ≡ p)
      go None e is = absurd (cc)
      go (Some q) e is = elim (entry-new table j p none apart (first_entry low) q e) [
        | inl was ↦ elim (behind-new (is_deep table.shape) q r (low / N) is) [
          | inl still ↦ inl (ap (λ o. behind_top table o (low / N)) was ∙ still)
          | inr here ↦ inr here
        ]
        | inr here ↦ inr (behind-here (is_deep table.shape) r (low / N)
            (subst (λ k. behind_top t (Some k) (low / N) ≡ Some r) here is))
      ]

  -- so the words of buckets stay, and those that come are in the page
  pub followed-stays : (b i : ℕ) → followed table b ≡ Some i → followed t b ≡ Some i
  followed-stays b i = go (leaf_page table (b % leaves_in table.shape)) refl
    where
      go : (leaf : Option ℕ) → leaf_page table (b % leaves_in table.shape) ≡ leaf
          → word_in leaf (b / leaves_in table.shape) ≡ Some i → followed t b ≡ Some i
      go None e is = absurd (cc)
      go (Some r) e is =
          ap (λ o. word_in o (b / leaves_in table.shape)) (leaf-stays (b % leaves_in table.shape) r e) ∙ is

  pub followed-new : (b i : ℕ) → followed t b ≡ Some i → (followed table b ≡ Some i) ⊎ (i / 64 ≡ p)
  followed-new b i = go (leaf_page t (b % leaves_in table.shape)) refl
    where
      go : (leaf : Option ℕ) → leaf_page t (b % leaves_in table.shape) ≡ leaf
          → word_in leaf (b / leaves_in table.shape) ≡ Some i → (followed table b ≡ Some i) ⊎ (i / 64 ≡ p)
      go None e is = absurd (cc)
      go (Some r) e is = elim (leaf-new (b % leaves_in table.shape) r e) [
        | inl was ↦ inl (ap (λ o. word_in o (b / leaves_in table.shape)) was ∙ is)
        | inr here ↦ inr (let word = some-same (64 * r + b / leaves_in table.shape % 64) i is in omega (arith, word, here))
      ]

  -- ---- where pages stand

  pub stands-stay : (q : ℕ) (part : Part) → StandsAs table q part → StandsAs t q part
  stands-stay q Row is = is
  stands-stay q (Leaf low) is = record { below = is.below; entered = leaf-stays low q is.entered }
  stands-stay q (Middle low) is =
      let alone = low_alone N (some_entries table.shape) low is.below in
      record {
        deep = is.deep;
        below = is.below;
        entered = ap (λ k. t.entry (64 * top + k)) (sym alone)
            ∙ top-stays low q (ap (λ k. table.entry (64 * top + k)) alone ∙ is.entered);
      }
  stands-stay q Top is = is

  -- the page stands behind its entry, where that is one in use
  behind-top_page : j / 64 ≡ top → j % 64 < N → StandsAs t p (child table.shape Top (j % 64))
  behind-top_page at used =
      let here : t.entry (64 * top + j % 64) ≡ Some p =
      ap t.entry (omega (arith, at)) ∙ entry-here table j p none apart in
      elim (depth_of table.shape nested.shaped) [
        | inl shallow ↦
            let alone = low_alone N (some_entries table.shape) (j % 64) used in
            subst (StandsAs t p) (sym (ap (λ d. cond d (Middle (j % 64)) (Leaf (j % 64))) shallow.depth)) (record {
              below = omega (arith, used, shallow.leaves);
              entered = ap (λ k. behind_top t (t.entry (64 * top + k)) (j % 64 / N)) alone
                  ∙ ap (λ o. behind_top t o (j % 64 / N)) here
                  ∙ ap (λ d. cond d (t.entry (64 * p + j % 64 / N % 64)) (Some p)) shallow.depth;
            })
        | inr deep ↦
            subst (StandsAs t p) (sym (ap (λ d. cond d (Middle (j % 64)) (Leaf (j % 64))) deep.depth))
            (record { deep = deep.depth; below = used; entered = here })
      ]

  behind-middle_page : (low : ℕ) → IsMiddleAt table low (j / 64)
      → StandsAs t p (child table.shape (Middle low) (j % 64))
  behind-middle_page low at =
      let some = some_entries table.shape in
      let middle : t.entry (64 * top + low) ≡ Some (j / 64) = (stands-stay (j / 64) (Middle low) at).entered in
      let leaves : leaves_in table.shape ≡ 64 * N = ap (λ d. cond d (64 * N) N) at.deep in
      record {
        below = omega (arith, below_of N some low (j % 64) 64 at.below (omega arith), leaves);
        entered = ap (λ k. behind_top t (t.entry (64 * top + k)) ((low + N * (j % 64)) / N))
            (low_of N some low (j % 64) at.below)
            ∙ ap (λ o. behind_top t o ((low + N * (j % 64)) / N)) middle
            ∙ ap (λ k. behind_top t (Some (j / 64)) k) (high_of N some low (j % 64) at.below)
            ∙ ap (λ d. cond d (t.entry (64 * (j / 64) + j % 64 % 64)) (Some (j / 64))) at.deep
            ∙ ap t.entry (omega arith) ∙ entry-here table j p none apart;
      }

  pub stands-here : IsInUse table.shape (table.part (j / 64)) (j % 64) → StandsAs t p (t.part p)
  stands-here used =
      subst (StandsAs t p) (sym (part-here table j p none apart))
      (go (table.part (j / 64)) (nested.stands (j / 64) of) used)
    where
      go : (part : Part) → StandsAs table (j / 64) part → IsInUse table.shape part (j % 64)
          → StandsAs t p (child table.shape part (j % 64))
      go Row at used = absurd used
      go (Leaf low) at used = absurd used
      go (Middle low) at used = behind-middle_page low at
      go Top at used = behind-top_page at used
