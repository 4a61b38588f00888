-- A nested table in which no entry of the top page that is in use leads to a page has no page but that one, and none of its entries
-- leads to a page.
use Rattle.std.proofs.Common.{◌≡◌, ℕ, ◌+◌, ◌*◌, ◌/◌, ◌%◌, ◌<◌, ◌≤◌, cond, Option, Some, None, refl, ◌∙◌, ap, subst, inl, inr, arith}
use Rattle.std.proofs.lemmas.Nat.{mod_below}
use Rattle.rht_words.specs.declared.env.Env.{Env}
use Rattle.rht_ghost.proofs.Theory.Ghosts.{Part, Row, Leaf, Middle, Top, Table, PageOwner, PageOf, none-some}
use Rattle.rht_ghost.proofs.Theory.Ways.{first_page, entries_in, child, behind_top, StandsAs}
use Rattle.rht_ghost.proofs.Theory.Wholes.{IsNested}
use Rattle.rht_ghost.proofs.Theory.Entries.{depth_of, few_entries, some_entries, word_leads}

module _ (env : Env) (mix : ℕ → ℕ → ℕ → ℕ) (table : Table) (page : ℕ → PageOwner) (τ : ℕ)
    (nested : IsNested env mix table page τ) where
  abbrev N : ℕ
  N = entries_in table.shape

  abbrev top : ℕ
  top = first_page table.shape

  -- ---- entries that aren't in use

  -- what stands behind an entry of the top page stands behind one that is in use
  used : (index p : ℕ) → StandsAs table p (child table.shape Top index) → index < N
  used index p stands = elim (depth_of table.shape nested.shaped) [
    | inl shallow ↦
        let leaf = subst (λ t. StandsAs table p (cond t (Middle index) (Leaf index))) shallow.depth stands in
        omega (arith, leaf.below, shallow.leaves)
    | inr deep ↦ (subst (λ t. StandsAs table p (cond t (Middle index) (Leaf index))) deep.depth stands).below
  ]

  pub unused-bare : (index : ℕ) → N ≤ index → index < 64 → table.entry (64 * top + index) ≡ None
  unused-bare index from l = go (table.entry (64 * top + index)) refl
    where
      go : (entry : Option ℕ) → table.entry (64 * top + index) ≡ entry → entry ≡ None
      go None is = refl
      go (Some p) is =
          let behind = word_leads env mix table page τ nested Top top index p l nested.top_of nested.top_part refl is in
          let below = used index p (subst (StandsAs table p) behind.part_is (nested.stands p behind.of)) in
          absurd (omega (arith, from, below))

  -- ---- where none of the top page leads on

  module _ (bare : (index : ℕ) → index < 64 → table.entry (64 * top + index) ≡ None) where
    leads_nowhere : (low rest p : ℕ) → behind_top table (table.entry (64 * top + low % N)) rest ≡ Some p → ⊥
    leads_nowhere low rest p is =
        let l = mod_below low N (some_entries table.shape) in
        let few = few_entries table.shape nested.shaped in
        let none = bare (low % N) (omega (arith, l, few)) in
        none-some (ap (λ e. behind_top table e rest) none) is

    -- no other page stands anywhere
    pub top-alone : (p : ℕ) → page p ≡ PageOf τ → p ≡ top
    top-alone p of = go (table.part p) (nested.stands p of)
      where
        go : (part : Part) → StandsAs table p part → p ≡ top
        go Row stands = absurd stands
        go (Leaf low) stands = absurd (leads_nowhere low (low / N) p stands.entered)
        go (Middle low) stands =
            let few = few_entries table.shape nested.shaped in
            absurd (none-some (bare low (let below = stands.below in omega (arith, below, few))) stands.entered)
        go Top stands = stands

    pub all-bare : (j : ℕ) → page (j / 64) ≡ PageOf τ → table.entry j ≡ None
    all-bare j of =
        let here = top-alone (j / 64) of in
        let at : j ≡ 64 * top + j % 64 = omega (arith, here) in
        ap table.entry at ∙ bare (j % 64) (omega arith)
