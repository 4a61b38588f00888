-- Of tables that have slots of their own there are no more than slots: so many tables a section may come to,
-- however many were attached.
use Rattle.std.proofs.Common.{◌≡◌, ◌≢◌, ℕ, zero, suc, ◌+◌, ◌<◌, ◌≤◌, List, [], ◌∷◌, length, true, refl, ap, arith}
use Rattle.std.specs.List.{AllByRecursion}
use Rattle.rht_words.specs.Members.{NotIn, IsDistinct}
use Rattle.rht_words.proofs.Members.{length-count_below, count_below-most}

module _ (slot : ℕ → ℕ) where
  -- the slots of so many tables from this one on
  slots : ℕ → ℕ → List ℕ
  slots low zero = []
  slots low (suc count) = slot low ∷ slots (low + 1) count

  -- each from this table on, so many, has a slot, and no two have the same
  pub record HaveSlots (low count : ℕ) : Type 0 where
    pub within : (τ : ℕ) → low ≤ τ → τ < low + count → slot τ < 8
    pub own : (τ σ : ℕ) → low ≤ τ → τ < σ → σ < low + count → slot τ ≢ slot σ

  -- the slot of an earlier table is none of them, over their number
  apart : (τ low count : ℕ) → τ < low → ((σ : ℕ) → τ < σ → σ < low + count → slot τ ≢ slot σ)
      → NotIn (slot τ) (slots low count)
  unfolding slots
  apart τ low zero less own = tt
  apart τ low (suc count) less own = (
    own low less (omega arith),
    apart τ (low + 1) count (omega (arith, less))
        (λ σ l m. own σ l (omega (arith, m))),
  )

  -- those behind the first one have slots too
  rest : (low count : ℕ) → HaveSlots low (suc count) → HaveSlots (low + 1) count
  rest low count have = record {
    within = λ τ l m. have.within τ (omega (arith, l)) (omega (arith, m));
    own = λ τ σ l less m. have.own τ σ (omega (arith, l)) less (omega (arith, m));
  }

  -- no two are the same, each is one of eight, and there are so many
  distinct : (low count : ℕ) → HaveSlots low count → IsDistinct (slots low count)
  unfolding slots
  distinct low zero have = tt
  distinct low (suc count) have = (
    apart low (low + 1) count (omega arith) (λ σ l m. have.own low σ (omega arith) l (omega (arith, m))),
    distinct (low + 1) count (rest low count have),
  )

  below : (low count : ℕ) → HaveSlots low count → AllByRecursion (λ s. s < 8) (slots low count)
  unfolding slots
  below low zero have = tt
  below low (suc count) have =
      (have.within low (omega arith) (omega arith), below (low + 1) count (rest low count have))

  many : (low count : ℕ) → length (slots low count) ≡ count
  unfolding slots
  many low zero = refl
  many low (suc count) = ap suc (many (low + 1) count)

  -- so there are no more than eight
  pub few_tables : (low count : ℕ) → HaveSlots low count → count ≤ 8
  few_tables low count have =
      let few = length-count_below (λ s. true) 8 (slots low count) (distinct low count have)
      (below low count have) (λ s i. refl) in
      let most = count_below-most (λ s. true) 8 in
      omega (arith, few, most, many low count)
