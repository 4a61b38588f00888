-- The nodes that some caller's section has met in a chain.
use Rattle.std.proofs.Common.{◌≡◌, ℕ, suc, zero, ◌<◌, Bool, true, false, subst, inl, inr, arith}
use Rattle.std.specs.Prelude.{◌||◌}
use Rattle.std.proofs.lemmas.Bool.{cases_eq, both_ways, or_left, or_right, or_cases, false_from_ne_true}
use Rattle.rht_words.specs.declared.env.Env.{Env}
use Rattle.rht_words.proofs.Memory.{Memory}
use Rattle.rht_ghost.proofs.Theory.Ghosts.{Ghost}
use Rattle.rht_core.proofs.Finding.GivenBack.{IsUnmet}
use Rattle.rht_core.proofs.Returning.Readers.{Reader, ReaderRight}

-- one of the callers below this number has met it
abbrev pub met_by : (ℕ → Reader) → ℕ → ℕ → Bool
met_by readers zero n = false
met_by readers (suc k) n = met_by readers k n || (readers k).chains n

-- which one
pub record HasMet (readers : ℕ → Reader) (k n : ℕ) : Type 0 where
  pub caller : ℕ
  pub below : caller < k
  pub met : (readers caller).chains n ≡ true

pub met-of : (readers : ℕ → Reader) (k c n : ℕ) → c < k → (readers c).chains n ≡ true → met_by readers k n ≡ true
met-of readers zero c n low is = absurd (omega (arith, low))
met-of readers (suc k) c n low is = elim (cases_eq c k) [
  | inl same ↦ or_right (met_by readers k n) ((readers k).chains n) (subst (λ d. (readers d).chains n ≡ true) same is)
  | inr ne ↦ or_left (met_by readers k n) ((readers k).chains n) (met-of readers k c n (omega (arith, low, ne)) is)
]

has-met : (readers : ℕ → Reader) (k n : ℕ) → met_by readers k n ≡ true → HasMet readers k n
has-met readers zero n is = absurd (cc)
has-met readers (suc k) n is = elim (or_cases (met_by readers k n) ((readers k).chains n) is) [
  | inl before ↦
      let had = has-met readers k n before in
      let below = had.below in
      record { caller = had.caller; below = omega (arith, below); met = had.met }
  | inr this ↦ record { caller = k; below = omega arith; met = this }
]

-- no caller's section has met it in a list
abbrev pub IsApart : ℕ → (ℕ → Reader) → ℕ → Type 0
IsApart callers readers n = (c : ℕ) → c < callers → (readers c).lists n ≡ false

-- so none has met it in a chain; and links lead from the nodes that were met to such nodes
pub apart-unmet : (env : Env) (mix : ℕ → ℕ → ℕ → ℕ) (M : Memory) (G : Ghost) (callers : ℕ) (readers : ℕ → Reader)
    → ((c : ℕ) → c < callers → ReaderRight env mix M G c (readers c)) → (n : ℕ) → IsApart callers readers n
    → IsUnmet env M (met_by readers callers) n
apart-unmet env mix M G callers readers right n apart = record {
  leads = λ m k met leads.
      let had = has-met readers callers m met in
      met-of readers callers had.caller k had.below ((right had.caller had.below).chain_leads m k had.met leads);
  apart = false_from_ne_true (met_by readers callers n) (λ met.
      let had = has-met readers callers n met in
      both_ways ((readers had.caller).lists n) (apart had.caller had.below) ((right had.caller had.below).chained n had.met));
}
