-- The callers of a table that has just been opened. The last pass is taken from the list, so the ones that are left have the numbers below.
use Rattle.std.proofs.Common.{◌≡◌, ℕ, suc, ◌+◌, List, [], ◌∷◌, ◌++◌, length, subst, arith}
use Rattle.rht_run.specs.declared.table.Table.{Table}
use Rattle.rht_run.specs.declared.pass.Pass.{Pass}
use Rattle.rht_run.specs.Passes.{IsNew, AreNew}

module _ {M : Type 0} (mix : ℕ → ℕ → ℕ → ℕ) (t : Table M) (last : Pass M) where
  -- by induction over the passes before the last one
  pub before_last : (n : ℕ) (passes : List (Pass M)) → AreNew mix t n (passes ++ last ∷ []) → AreNew mix t n passes
  before_last n [] new = tt
  before_last n (pass ∷ passes) new = (new.0, before_last (n + 1) passes new.1)

  last_new : (n : ℕ) (passes : List (Pass M)) → AreNew mix t n (passes ++ last ∷ []) → IsNew mix t (n + length passes) last
  last_new n [] new = let same : n ≡ n + 0 = omega arith in subst (λ (k : ℕ). IsNew mix t k last) same new.0
  last_new n (pass ∷ passes) new =
      let same : n + 1 + length passes ≡ n + suc (length passes) = omega arith in
      subst (λ (k : ℕ). IsNew mix t k last) same (last_new (n + 1) passes new.1)

  -- counted from 0 it has the number of those before it
  pub last_of_all : (passes : List (Pass M)) → AreNew mix t 0 (passes ++ last ∷ []) → IsNew mix t (length passes) last
  last_of_all passes new =
      let same : 0 + length passes ≡ length passes = omega arith in
      subst (λ (k : ℕ). IsNew mix t k last) same (last_new 0 passes new)
