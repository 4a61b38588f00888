-- A list of one session, and of none, by its length.
use Rattle.std.proofs.Common.{◌≡◌, Bool, true, false, List, [], ◌∷◌, length, refl, arith}
use Rattle.rht_session.specs.Held.{one_if, is_some}

module _ {A : Type 0} where
  pub the_one : (items : List A) → length items ≡ 1 → (item : A) × (items ≡ item ∷ [])
  the_one [] one = absurd (omega (arith, one))
  the_one (item ∷ []) one = (item, refl)
  the_one (item ∷ other ∷ items) one = absurd (omega (arith, one))

  pub none : (items : List A) → length items ≡ 0 → items ≡ []
  none [] zero = refl
  none (item ∷ items) zero = absurd (omega (arith, zero))

  -- where one is wanted exactly if this is so, there is one exactly then
  pub told_is_some : (items : List A) (wanted : Bool) → length items ≡ one_if wanted → wanted ≡ is_some items
  told_is_some [] true told = absurd (omega (arith, told))
  told_is_some [] false told = refl
  told_is_some (item ∷ items) true told = refl
  told_is_some (item ∷ items) false told = absurd (omega (arith, told))
