-- The first lease of a port and an owner: a list has one where its place is found, and there it is changed or taken out; where none is found,
-- nothing is. Each by induction over the leases, down to the first one.
use Rattle.std.proofs.Common.{◌≡◌, ℕ, zero, suc, ◌+◌, ◌<◌, Bool, true, false, cond, Some, None, List, [], ◌∷◌, length, get_or, set, refl, sym, ◌∙◌, ap, inl, inr, arith}
use Rattle.std.specs.List.{AllByRecursion, remove, position, position_from}
use Rattle.std.proofs.lemmas.Bool.{cases_Bool}
use Rattle.std.proofs.lemmas.Iterator.Adapters.{position_from-zero}
use Rattle.std.proofs.lemmas.List.Folds.{list_any_at}
use Rattle.std.proofs.lemmas.List.Quantifiers.{position-Some}
use Rattle.rht_lease.specs.declared.lease.Lease.{Lease}
use Rattle.rht_lease.specs.Books.{lease_of, is_lease_of, has_lease, renewed, cancelled}

module _ (port owner : ℕ) where
  -- whether a lease is of this port and this owner
  abbrev mine : Lease → Bool
  mine = is_lease_of port owner

  -- some lease, which is looked at nowhere
  abbrev default : Lease
  default = lease_of 0 0 0

  renewed-at : (last : ℕ) (leases : List Lease) (place : ℕ) → place < length leases → mine (get_or leases place default) ≡ true
      → ((k : ℕ) → k < place → mine (get_or leases k default) ≡ false)
      → set leases place (lease_of port owner last) ≡ renewed port owner last leases
  renewed-at last [] place within here before = absurd (omega (arith, within))
  renewed-at last (lease ∷ leases) zero within here before =
      sym (ap (λ b. cond b (lease_of port owner last ∷ leases) (lease ∷ renewed port owner last leases)) here)
  renewed-at last (lease ∷ leases) (suc place) within here before =
      ap (λ l. lease ∷ l)
      (renewed-at last leases place (omega (arith, within)) here (λ k below. before (suc k) (omega (arith, below))))
      ∙ sym (ap (λ b. cond b (lease_of port owner last ∷ leases) (lease ∷ renewed port owner last leases)) (before 0 (omega arith)))

  cancelled-at : (leases : List Lease) (place : ℕ) → place < length leases → mine (get_or leases place default) ≡ true
      → ((k : ℕ) → k < place → mine (get_or leases k default) ≡ false)
      → remove leases place ≡ cancelled port owner leases
  cancelled-at [] place within here before = absurd (omega (arith, within))
  cancelled-at (lease ∷ leases) zero within here before =
      sym (ap (λ b. cond b leases (lease ∷ cancelled port owner leases)) here)
  cancelled-at (lease ∷ leases) (suc place) within here before =
      ap (λ l. lease ∷ l)
      (cancelled-at leases place (omega (arith, within)) here (λ k below. before (suc k) (omega (arith, below))))
      ∙ sym (ap (λ b. cond b leases (lease ∷ cancelled port owner leases)) (before 0 (omega arith)))

  -- ---- where it is found

  module _ (leases : List Lease) (place : ℕ) (found : position mine leases ≡ Some place) where
    pub renewed-first : (last : ℕ) → set leases place (lease_of port owner last) ≡ renewed port owner last leases
    renewed-first last =
        let first = position-Some mine leases place default found in
        renewed-at last leases place first.0 first.1 first.2

    pub cancelled-first : remove leases place ≡ cancelled port owner leases
    cancelled-first =
        let first = position-Some mine leases place default found in
        cancelled-at leases place first.0 first.1 first.2

    pub has_lease-first : has_lease port owner leases ≡ true
    has_lease-first =
        let first = position-Some mine leases place default found in
        list_any_at mine leases place default first.0 first.1

  -- ---- where none is

  none_from : (leases : List Lease) (start : ℕ) → position_from mine start leases ≡ None
      → AllByRecursion (λ lease. mine lease ≡ false) leases
  none_from [] start none = tt
  none_from (lease ∷ leases) start none = elim (cases_Bool (mine lease)) [
    | inl is ↦ let found : Some start ≡ None = rw is at none in absurd (cc)
    | inr other ↦ (other, none_from leases (start + 1) (rw other at none))
  ]

  renewed-other : (last : ℕ) (leases : List Lease) → AllByRecursion (λ lease. mine lease ≡ false) leases
      → renewed port owner last leases ≡ leases
  renewed-other last [] none = refl
  renewed-other last (lease ∷ leases) none =
      ap (λ b. cond b (lease_of port owner last ∷ leases) (lease ∷ renewed port owner last leases)) none.0
      ∙ ap (λ l. lease ∷ l) (renewed-other last leases none.1)

  cancelled-other : (leases : List Lease) → AllByRecursion (λ lease. mine lease ≡ false) leases → cancelled port owner leases ≡ leases
  cancelled-other [] none = refl
  cancelled-other (lease ∷ leases) none =
      ap (λ b. cond b leases (lease ∷ cancelled port owner leases)) none.0 ∙ ap (λ l. lease ∷ l) (cancelled-other leases none.1)

  has_lease-other : (leases : List Lease) → AllByRecursion (λ lease. mine lease ≡ false) leases → has_lease port owner leases ≡ false
  has_lease-other [] none = refl
  has_lease-other (lease ∷ leases) none = rw none.0 (has_lease-other leases none.1)

  module _ (leases : List Lease) (none : position mine leases ≡ None) where
    others : AllByRecursion (λ lease. mine lease ≡ false) leases
    others = none_from leases 0 (sym (position_from-zero mine leases) ∙ none)

    pub renewed-none : (last : ℕ) → renewed port owner last leases ≡ leases
    renewed-none last = renewed-other last leases others

    pub cancelled-none : cancelled port owner leases ≡ leases
    cancelled-none = cancelled-other leases others

    pub has_lease-none : has_lease port owner leases ≡ false
    has_lease-none = has_lease-other leases others
