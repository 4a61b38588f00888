-- What becomes of a port's owners by a release and by a rebind, by the place at which their owner stands first.
use Rattle.std.proofs.Common.{◌≡◌, ◌≢◌, ℕ, ◌+◌, ◌<◌, ◌==◌, Bool, true, false, Option, None, Some, List, [], ◌∷◌, length, get_or, set, suc, zero, refl, sym, ◌∙◌, ap, arith, inl, inr}
use Rattle.std.proofs.lemmas.Bool.{cases_Bool, cases_eq, eq-eqb, ne_eqb}
use Rattle.std.proofs.lemmas.List.Folds.{list_any_at}
use Rattle.std.proofs.lemmas.List.Quantifiers.{position-Some}
use Rattle.std.proofs.lemmas.Iterator.Adapters.{position_from-zero}
use Rattle.std.specs.Option.{IsSome, OnSome}
use Rattle.std.specs.List.{remove, position, position_from}
use Rattle.rht_model.specs.Answers.{owners_released, owners_rebound}
use Rattle.rht_model.proofs.FirstOwners.{has_owner, IsAtFirst, IsAtFirst-released, IsAtFirst-rebound, changed-none}
use Rattle.rht_model.proofs.CallEffects.{length-owners_rebound}

-- whether it is this owner
abbrev is_owner : ℕ → ℕ → Bool
is_owner owner o = o == owner

module _ (owner : ℕ) where
  -- the owner is among these, and this is a place of theirs
  pub record IsFoundAt (owners : List ℕ) (place : ℕ) : Type 0 where
    pub within : place < length owners
    pub found : true ≡ has_owner owner owners

  pub found_at : (owners : List ℕ) (place : ℕ) → position (is_owner owner) owners ≡ Some place → IsFoundAt owners place
  found_at owners place is =
      let first = position-Some (is_owner owner) owners place 0 is in
      record { within = first.0; found = sym (list_any_at (is_owner owner) owners place 0 first.0 first.1) }

  -- By induction over the owners, none of which is this one.
  absent_from : (owners : List ℕ) (start : ℕ) → position_from (is_owner owner) start owners ≡ None → false ≡ has_owner owner owners
  absent_from [] start none = refl
  absent_from (first ∷ owners) start none =
      elim (cases_Bool (first == owner)) [
        | inl same ↦
            let found : Some start ≡ None = rw same at none in
            cc
        | inr other ↦ rw other (absent_from owners (start + 1) (rw other at none))
      ]

  pub absent : (owners : List ℕ) → position (is_owner owner) owners ≡ None → false ≡ has_owner owner owners
  absent owners none = absent_from owners 0 (sym (position_from-zero (is_owner owner) owners) ∙ none)

module _ (owner : ℕ) (change make : List ℕ → List ℕ) (at_first : IsAtFirst owner change make)
    (edit : List ℕ → ℕ → List ℕ) (here : (first : ℕ) (owners : List ℕ) → edit (first ∷ owners) 0 ≡ make owners)
    (past : (first : ℕ) (owners : List ℕ) (place : ℕ) → edit (first ∷ owners) (suc place) ≡ first ∷ edit owners place) where
  -- By induction over the owners, down to the first that is this one: an edit of what it makes there is the change.
  edited_here : (owners : List ℕ) (place : ℕ) → place < length owners → is_owner owner (get_or owners place 0) ≡ true
      → ((k : ℕ) → k < place → is_owner owner (get_or owners k 0) ≡ false)
      → edit owners place ≡ change owners
  edited_here [] place within is before = absurd (omega arith)
  edited_here (first ∷ owners) zero within is before = here first owners ∙ sym (at_first.here first owners is)
  edited_here (first ∷ owners) (suc place) within is before =
      past first owners place
      ∙ ap (λ l. first ∷ l) (edited_here owners place (omega arith) is (λ k below. before (suc k) (omega arith)))
      ∙ sym (at_first.past first owners (before 0 (omega arith)))

  edited_at : (owners : List ℕ) (place : ℕ) → position (is_owner owner) owners ≡ Some place → edit owners place ≡ change owners
  edited_at owners place is =
      let first = position-Some (is_owner owner) owners place 0 is in
      edited_here owners place first.0 first.1 first.2

-- a release takes the owner out at its place, and leaves owners without it as they are
pub released_at : (owner : ℕ) (owners : List ℕ) (place : ℕ) → position (is_owner owner) owners ≡ Some place
    → remove owners place ≡ owners_released owner owners
released_at owner =
    edited_at owner (owners_released owner) (λ others. others) (IsAtFirst-released owner) remove
    (λ first owners. refl) (λ first owners place. refl)

pub unreleased : (owner : ℕ) (owners : List ℕ) → position (is_owner owner) owners ≡ None → owners ≡ owners_released owner owners
unreleased owner owners none =
    sym (changed-none owner (owners_released owner) (λ others. others) (IsAtFirst-released owner) owners (sym (absent owner owners none)))

-- a rebind puts the new owner at its place, and leaves owners without it as they are
pub rebound_at : (owner new : ℕ) (owners : List ℕ) (place : ℕ) → position (is_owner owner) owners ≡ Some place
    → set owners place new ≡ owners_rebound owner new owners
rebound_at owner new =
    edited_at owner (owners_rebound owner new) (λ others. new ∷ others) (IsAtFirst-rebound owner new)
    (λ owners place. set owners place new) (λ first owners. refl) (λ first owners place. refl)

pub unrebound : (owner new : ℕ) (owners : List ℕ) → position (is_owner owner) owners ≡ None → owners ≡ owners_rebound owner new owners
unrebound owner new owners none =
    sym (changed-none owner (owners_rebound owner new) (λ others. new ∷ others) (IsAtFirst-rebound owner new) owners (sym (absent owner owners none)))

-- behind a rebind a bound port is bound
pub owners_rebound-some : (owner new : ℕ) (owners : List ℕ) → owners ≢ [] → owners_rebound owner new owners ≢ []
owners_rebound-some owner new [] some none = some refl
owners_rebound-some owner new (first ∷ others) some none =
    let as_many = length-owners_rebound owner new (first ∷ others) in
    let zero_left : length (owners_rebound owner new (first ∷ others)) ≡ 0 = ap (λ (l : List ℕ). length l) none in
    absurd (omega (arith, as_many, zero_left))

-- Without one of its owners a port is still bound, unless that was its only one.
pub owners_released-some : (owner : ℕ) (owners : List ℕ) → owners ≢ [] → owners ≢ owner ∷ []
    → owners_released owner owners ≢ []
owners_released-some owner [] some others = absurd (some refl)
owners_released-some owner (first ∷ owners) some others =
    elim (cases_eq first owner) [
      | inl same ↦ rw (eq-eqb first owner same) (λ none. others (ap (λ o. o ∷ owners) same ∙ ap (λ l. owner ∷ l) none))
      | inr other ↦ rw (ne_eqb first owner other) (λ none. let both : first ∷ owners_released owner owners ≡ [] = none in cc)
    ]

-- what holds where there is a value, holds where there is one
pub on_some : {X : Type 0} (value : Option X) (P : Type 0) → IsSome value → OnSome value P → P
on_some (Some x) P some holds = holds
on_some None P some holds = absurd (cc)
