-- A release and a rebind change a port's owners at the first one that is theirs: those before it stay, and each makes its own of that one and
-- of those behind it.
use Rattle.std.proofs.Common.{◌≡◌, ℕ, ◌==◌, Bool, true, false, List, [], ◌∷◌, ◌++◌, refl, sym, ◌∙◌, ap, inl, inr}
use Rattle.std.proofs.lemmas.Bool.{eq-eqb, ne_eqb, cases_Bool}
use Rattle.std.specs.List.{list_any}
use Rattle.rht_words.specs.Members.{NotIn}
use Rattle.rht_model.specs.Answers.{owners_released, owners_rebound}

-- whether the owner is one of these
abbrev pub has_owner : ℕ → List ℕ → Bool
has_owner owner owners = list_any (λ o. o == owner) owners

-- such a change of owners, and what it makes of those behind that one
pub record IsAtFirst (owner : ℕ) (change make : List ℕ → List ℕ) : Type 0 where
  pub none : change [] ≡ []
  pub here : (first : ℕ) (others : List ℕ) → (first == owner) ≡ true → change (first ∷ others) ≡ make others
  pub past : (first : ℕ) (others : List ℕ) → (first == owner) ≡ false → change (first ∷ others) ≡ first ∷ change others

-- a release leaves those behind it
pub IsAtFirst-released : (owner : ℕ) → IsAtFirst owner (owners_released owner) (λ others. others)
IsAtFirst-released owner = record {
  none = refl;
  here = λ first others same. rw same refl;
  past = λ first others differs. rw differs refl;
}

-- a rebind puts the new owner before them
pub IsAtFirst-rebound : (owner new : ℕ) → IsAtFirst owner (owners_rebound owner new) (λ others. new ∷ others)
IsAtFirst-rebound owner new = record {
  none = refl;
  here = λ first others same. rw same refl;
  past = λ first others differs. rw differs refl;
}

-- an owner is one of those among which it stands
pub has_owner-there : (owner : ℕ) (front rear : List ℕ) → NotIn owner front → has_owner owner (front ++ owner ∷ rear) ≡ true
has_owner-there owner [] rear none = rw (eq-eqb owner owner refl) refl
has_owner-there owner (other ∷ front) rear none =
    rw (ne_eqb other owner (λ e. none.0 (sym e))) (has_owner-there owner front rear none.1)

pub has_owner-none : (owner : ℕ) (owners : List ℕ) → NotIn owner owners → has_owner owner owners ≡ false
has_owner-none owner [] none = refl
has_owner-none owner (other ∷ owners) none =
    rw (ne_eqb other owner (λ e. none.0 (sym e))) (has_owner-none owner owners none.1)

module _ (owner : ℕ) (change make : List ℕ → List ℕ) (at_first : IsAtFirst owner change make) where
  -- By induction over the owners before it: behind them it is changed.
  pub changed-there : (front rear : List ℕ) → NotIn owner front → change (front ++ owner ∷ rear) ≡ front ++ make rear
  changed-there [] rear none = at_first.here owner rear (eq-eqb owner owner refl)
  changed-there (other ∷ front) rear none =
      at_first.past other (front ++ owner ∷ rear) (ne_eqb other owner (λ e. none.0 (sym e)))
      ∙ ap (λ rest. other ∷ rest) (changed-there front rear none.1)

  -- By induction over the owners: where it is none of them, they are left as they are.
  pub changed-none : (owners : List ℕ) → has_owner owner owners ≡ false → change owners ≡ owners
  changed-none [] none = at_first.none
  changed-none (first ∷ owners) none =
      elim (cases_Bool (first == owner)) [
        | inl here ↦
            let found : true ≡ false = rw here at none in
            cc
        | inr elsewhere ↦
            at_first.past first owners elsewhere
            ∙ ap (λ rest. first ∷ rest) (changed-none owners (rw elsewhere at none))
      ]
