-- Taking out the first command that somebody has left.
use Rattle.std.proofs.Common.{◌≡◌, ℕ, zero, suc, ◌+◌, ◌<◌, ◌⊎◌, List, [], ◌∷◌, ◌++◌, length, map, get_or, set, Option, Some, None, inl, inr, refl, sym, ◌∙◌, ap, subst, arith}
use Rattle.std.specs.Prelude.{option_to_list}
use Rattle.rht_script.specs.declared.done.Done.{Done}
use Rattle.rht_deal.specs.Ordering.{BeginsWith, TakesOut}

-- what was made of each element but one stays, where that one is replaced
pub map-set : {X Y : Type 0} (f : X → Y) (xs : List X) (i : ℕ) (x : X) → map f (set xs i x) ≡ set (map f xs) i (f x)
map-set f [] i x = refl
map-set f (y ∷ xs) zero x = refl
map-set f (y ∷ xs) (suc i) x = ap (λ l. f y ∷ l) (map-set f xs i x)

-- it was taken out of what its owner had left
pub TakesOut-at : (before kept : List (List Done)) (i number : ℕ) (own rest : List Done) (taken : Option Done) → before ≡ kept → i < length kept
    → get_or kept i [] ≡ own → BeginsWith own number → own ≡ option_to_list taken ++ rest → (taken ≡ None → length own ≡ 0)
    → TakesOut before (set kept i rest) number taken
TakesOut-at before kept i number [] rest taken same within at begins parts none = absurd begins
TakesOut-at before kept i number (done ∷ own) rest None same within at begins parts none = absurd (omega (arith, none refl))
TakesOut-at before kept i number (done ∷ own) rest (Some first) same within at begins parts none = record {
  place = i;
  within = subst (λ l. i < length l) (sym same) within;
  rest = rest;
  first = ap (λ l. get_or l i []) same ∙ at ∙ parts;
  after_is = ap (λ l. set l i rest) (sym same);
  is = (let one : first ≡ done = sym (λ k. get_or (parts k) 0 done) in ap (λ (d : Done). d.number) one ∙ begins);
}

-- nobody up to a place has a number first, where nobody before it has, nor the one there
pub none-more : (kept : List (List Done)) (number i : ℕ) → ((j : ℕ) → j < i → ¬ BeginsWith (get_or kept j []) number)
    → ¬ BeginsWith (get_or kept i []) number → (j : ℕ) → j < i + 1 → ¬ BeginsWith (get_or kept j []) number
none-more kept number i before here j below =
    elim (cases_last j i below) [
      | inl less ↦ before j less
      | inr same ↦ subst (λ n. ¬ BeginsWith (get_or kept n []) number) (sym same) here
    ]
  where
    cases_last : (j i : ℕ) → j < i + 1 → (j < i) ⊎ (j ≡ i)
    cases_last zero zero below = inr refl
    cases_last zero (suc i) below = inl (omega arith)
    cases_last (suc j) zero below = absurd (omega (arith, below))
    cases_last (suc j) (suc i) below = elim (cases_last j i (omega (arith, below))) [
      | inl less ↦ inl (omega (arith, less))
      | inr same ↦ inr (ap suc same)
    ]
