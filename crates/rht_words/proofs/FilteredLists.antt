-- Members of lists that pass a test, and of ranges.
use Rattle.std.proofs.Common.{◌≡◌, ℕ, zero, suc, ◌+◌, ◌<◌, ◌≤◌, List, [], ◌∷◌, Bool, true, false, cond, refl, sym, ◌∙◌, ap, inl, inr, arith}
use Rattle.std.specs.List.{filter, range_with_len}
use Rattle.std.proofs.lemmas.Bool.{cond_both, both_ways}
use Rattle.rht_words.specs.Members.{In}
use Rattle.rht_words.proofs.Members.{In-range_with_len, range_with_len-In}

-- what isn't true is false, and two tests that give one another are the same
pub false_from : (b : Bool) → (b ≡ true → ⊥) → b ≡ false
false_from true none = absurd (none refl)
false_from false none = refl

pub same_tests : (s t : Bool) → (s ≡ true → t ≡ true) → (t ≡ true → s ≡ true) → s ≡ t
same_tests true true there back = refl
same_tests true false there back = sym (there refl)
same_tests false true there back = back refl
same_tests false false there back = refl

-- a member of the numbers that pass a test is one of them and passes it
pub filter-In : (t : ℕ → Bool) (x : ℕ) (xs : List ℕ) → In x (filter t xs) → In x xs × (t x ≡ true)
filter-In t x [] i = absurd i
filter-In t x (y ∷ ys) i =
    cond_both (t y) (y ∷ filter t ys) (filter t ys) (λ zs. In x zs → In x (y ∷ ys) × (t x ≡ true))
    (λ is member. elim member [
      | inl same ↦ (inl same, ap t same ∙ is)
      | inr rest ↦ let r = filter-In t x ys rest in (inr r.0, r.1)
    ])
    (λ is rest. let r = filter-In t x ys rest in (inr r.0, r.1)) i

pub In-filter : (t : ℕ → Bool) (x : ℕ) (xs : List ℕ) → In x xs → t x ≡ true → In x (filter t xs)
In-filter t x [] i is = absurd i
In-filter t x (y ∷ ys) (inl same) is =
    cond_both (t y) (y ∷ filter t ys) (filter t ys) (In x) (λ passes. inl same)
    (λ fails. absurd (both_ways (t y) fails (ap t (sym same) ∙ is)))
In-filter t x (y ∷ ys) (inr rest) is =
    cond_both (t y) (y ∷ filter t ys) (filter t ys) (In x) (λ passes. inr (In-filter t x ys rest is))
    (λ fails. In-filter t x ys rest is)

pub filter-same : (t u : ℕ → Bool) (xs : List ℕ) → ((x : ℕ) → t x ≡ u x) → filter t xs ≡ filter u xs
filter-same t u [] same = refl
filter-same t u (y ∷ ys) same =
    ap (λ b. cond b (y ∷ filter t ys) (filter t ys)) (same y)
    ∙ ap (λ zs. cond (u y) (y ∷ zs) zs) (filter-same t u ys same)

pub filter-none : (t : ℕ → Bool) (xs : List ℕ) → ((x : ℕ) → t x ≡ false) → filter t xs ≡ []
filter-none t [] none = refl
filter-none t (y ∷ ys) none =
    ap (λ b. cond b (y ∷ filter t ys) (filter t ys)) (none y) ∙ filter-none t ys none

-- a member of a range is none before its first
pub range_with_len-from : (a n x : ℕ) → In x (range_with_len a n) → a ≤ x
range_with_len-from a zero x i = absurd i
range_with_len-from a (suc n) x (inl same) = omega (arith, same)
range_with_len-from a (suc n) x (inr rest) = let from = range_with_len-from (a + 1) n x rest in omega (arith, from)

-- the numbers below a bound
pub below-In : (bound x : ℕ) → x < bound → In x (range_with_len 0 bound)
below-In bound x l = In-range_with_len 0 bound x (omega arith) (omega (arith, l))

pub In-below : (bound x : ℕ) → In x (range_with_len 0 bound) → x < bound
In-below bound x i = let l = range_with_len-In 0 bound x i in omega (arith, l)
