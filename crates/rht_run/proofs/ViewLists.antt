-- Lists of views and of callers: members, and what stands where after a change at one place.
use Rattle.std.proofs.Common.{◌≡◌, ℕ, zero, suc, ◌<◌, ◌⊎◌, inl, inr, ⊎_elim, List, [], ◌∷◌, ◌++◌, length, set, refl, sym, ap, subst, arith}
use mathlib.Core.Option.{some, some-injective, some-ne-none}
use lib.ListN.{get_elem?}
use Rattle.rht_run.specs.declared.seats.Held.{Held}
use Rattle.rht_run.specs.Rule.{In}

module _ {A : Type 0} where
  -- of two changes at one place the second one counts
  pub set_twice : (l : List A) (i : ℕ) (a b : A) → set (set l i a) i b ≡ set l i b
  set_twice [] i a b = refl
  set_twice (x ∷ xs) zero a b = refl
  set_twice (x ∷ xs) (suc i) a b = ap (λ (ys : List A). x ∷ ys) (set_twice xs i a b)

  pub at_one : (a b : A) (k : ℕ) → get_elem? (a ∷ []) k ≡ some b → (k ≡ 0) × (a ≡ b)
  at_one a b zero e = (refl, some-injective a b e)
  at_one a b (suc k) e = absurd (some-ne-none b (sym e))

  -- what stands in a list with one more stands in the list, or is the one
  pub at_push : (l : List A) (a b : A) (k : ℕ) → get_elem? (l ++ a ∷ []) k ≡ some b
      → ((k < length l) × (get_elem? l k ≡ some b)) ⊎ ((k ≡ length l) × (a ≡ b))
  at_push [] a b zero e = inr (refl, some-injective a b e)
  at_push [] a b (suc k) e = absurd (some-ne-none b (sym e))
  at_push (x ∷ xs) a b zero e = inl (omega arith, e)
  at_push (x ∷ xs) a b (suc k) e =
      ⊎_elim (λ t. inl (omega arith, t.1)) (λ t. inr (ap suc t.0, t.1)) (at_push xs a b k e)

  pub set_there : (l : List A) (i : ℕ) (a b : A) → get_elem? l i ≡ some a → get_elem? (set l i b) i ≡ some b
  set_there [] i a b e = absurd (some-ne-none a (sym e))
  set_there (x ∷ xs) zero a b e = refl
  set_there (x ∷ xs) (suc i) a b e = set_there xs i a b e

module _ {M : Type 0} where
  pub only : (g h : Held M) (xs : List (Held M)) → In g xs → xs ≡ h ∷ [] → g ≡ h
  only g h xs i e = ⊎_elim (λ q. q) absurd (subst (In g) e i)

  pub in_one : (h : Held M) (xs : List (Held M)) → xs ≡ h ∷ [] → In h xs
  in_one h xs e = subst (In h) (sym e) (inl refl)

  -- a member of two lists together is one of either
  pub in_append : (g : Held M) (xs ys : List (Held M)) → In g (xs ++ ys) → In g xs ⊎ In g ys
  in_append g [] ys i = inr i
  in_append g (x ∷ xs) ys i =
      ⊎_elim (λ q. inl (inl q)) (λ q. ⊎_elim (λ a. inl (inr a)) inr (in_append g xs ys q)) i

  pub in_left : (h : Held M) (xs ys : List (Held M)) → In h xs → In h (xs ++ ys)
  in_left h [] ys i = absurd i
  in_left h (x ∷ xs) ys i = ⊎_elim inl (λ j. inr (in_left h xs ys j)) i

  pub in_last : (h : Held M) (xs : List (Held M)) → In h (xs ++ h ∷ [])
  in_last h [] = inl refl
  in_last h (x ∷ xs) = inr (in_last h xs)
