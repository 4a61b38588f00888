-- The numbers below a bound that have a property, as a list: no number stands twice in it, and it is as long as they are many.
use Rattle.std.proofs.Common.{◌≡◌, ℕ, zero, suc, ◌+◌, ◌<◌, Bool, true, false, cond, List, [], ◌∷◌, length, refl, sym, ap, ◌∙◌, inl, inr, arith}
use Rattle.std.specs.List.{AllByRecursion}
use Rattle.std.proofs.lemmas.Bool.{cases_eq}
use Rattle.rht_words.specs.Members.{In, NotIn, IsDistinct}
use Rattle.rht_words.proofs.Members.{one_if, count_below}
use Rattle.rht_words.proofs.EachElement.{AllByRecursion-weaker}

module _ (has : ℕ → Bool) where
  abbrev with_one : Bool → ℕ → List ℕ → List ℕ
  with_one t n numbers = cond t (n ∷ numbers) numbers

  -- those below a bound
  abbrev pub having : ℕ → List ℕ
  having zero = []
  having (suc n) = with_one (has n) n (having n)

  with_one-length : (t : Bool) (n : ℕ) (numbers : List ℕ)
      → length (with_one t n numbers) ≡ length numbers + one_if t
  with_one-length true n numbers = omega arith
  with_one-length false n numbers = omega arith

  pub having-length : (bound : ℕ) → length (having bound) ≡ count_below has bound
  having-length zero = refl
  having-length (suc n) =
      let rest = having-length n in let more = with_one-length (has n) n (having n) in
      omega (arith, rest, more)

  with_one-among : (t : Bool) (n : ℕ) (numbers : List ℕ) → AllByRecursion (λ m. m < n) numbers
      → AllByRecursion (λ m. m < suc n) (with_one t n numbers)
  with_one-among true n numbers all = (
    omega arith,
    AllByRecursion-weaker (λ m. m < n) (λ m. m < suc n)
        (λ m l. omega arith) numbers all,
  )
  with_one-among false n numbers all = AllByRecursion-weaker (λ m. m < n) (λ m. m < suc n)
      (λ m l. omega arith) numbers all

  pub having-among : (bound : ℕ) → AllByRecursion (λ m. m < bound) (having bound)
  having-among zero = tt
  having-among (suc n) = with_one-among (has n) n (having n) (having-among n)

  not_above : (n : ℕ) (numbers : List ℕ) → AllByRecursion (λ m. m < n) numbers → NotIn n numbers
  not_above n [] all = tt
  not_above n (m ∷ numbers) all = ((λ e. let l = all.0 in omega (arith, l, e)), not_above n numbers all.1)

  with_one-distinct : (t : Bool) (n : ℕ) (numbers : List ℕ) → NotIn n numbers → IsDistinct numbers
      → IsDistinct (with_one t n numbers)
  with_one-distinct true n numbers out distinct = (out, distinct)
  with_one-distinct false n numbers out distinct = distinct

  pub having-distinct : (bound : ℕ) → IsDistinct (having bound)
  having-distinct zero = tt
  having-distinct (suc n) =
      with_one-distinct (has n) n (having n)
      (not_above n (having n) (having-among n)) (having-distinct n)

  with_one-in : (t : Bool) (n m : ℕ) (numbers : List ℕ) → In m numbers → In m (with_one t n numbers)
  with_one-in true n m numbers i = inr i
  with_one-in false n m numbers i = i

  -- each one below the bound that has it is one of them, and no other
  pub having-in : (bound m : ℕ) → m < bound → has m ≡ true → In m (having bound)
  having-in zero m l is = absurd (omega arith)
  having-in (suc n) m l is = elim (cases_eq m n) [
    | inl e ↦ here (has n) (sym (ap has e) ∙ is) e
    | inr ne ↦ with_one-in (has n) n m (having n) (having-in n m (omega arith) is)
  ]
    where
      here : (t : Bool) → t ≡ true → m ≡ n → In m (with_one t n (having n))
      here true yes_ e = inl e
      here false no_ e = absurd (cc)

  pub having-out : (bound m : ℕ) → In m (having bound) → has m ≡ true
  having-out zero m i = absurd i
  having-out (suc n) m i = go (has n) refl (having-out n m) i
    where
      go : (t : Bool) → has n ≡ t → (In m (having n) → has m ≡ true)
          → In m (with_one t n (having n)) → has m ≡ true
      go true is rest (inl e) = ap has e ∙ is
      go true is rest (inr j) = rest j
      go false is rest j = rest j
