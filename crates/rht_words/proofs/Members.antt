-- Members of lists and of lists that are made from others, lists without repeats, and how many numbers below a bound
-- have a property.
use Rattle.std.proofs.Common.{◌≡◌, ◌≢◌, ℕ, zero, suc, ◌+◌, ◌<◌, ◌≤◌, List, [], ◌∷◌, ◌++◌, length, refl, sym, ◌∙◌, ap, subst, arith, ◌⊎◌, inl, inr, Bool, true, false, cond, ◌==◌, Some, None}
use Rattle.std.proofs.lemmas.Bool.{cases_eq, eq-eqb, ne_eqb}
use Rattle.std.proofs.lemmas.List.Elements.{All-nil, All-cons}
use Rattle.std.proofs.lemmas.List.Sums.{sum_by_push}
use Rattle.std.specs.Prelude.{count_by}
use Rattle.std.specs.List.{All, AllByRecursion, find, flat_map, range_with_len}
use Rattle.rht_words.specs.Members.{In, NotIn, IsDistinct}

-- ---- members

-- what isn't a member is none of them, and what is none is no member
pub not_in_from : (x : ℕ) (xs : List ℕ) → (In x xs → ⊥) → NotIn x xs
not_in_from x [] never = tt
not_in_from x (y ∷ ys) never = ((λ e. never (inl e)), not_in_from x ys (λ i. never (inr i)))

pub in_and_not : (x : ℕ) (xs : List ℕ) → In x xs → NotIn x xs → ⊥
in_and_not x [] i out = i
in_and_not x (y ∷ ys) (inl e) out = out.0 e
in_and_not x (y ∷ ys) (inr i) out = in_and_not x ys i out.1

-- each element is another number than one that is none of them
pub NotIn-All : (x : ℕ) (xs : List ℕ) → NotIn x xs → All (λ y. y ≢ x) xs
NotIn-All x [] out = All-nil (λ y. y ≢ x)
NotIn-All x (y ∷ ys) out = All-cons (λ z. z ≢ x) y ys (λ e. out.0 (sym e)) (NotIn-All x ys out.1)

-- a member or none
pub in_or_not : (x : ℕ) (xs : List ℕ) → In x xs ⊎ NotIn x xs
in_or_not x [] = inr tt
in_or_not x (y ∷ ys) = elim (cases_eq x y) [
  | inl e ↦ inl (inl e)
  | inr ne ↦ elim (in_or_not x ys) [ inl i ↦ inl (inr i) | inr out ↦ inr (ne, out) ]
]

pub in-middle : (x : ℕ) (xs ys : List ℕ) → In x (xs ++ x ∷ ys)
in-middle x [] ys = inl refl
in-middle x (y ∷ xs) ys = inr (in-middle x xs ys)

pub In-append_left : (x : ℕ) (xs ys : List ℕ) → In x xs → In x (xs ++ ys)
In-append_left x [] ys i = absurd i
In-append_left x (y ∷ xs) ys (inl e) = inl e
In-append_left x (y ∷ xs) ys (inr i) = inr (In-append_left x xs ys i)

pub In-append_right : (x : ℕ) (xs ys : List ℕ) → In x ys → In x (xs ++ ys)
In-append_right x [] ys i = i
In-append_right x (y ∷ xs) ys i = inr (In-append_right x xs ys i)

pub In-append_cases : (x : ℕ) (xs ys : List ℕ) → In x (xs ++ ys) → In x xs ⊎ In x ys
In-append_cases x [] ys i = inr i
In-append_cases x (y ∷ xs) ys (inl e) = inl (inl e)
In-append_cases x (y ∷ xs) ys (inr i) = elim (In-append_cases x xs ys i) [
  | inl l ↦ inl (inr l)
  | inr r ↦
      inr r
]

pub NotIn-cut : (k : ℕ) (xs : List ℕ) (m : ℕ) (ys : List ℕ) → NotIn k (xs ++ m ∷ ys)
    → NotIn k xs × (k ≢ m) × NotIn k ys
NotIn-cut k [] m ys p = (tt, p.0, p.1)
NotIn-cut k (a ∷ xs) m ys p = let r = NotIn-cut k xs m ys p.1 in ((p.0, r.0), r.1, r.2)

pub NotIn-append : (k : ℕ) (xs ys : List ℕ) → NotIn k xs → NotIn k ys → NotIn k (xs ++ ys)
NotIn-append k [] ys p q = q
NotIn-append k (a ∷ xs) ys p q = (p.0, NotIn-append k xs ys p.1 q)

-- in a list without repeats a member is in neither part round it
-- the front of a list in which no number stands twice, and that none of its numbers is behind it
NotIn-left : (n : ℕ) (xs ys : List ℕ) → NotIn n (xs ++ ys) → NotIn n xs
NotIn-left n [] ys out = tt
NotIn-left n (x ∷ xs) ys out = (out.0, NotIn-left n xs ys out.1)

pub IsDistinct-left : (xs ys : List ℕ) → IsDistinct (xs ++ ys) → IsDistinct xs
IsDistinct-left [] ys distinct = tt
IsDistinct-left (n ∷ xs) ys distinct = (NotIn-left n xs ys distinct.0, IsDistinct-left xs ys distinct.1)

pub IsDistinct-apart : (xs ys : List ℕ) (left right : ℕ) → IsDistinct (xs ++ ys) → In left xs
    → In right ys → right ≢ left
IsDistinct-apart [] ys left right distinct i l same = i
IsDistinct-apart (x ∷ xs) ys left right distinct (inl here) l same =
    in_and_not x (xs ++ ys) (In-append_right x xs ys (subst (λ n. In n ys) (same ∙ here) l)) distinct.0
IsDistinct-apart (x ∷ xs) ys left right distinct (inr i) l same = IsDistinct-apart xs ys left right
    distinct.1 i l same

-- a list without one of its numbers, and with one more that is none of it
pub IsDistinct-without : (xs : List ℕ) (m : ℕ) (ys : List ℕ) → IsDistinct (xs ++ m ∷ ys)
    → IsDistinct (xs ++ ys)
IsDistinct-without [] m ys d = d.1
IsDistinct-without (x ∷ xs) m ys d =
    let cut = NotIn-cut x xs m ys d.0 in (NotIn-append x xs ys cut.0 cut.2, IsDistinct-without xs m ys d.1)

pub IsDistinct-with : (xs : List ℕ) (m : ℕ) (ys : List ℕ) → IsDistinct (xs ++ ys) → NotIn m xs → NotIn m ys
    → IsDistinct (xs ++ m ∷ ys)
IsDistinct-with [] m ys d before behind = (behind, d)
IsDistinct-with (x ∷ xs) m ys d before behind = (
  not_in_from x (xs ++ m ∷ ys) (λ i. elim (In-append_cases x xs (m ∷ ys) i) [
    | inl l ↦ in_and_not x (xs ++ ys) (In-append_left x xs ys l) d.0
    | inr r ↦ elim r [
      | inl e ↦ before.0 (sym e)
      | inr k ↦ in_and_not x (xs ++ ys) (In-append_right x xs ys k) d.0
    ]
  ]),
  IsDistinct-with xs m ys d.1 before.1 behind,
)

pub IsDistinct-cut : (xs : List ℕ) (m : ℕ) (ys : List ℕ) → IsDistinct (xs ++ m ∷ ys) → NotIn m xs × NotIn m ys
IsDistinct-cut [] m ys d = (tt, d.0)
IsDistinct-cut (a ∷ xs) m ys d =
    let r = IsDistinct-cut xs m ys d.1 in
    let q = NotIn-cut a xs m ys d.0 in
    ((λ e. q.1 (sym e), r.0), r.1)

-- what holds of each element holds of each member, and the other way round
pub AllByRecursion-In : (P : ℕ → Type 0) (x : ℕ) (xs : List ℕ) → AllByRecursion P xs → In x xs → P x
AllByRecursion-In P x [] all i = absurd i
AllByRecursion-In P x (y ∷ ys) all (inl e) = subst P (sym e) all.0
AllByRecursion-In P x (y ∷ ys) all (inr i) = AllByRecursion-In P x ys all.1 i

pub In-AllByRecursion : (P : ℕ → Type 0) (xs : List ℕ) → ((x : ℕ) → In x xs → P x) → AllByRecursion P xs
In-AllByRecursion P [] each = tt
In-AllByRecursion P (x ∷ xs) each = (each x (inl refl), In-AllByRecursion P xs (λ y i. each y (inr i)))

-- ---- members of lists that are made from others

-- what is in the list of one member is in all lists joined, and the other way round
pub In-flat_map : (f : ℕ → List ℕ) (x y : ℕ) (ys : List ℕ) → In y ys → In x (f y) → In x (flat_map f ys)
In-flat_map f x y [] i j = absurd i
In-flat_map f x y (z ∷ ys) (inl e) j = In-append_left x (f z) (flat_map f ys) (rw (sym e) j)
In-flat_map f x y (z ∷ ys) (inr i) j = In-append_right x (f z) (flat_map f ys) (In-flat_map f x y ys i j)

pub flat_map-In : (f : ℕ → List ℕ) (x : ℕ) (ys : List ℕ) → In x (flat_map f ys)
    → (y : ℕ) × In y ys × In x (f y)
flat_map-In f x [] i = absurd i
flat_map-In f x (z ∷ ys) i = elim (In-append_cases x (f z) (flat_map f ys) i) [
  | inl l ↦ (z, inl refl, l)
  | inr r ↦ let rest = flat_map-In f x ys r in (rest.0, inr rest.1, rest.2)
]

-- lists that are the same for each member are the same joined
pub flat_map-same : (f h : ℕ → List ℕ) (xs : List ℕ) → ((x : ℕ) → In x xs → f x ≡ h x)
    → flat_map f xs ≡ flat_map h xs
flat_map-same f h [] same = refl
flat_map-same f h (x ∷ xs) same = rw (same x (inl refl))
    (rw (flat_map-same f h xs (λ y i. same y (inr i))) refl)

-- a number from the first of a range on, and below its end, is one of it
pub In-range_with_len : (a n x : ℕ) → a ≤ x → x < a + n → In x (range_with_len a n)
In-range_with_len a zero x low high = absurd (omega arith)
In-range_with_len a (suc n) x low high = elim (cases_eq x a) [
  | inl e ↦ inl e
  | inr ne ↦ inr (In-range_with_len (a + 1) n x (omega arith) (omega arith))
]

-- and a member of it is one of them
pub range_with_len-In : (a n x : ℕ) → In x (range_with_len a n) → x < a + n
range_with_len-In a zero x i = absurd i
range_with_len-In a (suc n) x (inl same) = omega (arith, same)
range_with_len-In a (suc n) x (inr later) = let below = range_with_len-In (a + 1) n x later in omega arith

-- what is found is a member that passes, and where nothing is found no member passes
pub find-Some : (p : ℕ → Bool) (xs : List ℕ) (x : ℕ) → find p xs ≡ Some x → In x xs × (p x ≡ true)
find-Some p [] x e = absurd (cc)
find-Some p (y ∷ xs) x e = go (p y) refl e (λ f. find-Some p xs x f)
  where
    go : (b : Bool) → p y ≡ b → cond b (Some y) (find p xs) ≡ Some x
        → (find p xs ≡ Some x → In x xs × (p x ≡ true)) → In x (y ∷ xs) × (p x ≡ true)
    go true q f rest = let same : y ≡ x = (cc) in (inl (sym same), ap p (sym same) ∙ q)
    go false q f rest = let r = rest f in (inr r.0, r.1)

pub find-None : (p : ℕ → Bool) (xs : List ℕ) (x : ℕ) → find p xs ≡ None → In x xs → p x ≡ false
find-None p [] x e i = absurd i
find-None p (y ∷ xs) x e i = go (p y) refl e i (λ f k. find-None p xs x f k)
  where
    go : (b : Bool) → p y ≡ b → cond b (Some y) (find p xs) ≡ None → In x (y ∷ xs)
        → (find p xs ≡ None → In x xs → p x ≡ false) → p x ≡ false
    go true q f i rest = absurd (cc)
    go false q f (inl s) rest = ap p s ∙ q
    go false q f (inr i) rest = rest f i

-- ---- how many

-- 1 for what holds, 0 for what doesn't
abbrev pub one_if : Bool → ℕ
one_if b = cond b 1 0

-- how many numbers below a bound have the property
abbrev pub count_below : (ℕ → Bool) → ℕ → ℕ
count_below has zero = 0
count_below has (suc n) = count_below has n + one_if (has n)

pub count_below-same : (has has' : ℕ → Bool) (bound : ℕ) → ((n : ℕ) → n < bound → has' n ≡ has n)
    → count_below has' bound ≡ count_below has bound
count_below-same has has' zero same = refl
count_below-same has has' (suc n) same =
    let below = count_below-same has has' n (λ m l. same m (omega arith)) in
    let here = ap one_if (same n (omega arith)) in
    omega (arith, below, here)

-- the property of one number changes from false to true: one more has it
pub count_below-more : (has has' : ℕ → Bool) (x bound : ℕ) → x < bound → has x ≡ false → has' x ≡ true
    → ((n : ℕ) → n ≢ x → has' n ≡ has n)
    → count_below has' bound ≡ count_below has bound + 1
count_below-more has has' x zero l was is same = absurd (omega arith)
count_below-more has has' x (suc n) l was is same = elim (cases_eq x n) [
  | inl e ↦
      let below = count_below-same has has' n (λ m k. same m (omega arith)) in
      let old : one_if (has n) ≡ 0 = ap one_if (ap has (sym e) ∙ was) in
      let new : one_if (has' n) ≡ 1 = ap one_if (ap has' (sym e) ∙ is) in
      omega (arith, below, old, new)
  | inr ne ↦
      let below = count_below-more has has' x n (omega arith) was is same in
      let here = ap one_if (same n (λ e. ne (sym e))) in
      omega (arith, below, here)
]

pub count_below-most : (has : ℕ → Bool) (bound : ℕ) → count_below has bound ≤ bound
count_below-most has zero = omega arith
count_below-most has (suc n) =
    let below = count_below-most has n in
    let one : one_if (has n) ≤ 1 = one_if-most (has n) in
    omega (arith, below, one)
  where
    one_if-most : (b : Bool) → one_if b ≤ 1
    one_if-most true = omega arith
    one_if-most false = omega arith

pub count_below-none : (has : ℕ → Bool) (bound : ℕ) → ((n : ℕ) → n < bound → has n ≡ false)
    → count_below has bound ≡ 0
count_below-none has zero none = refl
count_below-none has (suc n) none =
    let below = count_below-none has n (λ m l. none m (omega arith)) in
    let here = ap one_if (none n (omega arith)) in
    omega (arith, below, here)

-- a list without repeats of numbers that have the property is no longer than there are such numbers
pub length-count_below : (has : ℕ → Bool) (bound : ℕ) (xs : List ℕ) → IsDistinct xs
    → AllByRecursion (λ x. x < bound) xs → ((x : ℕ) → In x xs → has x ≡ true)
    → length xs ≤ count_below has bound
length-count_below has bound [] distinct below all = omega arith
length-count_below has bound (x ∷ xs) distinct below all =
    let without : ℕ → Bool = λ n. cond (n == x) false (has n) in
    let rest = length-count_below without bound xs distinct.1 below.1 (λ y i. elim (cases_eq y x) [
      | inl e ↦ absurd (in_and_not y xs i (subst_not_in x y xs (sym e) distinct.0))
      | inr ne ↦ without-other y ne ∙ all y (inr i)
    ]) in
    let more =
    count_below-more without has x bound below.0 (without-same refl) (all x (inl refl))
    (λ n ne. sym (without-other n ne)) in
    omega (arith, rest, more)
  where
    subst_not_in : (x y : ℕ) (zs : List ℕ) → x ≡ y → NotIn x zs → NotIn y zs
    subst_not_in x y zs e out = rw (sym e) out

    without-same : x ≡ x → cond (x == x) false (has x) ≡ false
    without-same e = rw (eq-eqb x x refl) refl

    without-other : (n : ℕ) → n ≢ x → cond (n == x) false (has n) ≡ has n
    without-other n ne = rw (ne_eqb n x ne) refl

-- where one property implies another, no more numbers have the one
pub count_below-le : (has more : ℕ → Bool) (bound : ℕ) → ((n : ℕ) → has n ≡ true → more n ≡ true)
    → count_below has bound ≤ count_below more bound
count_below-le has more zero implies = omega arith
count_below-le has more (suc n) implies =
    let below = count_below-le has more n implies in
    let here : one_if (has n) ≤ one_if (more n) = by_case (has n) refl in
    omega arith
  where
    by_case : (b : Bool) → has n ≡ b → one_if b ≤ one_if (more n)
    by_case true is = let one : one_if (more n) ≡ 1 = ap one_if (implies n is) in omega arith
    by_case false is = omega arith

-- a range with one more number has that one last
range-push : (from n last : ℕ) → from + n ≡ last
    → range_with_len from (suc n) ≡ range_with_len from n ++ last ∷ []
range-push from zero last is = let same : from ≡ last = omega arith in ap (λ x. x ∷ []) same
range-push from (suc n) last is = ap (λ xs. from ∷ xs) (range-push (from + 1) n last (omega arith))

-- numbers below a bound are counted alike in a list and by recursion
pub count_by-range : (has : ℕ → Bool) (bound : ℕ)
    → count_by has (range_with_len 0 bound) ≡ count_below has bound
count_by-range has zero = refl
count_by-range has (suc n) =
    ap (count_by has) (range-push 0 n n (omega arith))
    ∙ sum_by_push (λ x. one_if (has x)) (range_with_len 0 n) n
    ∙ ap (λ below. below + one_if (has n)) (count_by-range has n)
