-- What holds of each element of a list or of one of them, which one is last, and which one stands at a place, where std
-- has no lemma on it.
--
-- std says that something holds of each element in two ways: `All` goes by places, and `AllByRecursion` by the elements
-- in order. Its lemmas are on the first. Those on the second follow from them, or go by induction over the list.
use Rattle.std.proofs.Common.{◌≡◌, ℕ, zero, suc, ◌-◌, ◌<◌, ◌≤◌, List, [], ◌∷◌, ◌++◌, length, length-append, map, take, drop, get_or, set, replicate, Option, Some, None, refl, sym, ap, ◌∙◌, subst, inl, inr, arith}
use Rattle.std.proofs.lemmas.Bool.{cases_eq}
use Rattle.std.proofs.lemmas.List.{get_or_append_left, get_or-set_same, get_or-set_other}
use Rattle.std.proofs.lemmas.List.Elements.{All-from_recursion, recursion_from_All, All-tail, All-head, All-append, All-set, All-replicate, All-weaker}
use Rattle.std.specs.List.{All, AllByRecursion, AllWithin, Any, Contains, last_or, slice_get}

-- ---- each element

module _ {X : Type 0} (P : X → Type 0) where
  pub AllByRecursion-append : (xs ys : List X) → AllByRecursion P xs → AllByRecursion P ys
      → AllByRecursion P (xs ++ ys)
  AllByRecursion-append xs ys front behind =
      recursion_from_All P (xs ++ ys) (All-append P xs ys (All-from_recursion P xs front)
      (All-from_recursion P ys behind))

  pub AllByRecursion-push : (xs : List X) (x : X) → AllByRecursion P xs → P x
      → AllByRecursion P (xs ++ x ∷ [])
  AllByRecursion-push xs x all here = AllByRecursion-append xs (x ∷ []) all (here, tt)

  -- what holds of each element of a list holds of both its parts
  pub AllByRecursion-cut : (xs ys : List X) → AllByRecursion P (xs ++ ys)
      → AllByRecursion P xs × AllByRecursion P ys
  AllByRecursion-cut [] ys all = (tt, all)
  AllByRecursion-cut (x ∷ xs) ys all = let parts = AllByRecursion-cut xs ys all.1 in
      ((all.0, parts.0), parts.1)

  pub All-cut : (xs ys : List X) → All P (xs ++ ys) → All P xs × All P ys
  All-cut xs ys all =
      let parts = AllByRecursion-cut xs ys (recursion_from_All P (xs ++ ys) all) in
      (All-from_recursion P xs parts.0, All-from_recursion P ys parts.1)

  -- and of its last element
  pub AllByRecursion-last : (xs : List X) (x : X) → AllByRecursion P (xs ++ x ∷ []) → P x
  AllByRecursion-last xs x all = (AllByRecursion-cut xs (x ∷ []) all).1.0

  pub AllByRecursion-set : (xs : List X) (i : ℕ) (x : X) → P x → AllByRecursion P xs
      → AllByRecursion P (set xs i x)
  AllByRecursion-set xs i x here all =
      recursion_from_All P (set xs i x) (All-set P xs i x here (All-from_recursion P xs all))

  pub AllByRecursion-replicate : (n : ℕ) (x : X) → P x → AllByRecursion P (replicate n x)
  AllByRecursion-replicate n x here = recursion_from_All P (replicate n x) (All-replicate P n x here)

  -- what holds of each element and of the default holds of what is read, also past the end
  pub AllByRecursion-get_or : (xs : List X) (i : ℕ) (default : X) → P default → AllByRecursion P xs
      → P (get_or xs i default)
  AllByRecursion-get_or [] i default past all = past
  AllByRecursion-get_or (x ∷ xs) zero default past all = all.0
  AllByRecursion-get_or (x ∷ xs) (suc i) default past all = AllByRecursion-get_or xs i default past all.1

  -- what holds up to a place holds of the elements taken, and what holds from a place on of those left
  pub AllByRecursion-take : (xs : List X) (i : ℕ) → i ≤ length xs → AllWithin P xs 0 i
      → AllByRecursion P (take i xs)
  AllByRecursion-take xs zero within all = tt
  AllByRecursion-take [] (suc i) within all = tt
  AllByRecursion-take (x ∷ xs) (suc i) within all = (
    all 0 x (omega arith) (omega arith),
    AllByRecursion-take xs i (omega arith)
        (λ k d low high. all (suc k) d (omega arith) (omega arith)),
  )

  pub AllByRecursion-drop : (xs : List X) (i : ℕ) → AllWithin P xs i (length xs)
      → AllByRecursion P (drop i xs)
  AllByRecursion-drop xs zero all = recursion_from_All P xs (λ k d l. all k d (omega arith) l)
  AllByRecursion-drop [] (suc i) all = tt
  AllByRecursion-drop (x ∷ xs) (suc i) all =
      AllByRecursion-drop xs i (λ k d low high. all (suc k) d (omega arith) (omega arith))

pub AllByRecursion-weaker : {X : Type 0} (P Q : X → Type 0) → ((x : X) → P x → Q x) → (xs : List X)
    → AllByRecursion P xs
    → AllByRecursion Q xs
AllByRecursion-weaker P Q weaker xs all =
    recursion_from_All Q xs (All-weaker P Q weaker xs (All-from_recursion P xs all))

-- what follows for each element from two facts that hold of it
pub AllByRecursion-both : {X : Type 0} (P Q R : X → Type 0) → ((x : X) → P x → Q x → R x) → (xs : List X)
    → AllByRecursion P xs → AllByRecursion Q xs
    → AllByRecursion R xs
AllByRecursion-both P Q R leads [] first second = tt
AllByRecursion-both P Q R leads (x ∷ xs) first second =
    (leads x first.0 second.0, AllByRecursion-both P Q R leads xs first.1 second.1)

pub AllByRecursion-map : {X Y : Type 0} (P : Y → Type 0) (f : X → Y) → ((x : X) → P (f x)) → (xs : List X)
    → AllByRecursion P (map f xs)
AllByRecursion-map P f each [] = tt
AllByRecursion-map P f each (x ∷ xs) = (each x, AllByRecursion-map P f each xs)

-- ---- one of the elements

-- what is so of one of a list's elements is so of one of more
pub Any-append_left : {X : Type 0} (P : X → Type 0) (xs ys : List X) → Any P xs → Any P (xs ++ ys)
Any-append_left P xs ys some = (
  some.0,
  some.1,
  omega (arith, length-append xs ys, some.2),
  get_or_append_left xs ys some.1 some.0
      some.2 ∙ some.3,
  some.4,
)

pub Contains-cons : {X : Type 0} (first x : X) (xs : List X) → Contains xs x → Contains (first ∷ xs) x
Contains-cons first x xs among = (suc among.0, omega (arith, among.1), among.2)

-- ---- the last element

pub last_or-push : {X : Type 0} (first : Option X) (xs : List X) (x : X)
    → last_or first (xs ++ x ∷ []) ≡ Some x
last_or-push first [] x = refl
last_or-push first (next ∷ xs) x = last_or-push (Some next) xs x

-- it stands at the last place
last_or-Some : {X : Type 0} (x : X) (xs : List X) → last_or (Some x) xs ≡ slice_get (x ∷ xs) (length xs)
last_or-Some x [] = refl
last_or-Some x (next ∷ xs) = last_or-Some next xs

pub last_or-None : {X : Type 0} (xs : List X) → last_or None xs ≡ slice_get xs (length xs - 1)
last_or-None [] = refl
last_or-None (x ∷ xs) =
    let place : length xs ≡ length (x ∷ xs) - 1 = omega arith in
    last_or-Some x xs ∙ ap (λ i. slice_get (x ∷ xs) i) place

-- what holds of each element of a list holds of the last one of its front
pub last_or-All : {X : Type 0} (P : X → Type 0) (x last : X) (xs behind : List X)
    → last_or (Some x) xs ≡ Some last → All P ((x ∷ xs) ++ behind) → P last
last_or-All P x last [] behind is all =
    let same : x ≡ last = cc in
    subst P same (All-head P x behind all)
last_or-All P x last (next ∷ xs) behind is all =
    last_or-All P next last xs behind is (All-tail P x ((next ∷ xs) ++ behind) all)

-- ---- the element at a place

-- what stands at a place stands there with one more at the end
pub slice_get-push : {X : Type 0} (xs : List X) (x : X) (i : ℕ) (y : X) → slice_get xs i ≡ Some y
    → slice_get (xs ++ x ∷ []) i ≡ Some y
slice_get-push [] x i y is = absurd (cc)
slice_get-push (z ∷ zs) x zero y is = is
slice_get-push (z ∷ zs) x (suc i) y is = slice_get-push zs x i y is

pub slice_get-push_last : {X : Type 0} (xs : List X) (x : X) → slice_get (xs ++ x ∷ []) (length xs) ≡ Some x
slice_get-push_last [] x = refl
slice_get-push_last (y ∷ ys) x = slice_get-push_last ys x

-- what holds at each place still does where another element is put at one of them
pub each_set : {X : Type 0} (P : ℕ → X → Type 0) (default : X) (xs : List X) (i : ℕ) (x : X)
    → i < length xs → P i x
    → ((k : ℕ) → P k (get_or xs k default)) → (k : ℕ) → P k (get_or (set xs i x) k default)
each_set P default xs i x within here each k = elim (cases_eq k i) [
  | inl same ↦
      subst (λ j. P j (get_or (set xs i x) j default)) (sym same)
      (subst (P i) (sym (get_or-set_same xs i x default within)) here)
  | inr other ↦ subst (P k) (sym (get_or-set_other xs i k x default other)) (each k)
]

-- one thing stands everywhere in a list of it, and past its end too
pub each_replicate : {X : Type 0} (P : X → Type 0) (n k : ℕ) (x : X) → P x → P (get_or (replicate n x) k x)
each_replicate P zero k x here = here
each_replicate P (suc n) zero x here = here
each_replicate P (suc n) (suc k) x here = each_replicate P n k x here
