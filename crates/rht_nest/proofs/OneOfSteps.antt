-- What is so of one of the operations that were performed.
use Rattle.std.proofs.Common.{zero, suc, List, [], ◌∷◌, ◌++◌, inl, inr, refl, sym, subst, arith}
use Rattle.std.specs.Prelude.{◌⊎◌}
use Rattle.std.specs.List.{Any}
use Rattle.rht_words.proofs.EachElement.{Any-append_left}
use Rattle.rht_arena.proofs.NodesInTurn.{Any-behind}

module _ {X : Type 0} (P : X → Type 0) where
  -- what is so of one of all is so of the first or of one behind it
  pub Any-parts : (x : X) (xs : List X) → Any P (x ∷ xs) → P x ⊎ Any P xs
  Any-parts x xs (zero, y, within, is, holds) = inl (subst P (sym is) holds)
  Any-parts x xs (suc k, y, within, is, holds) = inr (k, y, omega (arith, within), is, holds)

  -- and of the only one
  pub Any-only : (x : X) → Any P (x ∷ []) → P x
  Any-only x some = elim (Any-parts x [] some) [
    | inl here ↦ here
    | inr (k, y, within, is, holds) ↦ absurd (omega (arith, within))
  ]

  pub Any-first : (x : X) (xs : List X) → P x → Any P (x ∷ xs)
  Any-first x xs here = (0, x, omega arith, refl, here)

  -- what is so of one of a list's elements is so of one of more before it and behind it
  pub Any-within : (before xs behind : List X) → Any P xs → Any P (before ++ (xs ++ behind))
  Any-within [] xs behind some = Any-append_left P xs behind some
  Any-within (x ∷ before) xs behind some = Any-behind P x (before ++ (xs ++ behind)) (Any-within before xs behind some)

  pub Any-later : (before xs : List X) → Any P xs → Any P (before ++ xs)
  Any-later [] xs some = some
  Any-later (x ∷ before) xs some = Any-behind P x (before ++ xs) (Any-later before xs some)
