-- What the workers leave, place by place, where no worker ran out of memory: each pass and what stands beside it are those of the worker of its
-- place.
use Rattle.std.proofs.Common.{◌≡◌, ℕ, zero, suc, ◌<◌, List, [], ◌∷◌, ◌++◌, length, get_or, refl, ◌∙◌, ap, subst, arith}
use Rattle.std.specs.Prelude.{IfOk, Result, Ok}
use Rattle.rht_workers.specs.Jobs.{HaveWorked, side_by_side}

module _ {P L E : Type 0} where
  -- what stands at a place of two lists side by side
  side_by_side-at : (passes : List P) (all : List L) (i : ℕ) (default : Result (P × L) E) (pass : P) (own : L)
      → i < length passes → i < length all → get_or (side_by_side passes all) i default ≡ Ok (get_or passes i pass, get_or all i own)
  side_by_side-at [] all i default pass own below within = absurd (omega (arith, below))
  side_by_side-at (first ∷ passes) [] i default pass own below within = absurd (omega (arith, within))
  side_by_side-at (first ∷ passes) (one ∷ all) zero default pass own below within = refl
  side_by_side-at (first ∷ passes) (one ∷ all) (suc i) default pass own below within =
      side_by_side-at passes all i default pass own (omega (arith, below)) (omega (arith, within))

  -- and one more pass and what is left beside it, behind the others
  pub side_by_side-push : (passes : List P) (all : List L) (pass : P) (own : L) → length passes ≡ length all
      → side_by_side {E = E} (passes ++ pass ∷ []) (all ++ own ∷ []) ≡ side_by_side passes all ++ Ok (pass, own) ∷ []
  side_by_side-push [] [] pass own same = refl
  side_by_side-push [] (one ∷ all) pass own same = absurd (omega (arith, same))
  side_by_side-push (first ∷ passes) [] pass own same = absurd (omega (arith, same))
  side_by_side-push (first ∷ passes) (one ∷ all) pass own same =
      ap (λ l. Ok (first, one) ∷ l) (side_by_side-push passes all pass own (omega (arith, same)))

  -- each worker has done its part on the pass of its place
  pub each-worked : (Has : ℕ → P → L → Type 0) (left : List (Result (P × L) E)) (passes : List P) (all : List L) (count : ℕ)
      → HaveWorked Has count left → left ≡ side_by_side passes all → length passes ≡ count → length all ≡ count
      → (i : ℕ) (pass : P) (own : L) → i < count → Has i (get_or passes i pass) (get_or all i own)
  each-worked Has left passes all count worked together length_passes length_all i pass own below =
      let here : Result (P × L) E = Ok (get_or passes i pass, get_or all i own) in
      let within : i < length passes = omega (arith, below, length_passes) in
      let within_too : i < length all = omega (arith, below, length_all) in
      let at : get_or left i here ≡ here =
      ap (λ (l : List (Result (P × L) E)). get_or l i here) together ∙ side_by_side-at passes all i here pass own within within_too in
      subst (λ (r : Result (P × L) E). IfOk r (λ w. Has i w.0 w.1)) at (worked i here below)
