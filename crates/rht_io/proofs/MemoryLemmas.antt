-- A source that puts the front of what is left at the front of the room, and goes on behind it,
-- consumes what it gives; it gives nothing to a room that isn't empty only at its end.
use Rattle.std.proofs.Common.{◌≡◌, ℕ, ◌<◌, ◌≤◌, min, List, [], ◌++◌, length, take, drop, sym, ap, ◌∙◌, take-append-drop, append_assoc, arith}
use Rattle.std.proofs.lemmas.List.{drop-append-le}
use Rattle.std.proofs.lemmas.Grind.{common_steps}
use Rattle.rht_io.specs.Memory.{filled}

-- the front of a room after n bytes were put there
front_of : (n : ℕ) (left others : List ℕ) → n ≤ length left → take n (take n left ++ others) ≡ take n left
front_of n left others within = grind (arith, common_steps)

module _ (n : ℕ) (left after room new : List ℕ) where
  pub gives-front : n ≤ length left → new ≡ filled left room n → after ≡ drop n left
      → left ≡ take n new ++ after
  gives-front within put rest =
      rw (put, rest, front_of n left (drop n room) within) (sym (take-append-drop n left))

  pub gives-all : n ≡ min (length left) (length room) → new ≡ filled left room n → after ≡ drop n left
      → n ≡ 0 → 0 < length new → after ≡ []
  gives-all count put rest none some = grind (arith, common_steps)

-- what is put into the front of a room is put into the room
pub filled-front : (left room : List ℕ) (n most : ℕ) → n ≤ length (take most room)
    → filled left (take most room) n ++ drop most room ≡ filled left room n
filled-front left room n most within =
    append_assoc (take n left) _ _
    ∙ ap (λ l. take n left ++ l)
    (sym (drop-append-le n (take most room) (drop most room) within)
    ∙ ap (drop n) (take-append-drop most room))
