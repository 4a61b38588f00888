-- A room that is written place by place with what stands in a list from a place on.
use Rattle.std.proofs.Common.{◌≡◌, ℕ, ◌+◌, ◌-◌, ◌<◌, List, [], ◌∷◌, ◌++◌, length, take, drop, get_or, set, sym, ap, ◌∙◌, append_assoc, arith}
use Rattle.std.proofs.lemmas.List.{take_more, drop_more, set_at, length-drop, length-take-le, get_or-drop}

module _ {A : Type 0} where
  -- one place more
  pub one_more : (list room : List A) (from place : ℕ) (default : A) → from + place < length list → place < length room
      → set (take place (drop from list) ++ drop place room) place (get_or list (from + place) default)
      ≡ take (place + 1) (drop from list) ++ drop (place + 1) room
  one_more list room from place default within room_for =
      let rest = drop from list in
      let item = get_or list (from + place) default in
      let many : length rest ≡ length list - from = length-drop from list in
      let below : place < length rest = omega (arith, within, many) in
      let front : length (take place rest) ≡ place = length-take-le place rest (omega arith) in
      let behind = drop (place + 1) room in
      ap (λ l. set (take place rest ++ l) place item) (drop_more room place default room_for)
      ∙ set_at (take place rest) (get_or room place default) behind item place front
      ∙ ap (λ x. take place rest ++ x ∷ behind) (sym (get_or-drop from list place default))
      ∙ sym (append_assoc (take place rest) (get_or rest place default ∷ []) behind)
      ∙ ap (λ l. l ++ behind) (sym (take_more rest place default below))
