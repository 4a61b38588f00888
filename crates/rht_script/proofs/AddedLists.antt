-- A list of which each item's text is added in turn: the texts of the items so far, and then the next item's,
-- are those of one item more; with the texts of the rest they are the texts of all items.
use Rattle.std.proofs.Common.{◌≡◌, ℕ, ◌+◌, List, [], ◌∷◌, ◌++◌, take, drop, Option, Result, Some, Ok, Err, IsErr, sym, ap, ◌∙◌, take-append-drop}
use Rattle.std.specs.List.{flat_map, slice_get}
use Rattle.std.proofs.lemmas.List.{flat_map_more, take_more}
use Rattle.std.proofs.lemmas.List.Concat.{flat_map-append}
use Rattle.std.proofs.lemmas.Option.{slice_get_within, get_or_from_slice_get}
use Rattle.rht_script.specs.Writing.{Adds}
use Rattle.rht_script.proofs.AddedPieces.{Adds-then, Adds-same, Adds-longer, Adds-passed_on}

module _ {X : Type 0} (text : X → List ℕ) (items : List X) (i : ℕ) where
  -- the texts of the items so far, and the next item's
  pub flat_map-next : (item : X) → slice_get items i ≡ Some item
      → flat_map text (take i items) ++ text item ≡ flat_map text (take (i + 1) items)
  flat_map-next item here =
      let next : take (i + 1) items ≡ take i items ++ item ∷ [] =
      take_more items i item (slice_get_within items i item here)
      ∙ ap (λ x. take i items ++ x ∷ []) (get_or_from_slice_get items i item item here) in
      flat_map_more text [] (take i items) item ∙ ap (flat_map text) (sym next)

  -- and those of the rest
  pub flat_map-rest : flat_map text (take i items) ++ flat_map text (drop i items) ≡ flat_map text items
  flat_map-rest =
      sym (flat_map-append text (take i items) (drop i items)) ∙ ap (flat_map text) (take-append-drop i items)

module _ {S E X : Type 0} {held : S → Option (List ℕ)} {faults : S → ℕ} {a b c : S}
    (text : X → List ℕ) (items : List X) (i : ℕ) (item : X) (here : slice_get items i ≡ Some item) where
  -- the next item was added
  pub Adds-item : {waited between waits : List ℕ}
      → Adds {E = E} held faults a b (Ok tt) waited between (flat_map text (take i items))
      → Adds {E = E} held faults b c (Ok tt) between waits (text item)
      → Adds {E = E} held faults a c (Ok tt) waited waits (flat_map text (take (i + 1) items))
  Adds-item so_far next = Adds-same (Adds-then so_far next) (flat_map-next text items i item here)

  -- the next item failed, and that is passed on
  pub Adds-item_failed : {e : E} {r : Result (Unit {0}) E} {waited between some waits : List ℕ}
      → Adds {E = E} held faults a b (Ok tt) waited between (flat_map text (take i items))
      → Adds held faults b c (Err e) between some (text item) → IsErr r
      → Adds held faults a c r waited waits (flat_map text items)
  Adds-item_failed so_far next failed =
      let rest : List ℕ = flat_map text (drop (i + 1) items) in
      let whole : (flat_map text (take i items) ++ text item) ++ rest ≡ flat_map text items =
      ap (λ l. l ++ rest) (flat_map-next text items i item here) ∙ flat_map-rest text items (i + 1) in
      Adds-passed_on (Adds-same (Adds-longer rest (Adds-then so_far next)) whole) failed
