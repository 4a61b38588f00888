-- Bindings that are written into a room, a pair for each owner of each port.
use Rattle.std.proofs.Common.{◌≡◌, ℕ, zero, suc, ◌+◌, ◌<◌, ◌≤◌, List, [], ◌∷◌, ◌++◌, length, map, take, drop, get_or, set, sym, ap, ◌∙◌, append_assoc, append-nil, arith}
use Rattle.std.specs.Prelude.{Some, slice_get}
use Rattle.std.proofs.lemmas.List.{take_all, take-append-le, length-take-le, length-drop, length-append, drop_more, set_at, map_more, map_push, length_push}
use Rattle.rht_model.specs.Listing.{ports_of, owners_of}
use Rattle.rht_session.specs.Plain.{c_pair}
use Rattle.rht_session.specs.Lists.{owned, all_owned, IsWritten}

-- ---- a place

module _ {A : Type 0} (before list room : List A) (item : A) (place : ℕ) (written : IsWritten before list place room) where
  -- in the room
  pub written_at : place < length room → IsWritten before (list ++ item ∷ []) (place + 1) (set room place item)
  written_at within =
      let longer = length_push list item in
      let count = written.count_is in
      let front = length-take-le place list (omega (arith, count)) in
      let many : length room ≡ length before =
      ap length written.written ∙ length-append (take place list) (drop place before)
      ∙ (let behind = length-drop place before in omega (arith, front, behind, count)) in
      let all : place ≡ length list = omega (arith, count, within, many) in
      let whole : take place list ≡ list = take_all place list (omega (arith, all)) in
      let below : place < length before = omega (arith, within, many) in
      record {
        count_is = omega (arith, longer, all, below);
        written =
            ap (λ l. set l place item)
            (written.written ∙ ap (λ l. take place list ++ l) (drop_more before place item below))
            ∙ set_at (take place list) (get_or before place item) (drop (place + 1) before) item place front
            ∙ ap (λ l. l ++ item ∷ drop (place + 1) before) whole
            ∙ sym (append_assoc list (item ∷ []) (drop (place + 1) before))
            ∙ ap (λ l. l ++ drop (place + 1) before) (sym (take_all (place + 1) (list ++ item ∷ []) (omega (arith, longer, all))));
      }

  -- past it
  pub written_past : length room ≤ place → IsWritten before (list ++ item ∷ []) place room
  written_past past =
      let longer = length_push list item in
      let count = written.count_is in
      let front = length-take-le place list (omega (arith, count)) in
      let many : length room ≡ length before =
      ap length written.written ∙ length-append (take place list) (drop place before)
      ∙ (let behind = length-drop place before in omega (arith, front, behind, count)) in
      let within : place ≤ length list = omega (arith, count) in
      record {
        count_is = omega (arith, longer, count, past, many);
        written = written.written ∙ ap (λ l. l ++ drop place before) (sym (take-append-le place list (item ∷ []) within));
      }

-- ---- a port, owner by owner

pub owned_more : (port : ℕ) (owners : List ℕ) (place default : ℕ) → place < length owners
    → map c_pair (owned port (take (place + 1) owners))
    ≡ map c_pair (owned port (take place owners)) ++ c_pair (port, get_or owners place default) ∷ []
owned_more port owners place default within =
    ap (map c_pair) (map_more (λ (o : ℕ). (port, o)) owners place default within)
    ∙ map_push c_pair (owned port (take place owners)) (port, get_or owners place default)

-- ---- all ports, one after another

all_owned-push : (pairs : List (ℕ × List ℕ)) (pair : ℕ × List ℕ) → all_owned (pairs ++ pair ∷ []) ≡ all_owned pairs ++ owned pair.0 pair.1
all_owned-push [] pair = append-nil (owned pair.0 pair.1)
all_owned-push (first ∷ pairs) pair =
    ap (λ l. owned first.0 first.1 ++ l) (all_owned-push pairs pair)
    ∙ sym (append_assoc (owned first.0 first.1) (all_owned pairs) (owned pair.0 pair.1))

-- the pair at a place, of which the port and the owners are known
pair_more : (pairs : List (ℕ × List ℕ)) (place port : ℕ) (owners : List ℕ) → slice_get (ports_of pairs) place ≡ Some port
    → slice_get (owners_of pairs) place ≡ Some owners → take (place + 1) pairs ≡ take place pairs ++ (port, owners) ∷ []
pair_more [] place port owners is are = absurd cc
pair_more (pair ∷ pairs) zero port owners is are =
    let first : pair.0 ≡ port = cc in
    let second : pair.1 ≡ owners = cc in
    ap (λ (p : ℕ). (p, pair.1) ∷ []) first ∙ ap (λ (o : List ℕ). (port, o) ∷ []) second
pair_more (pair ∷ pairs) (suc place) port owners is are =
    let more : suc place + 1 ≡ suc (place + 1) = omega arith in
    ap (λ (n : ℕ). take n (pair ∷ pairs)) more ∙ ap (λ l. pair ∷ l) (pair_more pairs place port owners is are)

pub all_owned_more : (pairs : List (ℕ × List ℕ)) (place port : ℕ) (owners : List ℕ) → slice_get (ports_of pairs) place ≡ Some port
    → slice_get (owners_of pairs) place ≡ Some owners → all_owned (take (place + 1) pairs) ≡ all_owned (take place pairs) ++ owned port owners
all_owned_more pairs place port owners is are =
    ap all_owned (pair_more pairs place port owners is are) ∙ all_owned-push (take place pairs) (port, owners)
