-- Adding to the flat vectors of `Bindings` adds to the pairs that they stand for.
-- An owner more at the end leaves every range of owners that ends before it; where the last pair
-- has the port, its range is one longer, and otherwise a pair of its own begins there.
use Rattle.std.proofs.Common.{◌≡◌, ℕ, ◌+◌, ◌-◌, ◌<◌, ◌≤◌, ◌==◌, Bool, true, false, if◌then◌else◌, List, [], ◌∷◌, ◌++◌, length, drop, get_or, Some, refl, sym, ◌∙◌, ap, subst, option_map, suc, zero, nat_eq, arith, slice_get, slice_range}
use Rattle.std.proofs.lemmas.List.{drop-append-le, take-append-le, drop_at}
use Rattle.std.specs.Option.{option_eq}
use Rattle.std.proofs.lemmas.Slice.{between_to_end, between_is}
use Rattle.rht_model.specs.declared.bindings.Head.{Head}
use Rattle.rht_model.specs.Listing.{added, ports_of, owners_of}
use Rattle.rht_model.specs.Heads.{first_start, pairs_of, IsInOrder, last_port, begun}

-- there is a pair for each head
pub length-pairs_of : (heads : List Head) (owners : List ℕ) → length (pairs_of heads owners) ≡ length heads
length-pairs_of [] owners = refl
length-pairs_of (head ∷ heads) owners = ap (λ n. suc n) (length-pairs_of heads owners)

-- a place among the pairs is a place among the heads
pub within-pairs_of : (heads : List Head) (owners : List ℕ) (pairs : List (ℕ × List ℕ)) (i : ℕ)
    → pairs_of heads owners ≡ pairs → i < length pairs → i < length heads
within-pairs_of heads owners pairs i is within =
    subst (λ n. i < n) (ap (λ l. length l) (sym is) ∙ length-pairs_of heads owners) within

-- the pair at a place has the port of the head there
pub slice_get-ports_of : (heads : List Head) (owners : List ℕ) (i : ℕ) (default : Head) → i < length heads
    → slice_get (ports_of (pairs_of heads owners)) i ≡ Some ((get_or heads i default).port)
slice_get-ports_of [] owners i default within = absurd (omega arith)
slice_get-ports_of (head ∷ heads) owners zero default within = refl
slice_get-ports_of (head ∷ heads) owners (suc i) default within =
    slice_get-ports_of heads owners i default (omega arith)

-- the pair at a place has the owners from where its own begin to where those of the next pair do
pub slice_get-owners_of : (heads : List Head) (owners : List ℕ) (i : ℕ) → i < length heads
    → slice_get (owners_of (pairs_of heads owners)) i
    ≡ Some (slice_range owners (first_start (drop i heads) (length owners))
    (first_start (drop (suc i) heads) (length owners)))
slice_get-owners_of [] owners i within = absurd (omega arith)
slice_get-owners_of (head ∷ heads) owners zero within = refl
slice_get-owners_of (head ∷ heads) owners (suc i) within = slice_get-owners_of heads owners i (omega arith)

-- no pair begins past the end
pub first_start-le : (heads : List Head) (end : ℕ) → IsInOrder heads end → first_start heads end ≤ end
first_start-le [] end in_order = omega arith
first_start-le (head ∷ heads) end in_order = omega (arith, in_order.0, first_start-le heads end in_order.1)

-- the owners of the pair at a place end no earlier than they begin, and no later than the end
pub range_in_order : (heads : List Head) (end i : ℕ) → IsInOrder heads end
    → (first_start (drop i heads) end ≤ first_start (drop (suc i) heads) end)
    × (first_start (drop (suc i) heads) end ≤ end)
range_in_order [] end zero in_order = (omega arith, omega arith)
range_in_order [] end (suc i) in_order = (omega arith, omega arith)
range_in_order (head ∷ heads) end zero in_order = (in_order.0, first_start-le heads end in_order.1)
range_in_order (head ∷ heads) end (suc i) in_order = range_in_order heads end i in_order.1

-- where there is a pair, the first one begins where it did
first_start-begun : (head : Head) (heads : List Head) (port start end : ℕ)
    → first_start (begun (head ∷ heads) port start) end ≡ head.start
first_start-begun head [] port start end =
    elim (head.port == port) as (λ b.
    first_start (if b then head ∷ [] else head ∷ record { port = port; start = start } ∷ [])
    end ≡ head.start) [
      | true ↦ refl
      | false ↦ refl
    ]
first_start-begun head (next ∷ heads) port start end = refl

-- By induction over the heads: what was in order up to the end stays so with one owner more, and a
-- new pair begins at the old end.
pub IsInOrder-begun : (heads : List Head) (port end : ℕ) → IsInOrder heads end
    → IsInOrder (begun heads port end) (end + 1)
IsInOrder-begun [] port end in_order = (omega arith, tt)
IsInOrder-begun (head ∷ []) port end in_order =
    elim (head.port == port) as (λ b.
    IsInOrder (if b then head ∷ [] else head ∷ record { port = port; start = end } ∷ []) (end + 1)) [
      | true ↦ (omega (arith, in_order.0), tt)
      | false ↦ (in_order.0, (omega arith, tt))
    ]
IsInOrder-begun (head ∷ next ∷ heads) port end in_order = (
  rw (first_start-begun next heads port end (end + 1)) in_order.0,
  IsInOrder-begun (next ∷ heads) port
      end in_order.1,
)

-- a range that ends among the old owners has the same owners with one more at the end
slice_range-push : (owners : List ℕ) (owner from to : ℕ) → to ≤ length owners
    → slice_range (owners ++ owner ∷ []) from to ≡ slice_range owners from to
slice_range-push owners owner from to within =
    between_is (owners ++ owner ∷ []) from to
    ∙ ap (λ front. drop from front) (take-append-le to owners (owner ∷ []) within)
    ∙ sym (between_is owners from to)

-- a range up to the end is one longer with one more owner at the end
slice_range-push_end : (owners : List ℕ) (owner from : ℕ) → from ≤ length owners
    → slice_range (owners ++ owner ∷ []) from (length (owners ++ owner ∷ []))
    ≡ slice_range owners from (length owners) ++ owner ∷ []
slice_range-push_end owners owner from within =
    between_to_end (owners ++ owner ∷ []) from (length (owners ++ owner ∷ [])) (omega arith)
    ∙ drop-append-le from owners (owner ∷ []) within
    ∙ ap (λ rest. rest ++ owner ∷ []) (sym (between_to_end owners from (length owners) (omega arith)))

-- the range from the old end on has the new owner alone
slice_range-pushed : (owners : List ℕ) (owner : ℕ)
    → slice_range (owners ++ owner ∷ []) (length owners) (length (owners ++ owner ∷ [])) ≡ owner ∷ []
slice_range-pushed owners owner =
    between_to_end (owners ++ owner ∷ []) (length owners) (length (owners ++ owner ∷ [])) (omega arith)
    ∙ drop_at owners (owner ∷ []) (length owners) refl

-- By induction over the heads: only the last pair, and what comes after it, is told apart by the port.
pub added-pairs_of : (heads : List Head) (owners : List ℕ) (port owner : ℕ) → IsInOrder heads (length owners)
    → added (pairs_of heads owners) port owner ≡ pairs_of (begun heads port (length owners))
    (owners ++ owner ∷ [])
added-pairs_of [] owners port owner in_order =
    ap (λ range. (port, range) ∷ []) (sym (slice_range-pushed owners owner))
added-pairs_of (head ∷ []) owners port owner in_order =
    let range = slice_range owners head.start (length owners) in
    elim (head.port == port) as (λ b.
    (if b then (head.port, range ++ owner ∷ []) ∷ [] else (head.port, range) ∷ (port, owner ∷ []) ∷ [])
    ≡ pairs_of (if b then head ∷ [] else head ∷ record { port = port; start = length owners } ∷ [])
    (owners ++ owner ∷ [])) [
      | true ↦ ap (λ new. (head.port, new) ∷ []) (sym
          (slice_range-push_end owners owner head.start in_order.0))
      | false ↦
          let old = slice_range-push owners owner head.start (length owners) (omega arith) in
          let new = slice_range-pushed owners owner in
          cc
    ]
added-pairs_of (head ∷ next ∷ heads) owners port owner in_order =
    let more = owners ++ owner ∷ [] in
    let begins = first_start-begun next heads port (length owners) (length more) in
    let within = first_start-le (next ∷ heads) (length owners) in_order.1 in
    let same = slice_range-push owners owner head.start next.start within in
    let others = added-pairs_of (next ∷ heads) owners port owner in_order.1 in
    rw begins (cc)

-- By induction over the heads, down to the last one.
pub last_port-is : (heads : List Head)
    → last_port heads ≡ option_map (λ head. head.port) (slice_get heads (length heads - 1))
last_port-is [] = refl
last_port-is (head ∷ []) = refl
last_port-is (head ∷ next ∷ heads) =
    let place : length (head ∷ next ∷ heads) - 1 ≡ suc (length (next ∷ heads) - 1) = omega arith in
    rw place (last_port-is (next ∷ heads))

-- an entry before either of two lists is before the one that is picked
cons-if : {X : Type 0} (x : X) (test : Bool) (one other : List X)
    → x ∷ (if test then one else other) ≡ (if test then x ∷ one else x ∷ other)
cons-if x true one other = refl
cons-if x false one other = refl

-- By induction over the heads, down to the last one: a pair of its port is no new one, and a pair of
-- another port stands after all others.
pub begun-is : (heads : List Head) (port start : ℕ)
    → begun heads port start
    ≡ (if option_eq nat_eq (last_port heads) (Some port) then heads else
    heads ++ record { port = port; start = start } ∷ [])
begun-is [] port start = refl
begun-is (head ∷ []) port start = refl
begun-is (head ∷ next ∷ heads) port start =
    let others = next ∷ heads in
    let new = others ++ record { port = port; start = start } ∷ [] in
    ap (λ list. head ∷ list) (begun-is (next ∷ heads) port start)
    ∙ cons-if head (option_eq nat_eq (last_port others) (Some port)) others new
