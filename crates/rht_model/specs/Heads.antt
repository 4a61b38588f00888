-- How the flat vectors of `Bindings` stand for its pairs.
-- A pair has a head, which says where its owners begin; they end where those of the next pair do.
use Rattle.std.specs.Prelude.{ℕ, ◌≤◌, if◌then◌else◌, Option, Some, None, List, [], ◌∷◌, length, slice_range}
use Rattle.rht_model.specs.declared.bindings.Head.{Head}
use Rattle.rht_model.specs.Multimap.{Port, same_port}

-- where the owners of the first of these pairs begin, or this place if there is none
abbrev pub first_start : List Head → ℕ → ℕ
first_start [] end = end
first_start (head ∷ heads) end = head.start

-- the pairs that these heads and owners stand for
abbrev pub pairs_of : List Head → List ℕ → List (Port × List ℕ)
pairs_of [] owners = []
pairs_of (head ∷ heads) owners =
    (head.port, slice_range owners head.start (first_start heads (length owners))) ∷ pairs_of heads owners

-- the owners of each pair begin no later than those of the next, and none later than this place
abbrev pub IsInOrder : List Head → ℕ → Type 0
IsInOrder [] end = Unit {0}
IsInOrder (head ∷ heads) end = (head.start ≤ first_start heads end) × IsInOrder heads end

-- the port of the last pair, if there is one
abbrev pub last_port : List Head → Option Port
last_port [] = None
last_port (head ∷ []) = Some head.port
last_port (head ∷ next ∷ heads) = last_port (next ∷ heads)

-- one pair more, which begins at this place, unless the last one has this port
abbrev pub begun : List Head → Port → ℕ → List Head
begun [] port start = record { port = port; start = start } ∷ []
begun (head ∷ []) port start =
    if same_port head.port port then head ∷ [] else head ∷ record { port = port; start = start } ∷ []
begun (head ∷ next ∷ heads) port start = head ∷ begun (next ∷ heads) port start
