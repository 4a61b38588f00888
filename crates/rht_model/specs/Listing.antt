-- Bindings as a list of pairs, each a port and its owners.
use Rattle.std.specs.Prelude.{◌≢◌, ℕ, if◌then◌else◌, List, [], ◌∷◌, ◌++◌, map, filter, All}
use Rattle.std.specs.List.Sorted.{IsStrictlyIncreasing}
use Rattle.rht_model.specs.Multimap.{Port, same_port, is_before, Multimap, Agree, is_bound}

-- what contracts see of `Bindings`: its pairs, and for how many owners room is left
pub record Listing : Type 0 where
  pub pairs : List (Port × List ℕ)
  pub room : ℕ

-- one owner more: of the last pair where that has this port, and otherwise of a pair of its own
abbrev pub added : List (Port × List ℕ) → Port → ℕ → List (Port × List ℕ)
added [] port owner = (port, owner ∷ []) ∷ []
added (pair ∷ []) port owner =
    if same_port pair.0 port then (pair.0, pair.1 ++ owner ∷ []) ∷ [] else pair ∷ (port, owner ∷ []) ∷ []
added (pair ∷ next ∷ pairs) port owner = pair ∷ added (next ∷ pairs) port owner

-- the ports of the pairs
abbrev pub ports_of : List (Port × List ℕ) → List Port
ports_of pairs = map (λ pair. pair.0) pairs

-- the owners of each pair
abbrev pub owners_of : List (Port × List ℕ) → List (List ℕ)
owners_of pairs = map (λ pair. pair.1) pairs

-- what the pairs say of a port: the owners of the first pair that has it
abbrev pub listed_at : List (Port × List ℕ) → Multimap
listed_at [] port = []
listed_at (pair ∷ pairs) port = if same_port port pair.0 then pair.1 else listed_at pairs port

-- The pairs are all bindings, in rising order of ports, each bound port once.
pub record Lists (pairs : List (Port × List ℕ)) (bindings : Multimap) : Type 0 where
  pub rising : IsStrictlyIncreasing (ports_of pairs)
  pub bound : All (λ pair. pair.1 ≢ []) pairs
  pub agree : Agree (listed_at pairs) bindings

-- a rising list with this port in it, once
abbrev pub inserted : Port → List Port → List Port
inserted port [] = port ∷ []
inserted port (first ∷ others) =
    if is_before port first
    then port ∷ first ∷ others
    else if same_port port first then first ∷ others else first ∷ inserted port others

-- these ports in rising order, each once
abbrev pub rising : List Port → List Port
rising [] = []
rising (first ∷ others) = inserted first (rising others)

-- the bound ones among these ports, in rising order, each with its owners
abbrev pub listing_of : List Port → Multimap → List (Port × List ℕ)
listing_of ports bindings = map (λ port. (port, bindings port)) (filter (is_bound bindings) (rising ports))
