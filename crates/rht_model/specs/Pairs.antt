-- Bindings as a plain list of pairs, each a port and one owner.
use Rattle.std.specs.Prelude.{◌≡◌, ℕ, List, map, filter}
use Rattle.rht_model.specs.Multimap.{Port, same_port, Multimap, with_owners}

-- what the pairs stand for: each port has the owners of its pairs, in their order
abbrev pub bindings_in : List (Port × ℕ) → Multimap
bindings_in pairs port = map (λ pair. pair.1) (filter (λ pair. same_port pair.0 port) pairs)

-- the port's owners are changed this way, and those of no other port
abbrev pub ChangesOwners : List (Port × ℕ) → List (Port × ℕ) → Port → (List ℕ → List ℕ) → Type 0
ChangesOwners old new port change =
    bindings_in new ≡ with_owners (bindings_in old) port (change (bindings_in old port))
