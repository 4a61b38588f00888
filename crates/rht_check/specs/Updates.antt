-- What an ordered map of ports has at a port, and what a change of one port is.
use Rattle.std.specs.Prelude.{◌≡◌, ℕ, cond, Option, List, [], length, sum_by, unwrap_or}
use Rattle.std.specs.Map.{lookup}
use Rattle.std.specs.Ordering.{nat_cmp}
use Rattle.std.specs.BTreeMap.{is_at}
use Rattle.rht_model.specs.Multimap.{Port, Multimap, Agree, with_owners}

-- what is found at a port among the entries
abbrev pub found_at : List (Port × List ℕ) → Port → Option (List ℕ)
found_at entries port = lookup (is_at (nat_cmp port)) entries

-- the owners of each port, as they are found
abbrev pub owners_at : List (Port × List ℕ) → Multimap
owners_at entries port = unwrap_or (found_at entries port) []

-- how many owners all ports have together
abbrev pub count_of_owners : List (Port × List ℕ) → ℕ
count_of_owners entries = sum_by (λ entry. length entry.1) entries

-- at this port there are these owners now, and at any other port what there was
abbrev pub IsUpdated : List (Port × List ℕ) → List (Port × List ℕ) → Port → Option (List ℕ) → Type 0
IsUpdated old new port owners =
    (other : ℕ) → found_at new other ≡ cond (is_at (nat_cmp port) other) owners (found_at old other)

-- the port has these owners now, and every other port those that it had
abbrev pub ChangesTo : List (Port × List ℕ) → List (Port × List ℕ) → Port → List ℕ → Type 0
ChangesTo old new port owners = Agree (owners_at new) (with_owners (owners_at old) port owners)
