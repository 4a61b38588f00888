-- What of a list is shown in a room.
use Rattle.std.specs.Prelude.{◌≡◌, ℕ, List, [], ◌∷◌, ◌++◌, length, map, min, take, drop}

-- what stands from the place `skip` on, as far as there is room for it
abbrev pub shown : {A : Type 0} → List A → ℕ → ℕ → List A
shown list skip room = take room (drop skip list)

-- a pair for each of these owners of a port
abbrev pub owned : ℕ → List ℕ → List (ℕ × ℕ)
owned port owners = map (λ owner. (port, owner)) owners

-- and for each owner of each port of a listing, in its order
abbrev pub all_owned : List (ℕ × List ℕ) → List (ℕ × ℕ)
all_owned [] = []
all_owned (pair ∷ pairs) = owned pair.0 pair.1 ++ all_owned pairs

-- So many of the list stand at the front of the room, as many as there is room for, and behind them what stood there.
pub record IsWritten {A : Type 0} (before list : List A) (count : ℕ) (after : List A) : Type 0 where
  pub count_is : count ≡ min (length list) (length before)
  pub written : after ≡ take count list ++ drop count before
