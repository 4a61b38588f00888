-- Where a caller stands in its read section.
use Rattle.std.specs.Prelude.{ℕ, Option, Some, None, List, [], ◌∷◌}

-- The slots of the tables at which it stands, none before it has loaded which one is the current one; its nodes in chains; and its nodes in
-- lists.
pub record Standing : Type 0 where
  pub tables : List ℕ
  pub nodes : List ℕ
  pub listed : List ℕ

-- at nothing
abbrev pub stands_nowhere : Standing
stands_nowhere = record { tables = []; nodes = []; listed = [] }

-- at these tables, and at no node
abbrev pub stands_in : List ℕ → Standing
stands_in tables = record { tables = tables; nodes = []; listed = [] }

-- and at these nodes in chains
abbrev pub stands_at : List ℕ → List ℕ → Standing
stands_at tables nodes = record { tables = tables; nodes = nodes; listed = [] }

-- one thing or none
abbrev pub if_one : Option ℕ → List ℕ
if_one None = []
if_one (Some thing) = thing ∷ []
