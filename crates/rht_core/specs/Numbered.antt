-- Histories whose entries carry the numbers of events.
use Rattle.std.specs.Prelude.{ℕ, ◌≤◌, ◌==◌, nat_le, if◌then◌else◌, List, [], ◌∷◌, map}
use Rattle.rht_model.specs.declared.history.Entry.{Entry}

-- an entry of a history, with the number of an event
pub record Numbered : Type 0 where
  pub number : ℕ
  pub entry : Entry

-- the history itself
abbrev pub history_of : List Numbered → List Entry
history_of history = map (λ x. x.entry) history

-- the entries numbered up to this event
abbrev pub numbered_to : ℕ → List Numbered → List Entry
numbered_to i [] = []
numbered_to i (x ∷ history) = if nat_le x.number i then x.entry ∷ numbered_to i history else numbered_to i history

-- the numbers never fall, and none is below this one
abbrev pub NeverFalls : ℕ → List Numbered → Type 0
NeverFalls from [] = Unit {0}
NeverFalls from (x ∷ history) = (from ≤ x.number) × NeverFalls x.number history

-- the entries of a caller
abbrev pub entries_of : ℕ → List Numbered → List Numbered
entries_of c [] = []
entries_of c (x ∷ history) = if x.entry.caller == c then x ∷ entries_of c history else entries_of c history
