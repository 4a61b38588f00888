-- What a step of writing text does.
-- The end of the text so far waits in a buffer until it is put.
use Rattle.std.specs.Prelude.{◌≡◌, ℕ, ◌≤◌, List, ◌++◌, Option, Result, OnOk, OnErr}
use Rattle.std.specs.Io.KnownBytes.{Appends}
use Rattle.rht_io.specs.Told.{Rose, AppendsPrefix}

-- a front of what waited and of the text behind it was put, and the rest waits
abbrev pub PutsFront : Option (List ℕ) → Option (List ℕ) → List ℕ → List ℕ → List ℕ → Type 0
PutsFront old new waited waits text = (front : List ℕ) × Appends old new front
    × (front ++ waits ≡ waited ++ text)

-- The text was added behind what waited. On Failed a prefix of both was put, and the sink's faults rose.
pub record Adds {S E : Type 0} (held : S → Option (List ℕ)) (faults : S
    → ℕ) (old new : S) (r : Result (Unit {0}) E) (waited waits text : List ℕ) : Type 0 where
  pub added : OnOk r (PutsFront (held old) (held new) waited waits text)
  pub prefix : OnErr r (AppendsPrefix (held old) (held new) (waited ++ text))
  pub failed : OnErr r (Rose (faults old) (faults new))
  pub kept : faults old ≤ faults new
