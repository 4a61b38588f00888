-- What is asked of each operation that a machine plans.
use Rattle.std.specs.Prelude.{◌≢◌, ℕ, ◌^◌, ◌<◌}
use Rattle.rht_words.specs.declared.op.Op.{Op}
use Rattle.rht_words.specs.declared.geometry.Geometry.{Geometry}
use Rattle.rht_words.specs.Operations.{op_place, op_value}
use Rattle.rht_words.specs.Places.{EnrolledCallers, place_of, words_in}

-- the number is one that a word can have
abbrev pub IsWord : ℕ → Type 0
IsWord value = value < 2 ^ 64

-- the operation is on one of the words, and not on that of the enrolled callers, and it brings what a word can have
pub record IsPlannedIn (g : Geometry) (op : Op) : Type 0 where
  pub within : op_place op < words_in g
  pub apart : op_place op ≢ place_of g EnrolledCallers
  pub fits : IsWord (op_value op)
