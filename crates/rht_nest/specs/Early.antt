-- What a call will answer should the bucket be missing to which it is on its way.
use Rattle.std.specs.Prelude.{ℕ, Option, None, Some}
use Rattle.rht_nest.specs.declared.locate.LocateAt.{LocateAt}
use Rattle.rht_nest.specs.declared.locate.LocateAt.TheVariants as locates

-- this answer, where the future leads to no table
abbrev pub answer_unless : {Answer : Type 0} → Answer → Option ℕ → Option Answer
answer_unless absent None = Some absent
answer_unless absent (Some table) = None

-- What it will answer should the bucket be missing, known early: from the load of a future on that leads to no table, before the
-- entries of a nested table are looked at.
abbrev pub early_of_locate : {Answer : Type 0} → Answer → LocateAt → Option Answer
early_of_locate absent locates.Shape = None
early_of_locate absent (locates.Seed shape) = None
early_of_locate absent (locates.Early shape place) = None
early_of_locate absent (locates.Entry shape early place) = answer_unless absent early
