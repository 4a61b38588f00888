-- What all workers leave together: each has done its part on its pass.
use Rattle.std.specs.Prelude.{◌≡◌, ℕ, ◌<◌, IfOk, Result, Ok, List, [], ◌∷◌, length, slice_index_or}
use Rattle.rht_words.specs.declared.config.Config.{Config}
use Rattle.rht_words.specs.Settled.{plain_ways}
use Rattle.rht_run.specs.declared.pass.Pass.{Pass}
use Rattle.rht_run.specs.declared.table.Table.{Table}

-- each worker below this number has done its part, in order, but those that memory ran out for
abbrev pub HaveWorked : {P L E : Type 0} → (ℕ → P → L → Type 0) → ℕ → List (Result (P × L) E) → Type 0
HaveWorked {P} {L} {E} Has count left =
    (i : ℕ) (default : Result (P × L) E) → i < count → IfOk (slice_index_or left i default) (λ worked. Has i worked.0 worked.1)

-- passes and what is left beside them, place by place, where no worker ran out of memory
abbrev pub side_by_side : {P L E : Type 0} → List P → List L → List (Result (P × L) E)
side_by_side [] all = []
side_by_side (pass ∷ passes) [] = []
side_by_side (pass ∷ passes) (own ∷ all) = Ok (pass, own) ∷ side_by_side passes all

-- The table has this config and the plain ways, there are as many passes as callers, in order of their numbers, and each worker has done its part, with what
-- it leaves at its place.
pub record HaveWorkedAll {M L : Type 0} (Has : ℕ → Pass M → L → Type 0) (config : Config) (t : Table M) (passes : List (Pass M))
    (left : List L) : Type 0 where
  pub config_same : t.env.config ≡ config
  pub ways_plain : t.env.ways ≡ plain_ways
  pub many : length passes ≡ config.callers
  pub workers : length left ≡ config.callers
  pub each : (i : ℕ) (pass : Pass M) (own : L) → i < config.callers → Has i (slice_index_or passes i pass) (slice_index_or left i own)
