-- What callers leave that have served commands: the passes of a table, each with the endings of its own.
use Rattle.std.specs.Prelude.{◌≡◌, ℕ, ◌+◌, ◌<◌, Bool, true, List, [], length, slice_index_or}
use Rattle.rht_words.specs.declared.config.Config.{Config}
use Rattle.rht_words.specs.Settled.{plain_ways}
use Rattle.rht_model.specs.declared.history.Call.{Call}
use Rattle.rht_model.specs.Endings.{Ending}
use Rattle.rht_core.specs.Locals.{is_idle}
use Rattle.rht_core.specs.Serving.{Serves, calls_of}
use Rattle.rht_run.specs.declared.table.Table.{Table}
use Rattle.rht_run.specs.declared.pass.Pass.{Pass}
use Rattle.rht_run.specs.Passes.{IsPassOf, book_of}

-- A pass of the table has this number and is in no call, and its finished calls serve these with these endings. It runs `work` by itself
-- where `auto` says so.
pub record HasServedCalls {M : Type 0} (mix : ℕ → ℕ → ℕ → ℕ) (t : Table M) (auto : Bool) (number : ℕ) (calls : List Call)
    (pass : Pass M) (endings : List Ending)
    : Type 0 where
  pub pass_of : IsPassOf mix t pass
  pub number_is : pass.number ≡ number
  pub idle : is_idle pass.local ≡ true
  pub serves : Serves auto calls endings (book_of pass).finished

-- The table has this config and the plain ways, there are as many passes as callers, in order of their numbers, and each has served the commands of the
-- worker that is counted from 1, with the endings at its place.
pub record HaveServedAll {M : Type 0} (mix : ℕ → ℕ → ℕ → ℕ) (config : Config) (t : Table M) (auto : Bool) (commands : List (ℕ × Call))
    (passes : List (Pass M)) (endings : List (List Ending))
    : Type 0 where
  pub config_same : t.env.config ≡ config
  pub ways_plain : t.env.ways ≡ plain_ways
  pub many : length passes ≡ config.callers
  pub workers : length endings ≡ config.callers
  pub each : (i : ℕ) (default : Pass M) → i < config.callers
      → HasServedCalls mix t auto i (calls_of (i + 1) commands) (slice_index_or passes i default) (slice_index_or endings i [])
