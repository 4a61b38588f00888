-- Workers whose commands stand for calls, whatever the commands are: which calls these are, and what serving them leaves of a pass.
use Rattle.std.specs.Prelude.{◌≡◌, ℕ, ◌+◌, ◌==◌, if◌then◌else◌, Bool, true, List, [], ◌∷◌, ◌++◌, map}
use Rattle.rht_model.specs.declared.finished.Finished.{Finished}
use Rattle.rht_model.specs.declared.history.Call.{Call}
use Rattle.rht_model.specs.Endings.{Ending}
use Rattle.rht_core.specs.Locals.{is_idle}
use Rattle.rht_core.specs.Serving.{Serves}
use Rattle.rht_run.specs.declared.pass.Pass.{Pass}
use Rattle.rht_run.specs.declared.table.Table.{Table}
use Rattle.rht_run.specs.Passes.{IsPassOf, IsSamePass, book_of}
use Rattle.rht_run.specs.Workers.{HasServedCalls}

-- the commands of a worker among those of all, each with its worker
abbrev pub commands_of : {C : Type 0} → ℕ → List (ℕ × C) → List C
commands_of worker [] = []
commands_of worker (command ∷ commands) =
    if command.0 == worker then command.1 ∷ commands_of worker commands else commands_of worker commands

-- The calls of all workers, each with its worker, who are counted on from this number, where this tells those of each: those of the first
-- worker, then those of the second, and so on.
abbrev pub calls_from : {A : Type 0} → (ℕ → A → List Call) → ℕ → List A → List (ℕ × Call)
calls_from calls worker [] = []
calls_from calls worker (own ∷ others) = map (λ call. (worker, call)) (calls worker own) ++ calls_from calls (worker + 1) others

-- The pass is in no call. Its finished calls are those of `before`, and behind them those that serve these calls, which ended so; no other.
pub record HasServedEach {M : Type 0} (mix : ℕ → ℕ → ℕ → ℕ) (t : Table M) (auto : Bool) (calls : List Call) (endings : List Ending)
    (before now : Pass M) : Type 0 where
  pub pass : IsPassOf mix t now
  pub same : IsSamePass before now
  pub idle : is_idle now.local ≡ true
  pub more : List Finished
  pub finished : (book_of now).finished ≡ (book_of before).finished ++ more
  pub serves : Serves auto calls endings more

-- The pass has served the calls of its worker, which ended so, and what the worker leaves beside it comes of that. The calls are told by what is
-- left and by how they ended.
pub record HasServedBy {M L : Type 0} (mix : ℕ → ℕ → ℕ → ℕ) (t : Table M) (auto : Bool) (calls : L → List Ending → List Call)
    (Answered : L → List Ending → Type 0) (number : ℕ) (pass : Pass M) (left : L) : Type 0 where
  pub endings : List Ending
  pub answered : Answered left endings
  pub served : HasServedCalls mix t auto number (calls left endings) pass endings
