-- How a place for each worker stands for the commands that it has left.
use Rattle.std.specs.Prelude.{◌≡◌, ◌≢◌, ℕ, ◌+◌, ◌-◌, ◌<◌, ◌≤◌, List, [], ◌∷◌, drop, length, slice_index, slice_index_or}
use Rattle.rht_model.specs.declared.history.Call.{Call}
use Rattle.rht_check.specs.Claims.{commands_of}

-- the commands of all workers, and for each worker the place from which its next one is looked for
pub record Left : Type 0 where
  pub commands : List (ℕ × Call)
  pub places : List ℕ

-- the commands that a worker has left
abbrev pub left_of : Left → ℕ → List Call
left_of left worker = commands_of worker (drop (slice_index left.places (worker - 1)) left.commands)

-- The worker's next command stands at this place, and those behind it are the others that it has left.
pub record IsNextAt (left : Left) (worker place : ℕ) : Type 0 where
  pub counted : (0 < worker) × (worker ≤ length left.places)
  pub within : place < length left.commands
  pub parts : (default : ℕ × Call) → left_of left worker
      ≡ (slice_index_or left.commands place default).1 ∷ commands_of worker (drop (place + 1) left.commands)

-- The next command of the worker was taken; no other worker has fewer left.
pub record TakesCommand (before after : Left) (worker : ℕ) (call : Call) : Type 0 where
  pub taken : left_of before worker ≡ call ∷ left_of after worker
  pub others : (other : ℕ) → other ≢ worker → left_of after other ≡ left_of before other

-- the command is of one of so many workers, counted from 1
abbrev pub IsWorkerOf : ℕ → ℕ × Call → Type 0
IsWorkerOf workers command = (0 < command.0) × (command.0 ≤ workers)

-- The worker is the first that has commands left.
pub record IsFirstLeft (left : Left) (worker : ℕ) : Type 0 where
  pub some : left_of left worker ≢ []
  pub first : (other : ℕ) → other < worker → left_of left other ≡ []
