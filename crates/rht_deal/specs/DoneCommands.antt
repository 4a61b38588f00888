-- Commands that were done: their numbers, who did them, and how they ended.
use Rattle.std.specs.Prelude.{◌≡◌, ℕ, ◌-◌, ◌≤◌, ◌==◌, List, [], ◌∷◌, length, map, filter, slice_index_or}
use Rattle.std.specs.List.{AllByRecursion, range_with_len}
use Rattle.rht_words.specs.declared.config.Config.{Config}
use Rattle.rht_model.specs.declared.history.Call.{Call}
use Rattle.rht_model.specs.declared.history.Call.TheVariants.{Count}
use Rattle.rht_model.specs.Endings.{Ending, replied}
use Rattle.rht_script.specs.declared.done.Done.{Done}
use Rattle.rht_deal.specs.Numbers.{numbers_to}

-- how a command ended that was done
abbrev pub ending_of : Done → Ending
ending_of done = replied done.reply done.owners []

-- the numbers of those that were done
abbrev pub numbers_of : List Done → List ℕ
numbers_of dones = map (λ (done : Done). done.number) dones

-- those that a worker did
abbrev pub done_by : ℕ → List Done → List Done
done_by worker dones = filter (λ (done : Done). done.worker == worker) dones

-- how the commands of a worker ended
abbrev pub endings_of : ℕ → List Done → List Ending
endings_of worker dones = map ending_of (done_by worker dones)

-- so of each of so many workers, the first one's first
abbrev pub all_endings : ℕ → List Done → List (List Ending)
all_endings workers dones = map (λ worker. endings_of worker dones) (range_with_len 1 workers)

-- the commands, each with the worker that did it, where what was done stands in their order
abbrev pub as_done : List Done → List (ℕ × Call) → List (ℕ × Call)
as_done [] commands = []
as_done (done ∷ dones) [] = []
as_done (done ∷ dones) (command ∷ commands) = (done.worker, command.1) ∷ as_done dones commands

-- the calls of the commands with these numbers
abbrev pub calls_at : List (ℕ × Call) → List ℕ → List Call
calls_at commands numbers = map (λ number. (slice_index_or commands (number - 1) (0, Count)).1) numbers

-- Each command was done once: what was done has the numbers of the commands, in their order, each once. And a worker of the table did it.
pub record AreAllDone (config : Config) (commands : List (ℕ × Call)) (dones : List Done) : Type 0 where
  pub numbers : numbers_of dones ≡ numbers_to (length commands)
  pub workers : AllByRecursion (λ (done : Done). (1 ≤ done.worker) × (done.worker ≤ config.callers)) dones
