use Rattle.std.proofs.Common.{◌≡◌, ℕ, ◌≤◌, []}
use Rattle.rht_check.specs.CommandsLeft.{left_of}
use Rattle.rht_check.proofs.commands_left.CommandsLeft.unfinished.Given as goal

-- no worker up to this number has commands left
abbrev pub invariant-loop-number : goal.invariant-loop-number
invariant-loop-number l = (worker : ℕ) → worker ≤ l.number → left_of l.self worker ≡ []
