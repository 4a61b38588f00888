-- What the words of a command line stand for: a worker, and what that asks. Words are read from left to right.
use Rattle.std.specs.Prelude.{ℕ, Bool, false, ◌||◌, if◌then◌else◌, None, Result, Ok, Err, List, [], ◌∷◌, codes}
use Rattle.rht_words.specs.declared.config.Config.{Config}
use Rattle.rht_words.specs.declared.limits.Limits.{Limits}
use Rattle.rht_model.specs.declared.history.Call.{Call}
use Rattle.rht_model.specs.declared.history.Call.TheVariants.{Bind, Find, All, Release, Rebind, Walk, Work, Tidy, Count}
use Rattle.rht_script.specs.declared.script.TableLine.{TableLine}
use Rattle.rht_script.specs.declared.cause.Cause.{Cause}
use Rattle.rht_script.specs.declared.cause.Cause.TheVariants.{UnknownWord}
use Rattle.rht_script.specs.Spelling.{◌>>=◌, is_word, number_of}
use Rattle.rht_script.specs.PortWords.{port_of_word}

-- an owner is any number of 32 bits
abbrev pub owner_limits : Limits
owner_limits = record { least = 0; greatest = 4294967295 }

-- the number that the next word stands for, and the words behind it
abbrev pub number_first : Limits → List (List ℕ) → Result (ℕ × List (List ℕ)) Cause
number_first limits [] = Err UnknownWord
number_first limits (word ∷ words) = do
  number ← number_of limits word
  Ok (number, words)

-- the port that the next word stands for in a script of this form, and the words behind it
abbrev pub port_first : ℕ → List (List ℕ) → Result (ℕ × List (List ℕ)) Cause
port_first form [] = Err UnknownWord
port_first form (word ∷ words) = do
  port ← port_of_word form word
  Ok (port, words)

-- no word is left over
abbrev pub end_of : List (List ℕ) → Result (Unit {0}) Cause
end_of [] = Ok tt
end_of (word ∷ words) = Err UnknownWord

-- what each verb asks with these words, in a script of this form
unfoldable pub bind_of : ℕ → List (List ℕ) → Result Call Cause
bind_of form words = do
  port ← port_first form words
  owner ← number_first owner_limits port.1
  end ← end_of owner.1
  Ok (Bind port.0 owner.0 false)

unfoldable pub find_of : ℕ → List (List ℕ) → Result Call Cause
find_of form words = do
  port ← port_first form words
  end ← end_of port.1
  Ok (Find port.0)

unfoldable pub all_of : ℕ → List (List ℕ) → Result Call Cause
all_of form words = do
  port ← port_first form words
  end ← end_of port.1
  Ok (All port.0)

unfoldable pub release_of : ℕ → List (List ℕ) → Result Call Cause
release_of form words = do
  port ← port_first form words
  owner ← number_first owner_limits port.1
  end ← end_of owner.1
  Ok (Release port.0 owner.0)

unfoldable pub rebind_of : ℕ → List (List ℕ) → Result Call Cause
rebind_of form words = do
  port ← port_first form words
  owner ← number_first owner_limits port.1
  new ← number_first owner_limits owner.1
  end ← end_of new.1
  Ok (Rebind port.0 owner.0 new.0)

-- a call that its verb says alone: no word stands behind it
unfoldable pub bare_of : Call → List (List ℕ) → Result Call Cause
bare_of call words = do
  end ← end_of words
  Ok call

-- a walk over the whole table: it begins at the first bucket, and may show as many pairs as there are nodes
abbrev pub whole_walk : Config → Call
whole_walk config = Walk None config.nodes

-- what a verb asks below this table line with the words behind it
unfoldable pub call_of : TableLine → List (List ℕ) → Result Call Cause
call_of table [] = Err UnknownWord
call_of table (verb ∷ words) =
    if is_word verb (codes "bind") then bind_of table.form words
    else if is_word verb (codes "find") then find_of table.form words
    else if is_word verb (codes "all") then all_of table.form words
    else if is_word verb (codes "release") then release_of table.form words
    else if is_word verb (codes "rebind") then rebind_of table.form words
    else if is_word verb (codes "walk") then bare_of (whole_walk table.config) words
    else if is_word verb (codes "work") then bare_of Work words
    else if is_word verb (codes "tidy") then bare_of Tidy words
    else if is_word verb (codes "count") then bare_of Count words
    else Err UnknownWord

-- the workers are the callers of the table, counted from 1
abbrev pub worker_limits : Config → Limits
worker_limits config = record { least = 1; greatest = config.callers }

-- a line of the schedule begins with this word, and a command line never does
abbrev pub begins_schedule : List ℕ → Bool
begins_schedule word = is_word word (codes "step") || is_word word (codes "skip") || is_word word (codes "finish")

-- the worker that the first word of a line names
unfoldable pub worker_of : Config → List ℕ → Result ℕ Cause
worker_of config word = if begins_schedule word then Err UnknownWord else number_of (worker_limits config) word

-- that worker, and the words behind it
abbrev pub worker_first : Config → List (List ℕ) → Result (ℕ × List (List ℕ)) Cause
worker_first config [] = Err UnknownWord
worker_first config (word ∷ words) = do
  worker ← worker_of config word
  Ok (worker, words)

-- the worker of a line, and what that asks, by such a reading of the words behind it
abbrev pub asked_by : {X : Type 0} → (List (List ℕ) → Result X Cause) → Config → List (List ℕ) → Result (ℕ × X) Cause
asked_by ask_of config words = do
  worker ← worker_first config words
  ask ← ask_of worker.1
  Ok (worker.0, ask)

-- the command of a line of these words below this table line: its worker, and what that asks
unfoldable pub command_of : TableLine → List (List ℕ) → Result (ℕ × Call) Cause
command_of table words = asked_by (call_of table) table.config words
