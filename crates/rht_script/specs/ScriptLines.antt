-- What the words of a line below the table line stand for: a line of the schedule where they begin with its word, and else
-- a command.
use Rattle.std.specs.Prelude.{ℕ, if◌then◌else◌, Result, Ok, Err, List, [], ◌∷◌, codes}
use Rattle.rht_words.specs.declared.config.Config.{Config}
use Rattle.rht_model.specs.declared.history.Call.{Call}
use Rattle.rht_script.specs.declared.script.Sched.{Sched}
use Rattle.rht_script.specs.declared.script.Sched.TheVariants.{Step, Skip, Finish}
use Rattle.rht_script.specs.declared.script.ScriptLine.{ScriptLine}
use Rattle.rht_script.specs.declared.script.ScriptLine.TheVariants.{Command, Schedule}
use Rattle.rht_script.specs.declared.script.TableLine.{TableLine}
use Rattle.rht_script.specs.declared.cause.Cause.{Cause}
use Rattle.rht_script.specs.declared.cause.Cause.TheVariants.{UnknownWord}
use Rattle.rht_script.specs.Spelling.{◌>>=◌, is_word}
use Rattle.rht_script.specs.CommandLines.{command_of}
use Rattle.rht_script.specs.ScheduleLines.{events_of}

-- a line of the schedule of this kind, with the worker and the number that these words say
abbrev pub scheduled : (ℕ → ℕ → Sched) → Config → List (List ℕ) → Result ScriptLine Cause
scheduled sched config words = do
  events ← events_of config words
  Ok (Schedule (sched events.0 events.1))

-- the command that these words say
abbrev pub commanded : TableLine → List (List ℕ) → Result ScriptLine Cause
commanded table words = do
  command ← command_of table words
  Ok (Command command)

-- what a line of these words below this table line says
unfoldable pub line_of : TableLine → List (List ℕ) → Result ScriptLine Cause
line_of table [] = Err UnknownWord
line_of table (word ∷ words) =
    if is_word word (codes "step") then scheduled Step table.config words
    else if is_word word (codes "skip") then scheduled Skip table.config words
    else if is_word word (codes "finish") then scheduled Finish table.config words
    else commanded table (word ∷ words)

-- the commands among these lines, in their order
abbrev pub commands_among : List ScriptLine → List (ℕ × Call)
commands_among [] = []
commands_among (Command command ∷ lines) = command ∷ commands_among lines
commands_among (Schedule sched ∷ lines) = commands_among lines

-- the lines of the schedule among them, in theirs
abbrev pub schedule_among : List ScriptLine → List Sched
schedule_among [] = []
schedule_among (Command command ∷ lines) = schedule_among lines
schedule_among (Schedule sched ∷ lines) = sched ∷ schedule_among lines
