-- What was read so far, before what the lines say that are left.
use Rattle.std.proofs.Common.{ℕ, Result, Ok, Err, List, ◌++◌}
use Rattle.rht_model.specs.declared.history.Call.{Call}
use Rattle.rht_script.specs.declared.script.ScriptFault.{ScriptFault}
use Rattle.rht_check.specs.Reading.{Asked}

-- these commands, and then what is asked
abbrev pub with_commands : List (ℕ × Call) → Result Asked ScriptFault → Result Asked ScriptFault
with_commands commands (Ok asked) = Ok (record asked { commands = commands ++ asked.commands })
with_commands commands (Err fault) = Err fault
