-- What is said so far, before the lines that are still to be read.
use Rattle.std.proofs.Common.{◌≡◌, Result, Ok, Err, List, [], ◌++◌, refl}
use Rattle.rht_script.specs.declared.script.TableLine.{TableLine}
use Rattle.rht_script.specs.declared.script.ScriptLine.{ScriptLine}
use Rattle.rht_script.specs.declared.script.ScriptFault.{ScriptFault}
use Rattle.rht_script.specs.Spelling.{◌>>=◌}
use Rattle.rht_script.specs.ScriptLines.{commands_among, schedule_among}
use Rattle.rht_script.specs.Grammar.{Said, said_of}

-- this, and then what the lines say that are read
abbrev pub with_front : Said → Result (List ScriptLine) ScriptFault → Result Said ScriptFault
with_front said (Ok lines) = Ok (record said {
  commands = said.commands ++ commands_among lines;
  schedule = said.schedule ++ schedule_among lines;
})
with_front said (Err fault) = Err fault

-- these, and then those that are read
abbrev pub with_items : {X : Type 0} → List X → Result (List X) ScriptFault → Result (List X) ScriptFault
with_items items (Ok others) = Ok (items ++ others)
with_items items (Err fault) = Err fault

-- behind a table line alone come all lines
pub with_front-table : (table : TableLine) (read : Result (List ScriptLine) ScriptFault)
    → with_front (said_of table []) read ≡ (read >>= (λ lines. Ok (said_of table lines)))
with_front-table table (Ok lines) = refl
with_front-table table (Err fault) = refl
