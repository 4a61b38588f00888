-- What `read` answers: what the bytes say, or their first fault.
use Rattle.std.specs.Prelude.{◌≡◌, ℕ, Result, Ok, Err, List}
use Rattle.rht_script.specs.declared.script.Script.{Script}
use Rattle.rht_script.specs.declared.script.ScriptFault.{ScriptFault}
use Rattle.rht_script.specs.declared.script.ReadError.{ReadError}
use Rattle.rht_script.specs.declared.script.ReadError.TheVariants.{Fault, Memory}
use Rattle.rht_script.specs.Grammar.{Said, reading_of}

-- what the script says
abbrev pub said_by : Script → Said
said_by script = record {
  config = script.config;
  auto = script.auto;
  form = script.form;
  commands = script.commands.items;
  schedule = script.schedule.items;
}

-- the bytes are this script
abbrev pub IsScript : List ℕ → Script → Type 0
IsScript bytes script = reading_of bytes ≡ Ok (said_by script)

-- the bytes are no script, and this is their first fault
abbrev pub FirstFault : List ℕ → ScriptFault → Type 0
FirstFault bytes fault = reading_of bytes ≡ Err fault

-- the error is the reason why this was not read: the fault of its reading, or want of memory
abbrev pub IsReasonFor : {X : Type 0} → Result X ScriptFault → ReadError → Type 0
IsReasonFor reading (Fault fault) = reading ≡ Err fault
IsReasonFor reading Memory = Unit {0}

-- the error is the reason why these bytes were not read: their first fault, or want of memory
abbrev pub IsReason : List ℕ → ReadError → Type 0
IsReason bytes error = IsReasonFor (reading_of bytes) error
