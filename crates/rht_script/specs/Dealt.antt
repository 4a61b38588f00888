-- Which bytes are a dealt script and what it says, and where other bytes have their first fault. It has a table line, as every script
-- does, and each line below it is the word `any` and a command, which any worker may do. It has no schedule.
use Rattle.std.specs.Prelude.{◌≡◌, ℕ, ◌≤◌, Bool, true, false, ◌&&◌, ◌==◌, if◌then◌else◌, IsTrue, Result, Ok, Err, List, [], ◌∷◌, codes, vec_len}
use Rattle.std.specs.List.{list_all}
use Rattle.rht_words.specs.declared.config.Config.{Config}
use Rattle.rht_words.specs.Settled.{IsSettled}
use Rattle.rht_model.specs.declared.history.Call.{Call}
use Rattle.rht_model.specs.declared.history.Call.TheVariants.{Bind, Find, All, Release, Rebind, Walk, Work, Tidy, Count}
use Rattle.rht_script.specs.declared.script.Script.{Script}
use Rattle.rht_script.specs.declared.script.ScriptLine.{ScriptLine}
use Rattle.rht_script.specs.declared.script.ScriptLine.TheVariants.{Command}
use Rattle.rht_script.specs.declared.script.ScriptFault.{ScriptFault}
use Rattle.rht_script.specs.declared.script.TableLine.{TableLine}
use Rattle.rht_script.specs.declared.script.Below.{Below}
use Rattle.rht_script.specs.declared.script.Below.TheVariants.{Workers, Any}
use Rattle.rht_script.specs.declared.cause.Cause.{Cause}
use Rattle.rht_script.specs.declared.cause.Cause.TheVariants.{UnknownWord}
use Rattle.rht_script.specs.Spelling.{◌>>=◌, is_word}
use Rattle.rht_script.specs.PortWords.{IsForm}
use Rattle.rht_script.specs.CommandLines.{call_of}
use Rattle.rht_script.specs.ScriptLines.{line_of}
use Rattle.rht_script.specs.Grammar.{most_lines, Said, script_by, reading_by}
use Rattle.rht_script.specs.Reading.{said_by}
use Rattle.rht_script.specs.Sound.{is_sound_call, has_sound_numbers}

-- ---- lines

-- any worker may do it: it is about a port, or reads the count
abbrev pub is_dealt_call : Call → Bool
is_dealt_call (Bind port owner once) = true
is_dealt_call (Find port) = true
is_dealt_call (All port) = true
is_dealt_call (Release port owner) = true
is_dealt_call (Rebind port owner new) = true
is_dealt_call (Walk from limit) = false
is_dealt_call Work = false
is_dealt_call Tidy = false
is_dealt_call Count = true

-- what stands in the place of a worker's number where a command is nobody's yet
abbrev pub nobody : ℕ
nobody = 0

-- the line of a command, where any worker may do it
abbrev pub dealt_line : ℕ × Call → Result ScriptLine Cause
dealt_line command = if is_dealt_call command.1 then Ok (Command command) else Err UnknownWord

-- what a line of these words says below this table line
unfoldable pub dealt_of : TableLine → List (List ℕ) → Result ScriptLine Cause
dealt_of table [] = Err UnknownWord
dealt_of table (word ∷ words) =
    if is_word word (codes "any") then (call_of table words >>= (λ call. dealt_line (nobody, call))) else Err UnknownWord

-- ---- bytes

-- what the bytes say, or their first fault
unfoldable pub dealing_of : List ℕ → Result Said ScriptFault
dealing_of bytes = reading_by (script_by dealt_of) bytes

-- the bytes are this dealt script
abbrev pub SaysDealt : List ℕ → Script → Type 0
SaysDealt bytes script = dealing_of bytes ≡ Ok (said_by script)

-- ---- the one reader of both

-- what a line of these words says, of lines that are read so
abbrev pub line_as : Below → TableLine → List (List ℕ) → Result ScriptLine Cause
line_as Workers = line_of
line_as Any = dealt_of

abbrev pub reading_as : Below → List ℕ → Result Said ScriptFault
reading_as below bytes = reading_by (script_by (line_as below)) bytes

-- ---- which dealt scripts can be run

-- the command is nobody's yet, scripts of this form have its numbers, any worker may do its call, and it can be run
abbrev pub is_dealt_command : ℕ → Config → ℕ × Call → Bool
is_dealt_command form config command =
    command.0 == nobody && (has_sound_numbers form command.1 && (is_dealt_call command.1 && is_sound_call config command.1))

-- The config is settled, there is such a form, each command fits them and is for any worker, and there is no schedule.
pub record IsDealtScript (script : Script) : Type 0 where
  pub settled : IsSettled script.config
  pub form : IsForm script.form
  pub few : vec_len script.commands ≤ most_lines
  pub commands : IsTrue (list_all (is_dealt_command script.form script.config) script.commands.items)
  pub schedule : script.schedule.items ≡ []
