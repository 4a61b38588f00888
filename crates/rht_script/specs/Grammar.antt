-- Which bytes are a script and what it says, and where other bytes have their first fault.
-- Lines are read from the first to the last: the table line, and then commands and lines of the schedule, in any order.
-- The first that is wrong is at fault.
use Rattle.std.specs.Prelude.{ℕ, Bool, ◌+◌, ◌==◌, nat_lt, if◌then◌else◌, Result, Ok, Err, List, [], ◌∷◌, length, take, count_by}
use Rattle.rht_words.specs.declared.config.Config.{Config}
use Rattle.rht_model.specs.declared.history.Call.{Call}
use Rattle.rht_script.specs.declared.script.Sched.{Sched}
use Rattle.rht_script.specs.declared.script.ScriptLine.{ScriptLine}
use Rattle.rht_script.specs.declared.script.ScriptFault.{ScriptFault}
use Rattle.rht_script.specs.declared.script.TableLine.{TableLine}
use Rattle.rht_script.specs.declared.cause.Cause.{Cause}
use Rattle.rht_script.specs.declared.cause.Cause.TheVariants.{NoTableLine, UnknownWord, BadNumber, OutOfRange, TooManyLines, LineTooLong, OptionsDisagree, ScriptTooLong}
use Rattle.rht_script.specs.Spelling.{◌>>=◌, lines_of, words_of, is_skipped}
use Rattle.rht_script.specs.TableLines.{table_of}
use Rattle.rht_script.specs.ScriptLines.{line_of, commands_among, schedule_among}

-- the greatest number of bytes of a script, of its lines, and of the bytes of a line without its line feed
abbrev pub most_bytes : ℕ
most_bytes = 16777216

abbrev pub most_lines : ℕ
most_lines = 1000000

abbrev pub most_in_line : ℕ
most_in_line = 256

-- the number by which a fault tells its cause; no cause has the number 7
abbrev pub code_of : Cause → ℕ
code_of NoTableLine = 1
code_of UnknownWord = 2
code_of BadNumber = 3
code_of OutOfRange = 4
code_of TooManyLines = 5
code_of LineTooLong = 6
code_of OptionsDisagree = 8
code_of ScriptTooLong = 9

-- the fault of this cause at this line
abbrev pub fault_at : ℕ → Cause → ScriptFault
fault_at line cause = record { line = line; cause = code_of cause }

-- what is read, with the cause told by its number
abbrev pub coded : {X : Type 0} → Result X Cause → Result X ℕ
coded (Ok value) = Ok value
coded (Err cause) = Err (code_of cause)

-- what is read at this line
abbrev pub at_line : {X : Type 0} → ℕ → Result X Cause → Result X ScriptFault
at_line line (Ok value) = Ok value
at_line line (Err cause) = Err (fault_at line cause)

-- the words of the line of this number, where there are not too many lines, and the line isn't too long
abbrev pub words_at : ℕ → List ℕ → Result (List (List ℕ)) Cause
words_at number line =
    if nat_lt most_lines number then Err TooManyLines
    else if nat_lt most_in_line (length line) then Err LineTooLong
    else Ok (words_of line)

-- what a script says: what the table is opened with, whether a worker runs `work` by itself where a reply asks for it,
-- how ports are written, the commands, each with its worker, and the schedule of a replay
pub record Said : Type 0 where
  pub config : Config
  pub auto : Bool
  pub form : ℕ
  pub commands : List (ℕ × Call)
  pub schedule : List Sched

-- a table line and lines below it say this: the commands and the schedule each in the order of their lines
abbrev pub said_of : TableLine → List ScriptLine → Said
said_of table lines = record {
  config = table.config;
  auto = table.auto;
  form = table.form;
  commands = commands_among lines;
  schedule = schedule_among lines;
}

-- ---- lines, of which each below the table line says what such a reading of its words gives

module _ {X : Type 0} (line_by : TableLine → List (List ℕ) → Result X Cause) where
  -- what the lines below the table line say, which are counted on from this number
  abbrev pub lines_by : ℕ → TableLine → List (List ℕ) → Result (List X) ScriptFault
  lines_by number table [] = Ok []
  lines_by number table (line ∷ lines) = do
    words ← at_line number (words_at number line)
    if is_skipped words then lines_by (number + 1) table lines
        else do
          first ← at_line number (line_by table words)
          others ← lines_by (number + 1) table lines
          Ok (first ∷ others)

module _ {X : Type 0} (below : TableLine → ℕ → List (List ℕ) → Result X ScriptFault) where
  -- what is said in these lines, which are counted on from this number: the first that isn't skipped is the table line, and such a reading
  -- of it and of the lines below it says the rest
  abbrev pub from_table : ℕ → List (List ℕ) → Result X ScriptFault
  from_table number [] = Err (fault_at number NoTableLine)
  from_table number (line ∷ lines) = do
    words ← at_line number (words_at number line)
    if is_skipped words then from_table (number + 1) lines
        else do
          table ← at_line number (table_of words)
          below table (number + 1) lines

module _ (line_by : TableLine → List (List ℕ) → Result ScriptLine Cause) where
  -- what is said with this table line by these lines below it
  abbrev pub below_by : TableLine → ℕ → List (List ℕ) → Result Said ScriptFault
  below_by table number lines = do
    said ← lines_by line_by number table lines
    Ok (said_of table said)

  -- what is said in these lines, which are counted on from this number
  abbrev pub script_by : ℕ → List (List ℕ) → Result Said ScriptFault
  script_by = from_table below_by

-- ---- commands and lines of the schedule

abbrev pub lines_from : ℕ → TableLine → List (List ℕ) → Result (List ScriptLine) ScriptFault
lines_from = lines_by line_of

abbrev pub said_with : TableLine → ℕ → List (List ℕ) → Result Said ScriptFault
said_with = below_by line_of

abbrev pub said_from : ℕ → List (List ℕ) → Result Said ScriptFault
said_from = script_by line_of

-- ---- bytes

-- what is read of the bytes by a reading of their lines, which are counted from 1; of too many bytes the fault is at the line
-- at which they become too many
abbrev pub reading_by : {X : Type 0} → (ℕ → List (List ℕ) → Result X ScriptFault) → List ℕ → Result X ScriptFault
reading_by read_from bytes =
    if nat_lt most_bytes (length bytes)
    then Err (fault_at (1 + count_by (λ byte. byte == 10) (take most_bytes bytes)) ScriptTooLong)
    else read_from 1 (lines_of bytes)

-- what the bytes say, or their first fault
unfoldable pub reading_of : List ℕ → Result Said ScriptFault
reading_of bytes = reading_by said_from bytes
