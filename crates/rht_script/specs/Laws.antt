-- What follows from the grammar, in the words of scripts: which lines a fault depends on, that what can be said is read
-- back as it was, and what a script's meaning doesn't depend on.
use Rattle.std.specs.Prelude.{◌≡◌, ℕ, ◌+◌, ◌-◌, ◌≤◌, ◌⊎◌, not, Result, Ok, Err, IsOk, IfSome, All, List, length, map, filter, take}
use Rattle.rht_words.specs.Ports.{net_of}
use Rattle.rht_model.specs.Answers.{port_of}
use Rattle.rht_script.specs.declared.script.ScriptFault.{ScriptFault}
use Rattle.rht_script.specs.declared.cause.Cause.TheVariants.{NoTableLine}
use Rattle.rht_script.specs.Spelling.{lines_of, words_of, is_skipped}
use Rattle.rht_script.specs.Grammar.{most_bytes, most_lines, most_in_line, fault_at, Said, reading_of}
use Rattle.rht_script.specs.Reading.{FirstFault}
use Rattle.rht_script.specs.Plain.{IsSayable, plain_script}
use Rattle.rht_script.specs.PortWords.{one_number}

-- ---- first faults

-- a line of the input is at fault: the fault isn't that of too many bytes, nor that the input ends without a table line
pub record IsLineFault (bytes : List ℕ) (fault : ScriptFault) : Type 0 where
  pub few : length bytes ≤ most_bytes
  pub line : fault.line ≤ length (lines_of bytes)
  pub first : FirstFault bytes fault

-- the input is a script, or ends without a table line
abbrev pub HasNoLineFault : List ℕ → Type 0
HasNoLineFault bytes =
    IsOk (reading_of bytes) ⊎ FirstFault bytes (fault_at (length (lines_of bytes) + 1) NoTableLine)

-- a line's fault is that of the lines up to it alone, whatever comes behind them, and the lines before it have none
pub record IsFirstOfLines (bytes : List ℕ) (fault : ScriptFault) : Type 0 where
  pub counted : 1 ≤ fault.line
  pub alone : (other : List ℕ) → length other ≤ most_bytes
      → take fault.line (lines_of other) ≡ take fault.line (lines_of bytes) → FirstFault other fault
  pub before : (front : List ℕ) → length front ≤ most_bytes
      → lines_of front ≡ take (fault.line - 1) (lines_of bytes) → HasNoLineFault front

-- Every line's fault is such a first one. That says nothing of which lines are at fault, and of what cause:
-- it would hold as well, were the first line of any input no table line.
abbrev pub FaultsAreFirst : Type 0
FaultsAreFirst =
    (bytes : List ℕ) (fault : ScriptFault) → IsLineFault bytes fault → IsFirstOfLines bytes fault

-- ---- what can be said is read back

-- What today's words can say is read back from its plain spelling, where that isn't too long.
-- That says nothing of inputs that are spelled otherwise, and nothing of faults.
abbrev pub ReadsBack : Type 0
ReadsBack =
    (said : Said) → IsSayable said → length (plain_script said) ≤ most_bytes
    → reading_of (plain_script said) ≡ Ok said

-- And whatever is read, today's words can say, so that the law above leaves nothing out that is ever said.
-- That says nothing of which inputs say it.
abbrev pub SaysSayable : Type 0
SaysSayable = (bytes : List ℕ) (said : Said) → reading_of bytes ≡ Ok said → IsSayable said

-- ---- ports of form 1

-- A script of form 1, as every script is whose table line doesn't name a form, has ports of net 0 alone. That says nothing
-- of which scripts there are.
abbrev pub PlainPorts : Type 0
PlainPorts =
    (bytes : List ℕ) (said : Said) → reading_of bytes ≡ Ok said → said.form ≡ one_number
    → All (λ command. IfSome (port_of command.1) (λ port. net_of port ≡ 0)) said.commands

-- ---- what a script's meaning doesn't depend on

-- the input isn't too long, has not too many lines, and none that is too long
pub record IsWithinBounds (bytes : List ℕ) : Type 0 where
  pub bytes_few : length bytes ≤ most_bytes
  pub lines_few : length (lines_of bytes) ≤ most_lines
  pub lines_short : All (λ line. length line ≤ most_in_line) (lines_of bytes)

-- the words of each line that isn't skipped
abbrev pub words_said : List ℕ → List (List (List ℕ))
words_said bytes = filter (λ words. not (is_skipped words)) (map words_of (lines_of bytes))

-- what is read, of the line of a fault aside
abbrev pub meaning_of : {X : Type 0} → Result X ScriptFault → Result X ℕ
meaning_of (Ok said) = Ok said
meaning_of (Err fault) = Err fault.cause

-- Within these bounds the words of the lines that aren't skipped decide what is said, or the fault's cause: blank lines,
-- comments, and which blanks stand between words change nothing. That says nothing of what the words mean: it would hold
-- as well, were no input a script.
abbrev pub WordsDecide : Type 0
WordsDecide =
    (bytes other : List ℕ) → IsWithinBounds bytes → IsWithinBounds other
    → words_said bytes ≡ words_said other
    → meaning_of (reading_of bytes) ≡ meaning_of (reading_of other)
