-- What the reader's cursors give: the next line, the table line with the lines below it, and the next words of a line.
use Rattle.std.specs.Prelude.{◌≡◌, ℕ, ◌+◌, false, Option, None, Some, Result, Ok, Err, List, [], ◌∷◌}
use Rattle.std.specs.Borrow.{Bor}
use Rattle.rht_script.specs.declared.script.ScriptFault.{ScriptFault}
use Rattle.rht_script.specs.declared.script.TableLine.{TableLine}
use Rattle.rht_script.specs.declared.cause.Cause.{Cause}
use Rattle.rht_script.specs.Grammar.{words_at, at_line, from_table, reading_by}
use Rattle.rht_script.specs.Spelling.{is_blank, words_of}

-- the lines that are left, and the number of the first of them
pub record Unread : Type 0 where
  pub number : ℕ
  pub lines : List (List ℕ)

-- The next line was taken. It is neither one too many nor too long.
pub record Takes (before after : Unread) (number : ℕ) (line : List ℕ) : Type 0 where
  pub first : before.lines ≡ line ∷ after.lines
  pub here : number ≡ before.number
  pub counted : after.number ≡ before.number + 1
  pub words : words_at before.number line ≡ Ok (words_of line)

-- The next line is at fault.
pub record IsAtFault (before : Unread) (fault : ScriptFault) : Type 0 where
  pub line : List ℕ
  pub lines : List (List ℕ)
  pub first : before.lines ≡ line ∷ lines
  pub wrong : at_line before.number (words_at before.number line) ≡ Err fault

-- what taking the next line comes to; none is taken where none is left, or where it is at fault
abbrev pub TakesNext : Unread → Unread → Option (Result (ℕ × Bor (List ℕ)) ScriptFault) → Type 0
TakesNext before after None = (before.lines ≡ []) × (after ≡ before)
TakesNext before after (Some (Ok taken)) = Takes before after taken.0 taken.1.now
TakesNext before after (Some (Err fault)) = IsAtFault before fault × (after ≡ before)

-- a table line, and the lines below it
abbrev pub table_above : TableLine → ℕ → List (List ℕ) → Result (TableLine × Unread) ScriptFault
table_above table number lines = Ok (table, record { number = number; lines = lines })

-- the table line of these lines, which are counted on from this number, and the lines below it
abbrev pub table_from : ℕ → List (List ℕ) → Result (TableLine × Unread) ScriptFault
table_from = from_table table_above

-- the same of these bytes
abbrev pub table_reading_of : List ℕ → Result (TableLine × Unread) ScriptFault
table_reading_of bytes = reading_by table_from bytes

-- what was read of the front of these words, and the words left
abbrev pub Reads : {X : Type 0} → Result X Cause → List (List ℕ) → Result (X × List (List ℕ)) Cause → Type 0
Reads (Ok value) words reading = reading ≡ Ok (value, words)
Reads (Err cause) words reading = reading ≡ Err cause

-- the text begins with a byte of a word
abbrev pub BeginsWord : List ℕ → Type 0
BeginsWord [] = ⊥
BeginsWord (byte ∷ text) = is_blank byte ≡ false
