-- Which bytes are a claimed history and what it says, and where other bytes have their first fault.
-- First come the lines of a script without a schedule, then a line `history`, and then the claims. Lines are read from the first to
-- the last, and the first that is wrong is at fault.
use Rattle.std.specs.Prelude.{◌≡◌, ℕ, ◌+◌, if◌then◌else◌, Result, Ok, Err, List, [], ◌∷◌}
use Rattle.rht_model.specs.declared.history.Call.{Call}
use Rattle.rht_script.specs.declared.script.TableLine.{TableLine}
use Rattle.rht_script.specs.declared.script.ScriptFault.{ScriptFault}
use Rattle.rht_script.specs.declared.script.ReadError.{ReadError}
use Rattle.rht_script.specs.declared.cause.Cause.TheVariants.{UnknownWord}
use Rattle.rht_script.specs.Spelling.{◌>>=◌, is_skipped}
use Rattle.rht_script.specs.Cursors.{Unread}
use Rattle.rht_script.specs.Grammar.{Said, fault_at, at_line, words_at, lines_by, from_table, reading_by}
use Rattle.rht_script.specs.Reading.{said_by, IsReasonFor}
use Rattle.rht_check.specs.declared.claim.Claim.{Claim}
use Rattle.rht_check.specs.declared.reader.AskedLine.{AskedLine}
use Rattle.rht_check.specs.declared.reader.AskedLine.TheVariants.{Command, History}
use Rattle.rht_check.specs.Claims.{Told}
use Rattle.rht_check.specs.ClaimLines.{asked_of, told_of}

-- the commands above the claims, and the lines of the claims
pub record Asked : Type 0 where
  pub commands : List (ℕ × Call)
  pub behind : Unread

-- one command more, before those of the lines behind it
abbrev pub with_command : ℕ × Call → Asked → Asked
with_command command asked = record asked { commands = command ∷ asked.commands }

-- what is asked by this line and those behind it: below the line `history` nothing is
abbrev pub asked_by : AskedLine → Unread → Result Asked ScriptFault → Result Asked ScriptFault
asked_by History behind asked = Ok (record { commands = []; behind = behind })
asked_by (Command command) behind asked = asked >>= (λ others. Ok (with_command command others))

-- what is asked in these lines, which are counted on from this number; one of them has to be `history`
abbrev pub asked_from : ℕ → TableLine → List (List ℕ) → Result Asked ScriptFault
asked_from number table [] = Err (fault_at number UnknownWord)
asked_from number table (line ∷ lines) = do
  words ← at_line number (words_at number line)
  if is_skipped words then asked_from (number + 1) table lines
      else do
        said ← at_line number (asked_of table words)
        asked_by said (record { number = number + 1; lines = lines }) (asked_from (number + 1) table lines)

-- what a claimed history says: its script, and the claims in their order
pub record SaidClaim : Type 0 where
  pub script : Said
  pub claims : List Told

-- a script without a schedule
abbrev pub asking : TableLine → List (ℕ × Call) → Said
asking table commands = record { config = table.config; auto = table.auto; form = table.form; commands = commands; schedule = [] }

-- what is said with this table line by the lines below it
abbrev pub claimed_with : TableLine → ℕ → List (List ℕ) → Result SaidClaim ScriptFault
claimed_with table number lines = do
  asked ← asked_from number table lines
  told ← lines_by told_of asked.behind.number table asked.behind.lines
  Ok (record { script = asking table asked.commands; claims = told })

-- what is said in these lines, which are counted on from this number
abbrev pub claimed_from : ℕ → List (List ℕ) → Result SaidClaim ScriptFault
claimed_from = from_table claimed_with

-- what the bytes say, or their first fault
unfoldable pub claim_reading_of : List ℕ → Result SaidClaim ScriptFault
claim_reading_of bytes = reading_by claimed_from bytes

-- what a claimed history says
abbrev pub said_by_claim : Claim → SaidClaim
said_by_claim claim = record { script = said_by claim.script; claims = claim.claims.items }

-- the bytes are this claimed history
abbrev pub IsClaim : List ℕ → Claim → Type 0
IsClaim bytes claim = claim_reading_of bytes ≡ Ok (said_by_claim claim)

-- the error is the reason why these bytes were not read: their first fault, or want of memory
abbrev pub IsClaimReason : List ℕ → ReadError → Type 0
IsClaimReason bytes error = IsReasonFor (claim_reading_of bytes) error
