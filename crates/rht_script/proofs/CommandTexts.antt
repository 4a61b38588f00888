-- A text of a table line and of commands: how its parts are read one after another, and that it can be run where each of its commands can.
use Rattle.std.proofs.Common.{◌≡◌, ℕ, ◌<◌, ◌≤◌, Bool, true, Result, Ok, Err, List, length, sym, ◌∙◌, ap, subst, arith}
use Rattle.std.specs.Prelude.{IfOk}
use Rattle.std.specs.List.{list_all}
use Rattle.std.proofs.lemmas.List.Elements.{All-from_recursion}
use Rattle.std.proofs.lemmas.List.Sums.{list_all-from_AllPass}
use Rattle.rht_words.specs.declared.config.Config.{Config}
use Rattle.rht_words.specs.Settled.{IsSettled}
use Rattle.rht_script.specs.declared.script.TableLine.{TableLine}
use Rattle.rht_script.specs.declared.script.ScriptFault.{ScriptFault}
use Rattle.rht_script.specs.declared.script.ReadError.{ReadError}
use Rattle.rht_script.specs.declared.cause.Cause.{Cause}
use Rattle.rht_script.specs.Spelling.{◌>>=◌}
use Rattle.rht_script.specs.Commands.{SaidCommands, saying, said_below}
use Rattle.rht_script.specs.Cursors.{Unread, table_reading_of}
use Rattle.rht_script.specs.Grammar.{most_lines, lines_by, from_table, reading_by}
use Rattle.rht_script.specs.Reading.{IsReasonFor}
use Rattle.rht_script.proofs.ReadingLemmas.{reason_first, reading_by-table, reading_by-no_table}
use Rattle.rht_script.proofs.ReadLines.{IfOk-then, AreLines, lines_hold, table_reading_holds}
use Rattle.rht_script.proofs.SayableScripts.{IsTableSaid, table_said}

-- ---- its parts

module _ {X : Type 0} (line_by : TableLine → List (List ℕ) → Result (ℕ × X) Cause) (bytes : List ℕ) where
  pub commands-no_table : (fault : ScriptFault) → Err fault ≡ table_reading_of bytes
      → reading_by (from_table (said_below line_by)) bytes ≡ Err fault
  commands-no_table = reading_by-no_table (said_below line_by) bytes

  module _ (table : TableLine) (lines : Unread) (found : Ok (table, lines) ≡ table_reading_of bytes) where
    read_below : reading_by (from_table (said_below line_by)) bytes
        ≡ (lines_by line_by lines.number table lines.lines >>= (λ commands. Ok (saying table commands)))
    read_below = reading_by-table (said_below line_by) bytes table lines found

    -- the reason why the commands were not read is one why the text was not
    pub commands-reason : (error : ReadError) → IsReasonFor (lines_by line_by lines.number table lines.lines) error
        → IsReasonFor (reading_by (from_table (said_below line_by)) bytes) error
    commands-reason error reason =
        subst (λ r. IsReasonFor r error) (sym read_below)
        (reason_first (lines_by line_by lines.number table lines.lines) (λ commands. Ok (saying table commands)) error reason)

    pub commands-read : (commands : List (ℕ × X)) → lines_by line_by lines.number table lines.lines ≡ Ok commands
        → reading_by (from_table (said_below line_by)) bytes ≡ Ok (saying table commands)
    commands-read commands read = read_below ∙ ap (λ r. r >>= (λ c. Ok (saying table c))) read

-- ---- the whole

module _ {X : Type 0} (passes : Config → ℕ × X → Bool) where
  -- What is said can be run.
  pub record AreSoundCommands (said : SaidCommands X) : Type 0 where
    pub settled : IsSettled said.config
    pub few : length said.commands ≤ most_lines
    pub commands : list_all (passes said.config) said.commands ≡ true

  module _ (line_by : TableLine → List (List ℕ) → Result (ℕ × X) Cause)
      (each : (table : TableLine) (words : List (List ℕ)) → IfOk (line_by table words) (λ command. passes table.config command ≡ true)) where
    below_holds : (table : TableLine) (number : ℕ) (lines : List (List ℕ)) → IsTableSaid table → 1 < number → number ≤ 1000001
        → IfOk (said_below line_by table number lines) AreSoundCommands
    below_holds table number lines is first few =
        let Passes : ℕ × X → Type 0 = λ command. passes table.config command ≡ true in
        IfOk-then (AreLines Passes number) AreSoundCommands (lines_by line_by number table lines) (λ commands. Ok (saying table commands))
        (lines_hold line_by Passes table (each table) number lines few) (λ commands are. record {
          settled = is.0;
          few = (let more = are.few in omega (arith, more, first));
          commands = list_all-from_AllPass (passes table.config) commands (All-from_recursion Passes commands are.each);
        })

    pub AreSoundCommands-read : (bytes : List ℕ) (said : SaidCommands X)
        → reading_by (from_table (said_below line_by)) bytes ≡ Ok said → AreSoundCommands said
    AreSoundCommands-read = table_reading_holds IsTableSaid AreSoundCommands (said_below line_by) table_said below_holds
