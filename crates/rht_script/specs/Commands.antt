-- What a text says whose first line that isn't skipped is a table line, and each other one a command of a worker, of whichever kind: one
-- that scripts have, or one of a program's own.
use Rattle.std.specs.Prelude.{ℕ, Bool, Result, Ok, List}
use Rattle.rht_words.specs.declared.config.Config.{Config}
use Rattle.rht_script.specs.declared.script.TableLine.{TableLine}
use Rattle.rht_script.specs.declared.script.ScriptFault.{ScriptFault}
use Rattle.rht_script.specs.declared.cause.Cause.{Cause}
use Rattle.rht_script.specs.Spelling.{◌>>=◌}
use Rattle.rht_script.specs.Grammar.{lines_by}

-- what the table is opened with, whether a worker runs `work` by itself where a reply asks for it, and the commands, each with its worker
pub record SaidCommands (X : Type 0) : Type 0 where
  pub config : Config
  pub auto : Bool
  pub commands : List (ℕ × X)

module _ {X : Type 0} where
  -- what is said with this table line by these commands below it
  abbrev pub saying : TableLine → List (ℕ × X) → SaidCommands X
  saying table commands = record { config = table.config; auto = table.auto; commands = commands }

  -- the same by these lines below it, of which each says what such a reading of its words gives
  abbrev pub said_below : (TableLine → List (List ℕ) → Result (ℕ × X) Cause)
      → TableLine → ℕ → List (List ℕ) → Result (SaidCommands X) ScriptFault
  said_below line_by table number lines = do
    commands ← lines_by line_by number table lines
    Ok (saying table commands)
