-- The text that `run` and `gen` print for what a script says: what is printed of a run of a table which serves the script's commands.
-- What is so of that run stands in `HasRun`.
-- The size is that of the current table in the last words of the run (`IsClosedOf`): growing and shrinking decide which one that is, and
-- where the script doesn't say manual, workers do that by themselves.
use Rattle.std.specs.Prelude.{◌≡◌, ℕ, List, map}
use Rattle.rht_model.specs.declared.bindings.Closed.{Closed}
use Rattle.rht_model.specs.Endings.{Ending}
use Rattle.rht_core.specs.Serving.{calls_of}
use Rattle.rht_run.specs.ServedRuns.{HasRun}
use Rattle.rht_script.specs.Grammar.{Said}
use Rattle.rht_script.specs.Text.{run_text}
use Rattle.rht_script.specs.SummaryText.{summary_line}

-- `run` prints all replies, and what is bound at the end
abbrev pub whole_text : List (List Ending) → Closed → List ℕ
whole_text endings closed = run_text endings closed.bindings.pairs closed.size

-- `gen` of a number prints a line that sums both up
abbrev pub summary_text : ℕ → List (List Ending) → Closed → List ℕ
summary_text number endings closed = summary_line number endings closed.bindings.pairs

-- The text is what is printed of a run which serves what the script says.
pub record IsRunText (printed : List (List Ending) → Closed → List ℕ) (said : Said) (text : List ℕ) : Type 0 where
  -- how each worker's commands ended, and what was closed
  pub endings : List (List Ending)
  pub closed : Closed
  -- they are those of a run on a table of the script's config
  pub run : HasRun said.config said.auto said.commands endings closed
  -- where there is one worker its commands are all, in the order of the script
  pub in_script_order : said.config.callers ≡ 1 → calls_of 1 said.commands ≡ map (λ command. command.1) said.commands
  -- and the endings and what was closed are what is printed
  pub written : text ≡ printed endings closed
