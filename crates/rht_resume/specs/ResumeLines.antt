-- What the words of a line of a resume script stand for, below its table line. Words are read from left to right.
use Rattle.std.specs.Prelude.{ℕ, if◌then◌else◌, Result, Ok, Err, List, [], ◌∷◌, codes}
use Rattle.rht_words.specs.declared.config.Config.{Config}
use Rattle.rht_script.specs.declared.script.TableLine.{TableLine}
use Rattle.rht_script.specs.declared.cause.Cause.{Cause}
use Rattle.rht_script.specs.declared.cause.Cause.TheVariants.{UnknownWord}
use Rattle.rht_script.specs.Spelling.{◌>>=◌, is_word}
use Rattle.rht_script.specs.CommandLines.{number_first, end_of, call_of, asked_by}
use Rattle.rht_resume.specs.declared.resume.ResumeCall.{ResumeCall}
use Rattle.rht_resume.specs.declared.resume.ResumeCall.TheVariants as asks
use Rattle.rht_resume.specs.Scripts.{limits_of_pieces}

-- a piece of so many pairs at most
unfoldable pub piece_of : Config → List (List ℕ) → Result ResumeCall Cause
piece_of config words = do
  limit ← number_first (limits_of_pieces config) words
  end ← end_of limit.1
  Ok (asks.Next limit.0)

-- what a worker asks by these words, of which the first is the verb that only resume scripts have, or one that scripts have
unfoldable pub ask_of : TableLine → List (List ℕ) → Result ResumeCall Cause
ask_of table [] = Err UnknownWord
ask_of table (verb ∷ words) =
    if is_word verb (codes "next") then piece_of table.config words
    else (call_of table (verb ∷ words) >>= (λ call. Ok (asks.Plain call)))

-- the command of a line of these words below this table line: its worker, and what that asks
unfoldable pub resume_line_of : TableLine → List (List ℕ) → Result (ℕ × ResumeCall) Cause
resume_line_of table words = asked_by (ask_of table) table.config words
