-- The text that `gen` prints for its number: that of a run which does the commands of the number's script.
use Rattle.std.specs.Prelude.{◌≡◌, ◌≢◌, ℕ, ◌+◌, Bool, true, false, List, [], ◌∷◌, map, count_by, sum_by}
use Rattle.std.specs.List.{AllByRecursion}
use Rattle.rht_model.specs.declared.history.Reply.{Reply}
use Rattle.rht_model.specs.declared.history.Reply.TheVariants.{NoNode, Absent}
use Rattle.rht_model.specs.Endings.{Ending}
use Rattle.rht_script.specs.Generated.{generated_said}
use Rattle.rht_script.specs.SummaryText.{all_sorts, how_many}
use Rattle.rht_forms.specs.RunText.{summary_text, IsRunText}

-- the reply says that the port isn't bound to this owner
abbrev pub is_absent : Reply → Bool
is_absent Absent = true
is_absent _ = false

-- how many of all workers' endings have that reply, which the line doesn't count
abbrev pub how_many_absent : List (List Ending) → ℕ
how_many_absent endings = sum_by (λ own. count_by (λ ending. is_absent ending.answer.reply) own) endings

-- What the line counts of these endings, in its order. There are as many as the script has commands. As many as it has look-ups say found
-- or missing, and as many as it has releases say released or absent. How many say which of the two isn't said, nor how binds end.
pub record CountsCommands (endings : List (List Ending)) : Type 0 where
  pub bound : ℕ
  pub exists : ℕ
  pub found : ℕ
  pub missing : ℕ
  pub released : ℕ
  pub line : map (λ sort. how_many sort endings) all_sorts ≡ 20000 ∷ bound ∷ exists ∷ found ∷ missing ∷ released ∷ []
  pub finds : found + missing ≡ 12000
  pub releases : released + how_many_absent endings ≡ 2000

-- It is the text of such a run. No call in it was answered `NoNode`, and the endings that it sums up are counted as the commands are.
pub record IsGenText (number : ℕ) (text : List ℕ) : Type 0 where
  pub done : IsRunText (summary_text number) (generated_said number) text
  pub no_node : (caller : ℕ) → AllByRecursion (λ call. call.reply ≢ NoNode) (done.run.tells.told.dones caller)
  pub counts : CountsCommands done.endings
