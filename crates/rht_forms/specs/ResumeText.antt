-- The text that `resume` prints for what a resume script says: what its commands are answered by a run of a table of the script's config, which
-- serves the calls that they stand for, and what is bound at its end. What is so of that run stands in `HasRun`.
use Rattle.std.specs.Prelude.{◌≡◌, ℕ, ◌+◌, ◌<◌, Some, List, [], map, count_by, slice_index_or}
use Rattle.rht_model.specs.declared.bindings.Closed.{Closed}
use Rattle.rht_core.specs.NeverRefused.{AreAllTaken, AreAsModel}
use Rattle.rht_core.specs.Serving.{calls_of}
use Rattle.rht_core.specs.ToldHistories.{IsOutnumbered, endings_by}
use Rattle.rht_resume.specs.Answers.{Answer, commands_of, calls_in_turn, all_calls}
use Rattle.rht_resume.specs.Laws.{asks_node, IsRoomyForPieces, IsSmallForPieces}
use Rattle.rht_resume.specs.Pieces.{start}
use Rattle.rht_resume.specs.Reading.{SaidResume}
use Rattle.rht_resume.specs.Resuming.{IsResuming}
use Rattle.rht_resume.specs.Text.{resume_text}

-- The text is what is printed of a resume script that says this.
pub record IsResumeText (said : SaidResume) (text : List ℕ) : Type 0 where
  -- what each worker's commands were answered, and what was closed
  pub answers : List (List Answer)
  pub closed : Closed
  -- they are those of a run on a table of the script's config
  pub resuming : IsResuming said.config said.auto said.commands answers closed
  -- its calls are those that a worker's commands stand for, one after another, with a walk that was at its start
  pub same_calls : (i : ℕ) → i < said.config.callers
      → calls_of (i + 1) (all_calls said.commands resuming.endings)
      ≡ calls_in_turn (Some start) (commands_of (i + 1) said.commands) (slice_index_or resuming.endings i [])
  -- where there is one worker its commands are all, in the order of the script
  pub in_script_order : said.config.callers ≡ 1 → commands_of 1 said.commands ≡ map (λ command. command.1) said.commands
  -- where calls that bind or rebind outnumber the nodes, as they do where one finds no node, commands do
  pub outnumbered : IsOutnumbered said.config (all_calls said.commands resuming.endings)
      → said.config.nodes < count_by (λ command. asks_node command.1) said.commands
  -- where the table is roomy for the commands no call is refused; and where it is enough for those of one worker, each is answered by the model
  pub roomy : IsRoomyForPieces said.config said.commands
      → AreAllTaken said.config (all_calls said.commands resuming.endings) resuming.endings closed
  pub small : IsSmallForPieces said.config said.commands
      → AreAsModel said.config.kind (calls_of 1 (all_calls said.commands resuming.endings)) (endings_by 0 resuming.endings) closed
  -- and the answers and what was closed are what is printed
  pub written : text ≡ resume_text answers closed
