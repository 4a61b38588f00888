-- The text that `lease` prints for what a lease script says: what its commands are answered by a run of a table of the script's config, which
-- serves the calls that they stand for, and what is bound at its end. What is so of that run stands in `HasRun`.
use Rattle.std.specs.Prelude.{◌≡◌, ℕ, ◌+◌, ◌<◌, List, [], map, count_by, slice_index_or}
use Rattle.rht_model.specs.declared.bindings.Closed.{Closed}
use Rattle.rht_core.specs.NeverRefused.{AreAllTaken}
use Rattle.rht_core.specs.Serving.{calls_of}
use Rattle.rht_core.specs.ToldHistories.{IsOutnumbered, endings_by}
use Rattle.rht_lease.specs.Answers.{Answer, commands_of, calls_in_turn, all_calls}
use Rattle.rht_lease.specs.Laws.{asks_node, IsRoomyForLeases, IsSmallForLeases, AreAsModelled}
use Rattle.rht_lease.specs.Leasing.{IsLeasing}
use Rattle.rht_lease.specs.Reading.{SaidLeases}
use Rattle.rht_lease.specs.Text.{lease_text}

-- The text is what is printed of a lease script that says this.
pub record IsLeaseText (said : SaidLeases) (text : List ℕ) : Type 0 where
  -- what each worker's commands were answered, and what was closed
  pub answers : List (List Answer)
  pub closed : Closed
  -- they are those of a run on a table of the script's config
  pub leasing : IsLeasing said.config said.auto said.commands answers closed
  -- its calls are those that a worker's commands stand for, one after another, from an empty book on
  pub same_calls : (i : ℕ) → i < said.config.callers
      → calls_of (i + 1) (all_calls said.commands answers)
      ≡ calls_in_turn [] (commands_of (i + 1) said.commands) (slice_index_or answers i [])
  -- where there is one worker its commands are all, in the order of the script
  pub in_script_order : said.config.callers ≡ 1 → commands_of 1 said.commands ≡ map (λ command. command.1) said.commands
  -- where calls that bind or rebind outnumber the nodes, as they do where one finds no node, commands do, leases among them
  pub outnumbered : IsOutnumbered said.config (all_calls said.commands answers)
      → said.config.nodes < count_by (λ command. asks_node command.1) said.commands
  -- Where the table is roomy for the commands no call is refused. Where it is enough for those of one worker its calls are the model's, and each is
  -- answered as the model answers it.
  pub roomy : IsRoomyForLeases said.config said.commands
      → AreAllTaken said.config (all_calls said.commands answers) leasing.endings closed
  pub small : IsSmallForLeases said.config said.commands
      → AreAsModelled said.config said.commands answers (endings_by 0 leasing.endings) closed
  -- and the answers and what was closed are what is printed
  pub written : text ≡ lease_text answers closed
