-- The text that `deal` prints for what a dealt script says: who did each of its commands and what that was answered, in a run of a table of
-- the script's config, and what is bound at its end. What is so of that run stands in `HasRun`.
use Rattle.std.specs.Prelude.{◌≡◌, ℕ, List, map}
use Rattle.rht_model.specs.declared.bindings.Closed.{Closed}
use Rattle.rht_core.specs.Serving.{calls_of}
use Rattle.rht_script.specs.Grammar.{Said}
use Rattle.rht_script.specs.declared.done.Done.{Done}
use Rattle.rht_deal.specs.DoneCommands.{as_done}
use Rattle.rht_deal.specs.Dealing.{IsDealing}
use Rattle.rht_script.specs.Text.{dones_text}

-- The text is what is printed of a script that says this, which was dealt rightly.
pub record IsDealText (said : Said) (text : List ℕ) : Type 0 where
  -- what was done, and what was closed
  pub dones : List Done
  pub closed : Closed
  -- each command was done once, in a run on a table of the script's config
  pub dealing : IsDealing said.config said.auto said.commands dones closed
  -- what the workers did are the script's commands, and where there is one worker it did them in the order of the script
  pub same_calls : map (λ command. command.1) (as_done dones said.commands) ≡ map (λ command. command.1) said.commands
  pub in_script_order : said.config.callers ≡ 1 → calls_of 1 (as_done dones said.commands) ≡ map (λ command. command.1) said.commands
  -- and that is what is printed
  pub written : text ≡ dones_text dones closed
