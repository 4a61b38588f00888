-- When a script was dealt rightly. Each command was done once, by one of the workers; and what the workers were answered, and what is bound
-- at the end, are those of a run, in which each worker has done the commands that it took, in the order of their numbers.
use Rattle.std.specs.Prelude.{ℕ, Bool, List}
use Rattle.rht_words.specs.declared.config.Config.{Config}
use Rattle.rht_policy.specs.Mix.{mix_named}
use Rattle.rht_model.specs.declared.bindings.Closed.{Closed}
use Rattle.rht_model.specs.declared.history.Call.{Call}
use Rattle.rht_core.specs.Serving.{IsServedRun}
use Rattle.rht_run.specs.ServedRuns.{HasRun}
use Rattle.rht_script.specs.declared.script.Script.{Script}
use Rattle.rht_script.specs.declared.done.Done.{Done}
use Rattle.rht_deal.specs.declared.dealt.Dealt.{Dealt}
use Rattle.rht_deal.specs.DoneCommands.{as_done, all_endings, AreAllDone}

-- They were done, and a run serves the commands of each worker with these endings: it has done those that it took, in the order of their
-- numbers. What was closed is what its last words stand for.
pub record IsDealtBy (M : Type 0) (script : Script) (dealt : Dealt) : Type 0 where
  pub done : AreAllDone script.config script.commands.items dealt.done.items
  pub served : IsServedRun M (mix_named script.config) script.config script.auto (as_done dealt.done.items script.commands.items)
      (all_endings script.config.callers dealt.done.items) dealt.closed

-- the same with all that follows for that run, by the hash that the config names: among it that a legal history tells of it, and fits it
pub record IsDealing (config : Config) (auto : Bool) (commands : List (ℕ × Call)) (dones : List Done) (closed : Closed) : Type 0 where
  pub done : AreAllDone config commands dones
  pub run : HasRun config auto (as_done dones commands) (all_endings config.callers dones) closed
