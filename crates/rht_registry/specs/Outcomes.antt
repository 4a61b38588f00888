-- What the workers of a script leave: each the calls of its commands, with the replies to them, on one table.
use Rattle.std.specs.Prelude.{◌≡◌, ℕ, ◌+◌, Bool, List}
use Rattle.rht_policy.specs.Mix.{mix_named}
use Rattle.rht_model.specs.declared.history.Call.{Call}
use Rattle.rht_model.specs.Endings.{Ending}
use Rattle.rht_core.specs.Serving.{calls_of}
use Rattle.rht_run.specs.declared.pass.Pass.{Pass}
use Rattle.rht_run.specs.declared.table.Table.{Table}
use Rattle.rht_run.specs.Workers.{HasServedCalls, HaveServedAll}
use Rattle.rht_script.specs.declared.script.Script.{Script}
use Rattle.rht_script.specs.Sound.{IsSoundScript}
use Rattle.rht_registry.specs.declared.registry.Outcome.{Outcome}

-- ---- one worker

-- the script can be run on this table
pub record CanServe {M : Type 0} (t : Table M) (script : Script) : Type 0 where
  pub config : t.env.config ≡ script.config
  pub sound : IsSoundScript script

-- The pass has served the commands of its worker, which is counted from 1, with these endings.
abbrev pub HasServedWorker : {M : Type 0} → (ℕ → ℕ → ℕ → ℕ) → Table M → Bool → List (ℕ × Call) → ℕ → Pass M → List Ending → Type 0
HasServedWorker mix t auto commands number pass endings =
    HasServedCalls mix t auto number (calls_of (number + 1) commands) pass endings

-- ---- all workers

-- the table has the script's config, and its passes have served the script's commands with these replies
abbrev pub IsOutcome : (M : Type 0) → Script → Outcome M → Type 0
IsOutcome M script outcome =
    HaveServedAll (mix_named script.config) script.config outcome.table script.auto script.commands.items outcome.passes.items
    outcome.replies.items
