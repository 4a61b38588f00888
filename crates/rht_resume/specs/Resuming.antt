-- What the commands of a resume script leave: a run that serves the calls that they stand for, and what the commands are answered by that.
use Rattle.std.specs.Prelude.{ℕ, Bool, List}
use Rattle.rht_words.specs.declared.config.Config.{Config}
use Rattle.rht_policy.specs.Mix.{mix_named}
use Rattle.rht_model.specs.declared.bindings.Closed.{Closed}
use Rattle.rht_model.specs.Endings.{Ending}
use Rattle.rht_core.specs.Serving.{IsServedRun}
use Rattle.rht_run.specs.ServedRuns.{HasRun}
use Rattle.rht_resume.specs.declared.resume.ResumeCall.{ResumeCall}
use Rattle.rht_resume.specs.declared.resume.ResumeScript.{ResumeScript}
use Rattle.rht_resume.specs.declared.outcome.ResumeOutcome.{ResumeOutcome}
use Rattle.rht_resume.specs.Answers.{Answer, all_calls, AreAllAnswered}

-- A run serves the calls that the commands of each worker stand for, and these are the commands' replies. What was closed is what its last
-- words stand for.
pub record IsResumedBy (M : Type 0) (script : ResumeScript) (outcome : ResumeOutcome) : Type 0 where
  pub endings : List (List Ending)
  pub answered : AreAllAnswered script.config script.commands.items outcome.replies.items endings
  pub served : IsServedRun M (mix_named script.config) script.config script.auto (all_calls script.commands.items endings) endings outcome.closed

-- the same with all that follows for that run, by the hash that the config names: among it that a legal history tells of it, and fits it
pub record IsResuming (config : Config) (auto : Bool) (commands : List (ℕ × ResumeCall)) (answers : List (List Answer)) (closed : Closed)
    : Type 0 where
  pub endings : List (List Ending)
  pub answered : AreAllAnswered config commands answers endings
  pub run : HasRun config auto (all_calls commands endings) endings closed
