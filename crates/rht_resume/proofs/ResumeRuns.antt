-- What the workers leave: each has served the calls that its commands stand for. So all passes have served all these calls, with the endings
-- that the answers come of; and where the table is closed that is a run.
use Rattle.std.proofs.Common.{◌≡◌, ℕ, ◌+◌, ◌<◌, Bool, List, [], length, get_or, refl}
use Rattle.std.specs.Prelude.{Some}
use Rattle.rht_words.specs.declared.config.Config.{Config}
use Rattle.rht_model.specs.declared.history.Call.{Call}
use Rattle.rht_model.specs.Endings.{Ending}
use Rattle.rht_core.specs.Serving.{calls_of}
use Rattle.rht_run.specs.declared.pass.Pass.{Pass}
use Rattle.rht_run.specs.declared.table.Table.{Table}
use Rattle.rht_run.specs.Workers.{HaveServedAll}
use Rattle.rht_workers.specs.Jobs.{HaveWorkedAll}
use Rattle.rht_workers.proofs.WorkerCommands as workers
use Rattle.rht_workers.proofs.WorkersRuns.{AreEnded-all, HaveServedAll-ended}
use Rattle.rht_resume.specs.declared.resume.ResumeCall.{ResumeCall}
use Rattle.rht_resume.specs.Pieces.{start}
use Rattle.rht_resume.specs.Answers.{Answer, AreAnswered, commands_of, own_calls, all_calls, AreAllAnswered}
use Rattle.rht_resume.specs.ServedPieces.{HasDoneAll}

pub calls_of-all : (commands : List (ℕ × ResumeCall)) (i : ℕ) (endings : List (List Ending)) → i < length endings
    → calls_of (i + 1) (all_calls commands endings) ≡ own_calls commands (i + 1) (get_or endings i [])
calls_of-all commands i endings = workers.calls_of-all (own_calls commands) [] i endings

module _ {M : Type 0} (mix : ℕ → ℕ → ℕ → ℕ) (config : Config) (t : Table M) (auto : Bool) (commands : List (ℕ × ResumeCall))
    (passes : List (Pass M)) (answers : List (List Answer))
    (all : HaveWorkedAll (λ i pass own. HasDoneAll mix t auto (commands_of (i + 1) commands) i pass own) config t passes answers) where
  -- the calls of a worker and its answers, by how the calls ended
  abbrev calls_by : ℕ → List Answer → List Ending → List Call
  calls_by worker own endings = own_calls commands worker endings

  abbrev AnswersBy : ℕ → List Answer → List Ending → Type 0
  AnswersBy worker own endings = AreAnswered (Some start) (commands_of worker commands) own endings

  -- the endings of each worker's calls, which its answers come of
  pub record AreServed : Type 0 where
    pub endings : List (List Ending)
    pub answered : AreAllAnswered config commands answers endings
    pub served : HaveServedAll mix config t auto (all_calls commands endings) passes endings

  pub AreServed-all : AreServed
  AreServed-all =
      let ended = AreEnded-all mix config t auto calls_by AnswersBy [] passes answers all in
      record {
        endings = ended.endings;
        answered = record { workers = all.workers; each = ended.answered };
        served =
            HaveServedAll-ended mix config t auto calls_by AnswersBy [] passes answers all ended (own_calls commands) [] ended.endings
            ended.workers (λ i. refl);
      }
