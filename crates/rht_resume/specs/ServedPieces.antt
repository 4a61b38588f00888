-- What calls of a resumed walk and a worker's commands leave of its pass.
use Rattle.std.specs.Prelude.{◌≡◌, ℕ, ◌<◌, ◌≤◌, Bool, true, Option, None, Some, MatchOption, IfSome, List, [], ◌∷◌, ◌++◌, length}
use Rattle.rht_model.specs.declared.history.Call.TheVariants.{Walk}
use Rattle.rht_model.specs.declared.history.Cursor.{Cursor}
use Rattle.rht_model.specs.declared.history.Reply.TheVariants as replies
use Rattle.rht_model.specs.Endings.{Ending, ended_with}
use Rattle.rht_core.specs.Locals.{is_idle}
use Rattle.rht_run.specs.declared.pass.Pass.{Pass}
use Rattle.rht_run.specs.declared.table.Table.{Table}
use Rattle.rht_run.specs.Caused.{IsCaused}
use Rattle.rht_run.specs.Passes.{IsPassOf, IsSamePass, book_of}
use Rattle.rht_workers.specs.WorkerCalls.{HasServedEach, HasServedBy}
use Rattle.rht_walk.specs.WalkLaws.{first_bucket}
use Rattle.rht_resume.specs.declared.resume.Piece.{Piece}
use Rattle.rht_resume.specs.declared.resume.Piece.TheVariants.{Part, End, Again}
use Rattle.rht_resume.specs.declared.resume.ResumeCall.{ResumeCall}
use Rattle.rht_resume.specs.declared.resume.ResumeScript.{ResumeScript}
use Rattle.rht_resume.specs.declared.resumed.Spot.{Spot}
use Rattle.rht_resume.specs.declared.worker.Worker.{Worker}
use Rattle.rht_resume.specs.Answers.{Answer, answer_of, calls_for, spot_after, AreAnswered, calls_in_turn, spot_left}
use Rattle.rht_resume.specs.Pieces.{Walking, Outcome, Turn, On, Over, start, begun, before, turn_of, outcome_of, walks_of, walk_at, ended_each}
use Rattle.rht_resume.specs.Scripts.{IsSoundResume}

-- ---- a `next`

-- a table's shape can tell of no more buckets than so many
abbrev pub most_buckets : ℕ
most_buckets = 262144

-- Where the walk has to begin anew, a walk of this call was answered so, and its operations have what that has to show.
abbrev pub IsAgainCaused : {M : Type 0} → (ℕ → ℕ → ℕ → ℕ) → Table M → Piece → Pass M → Pass M → Type 0
IsAgainCaused mix t Part before now = Unit {0}
IsAgainCaused mix t (End len) before now = Unit {0}
IsAgainCaused mix t (Again table) before now = (from : Option Cursor) × IsCaused mix t (Walk from 1) (replies.Again table) before now

-- the outcome of a `next` with this piece, where the walk is as it is then
abbrev pub outcome_with : Piece → Walking → Outcome
outcome_with piece walking = record { piece = piece; spot = walking.spot; pairs = walking.pairs }

-- The walk has gone on from where it was. The pass is in no call, and its finished calls are those of `before` and, behind them, walks alone:
-- those that this `next` makes of their answers, of which there are no more than the greatest table has buckets. The piece, its pairs and where the
-- walk is then are what comes of these answers.
pub record HasResumed {M : Type 0} (mix : ℕ → ℕ → ℕ → ℕ) (t : Table M) (limit : ℕ) (old new : Walking) (piece : Piece)
    (before now : Pass M) : Type 0 where
  pub endings : List Ending
  pub outcome : outcome_of limit (begun old.spot) endings ≡ Some (outcome_with piece new)
  pub nodes : new.nodes ≡ old.nodes
  pub pass : IsPassOf mix t now
  pub same : IsSamePass before now
  pub idle : is_idle now.local ≡ true
  pub finished : (book_of now).finished ≡ (book_of before).finished ++ ended_each (walks_of limit (begun old.spot) endings) endings
  pub few : length endings ≤ most_buckets

-- ---- one walk of it

-- the `next` goes on where the walk is
pub record GoesOn (turn : Turn) (new : Walking) : Type 0 where
  pub spot : Spot
  pub stands : new.spot ≡ Some spot
  pub on : turn ≡ On spot new.pairs

-- the walk is as an answer has made it, and there is a piece where the `next` is over
pub record IsTurned (turn : Turn) (piece : Option Piece) (old new : Walking) : Type 0 where
  pub nodes : new.nodes ≡ old.nodes
  pub made : MatchOption piece (GoesOn turn new) (λ piece. turn ≡ Over (outcome_with piece new))

-- the walk goes on at a later bucket than before, which a table may have
pub record IsLater (spot : Spot) (new : Walking) : Type 0 where
  pub cursor : Cursor
  pub stands : new.spot ≡ Some (before cursor)
  pub later : first_bucket spot.cursor < cursor.bucket
  pub there : cursor.bucket < most_buckets

-- one walk was made from this spot, and the walk is as its answer has made it
pub record HasTurned {M : Type 0} (mix : ℕ → ℕ → ℕ → ℕ) (t : Table M) (limit : ℕ) (spot : Spot) (old new : Walking) (piece : Option Piece)
    (before now : Pass M) : Type 0 where
  pub ending : Ending
  pub turned : IsTurned (turn_of limit spot old.pairs ending) piece old new
  pub pass : IsPassOf mix t now
  pub same : IsSamePass before now
  pub idle : is_idle now.local ≡ true
  pub finished : (book_of now).finished ≡ (book_of before).finished ++ ended_with (walk_at spot) ending ∷ []
  pub cause : IfSome piece (λ piece. IsAgainCaused mix t piece before now)
  pub rises : piece ≡ None → IsLater spot new
  pub room : piece ≡ None → length new.pairs ≤ limit

-- ---- one worker

-- the script can be run on this table
pub record CanResume {M : Type 0} (t : Table M) (script : ResumeScript) : Type 0 where
  pub config_same : t.env.config ≡ script.config
  pub sound : IsSoundResume script

-- The worker did one command more: it has one answer more, its walk is where that leaves it, and its pass has served the calls that the command
-- stands for.
pub record HasDone {M : Type 0} (mix : ℕ → ℕ → ℕ → ℕ) (t : Table M) (auto : Bool) (ask : ResumeCall) (old new : Worker M)
    : Type 0 where
  pub endings : List Ending
  pub answer : Answer
  pub answered : answer_of old.resumed.spot ask endings ≡ Some answer
  pub replies : new.replies ≡ old.replies ++ answer ∷ []
  pub spot : new.resumed.spot ≡ spot_after old.resumed.spot ask endings
  pub nodes : new.resumed.nodes ≡ old.resumed.nodes
  pub served : HasServedEach mix t auto (calls_for old.resumed.spot ask endings) endings old.pass new.pass

-- The pass has served the calls that these commands of its worker stand for, with a walk that was at its start, and these are their answers.
abbrev pub HasDoneAll : {M : Type 0} → (ℕ → ℕ → ℕ → ℕ) → Table M → Bool → List ResumeCall → ℕ → Pass M → List Answer → Type 0
HasDoneAll mix t auto asked number pass answers =
    HasServedBy mix t auto (λ answers endings. calls_in_turn (Some start) asked endings) (AreAnswered (Some start) asked) number pass answers

-- the same of a worker, whose walk is where these commands leave it
pub record IsWorking {M : Type 0} (mix : ℕ → ℕ → ℕ → ℕ) (t : Table M) (auto : Bool) (asked : List ResumeCall) (number : ℕ)
    (worker : Worker M) : Type 0 where
  pub done : HasDoneAll mix t auto asked number worker.pass worker.replies
  pub spot : worker.resumed.spot ≡ spot_left (Some start) asked done.endings
  pub nodes : worker.resumed.nodes ≡ t.env.config.nodes
