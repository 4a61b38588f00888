-- What the commands of resume scripts are answered: each by how the calls ended that it stands for, and by where its worker's walk was then.
-- The calls of a worker end one behind the other. Which of them belong to a command is told by their answers alone: a plain command has one, and
-- a `next` has those up to the first that ends it.
use Rattle.std.specs.Prelude.{◌≡◌, ℕ, ◌+◌, ◌<◌, Option, None, Some, List, [], ◌∷◌, ◌++◌, length, take, drop, slice_index_or}
use Rattle.rht_words.specs.declared.config.Config.{Config}
use Rattle.rht_model.specs.declared.history.Call.{Call}
use Rattle.rht_model.specs.Endings.{Ending}
use Rattle.rht_model.specs.Multimap.{Port}
use Rattle.rht_workers.specs.WorkerCalls.{calls_from}
pub use Rattle.rht_workers.specs.WorkerCalls.{commands_of}
use Rattle.rht_resume.specs.declared.resume.Piece.{Piece}
use Rattle.rht_resume.specs.declared.resume.ResumeCall.{ResumeCall}
use Rattle.rht_resume.specs.declared.resume.ResumeCall.TheVariants as asks
use Rattle.rht_resume.specs.declared.resume.ResumeReply.{ResumeReply}
use Rattle.rht_resume.specs.declared.resume.ResumeReply.TheVariants.{Plain, Next}
use Rattle.rht_resume.specs.declared.resumed.Spot.{Spot}
use Rattle.rht_resume.specs.Pieces.{Outcome, start, begun, outcome_of, walks_of, own_of, spot_by}

-- an answer: a reply, and the owners and the pairs that came beside it
pub record Answer : Type 0 where
  pub reply : ResumeReply
  pub owners : List ℕ
  pub pairs : List (Port × ℕ)

-- ---- one command

-- the answer that is the reply to a call, and the one that is a piece
abbrev pub plain_answer : Ending → Answer
plain_answer ending = record { reply = Plain ending.answer.reply; owners = ending.answer.owners; pairs = ending.pairs }

abbrev pub next_answer : Piece → List (Port × ℕ) → Answer
next_answer piece pairs = record { reply = Next piece; owners = []; pairs = pairs }

-- the answer to a plain command, whose only call ended so
abbrev pub only_answer : List Ending → Option Answer
only_answer [] = None
only_answer (ending ∷ []) = Some (plain_answer ending)
only_answer (ending ∷ next ∷ endings) = None

-- the answer to a `next` with this outcome
abbrev pub answer_by : Option Outcome → Option Answer
answer_by None = None
answer_by (Some outcome) = Some (next_answer outcome.piece outcome.pairs)

-- What a command is answered where the worker's walk is at this spot, and the calls that the command stands for ended so. None where these aren't
-- the endings of its calls.
abbrev pub answer_of : Option Spot → ResumeCall → List Ending → Option Answer
answer_of spot (asks.Plain call) own = only_answer own
answer_of spot (asks.Next limit) own = answer_by (outcome_of limit (begun spot) own)

-- the calls that it stands for
abbrev pub calls_for : Option Spot → ResumeCall → List Ending → List Call
calls_for spot (asks.Plain call) own = call ∷ []
calls_for spot (asks.Next limit) own = walks_of limit (begun spot) own

-- where the worker's walk is behind it
abbrev pub spot_after : Option Spot → ResumeCall → List Ending → Option Spot
spot_after spot (asks.Plain call) own = spot
spot_after spot (asks.Next limit) own = spot_by (outcome_of limit (begun spot) own)

-- how its calls ended, among these endings that begin with them; and the endings behind those
abbrev pub own_endings : Option Spot → ResumeCall → List Ending → List Ending
own_endings spot (asks.Plain call) endings = take 1 endings
own_endings spot (asks.Next limit) endings = own_of limit (begun spot) endings

abbrev pub endings_behind : Option Spot → ResumeCall → List Ending → List Ending
endings_behind spot ask endings = drop (length (own_endings spot ask endings)) endings

-- ---- the commands of one worker

-- the calls that these commands stand for, one after another, where they end so and the worker's walk is at this spot before them
abbrev pub calls_in_turn : Option Spot → List ResumeCall → List Ending → List Call
calls_in_turn spot [] endings = []
calls_in_turn spot (ask ∷ asked) endings =
    let own = own_endings spot ask endings in
    calls_for spot ask own ++ calls_in_turn (spot_after spot ask own) asked (endings_behind spot ask endings)

-- where the worker's walk is behind these commands
abbrev pub spot_left : Option Spot → List ResumeCall → List Ending → Option Spot
spot_left spot [] endings = spot
spot_left spot (ask ∷ asked) endings =
    spot_left (spot_after spot ask (own_endings spot ask endings)) asked (endings_behind spot ask endings)

-- These commands are answered so, and no ending is left over.
abbrev pub AreAnswered : Option Spot → List ResumeCall → List Answer → List Ending → Type 0
AreAnswered spot [] [] endings = endings ≡ []
AreAnswered spot [] (answer ∷ answers) endings = ⊥
AreAnswered spot (ask ∷ asked) [] endings = ⊥
AreAnswered spot (ask ∷ asked) (answer ∷ answers) endings =
    (answer_of spot ask (own_endings spot ask endings) ≡ Some answer)
    × AreAnswered (spot_after spot ask (own_endings spot ask endings)) asked answers (endings_behind spot ask endings)

-- ---- all workers

-- the calls that the commands of all workers stand for, each with its worker, where they ended so; a walk is at the start at first
abbrev pub own_calls : List (ℕ × ResumeCall) → ℕ → List Ending → List Call
own_calls commands worker endings = calls_in_turn (Some start) (commands_of worker commands) endings

abbrev pub all_calls : List (ℕ × ResumeCall) → List (List Ending) → List (ℕ × Call)
all_calls commands endings = calls_from (own_calls commands) 1 endings

-- The commands of each worker are answered so, where the calls that they stand for ended so, each worker's at its place.
pub record AreAllAnswered (config : Config) (commands : List (ℕ × ResumeCall)) (answers : List (List Answer)) (endings : List (List Ending))
    : Type 0 where
  pub workers : length answers ≡ config.callers
  pub each : (i : ℕ) → i < config.callers
      → AreAnswered (Some start) (commands_of (i + 1) commands) (slice_index_or answers i []) (slice_index_or endings i [])
