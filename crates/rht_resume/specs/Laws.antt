-- What follows for resumed walks and for the calls that commands stand for, in the words of pieces, ports and owners.
use Rattle.std.specs.Prelude.{◌≡◌, ◌≢◌, ℕ, ◌+◌, ◌<◌, ◌≤◌, ◌↔◌, ◌⊎◌, Bool, false, Option, Some, None, List, [], ◌∷◌, length, map, take, count_by, slice_index}
use Rattle.std.specs.List.{AllByRecursion, flat_map}
use Rattle.rht_words.specs.declared.config.Config.{Config}
use Rattle.rht_words.specs.declared.env.Env.{Env}
use Rattle.rht_words.specs.Members.{In, IsDistinct}
use Rattle.rht_words.specs.Places.{Section, place_of}
use Rattle.rht_words.specs.Shapes.{unpacked, size_of}
use Rattle.rht_words.specs.Sizes.{first_size}
use Rattle.rht_model.specs.declared.bindings.Closed.{Closed}
use Rattle.rht_model.specs.declared.finished.Finished.{Finished}
use Rattle.rht_model.specs.declared.history.Call.{Call}
use Rattle.rht_model.specs.declared.history.Call.TheVariants.{Walk}
use Rattle.rht_model.specs.declared.history.Cursor.{Cursor}
use Rattle.rht_model.specs.declared.history.Entry.{Entry}
use Rattle.rht_model.specs.declared.history.Reply.TheVariants as replies
use Rattle.rht_model.specs.Endings.{Ending, ending_in}
use Rattle.rht_model.specs.Multimap.{Port, unbound}
use Rattle.rht_core.specs.declared.event.Event.{Event}
use Rattle.rht_core.specs.FewPorts.{BindsAmong}
use Rattle.rht_core.specs.Lookups.{shape_found}
use Rattle.rht_core.specs.NeverRefused.{AreAllTaken, bindings_after_all, AreAsModel}
use Rattle.rht_core.specs.NodesUsed.{needs_node}
use Rattle.rht_core.specs.RunHistories.{bindings_behind}
use Rattle.rht_core.specs.Runs.{IsAdmitted}
use Rattle.rht_core.specs.Seen.{words_before}
use Rattle.rht_core.specs.Serving.{Serves, calls_of}
use Rattle.rht_core.specs.Shown.{AreAmong, ends_behind}
use Rattle.rht_core.specs.ToldHistories.{endings_by, IsOutnumbered, TellsOf}
use Rattle.rht_core.specs.Traces.{Past, traced_of, behind_call}
use Rattle.rht_stands.specs.StandsFor.{AreBound}
use Rattle.rht_resume.specs.declared.resume.Piece.{Piece}
use Rattle.rht_resume.specs.declared.resume.Piece.TheVariants.{Part, End, Again}
use Rattle.rht_resume.specs.declared.resume.ResumeCall.{ResumeCall}
use Rattle.rht_resume.specs.declared.resume.ResumeCall.TheVariants as asks
use Rattle.rht_resume.specs.declared.resume.ResumeScript.{ResumeScript}
use Rattle.rht_resume.specs.declared.resumed.Spot.{Spot}
use Rattle.rht_resume.specs.declared.outcome.ResumeOutcome.{ResumeOutcome}
use Rattle.rht_resume.specs.Answers.{Answer, AreAnswered, commands_of, calls_in_turn, all_calls}
use Rattle.rht_resume.specs.Pieces.{Outcome, start, outcome_of, walks_of}
use Rattle.rht_resume.specs.Resuming.{IsResumedBy, IsResuming}

-- ---- pieces

-- A part has as many pairs as were wanted, and behind it the walk isn't ended. An end tells how many pairs it has, which are no more than that,
-- and behind it the walk is ended. Where the walk has to begin anew there are no pairs, and it is at its start.
abbrev pub IsPieceOf : ℕ → Piece → List (Port × ℕ) → Option Spot → Type 0
IsPieceOf limit Part pairs spot = (length pairs ≡ limit) × (spot ≢ None)
IsPieceOf limit (End len) pairs spot = (length pairs ≡ len) × (len ≤ limit) × (spot ≡ None)
IsPieceOf limit (Again table) pairs spot = (pairs ≡ []) × (spot ≡ Some start)

-- Each outcome of a `next` is such a piece.
abbrev pub CutsRightly : Type 0
CutsRightly =
    (limit : ℕ) (spot : Spot) (endings : List Ending) (outcome : Outcome) → outcome_of limit spot endings ≡ Some outcome
    → IsPieceOf limit outcome.piece outcome.pairs outcome.spot

-- one of these calls was answered that it has to begin anew with this table
abbrev pub AnswersAgain : ℕ → List Ending → Type 0
AnswersAgain table [] = ⊥
AnswersAgain table (ending ∷ endings) = (ending.answer.reply ≡ replies.Again table) ⊎ AnswersAgain table endings

-- The piece says that the walk has to begin anew exactly where one of the walks was answered so, with the same table.
abbrev pub BeginsAnewByWalk : Type 0
BeginsAnewByWalk =
    (limit : ℕ) (spot : Spot) (endings : List Ending) (outcome : Outcome) (table : ℕ) → outcome_of limit spot endings ≡ Some outcome
    → (outcome.piece ≡ Again table) ↔ AnswersAgain table endings

-- A worker's finished calls decide what its commands were answered.
abbrev pub DecidesAnswers : Type 0
DecidesAnswers =
    (auto : Bool) (asked : List ResumeCall) (answers others : List Answer) (endings ends : List Ending) (dones : List Finished)
    → AreAnswered (Some start) asked answers endings → Serves auto (calls_in_turn (Some start) asked endings) endings dones
    → AreAnswered (Some start) asked others ends → Serves auto (calls_in_turn (Some start) asked ends) ends dones
    → answers ≡ others

-- ---- in every run

-- a `next` that a caller has made: how many pairs it wanted, its walks, of which there is one or more, and what it left
pub record NextMade : Type 0 where
  pub limit : ℕ
  pub first : Past
  pub more : List Past
  pub outcome : Outcome

abbrev pub walks_in : NextMade → List Past
walks_in made = made.first ∷ made.more

-- the event at which its first walk began, and the one behind its last walk
abbrev pub begins_at : NextMade → ℕ
begins_at made = made.first.begin

abbrev pub ends_at : NextMade → ℕ
ends_at made = ends_behind (behind_call made.first) made.more

-- how these calls ended
abbrev pub endings_in : List Past → List Ending
endings_in pasts = map (λ past. ending_in past.done) pasts

-- These are the walks of a `next` that begins at this spot, and what it left is what comes of their answers.
pub record IsNextFrom (spot : Spot) (made : NextMade) : Type 0 where
  pub outcome : outcome_of made.limit spot (endings_in (walks_in made)) ≡ Some made.outcome
  pub calls : map (λ past. past.done.call) (walks_in made) ≡ walks_of made.limit spot (endings_in (walks_in made))

-- the cursor is to a later bucket of the same table, where there was one before
abbrev pub GoesOnFrom : Option Cursor → Cursor → Type 0
GoesOnFrom None cursor = 0 < cursor.bucket
GoesOnFrom (Some from) cursor = (cursor.serial ≡ from.serial) × (from.bucket < cursor.bucket)

-- each of these walks but the last one ended with such a cursor, with which the next one goes on
abbrev pub AreRising : Option Cursor → List Past → Type 0
AreRising from [] = Unit {0}
AreRising from (past ∷ []) = Unit {0}
AreRising from (past ∷ next ∷ pasts) =
    (len : ℕ) × (cursor : Cursor) × (past.done.reply ≡ replies.Walked len (Some cursor)) × GoesOnFrom from cursor
    × (next.done.call ≡ Walk (Some cursor) 1) × AreRising (Some cursor) (next ∷ pasts)

-- one of these walks found a table of so many buckets, or of more
abbrev pub AnyFindsTable : ℕ → List Past → Type 0
AnyFindsTable buckets [] = ⊥
AnyFindsTable buckets (past ∷ pasts) = (buckets ≤ size_of (unpacked (shape_found past.steps))) ⊎ AnyFindsTable buckets pasts

-- the piece is the last one of its walk
abbrev pub IsLastPiece : Piece → Type 0
IsLastPiece Part = ⊥
IsLastPiece (End len) = Unit {0}
IsLastPiece (Again table) = ⊥

-- A resumed walk from this spot on: each `next` begins where the one before it has left the walk, each but the last answers a part, and the
-- last one comes to the end.
abbrev pub IsResumedWalk : Spot → List NextMade → Type 0
IsResumedWalk spot [] = ⊥
IsResumedWalk spot (made ∷ []) = IsNextFrom spot made × IsLastPiece made.outcome.piece
IsResumedWalk spot (made ∷ next ∷ others) =
    (later : Spot) × IsNextFrom spot made × (made.outcome.piece ≡ Part) × (made.outcome.spot ≡ Some later)
    × IsResumedWalk later (next ∷ others)

-- all its walks, the pairs that it shows, and the event behind the last of it
abbrev pub all_walks : List NextMade → List Past
all_walks nexts = flat_map walks_in nexts

abbrev pub all_pairs : List NextMade → List (Port × ℕ)
all_pairs nexts = flat_map (λ made. made.outcome.pairs) nexts

abbrev pub ends_with : NextMade → List NextMade → ℕ
ends_with made [] = ends_at made
ends_with made (next ∷ others) = ends_with next others

-- the word at this place is no caller's section word
abbrev pub IsNoSection : Env → ℕ → Type 0
IsNoSection env place = (caller : ℕ) → caller < 16 → place ≢ place_of env.geometry (Section caller)

module _ (M : Type 0) (mix : ℕ → ℕ → ℕ → ℕ) where
  -- behind some event of the span the words stand for this owner as the port's first one
  pub record IsBoundBetween (env : Env) (events : List Event) (begin behind : ℕ) (pair : Port × ℕ) : Type 0 where
    pub at : ℕ
    pub begun : begin < at
    pub before : at ≤ behind
    pub rest : List ℕ
    pub is : bindings_behind M mix env events at pair.0 ≡ pair.1 ∷ rest

  -- In every run each pair that a `next` shows is a port and its first owner behind some event of that call.
  abbrev pub PiecesShowBound : Type 0
  PiecesShowBound =
      (env : Env) (events : List Event) (c : ℕ) (spot : Spot) (made : NextMade) → IsAdmitted events → IsNextFrom spot made
      → AreAmong (walks_in made) ((traced_of {M = M} mix env events).traces c).past
      → AllByRecursion (IsBoundBetween env events (begins_at made) (ends_at made)) made.outcome.pairs

  -- In every run the walks of a `next` rise within one table, and there are no more of them than a table that one of them found has buckets.
  abbrev pub WalksRise : Type 0
  WalksRise =
      (env : Env) (events : List Event) (c : ℕ) (spot : Spot) (made : NextMade) → IsAdmitted events → IsNextFrom spot made
      → AreAmong (walks_in made) ((traced_of {M = M} mix env events).traces c).past
      → AreRising spot.cursor (walks_in made) × AnyFindsTable (length (walks_in made)) (walks_in made)

  -- no event of the span changes a word other than section words
  abbrev pub IsStill : Env → List Event → ℕ → ℕ → Type 0
  IsStill env events begin behind =
      (i place : ℕ) → begin ≤ i → i < behind → IsNoSection env place
      → slice_index (words_before M mix env events (i + 1)) place ≡ slice_index (words_before M mix env events i) place

  -- Behind each event of the span these are the ports that the words stand for, each once and with its first owner.
  pub record AreAllBound (env : Env) (events : List Event) (begin behind : ℕ) (pairs : List (Port × ℕ)) : Type 0 where
    pub every : (at : ℕ) (port : ℕ) → begin < at → at ≤ behind → bindings_behind M mix env events at port ≢ []
        → In port (map (λ pair. pair.0) pairs)
    pub bound : (at : ℕ) → begin < at → at ≤ behind
        → AllByRecursion (λ pair. (rest : List ℕ) × (bindings_behind M mix env events at pair.0 ≡ pair.1 ∷ rest)) pairs
    pub once : IsDistinct (map (λ pair. pair.0) pairs)

  -- In every run a resumed walk over words that stay shows just what is bound.
  abbrev pub ShowsAllOnce : Type 0
  ShowsAllOnce =
      (env : Env) (events : List Event) (c : ℕ) (made : NextMade) (others : List NextMade) → IsAdmitted events
      → IsResumedWalk start (made ∷ others)
      → AreAmong (all_walks (made ∷ others)) ((traced_of {M = M} mix env events).traces c).past
      → IsStill env events (begins_at made) (ends_with made others)
      → AreAllBound env events (begins_at made) (ends_with made others) (all_pairs (made ∷ others))

-- ---- what the script says of its calls

-- the command binds or rebinds
abbrev pub asks_node : ResumeCall → Bool
asks_node (asks.Plain call) = needs_node call
asks_node (asks.Next limit) = false

-- where the command binds, its port is one of these
abbrev pub AsksAmong : List Port → ResumeCall → Type 0
AsksAmong ports (asks.Plain call) = BindsAmong ports call
AsksAmong ports (asks.Next limit) = Unit {0}

-- the calls of the plain commands among these
abbrev pub plain_calls : List ResumeCall → List Call
plain_calls [] = []
plain_calls (asks.Plain call ∷ asked) = call ∷ plain_calls asked
plain_calls (asks.Next limit ∷ asked) = plain_calls asked

-- Where the calls that bind or rebind outnumber the nodes, the commands do, however the calls ended.
abbrev pub OutnumbersByCommands : Type 0
OutnumbersByCommands =
    (config : Config) (commands : List (ℕ × ResumeCall)) (endings : List (List Ending)) → IsOutnumbered config (all_calls commands endings)
    → config.nodes < count_by (λ command. asks_node command.1) commands

-- The table begins with 64 buckets or more and doesn't shrink, it has as many nodes as there are commands that bind or rebind, or more, and
-- those that bind name 15 ports at most. Of a `next` nothing is asked.
pub record IsRoomyForPieces (config : Config) (commands : List (ℕ × ResumeCall)) : Type 0 where
  pub first : 64 ≤ first_size config
  pub keeps_size : config.shrink ≡ false
  pub nodes : count_by (λ command. asks_node command.1) commands ≤ config.nodes
  pub ports : List Port
  pub few : length ports ≤ 15
  pub among : AllByRecursion (λ command. AsksAmong ports command.1) commands

-- Then no call about bindings that a command stands for is refused, no walk from the first bucket on has to begin anew, and the size that is
-- closed is the one with which the table began.
abbrev pub TakesAllWhereRoomy : Type 0
TakesAllWhereRoomy =
    (config : Config) (auto : Bool) (commands : List (ℕ × ResumeCall)) (answers : List (List Answer)) (closed : Closed)
    → (resuming : IsResuming config auto commands answers closed) → IsRoomyForPieces config commands
    → AreAllTaken config (all_calls commands resuming.endings) resuming.endings closed

-- ---- one worker

-- The table has one worker, begins with 16 buckets or more and doesn't shrink, and has as many nodes as there are commands that bind or rebind,
-- or more. After each of its plain calls fewer than 16 ports are bound by the model.
pub record IsSmallForPieces (config : Config) (commands : List (ℕ × ResumeCall)) : Type 0 where
  pub one : config.callers ≡ 1
  pub first : 16 ≤ first_size config
  pub keeps_size : config.shrink ≡ false
  pub nodes : count_by (λ command. asks_node command.1) commands ≤ config.nodes
  pub few : (n : ℕ) → ¬ AreBound (bindings_after_all config.kind unbound (take n (plain_calls (commands_of 1 commands)))) 16

-- Then each of its calls about bindings is answered as the model answers it, in their order, and what was closed is what the model leaves.
abbrev pub AnswersAsModel : Type 0
AnswersAsModel =
    (config : Config) (auto : Bool) (commands : List (ℕ × ResumeCall)) (answers : List (List Answer)) (closed : Closed)
    → (resuming : IsResuming config auto commands answers closed) → IsSmallForPieces config commands
    → AreAsModel config.kind (calls_of 1 (all_calls commands resuming.endings)) (endings_by 0 resuming.endings) closed

-- ---- what the workers leave

-- A legal history tells of the run that they leave, and fits it.
abbrev pub HistoryFits : Type 0 → Type 0
HistoryFits M =
    (script : ResumeScript) (outcome : ResumeOutcome) (resumed : IsResumedBy M script outcome)
    → (history : List Entry) × TellsOf resumed.served history
