-- Which piece comes of what a resumed walk's calls are answered, and where the walk is then.
--
-- A resumed walk calls `walk` with its cursor and the limit 1, so that each answer has the pairs of one bucket at most. Of the first answer it passes
-- over as many pairs as were shown before, whichever bucket they are of, and it takes pairs until the piece has enough.
use Rattle.std.specs.Prelude.{ℕ, ◌+◌, ◌-◌, ◌==◌, nat_lt, if◌then◌else◌, Option, None, Some, List, [], ◌∷◌, ◌++◌, length, take, drop}
use Rattle.rht_model.specs.declared.finished.Finished.{Finished}
use Rattle.rht_model.specs.declared.history.Call.{Call}
use Rattle.rht_model.specs.declared.history.Call.TheVariants.{Walk}
use Rattle.rht_model.specs.declared.history.Cursor.{Cursor}
use Rattle.rht_model.specs.declared.history.Reply.{Reply}
use Rattle.rht_model.specs.declared.history.Reply.TheVariants as replies
use Rattle.rht_model.specs.Endings.{Ending, ended_with}
use Rattle.rht_model.specs.Multimap.{Port}
use Rattle.rht_resume.specs.declared.resume.Piece.{Piece}
use Rattle.rht_resume.specs.declared.resume.Piece.TheVariants.{Part, End, Again}
use Rattle.rht_resume.specs.declared.resumed.Spot.{Spot}

-- a resumed walk: where it is, which is nowhere once it has ended; the pairs of its last piece; and of how many nodes it was made
pub record Walking : Type 0 where
  pub spot : Option Spot
  pub pairs : List (Port × ℕ)
  pub nodes : ℕ

-- the start, and the spot before a bucket of which nothing was shown
abbrev pub start : Spot
start = record { cursor = None; shown = 0 }

abbrev pub before : Cursor → Spot
before cursor = record { cursor = Some cursor; shown = 0 }

-- what a `next` leaves: its piece, where the walk is then, and the pairs of the piece
pub record Outcome : Type 0 where
  pub piece : Piece
  pub spot : Option Spot
  pub pairs : List (Port × ℕ)

-- what an answer makes of a `next`: it goes on from a spot with the pairs so far, it is over, or no walk is answered so
pub data Turn : Type 0 where
  On : Spot → List (Port × ℕ) → Turn
  Over : Outcome → Turn
  Never : Turn

-- a piece that isn't the last one, and the last piece of a walk
abbrev pub part_at : Spot → List (Port × ℕ) → Turn
part_at spot pairs = Over (record { piece = Part; spot = Some spot; pairs = pairs })

abbrev pub end_with : List (Port × ℕ) → Turn
end_with pairs = Over (record { piece = End (length pairs); spot = None; pairs = pairs })

-- the walk has to begin anew
abbrev pub again : ℕ → Turn
again table = Over (record { piece = Again table; spot = Some start; pairs = [] })

-- No pair of the answer is left, and this is how its walk ended. The piece may have enough pairs by now.
abbrev pub behind_answer : ℕ → List (Port × ℕ) → Option Cursor → Turn
behind_answer limit pairs None = end_with pairs
behind_answer limit pairs (Some cursor) = if length pairs == limit then part_at (before cursor) pairs else On (before cursor) pairs

-- The piece has these pairs and wants so many more, of those of an answer that weren't shown before.
abbrev pub taking : ℕ → Spot → List (Port × ℕ) → ℕ → List (Port × ℕ) → Option Cursor → Turn
taking limit spot pairs wanted fresh next =
    if nat_lt wanted (length fresh)
    then part_at (record { cursor = spot.cursor; shown = spot.shown + wanted }) (pairs ++ take wanted fresh)
    else behind_answer limit (pairs ++ fresh) next

-- what an answer makes of a `next` that is at this spot, wants so many pairs, and has these
abbrev pub turn_by : ℕ → Spot → List (Port × ℕ) → Reply → List (Port × ℕ) → Turn
turn_by limit spot pairs (replies.Walked len next) seen = taking limit spot pairs (limit - length pairs) (drop spot.shown seen) next
turn_by limit spot pairs (replies.Again table) seen = again table
turn_by limit spot pairs _ seen = Never

abbrev pub turn_of : ℕ → Spot → List (Port × ℕ) → Ending → Turn
turn_of limit spot pairs ending = turn_by limit spot pairs ending.answer.reply ending.pairs

-- ---- all answers of a `next`

-- what comes of these further answers, behind one that made this of it; where it is over none may be left
abbrev pub outcome_by : Turn → List Ending → (Spot → List (Port × ℕ) → Option Outcome) → Option Outcome
outcome_by (On spot pairs) endings more = more spot pairs
outcome_by (Over outcome) [] more = Some outcome
outcome_by (Over outcome) (ending ∷ endings) more = None
outcome_by Never endings more = None

-- What a `next` leaves whose walks were answered so, in their order. None where it isn't over by them, or was over before the last one.
abbrev pub outcome_from : ℕ → Spot → List (Port × ℕ) → List Ending → Option Outcome
outcome_from limit spot pairs [] = None
outcome_from limit spot pairs (ending ∷ endings) =
    outcome_by (turn_of limit spot pairs ending) endings (λ spot pairs. outcome_from limit spot pairs endings)

abbrev pub outcome_of : ℕ → Spot → List Ending → Option Outcome
outcome_of limit spot endings = outcome_from limit spot [] endings

-- a walk from a spot: it goes on with the cursor, and ends behind the first bucket that has pairs
abbrev pub walk_at : Spot → Call
walk_at spot = Walk spot.cursor 1

-- these walks, behind an answer that made this of the `next`; none where it is over
abbrev pub walks_by : {X : Type 0} → Turn → (Spot → List (Port × ℕ) → List X) → List X
walks_by (On spot pairs) more = more spot pairs
walks_by (Over outcome) more = []
walks_by Never more = []

-- the calls of a `next` that are answered so
abbrev pub walks_from : ℕ → Spot → List (Port × ℕ) → List Ending → List Call
walks_from limit spot pairs [] = []
walks_from limit spot pairs (ending ∷ endings) =
    walk_at spot ∷ walks_by (turn_of limit spot pairs ending) (λ spot pairs. walks_from limit spot pairs endings)

abbrev pub walks_of : ℕ → Spot → List Ending → List Call
walks_of limit spot endings = walks_from limit spot [] endings

-- the answers that belong to a `next`, of these that begin with them
abbrev pub own_from : ℕ → Spot → List (Port × ℕ) → List Ending → List Ending
own_from limit spot pairs [] = []
own_from limit spot pairs (ending ∷ endings) =
    ending ∷ walks_by (turn_of limit spot pairs ending) (λ spot pairs. own_from limit spot pairs endings)

abbrev pub own_of : ℕ → Spot → List Ending → List Ending
own_of limit spot endings = own_from limit spot [] endings

-- calls that have ended so, each in its turn
abbrev pub ended_each : List Call → List Ending → List Finished
ended_each [] endings = []
ended_each (call ∷ calls) [] = []
ended_each (call ∷ calls) (ending ∷ endings) = ended_with call ending ∷ ended_each calls endings

-- ---- a resumed walk between its pieces

-- where a `next` begins: one that finds the walk ended begins anew
abbrev pub begun : Option Spot → Spot
begun None = start
begun (Some spot) = spot

-- where the walk is behind a `next` with this outcome; where there is none the answers are those of no `next`
abbrev pub spot_by : Option Outcome → Option Spot
spot_by None = None
spot_by (Some outcome) = outcome.spot

-- a resumed walk with room for as many pairs as there are nodes, and one that goes to its start
abbrev pub unbegun : ℕ → Walking
unbegun nodes = record { spot = Some start; pairs = []; nodes = nodes }

abbrev pub restarted : Walking → Walking
restarted walking = record { spot = Some start; pairs = walking.pairs; nodes = walking.nodes }

-- one that goes to its start where it has ended
abbrev pub reopened : Walking → Walking
reopened walking = record { spot = Some (begun walking.spot); pairs = walking.pairs; nodes = walking.nodes }
