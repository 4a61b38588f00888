-- What the commands of lease scripts are answered: each by how the calls ended that it stands for, and by the book that its worker had then.
use Rattle.std.specs.Prelude.{◌≡◌, ℕ, ◌+◌, ◌<◌, ◌==◌, ◌&&◌, Bool, true, false, List, [], ◌∷◌, ◌++◌, length, count_by, slice_index_or}
use Rattle.rht_words.specs.declared.config.Config.{Config}
use Rattle.rht_model.specs.declared.history.Call.{Call}
use Rattle.rht_model.specs.declared.history.Reply.{Reply}
use Rattle.rht_model.specs.declared.history.Reply.TheVariants.{Bound, Exists, Found, Missing, Listed, Released, Absent, Rebound, TooBig, Again, Busy, NoTable, NoNode, Pending, Elsewhere, Walked, Moved, Idle, Clear, Counted}
use Rattle.rht_model.specs.Endings.{Ending, replied}
use Rattle.rht_workers.specs.WorkerCalls.{calls_from}
pub use Rattle.rht_workers.specs.WorkerCalls.{commands_of}
use Rattle.rht_lease.specs.declared.lease.Lease.{Lease}
use Rattle.rht_lease.specs.declared.lease.LeaseCall.{LeaseCall}
use Rattle.rht_lease.specs.declared.lease.LeaseCall.TheVariants as asks
use Rattle.rht_lease.specs.declared.lease.LeaseReply.{LeaseReply}
use Rattle.rht_lease.specs.declared.lease.LeaseReply.TheVariants.{Plain, Renewed, NoLease, Swept}
use Rattle.rht_lease.specs.declared.lease.Swept.{Swept as SweptOf}
use Rattle.rht_lease.specs.Books.{has_lease, sweep_calls, book_after, calls_for}

-- an answer: a reply, and the owners that came beside it
abbrev pub Answer : Type 0
Answer = LeaseReply × List ℕ

-- ---- one command

-- a binding was taken out
abbrev pub is_released : Reply → Bool
is_released (Released kick) = true
is_released (Bound kick) = false
is_released (Exists owner) = false
is_released (Found owner) = false
is_released Missing = false
is_released (Listed len) = false
is_released Absent = false
is_released Rebound = false
is_released (TooBig count) = false
is_released (Again table) = false
is_released (Busy root last) = false
is_released (NoTable size) = false
is_released NoNode = false
is_released (Pending caller section) = false
is_released Elsewhere = false
is_released (Walked len next) = false
is_released (Moved again) = false
is_released Idle = false
is_released (Clear returned) = false
is_released (Counted count) = false

-- there was none to take out
abbrev pub is_absent : Reply → Bool
is_absent Absent = true
is_absent (Bound kick) = false
is_absent (Exists owner) = false
is_absent (Found owner) = false
is_absent Missing = false
is_absent (Listed len) = false
is_absent (Released kick) = false
is_absent Rebound = false
is_absent (TooBig count) = false
is_absent (Again table) = false
is_absent (Busy root last) = false
is_absent (NoTable size) = false
is_absent NoNode = false
is_absent (Pending caller section) = false
is_absent Elsewhere = false
is_absent (Walked len next) = false
is_absent (Moved again) = false
is_absent Idle = false
is_absent (Clear returned) = false
is_absent (Counted count) = false

-- what a sweep came to whose releases ended so
abbrev pub swept_of : List Ending → SweptOf
swept_of endings = record {
  released = count_by (λ ending. is_released ending.answer.reply) endings;
  absent = count_by (λ ending. is_absent ending.answer.reply) endings;
}

-- the same with one release more, which was answered so
abbrev pub counting : SweptOf → Reply → SweptOf
counting swept (Released kick) = record { released = swept.released + 1; absent = swept.absent }
counting swept Absent = record { released = swept.released; absent = swept.absent + 1 }
counting swept (Bound kick) = swept
counting swept (Exists owner) = swept
counting swept (Found owner) = swept
counting swept Missing = swept
counting swept (Listed len) = swept
counting swept Rebound = swept
counting swept (TooBig count) = swept
counting swept (Again table) = swept
counting swept (Busy root last) = swept
counting swept (NoTable size) = swept
counting swept NoNode = swept
counting swept (Pending caller section) = swept
counting swept Elsewhere = swept
counting swept (Walked len next) = swept
counting swept (Moved again) = swept
counting swept Idle = swept
counting swept (Clear returned) = swept
counting swept (Counted count) = swept

-- The answer is the reply to the one call that the command stands for, with the owners that came beside it; no pairs did.
pub record IsOwnReply (answer : Answer) (endings : List Ending) : Type 0 where
  pub reply : Reply
  pub plain : answer.0 ≡ Plain reply
  pub one : endings ≡ replied reply answer.1 [] ∷ []

-- the answer is this one, and the command stands for no call
pub record IsBareReply (reply : LeaseReply) (answer : Answer) (endings : List Ending) : Type 0 where
  pub bare : answer ≡ (reply, [])
  pub none : endings ≡ []

-- the reply to a renew, by whether the book has its lease
abbrev pub renew_reply : Bool → LeaseReply
renew_reply true = Renewed
renew_reply false = NoLease

-- the answer to a cancel, by whether the book has its lease
abbrev pub IsCancelAnswer : Bool → Answer → List Ending → Type 0
IsCancelAnswer true answer endings = IsOwnReply answer endings
IsCancelAnswer false answer endings = IsBareReply NoLease answer endings

-- The answer to a sweep counts how its releases ended: there is one for each lease that has ended, and each is counted once.
pub record IsSweptAnswer (now : ℕ) (leases : List Lease) (answer : Answer) (endings : List Ending) : Type 0 where
  pub counts : answer ≡ (Swept (swept_of endings), [])
  pub many : length endings ≡ length (sweep_calls now leases)
  pub each : (swept_of endings).released + (swept_of endings).absent ≡ length (sweep_calls now leases)

-- what the command is answered where this is the book, and the calls that it stands for ended so
abbrev pub IsAnswer : List Lease → LeaseCall → Answer → List Ending → Type 0
IsAnswer leases (asks.Plain call) answer endings = IsOwnReply answer endings
IsAnswer leases (asks.Lease lease) answer endings = IsOwnReply answer endings
IsAnswer leases (asks.Renew lease) answer endings = IsBareReply (renew_reply (has_lease lease.port lease.owner leases)) answer endings
IsAnswer leases (asks.Cancel port owner) answer endings = IsCancelAnswer (has_lease port owner leases) answer endings
IsAnswer leases (asks.Sweep now) answer endings = IsSweptAnswer now leases answer endings

-- ---- the commands of one worker

-- the book after these commands, which were answered so, where it was this one before them
abbrev pub book_left : List Lease → List LeaseCall → List Answer → List Lease
book_left leases [] answers = leases
book_left leases (ask ∷ asked) [] = leases
book_left leases (ask ∷ asked) (answer ∷ answers) = book_left (book_after leases ask answer.0) asked answers

-- the calls that these commands stand for, one after another
abbrev pub calls_in_turn : List Lease → List LeaseCall → List Answer → List Call
calls_in_turn leases [] answers = []
calls_in_turn leases (ask ∷ asked) [] = []
calls_in_turn leases (ask ∷ asked) (answer ∷ answers) =
    calls_for leases ask ++ calls_in_turn (book_after leases ask answer.0) asked answers

-- The endings are those of the first command's calls, and behind them those of the others.
pub record AreParted (First Rest : List Ending → Type 0) (endings : List Ending) : Type 0 where
  pub first : List Ending
  pub rest : List Ending
  pub whole : endings ≡ first ++ rest
  pub first_is : First first
  pub rest_is : Rest rest

-- These commands are answered so, from this book on, where the calls that they stand for ended so.
abbrev pub AreAnswered : List Lease → List LeaseCall → List Answer → List Ending → Type 0
AreAnswered leases [] [] endings = endings ≡ []
AreAnswered leases [] (answer ∷ answers) endings = ⊥
AreAnswered leases (ask ∷ asked) [] endings = ⊥
AreAnswered leases (ask ∷ asked) (answer ∷ answers) endings =
    AreParted (IsAnswer leases ask answer) (AreAnswered (book_after leases ask answer.0) asked answers) endings

-- ---- all workers

-- the command asks for a lease
abbrev pub is_lease : LeaseCall → Bool
is_lease (asks.Plain call) = false
is_lease (asks.Lease lease) = true
is_lease (asks.Renew lease) = false
is_lease (asks.Cancel port owner) = false
is_lease (asks.Sweep now) = false

-- how many leases a worker asks for, which are as many as its book may have
abbrev pub own_leases : ℕ → List (ℕ × LeaseCall) → ℕ
own_leases worker commands = count_by (λ command. command.0 == worker && is_lease command.1) commands

-- the calls that the commands of all workers stand for, each with its worker, where this is what each was answered; a book is empty at first
abbrev pub own_calls : List (ℕ × LeaseCall) → ℕ → List Answer → List Call
own_calls commands worker answers = calls_in_turn [] (commands_of worker commands) answers

abbrev pub all_calls : List (ℕ × LeaseCall) → List (List Answer) → List (ℕ × Call)
all_calls commands answers = calls_from (own_calls commands) 1 answers

-- The commands of each worker are answered so, where the calls that they stand for ended so, each worker's at its place.
pub record AreAllAnswered (config : Config) (commands : List (ℕ × LeaseCall)) (answers : List (List Answer)) (endings : List (List Ending))
    : Type 0 where
  pub workers : length answers ≡ config.callers
  pub each : (i : ℕ) → i < config.callers
      → AreAnswered [] (commands_of (i + 1) commands) (slice_index_or answers i []) (slice_index_or endings i [])
