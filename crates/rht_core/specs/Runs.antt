-- A run: the words, what each caller is doing, and what is known of its calls, from the opening on by a list of events.
use Rattle.std.specs.Prelude.{◌≡◌, ℕ, ◌+◌, ◌^◌, ◌<◌, ◌≤◌, ◌==◌, ◌&&◌, nat_lt, max, if◌then◌else◌, Option, Some, None, List, [], ◌∷◌, ◌++◌, length, replicate, slice_index_or, slice_set}
use Rattle.std.specs.List.{AllByRecursion}
use Rattle.rht_words.specs.declared.op.Op.{Op}
use Rattle.rht_words.specs.declared.op.Op.TheVariants.{Add}
use Rattle.rht_words.specs.declared.config.Config.{Config}
use Rattle.rht_words.specs.declared.env.Env.{Env}
use Rattle.rht_words.specs.Operations.{old_of, applied}
use Rattle.rht_words.specs.Places.{EnrolledCallers, place_of, words_in}
use Rattle.rht_words.specs.Opening.{opening_words}
use Rattle.rht_words.specs.Ports.{IsPort}
use Rattle.rht_words.specs.Settled.{plain_ways}
use Rattle.rht_model.specs.declared.history.Call.{Call}
use Rattle.rht_model.specs.declared.history.Call.TheVariants.{Bind, Find, All, Release, Rebind, Walk}
use Rattle.rht_model.specs.declared.history.Reply.{Reply}
use Rattle.rht_model.specs.declared.finished.Finished.{Finished}
use Rattle.rht_model.specs.Endings.{Ending, ended_with}
use Rattle.rht_core.specs.declared.event.Event.{Event}
use Rattle.rht_core.specs.declared.event.Event.TheVariants.{Enroll, Begin, Step}
use Rattle.rht_core.specs.declared.event.Stepped.{Stepped}
use Rattle.rht_core.specs.declared.book.Book.{Book}
use Rattle.rht_callers.specs.declared.local.Local.{Local}
use Rattle.rht_callers.specs.declared.local.Doing.{Doing}
use Rattle.rht_callers.specs.Batches.{CanPut, out_of}
use Rattle.rht_callers.specs.Locals.{fresh, is_idle, may_begin, machine_from, begin_with, plan_of, local_after, ending_of, IsLocalOf}

-- what the program keeps of a run: the words, how many callers have enrolled, and what each is doing
pub record Core (M : Type 0) : Type 0 where
  pub env : Env
  pub words : List ℕ
  pub enrolled : ℕ
  pub locals : List (Local M)

-- these parts of it together
abbrev pub core_of : {M : Type 0} → Env → List ℕ → ℕ → List (Local M) → Core M
core_of env words enrolled locals = record { env = env; words = words; enrolled = enrolled; locals = locals }

-- an event that does nothing
abbrev pub nothing_done : Stepped
nothing_done = record { did = None; reply = None }

-- what an operation found, and the reply where it ended a call
abbrev pub has_done : Op → ℕ → Option Reply → Stepped
has_done op old reply = record { did = Some (op, old); reply = reply }

-- an enrolling raises the word of enrolled callers
abbrev pub enrolling : Env → Op
enrolling env = Add (place_of env.geometry EnrolledCallers) 1

-- how many callers there are after it found this word: the word's value is a further caller, where it is below their greatest number
abbrev pub enrolled_after : Env → ℕ → ℕ → ℕ
enrolled_after env enrolled old = if nat_lt old env.geometry.callers then max enrolled (old + 1) else enrolled

module _ {M : Type 0} where
  -- a caller; one that isn't there has made no call
  abbrev pub local_in : Env → List (Local M) → ℕ → Local M
  local_in env locals c = slice_index_or locals c (fresh env)

  abbrev pub local_of : Core M → ℕ → Local M
  local_of core c = local_in core.env core.locals c

  -- what a caller does that is given this call, with a search for a free node from word `start` on; none where it isn't enrolled or may not
  -- begin the call, or where a tidying has no batch
  abbrev pub beginning : Env → ℕ → List (Local M) → ℕ → Call → ℕ → Option (Doing M)
  beginning env enrolled locals c call start =
      if nat_lt c enrolled && may_begin (local_in env locals c) call then machine_from env c (local_in env locals c).batch call start else None

  -- the callers after one of them has begun with what it does
  abbrev pub with_machine : Env → List (Local M) → ℕ → Option (Doing M) → List (Local M)
  with_machine env locals c None = locals
  with_machine env locals c (Some doing) = slice_set locals c (begin_with (local_in env locals c) doing)

  abbrev pub begun : Env → ℕ → List (Local M) → ℕ → Call → ℕ → List (Local M)
  begun env enrolled locals c call start = with_machine env locals c (beginning env enrolled locals c call start)

  -- the operation that a caller performs next; none where it isn't enrolled or is idle
  abbrev pub planned : Env → ℕ → List (Local M) → ℕ → Option Op
  planned env enrolled locals c = if nat_lt c enrolled then plan_of (local_in env locals c) else None

  -- the same of all that the program keeps
  abbrev pub planned_in : Core M → ℕ → Option Op
  planned_in core c = planned core.env core.enrolled core.locals c

  abbrev pub beginning_in : Core M → ℕ → Call → ℕ → Option (Doing M)
  beginning_in core c call start = beginning core.env core.enrolled core.locals c call start

  module _ (mix : ℕ → ℕ → ℕ → ℕ) where
    -- a caller has performed this operation, and is told the word's old value
    abbrev pub performed : Core M → ℕ → Op → Core M × Stepped
    performed core c op =
        let next = local_after mix (local_of core c) (old_of core.words op) in
        (record core { words = applied core.words op; locals = slice_set core.locals c next.0 }, has_done op (old_of core.words op) next.1)

    abbrev pub with_step : Core M → ℕ → Option Op → Core M × Stepped
    with_step core c None = (core, nothing_done)
    with_step core c (Some op) = performed core c op

    -- what an event makes of it
    abbrev pub core_step : Core M → Event → Core M × Stepped
    core_step core Enroll =
        let op = enrolling core.env in
        let old = old_of core.words op in
        (record core { words = applied core.words op; enrolled = enrolled_after core.env core.enrolled old }, has_done op old None)
    core_step core (Begin c call start) =
        (record core { locals = begun core.env core.enrolled core.locals c call start }, nothing_done)
    core_step core (Step c) = with_step core c (planned_in core c)

  -- the node that a caller's call hands out at its next operation may be put into its batch
  abbrev pub MayPut : (ℕ → ℕ → ℕ → ℕ) → Core M → Type 0
  MayPut mix core =
      (c : ℕ) (op : Op) → planned_in core c ≡ Some op
      → CanPut (local_of core c).batch (out_of mix (local_of core c).doing (old_of core.words op))

  -- what always holds of it
  pub record IsSound (core : Core M) : Type 0 where
    pub all_words : length core.words ≡ words_in core.env.geometry
    pub all_locals : length core.locals ≡ core.env.geometry.callers
    pub few_enrolled : core.enrolled ≤ core.env.geometry.callers
    pub same_env : AllByRecursion (IsLocalOf core.env) core.locals

-- ---- what is known of the calls

-- no call yet
abbrev pub new_book : Book
new_book = record { call = None; steps = 0; finished = [] }

-- a call has begun
abbrev pub book_begun : Call → Book → Book
book_begun call book = record { call = Some call; steps = 0; finished = book.finished }

-- the call in progress has ended; no call in progress ends in none
abbrev pub finished_with : Option Call → Ending → List Finished
finished_with None ending = []
finished_with (Some call) ending = ended_with call ending ∷ []

-- an operation was made, and may have ended the call
abbrev pub book_after : Option Ending → Book → Book
book_after None book = record { call = book.call; steps = book.steps + 1; finished = book.finished }
book_after (Some ending) book =
    record { call = None; steps = 0; finished = book.finished ++ finished_with book.call ending }

-- the books with another one for this caller
abbrev pub book_at : (ℕ → Book) → ℕ → Book → ℕ → Book
book_at books c book = λ other. if other == c then book else books other

-- ---- runs

-- what one caller knows of itself
pub record View (M : Type 0) : Type 0 where
  pub local : Local M
  pub book : Book

-- the words, what each caller is doing, and each caller's calls
pub record World (M : Type 0) : Type 0 where
  pub core : Core M
  pub books : ℕ → Book

-- each number lies in the range of its type
abbrev pub IsAdmittedCall : Call → Type 0
IsAdmittedCall (Bind port owner once) = IsPort port × (owner < 2 ^ 32)
IsAdmittedCall (Find port) = IsPort port
IsAdmittedCall (All port) = IsPort port
IsAdmittedCall (Release port owner) = IsPort port × (owner < 2 ^ 32)
IsAdmittedCall (Rebind port owner new) = IsPort port × (owner < 2 ^ 32) × (new < 2 ^ 32)
IsAdmittedCall (Walk None limit) = limit < 2 ^ 32
IsAdmittedCall (Walk (Some cursor) limit) = (cursor.serial < 2 ^ 64) × (cursor.bucket < 2 ^ 32) × (limit < 2 ^ 32)
IsAdmittedCall _ = Unit {0}

abbrev pub IsAdmittedEvent : Event → Type 0
IsAdmittedEvent Enroll = Unit {0}
IsAdmittedEvent (Begin c call start) = (c < 2 ^ 32) × IsAdmittedCall call
IsAdmittedEvent (Step c) = c < 2 ^ 32

abbrev pub IsAdmitted : List Event → Type 0
IsAdmitted events = AllByRecursion IsAdmittedEvent events

module _ {M : Type 0} where
  -- at opening nobody has enrolled
  abbrev pub opening_core : Env → Core M
  opening_core env =
      record { env = env; words = opening_words env; enrolled = 0; locals = replicate env.geometry.callers (fresh env) }

  -- it has just been opened with this config, in the plain ways
  pub record IsOpened (config : Config) (core : Core M) : Type 0 where
    pub config_same : core.env.config ≡ config
    pub ways_plain : core.env.ways ≡ plain_ways
    pub core_same : core ≡ opening_core core.env

  abbrev pub opening : Env → World M
  opening env = record { core = opening_core env; books = λ _. new_book }

  -- what a caller's beginning makes of the books
  abbrev pub books_begun : (ℕ → Book) → ℕ → Call → Option (Doing M) → ℕ → Book
  books_begun books c call None = books
  books_begun books c call (Some doing) = book_at books c (book_begun call (books c))

  module _ (mix : ℕ → ℕ → ℕ → ℕ) where
    -- what a caller's operation makes of the books
    abbrev pub books_stepped : World M → ℕ → Option Op → ℕ → Book
    books_stepped w c None = w.books
    books_stepped w c (Some op) =
        let next = local_after mix (local_of w.core c) (old_of w.core.words op) in
        book_at w.books c (book_after (ending_of next.0 next.1) (w.books c))

    abbrev pub books_after : World M → Event → ℕ → Book
    books_after w Enroll = w.books
    books_after w (Begin c call start) =
        books_begun w.books c call (beginning_in w.core c call start)
    books_after w (Step c) = books_stepped w c (planned_in w.core c)

    abbrev pub world_step : World M → Event → World M
    world_step w event = record { core = (core_step mix w.core event).0; books = books_after w event }

    abbrev pub run_from : World M → List Event → World M
    run_from w [] = w
    run_from w (event ∷ events) = run_from (world_step w event) events

    -- the run of these events, from the opening on
    abbrev pub run_of : Env → List Event → World M
    run_of env events = run_from (opening env) events

    -- there is a run that leads here
    pub record IsReached (core : Core M) : Type 0 where
      pub events : List Event
      pub admitted : IsAdmitted events
      pub same : (run_of core.env events).core ≡ core

  abbrev pub view_of : World M → ℕ → View M
  view_of w c = record { local = local_of w.core c; book = w.books c }
