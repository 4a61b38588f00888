-- What holds of every run.
use Rattle.std.specs.Prelude.{◌≡◌, ◌≢◌, ℕ, ◌+◌, ◌<◌, ◌≤◌, ◌⊎◌, List, [], ◌∷◌, ◌++◌, length, map, take, Option, Some, IfSome}
use Rattle.std.specs.List.{AllByRecursion, slice_get}
use Rattle.std.specs.Int.{bit_at}
use Rattle.rht_words.specs.declared.op.Op.{Op}
use Rattle.rht_words.specs.declared.env.Env.{Env}
use Rattle.rht_words.specs.declared.geometry.Geometry.{Geometry}
use Rattle.rht_words.specs.Operations.{op_place, old_of, word_after}
use Rattle.rht_words.specs.Places.{EnrolledCallers, word_at}
use Rattle.rht_words.specs.Planned.{IsWord, IsPlannedIn}
use Rattle.rht_arena.specs.Laws.{map_place, map_bit, ChangesBit}
use Rattle.rht_find.specs.Find.{IsFindIn}
use Rattle.rht_bind.specs.Bind.{IsBindIn}
use Rattle.rht_release.specs.All.{IsAllIn}
use Rattle.rht_release.specs.Release.{IsReleaseIn}
use Rattle.rht_release.specs.Rebind.{IsRebindIn}
use Rattle.rht_move.specs.Work.{IsWorkIn}
use Rattle.rht_walk.specs.Walk as walk
use Rattle.rht_callers.specs.Batches.{IsBatchIn, AreNodesIn, HasWords, IsSoundBatch, batch_room}
use Rattle.rht_model.specs.declared.history.Call.{Call}
use Rattle.rht_model.specs.declared.history.Call.TheVariants.{Bind, Find, All, Release, Rebind, Walk, Work, Tidy, Count}
use Rattle.rht_model.specs.declared.history.Reply.{Reply}
use Rattle.rht_model.specs.declared.history.Reply.TheVariants.{NoNode}
use Rattle.rht_core.specs.declared.book.Book.{Book}
use Rattle.rht_core.specs.declared.event.Event.{Event}
use Rattle.rht_core.specs.declared.event.Event.TheVariants.{Enroll, Begin, Step}
use Rattle.rht_callers.specs.declared.local.Local.{Local}
use Rattle.rht_callers.specs.declared.local.Doing.{Doing}
use Rattle.rht_callers.specs.declared.local.Doing.TheVariants.{Idle, Finding, Binding, Releasing, Rebinding, Listing, Working, Counting, Tidying, Walking}
use Rattle.rht_callers.specs.Locals.{fresh, owners_room, pairs_room, begin_with, plan_of, local_after, ending_of}
use Rattle.rht_core.specs.Runs.{Core, World, View, core_step, world_step, run_of, local_of, planned_in, view_of, new_book, book_begun, book_after, IsSound, IsAdmitted, IsAdmittedEvent}
use Rattle.rht_core.specs.Replies.{AnswersIn}
use Rattle.rht_core.specs.Tidyings.{IsTidyingOf}
use Rattle.rht_core.specs.Traces.{Did, Past, Trace, Traced, traced_of, IsStepOfOne, behind_calls, IsRising, AreInOrder}

-- ---- what one caller knows of itself, after an event of its own

module _ {M : Type 0} where
  -- it was given a call, and what it does for it
  abbrev pub view_begun : Call → Doing M → View M → View M
  view_begun call doing view = record { local = begin_with view.local doing; book = book_begun call view.book }

  -- it has made an operation, which found this word
  abbrev pub view_stepped : (ℕ → ℕ → ℕ → ℕ) → ℕ → View M → View M
  view_stepped mix old view =
      let next = local_after mix view.local old in
      record { local = next.0; book = book_after (ending_of next.0 next.1) view.book }

-- ---- what a caller's state names

module _ {M : Type 0} where
  -- what this caller does is in range
  abbrev pub IsDoingIn : Env → ℕ → Doing M → Type 0
  IsDoingIn env c Idle = Unit {0}
  IsDoingIn env c (Finding m) = IsFindIn env c m
  IsDoingIn env c (Binding m) = IsBindIn env c m
  IsDoingIn env c (Listing m) = IsAllIn env c m
  IsDoingIn env c (Releasing m) = IsReleaseIn env c m
  IsDoingIn env c (Rebinding m) = IsRebindIn env c m
  IsDoingIn env c (Working m) = IsWorkIn env c m
  IsDoingIn env c (Counting m) = m.env ≡ env
  IsDoingIn env c (Tidying m) = IsTidyingOf env m
  IsDoingIn env c (Walking m) = walk.IsWalkIn env c m

  -- and its rooms may have one item a node, and its batch is of the table's nodes, with a section word for each caller
  pub record IsLocalIn (env : Env) (c : ℕ) (local : Local M) : Type 0 where
    pub doing : IsDoingIn env c local.doing
    pub owners : (owners_room local.doing local.owners).limit ≡ env.geometry.nodes
    pub pairs : (pairs_room local.doing local.pairs).limit ≡ env.geometry.nodes
    pub batch : IsBatchIn env (batch_room local.doing local.batch)
    pub among : AreNodesIn env.geometry.nodes (batch_room local.doing local.batch)
    pub words : HasWords env.geometry.callers (batch_room local.doing local.batch)

-- all words and callers are there, what each caller does is in range, and so is the operation that it plans; and no node stands in a
-- caller's batch twice
pub record IsInRange {M : Type 0} (env : Env) (core : Core M) : Type 0 where
  pub same_env : core.env ≡ env
  pub sound : IsSound core
  pub locals : (c : ℕ) → IsLocalIn env c (local_of core c)
  pub batches : (c : ℕ) → IsSoundBatch (batch_room (local_of core c).doing (local_of core c).batch)
  pub plans : (c : ℕ) (op : Op) → plan_of (local_of core c) ≡ Some op → IsPlannedIn env.geometry op

-- ---- traces

-- a trace's past calls are the finished ones of the book, and the call in progress has as many steps in both
pub record IsTraceOf (book : Book) (trace : Trace) : Type 0 where
  pub past : map (λ past. past.done) trace.past ≡ book.finished
  pub steps : length trace.steps ≡ book.steps

-- the call in progress began at its event, behind all events of the past ones, and its steps come behind it in order
pub record IsInProgress (events : List Event) (c : ℕ) (trace : Trace) (call : Call) : Type 0 where
  pub start : ℕ
  pub began : slice_get events trace.begin ≡ Some (Begin c call start)
  pub behind : behind_calls 0 trace.past ≤ trace.begin
  pub rising : IsRising (trace.begin + 1) trace.steps

-- ---- nodes

-- the operation, whichever it is, is on the word with the node's bit, finds that bit set, and leaves it clear
pub record ClearsBitOf (g : Geometry) (node : ℕ) (did : Did) : Type 0 where
  pub within : node < g.nodes
  pub place : op_place did.op ≡ map_place g node
  pub free : bit_at did.old (map_bit node) ≡ 1
  pub taken : bit_at (word_after did.old did.op) (map_bit node) ≡ 0

-- the step takes no node: it clears the set bit of none
abbrev pub IsNoTake : Geometry → Did → Type 0
IsNoTake g did = (node : ℕ) → ClearsBitOf g node did → ⊥

-- the step takes this node: it clears the node's bit, which was set, and leaves the other bits of the word as they were
pub record IsTakeOf (g : Geometry) (node : ℕ) (did : Did) : Type 0 where
  pub within : node < g.nodes
  pub free : bit_at did.old (map_bit node) ≡ 1
  pub clears : ChangesBit g node 0 did.old did.op

-- none of the steps takes a node
abbrev pub TakesNone : Geometry → List Did → Type 0
TakesNone g steps = AllByRecursion (IsNoTake g) steps

-- one of the steps takes this node, and no other one takes any
abbrev pub TakesOne : Geometry → ℕ → List Did → Type 0
TakesOne g node [] = ⊥
TakesOne g node (did ∷ steps) =
    (IsTakeOf g node did × TakesNone g steps) ⊎ (IsNoTake g did × TakesOne g node steps)

-- one of the steps takes one of the nodes, and no other one takes any
abbrev pub TakesOneOf : Geometry → List Did → Type 0
TakesOneOf g steps = (node : ℕ) × TakesOne g node steps

-- a call that needs a node, with this reply, has taken one, or it was answered that there was none and has taken none
abbrev pub IsTakenBy : Geometry → Reply → List Did → Type 0
IsTakenBy g reply steps = ((reply ≡ NoNode) × TakesNone g steps) ⊎ ((reply ≢ NoNode) × TakesOneOf g steps)

-- a bind and a rebind need a node, and no other call takes one
abbrev pub IsTakenIn : Geometry → Call → Reply → List Did → Type 0
IsTakenIn g (Bind port owner once) reply steps = IsTakenBy g reply steps
IsTakenIn g (Find port) reply steps = TakesNone g steps
IsTakenIn g (All port) reply steps = TakesNone g steps
IsTakenIn g (Release port owner) reply steps = TakesNone g steps
IsTakenIn g (Rebind port owner new) reply steps = IsTakenBy g reply steps
IsTakenIn g (Walk from limit) reply steps = TakesNone g steps
IsTakenIn g Work reply steps = TakesNone g steps
IsTakenIn g Tidy reply steps = TakesNone g steps
IsTakenIn g Count reply steps = TakesNone g steps

-- ---- the laws

-- the event is no enrolling
abbrev pub IsOfCaller : Event → Type 0
IsOfCaller Enroll = ⊥
IsOfCaller (Begin c call start) = Unit {0}
IsOfCaller (Step c) = Unit {0}

module _ (M : Type 0) (mix : ℕ → ℕ → ℕ → ℕ) where
  -- a run followed by one more event is a run, and its world is the old one changed by that event
  pub record IsOneMore (env : Env) (events : List Event) (event : Event) : Type 0 where
    pub admitted : IsAdmitted (events ++ event ∷ [])
    pub world : ◌≡◌ {A = World M} (run_of mix env (events ++ event ∷ [])) (world_step mix (run_of mix env events) event)

  abbrev pub Extends : Type 0
  Extends =
      (env : Env) (events : List Event) (event : Event)
      → IsAdmitted events → IsAdmittedEvent event → IsOneMore env events event

  -- in every run all that callers name is in range
  abbrev pub InRange : Type 0
  InRange =
      (env : Env) (events : List Event) → IsAdmitted events
      → IsInRange {M = M} env (run_of mix env events).core

  -- an event leaves the word of the enrolled callers, and how many there are
  pub record IsEnrolledKept (before after : World M) : Type 0 where
    pub word :
        word_at after.core.env.geometry after.core.words EnrolledCallers
        ≡ word_at before.core.env.geometry before.core.words EnrolledCallers
    pub count : after.core.enrolled ≡ before.core.enrolled

  -- no event but an Enroll changes which callers are enrolled
  abbrev pub Enrolled : Type 0
  Enrolled =
      (env : Env) (events : List Event) (event : Event)
      → IsAdmitted events → IsAdmittedEvent event → IsOfCaller event
      → IsEnrolledKept (run_of mix env events) (run_of mix env (events ++ event ∷ []))

  -- in every run each word has 64 bits
  abbrev pub WordsFit : Type 0
  WordsFit =
      (env : Env) (events : List Event) → IsAdmitted events
      → AllByRecursion IsWord (run_of {M = M} mix env events).core.words

  -- in every run a caller that isn't enrolled is in no call and has made none
  abbrev pub NotEnrolled : Type 0
  NotEnrolled =
      (env : Env) (events : List Event) → IsAdmitted events
      → let w : World M = run_of mix env events in
      (c : ℕ) → w.core.enrolled ≤ c → view_of w c ≡ record { local = fresh env; book = new_book }

  -- in every run each call that has ended has a reply of its kind
  abbrev pub Replies : Type 0
  Replies =
      (env : Env) (events : List Event) → IsAdmitted events
      → let w : World M = run_of mix env events in
      (c : ℕ) → AnswersIn env c (local_of w.core c) (w.books c)

  -- a run with its traces is that run, and each trace is that of its book
  pub record IsTraced (env : Env) (events : List Event) (r : Traced M) : Type 0 where
    pub world : r.world ≡ run_of mix env events
    pub count : r.count ≡ length events
    pub traces : (c : ℕ) → IsTraceOf (r.world.books c) (r.traces c)

  -- in every run the traces remember each call
  abbrev pub Remembers : Type 0
  Remembers =
      (env : Env) (events : List Event) → IsAdmitted events
      → IsTraced env events (traced_of mix env events)

  -- the step is one of the run's events; this caller planned its operation there, and it found its old
  -- value in the words that the events before it leave
  pub record IsRecorded (env : Env) (events : List Event) (c : ℕ) (did : Did) : Type 0 where
    pub event : slice_get events did.index ≡ Some (Step c)
    pub plan :
        let core : Core M = (run_of mix env (take did.index events)).core in
        planned_in core c ≡ Some did.op
    pub found : old_of (run_of {M = M} mix env (take did.index events)).core.words did.op ≡ did.old

  -- a past call was answered at its last step
  pub record IsAnsweredAt (env : Env) (events : List Event) (c : ℕ) (past : Past) : Type 0 where
    pub before : List Did
    pub last : Did
    pub steps_are : past.steps ≡ before ++ last ∷ []
    pub reply :
        let core : Core M = (run_of mix env (take last.index events)).core in
        (core_step mix core (Step c)).1.reply ≡ Some past.done.reply

  -- a past call began at its event, its steps are recorded, and the last one answered it
  pub record IsPastCall (env : Env) (events : List Event) (c : ℕ) (past : Past) : Type 0 where
    pub start : ℕ
    pub began : slice_get events past.begin ≡ Some (Begin c past.done.call start)
    pub steps : AllByRecursion (IsRecorded env events c) past.steps
    pub answered : IsAnsweredAt env events c past

  -- all that a trace says stands in the run at its event; calls don't overlap, and steps are in order
  pub record IsTraceAt (env : Env) (events : List Event) (c : ℕ) (call : Option Call) (trace : Trace) : Type 0 where
    pub past : AllByRecursion (IsPastCall env events c) trace.past
    pub in_order : AreInOrder 0 trace.past
    pub steps : AllByRecursion (IsRecorded env events c) trace.steps
    pub progress : IfSome call (IsInProgress events c trace)

  -- in every run the traces say what happened
  abbrev pub AtEvents : Type 0
  AtEvents =
      (env : Env) (events : List Event) → IsAdmitted events
      → let r : Traced M = traced_of mix env events in
      (c : ℕ) → IsTraceAt env events c (r.world.books c).call (r.traces c)

  -- how many calls of this caller have ended
  abbrev pub calls_ended : Env → List Event → ℕ → ℕ
  calls_ended env events c = length ((run_of {M = M} mix env events).books c).finished

  -- in every run each operation that a caller performed at an event stands in the trace of the call that it had in
  -- progress there, of which as many of its calls had ended before, and in that of no other call
  abbrev pub AllStepsTraced : Type 0
  AllStepsTraced =
      (env : Env) (events : List Event) (c : ℕ) (did : Did) → IsAdmitted events
      → IsRecorded env events c did
      → IsStepOfOne ((traced_of {M = M} mix env events).traces c) (calls_ended env (take did.index events) c) did

  -- in every run a bind or a rebind that has ended took one node, but for one that was answered that there was none, and
  -- no other call took one
  abbrev pub TakenAlone : Type 0
  TakenAlone =
      (env : Env) (events : List Event) → IsAdmitted events
      → let r : Traced M = traced_of mix env events in
      (c : ℕ) → AllByRecursion (λ past. IsTakenIn env.geometry past.done.call past.done.reply past.steps) (r.traces c).past
