-- What clauses say of a table and its passes.
use Rattle.std.specs.Prelude.{◌≡◌, ℕ, ◌+◌, ◌≤◌, ◌⊎◌, true, false, Option, Some, MatchOption, List, [], ◌∷◌, ◌++◌, length}
use Rattle.atomic_table.specs.declared.shared.Seat.{Seat}
use Rattle.rht_words.specs.declared.op.Op.{Op}
use Rattle.rht_words.specs.declared.env.Env.{Env}
use Rattle.rht_words.specs.Places.{words_in}
use Rattle.rht_words.specs.Planned.{IsPlannedIn}
use Rattle.rht_model.specs.declared.bindings.Closed.{Closed}
use Rattle.rht_model.specs.declared.history.Call.{Call}
use Rattle.rht_model.specs.declared.history.Reply.{Reply}
use Rattle.rht_core.specs.declared.event.Event.{Event}
use Rattle.rht_core.specs.declared.book.Book.{Book}
use Rattle.rht_core.specs.Closing.{IsClosedOf}
use Rattle.rht_core.specs.Locals.{fresh, is_idle, plan_of, local_after}
use Rattle.rht_core.specs.Runs.{View, new_book, run_of, IsAdmitted}
use Rattle.rht_core.specs.Laws.{view_stepped}
use Rattle.rht_run.specs.declared.seats.Held.{Held}
use Rattle.rht_run.specs.declared.seats.SeatView.{SeatView}
use Rattle.rht_run.specs.declared.table.Table.{Table}
use Rattle.rht_run.specs.declared.pass.Pass.{Pass}
use Rattle.rht_run.specs.Layout.{gaps, IsLaidOut}
use Rattle.rht_run.specs.Rule.{In, Shows, IsInRun, CanGo, held_at, held_then, local_then, view_then, opening_view}

-- the table's words are those of its config, and the rule speaks of that config
pub record IsFit {M : Type 0} (t : Table M) : Type 0 where
  pub key : t.words.shared.key ≡ t.env
  pub count : t.words.shared.table_id.words ≡ words_in t.env.geometry + gaps
  pub slots : t.words.shared.table_id.slots ≡ 0

-- the seat is one of the table's and has one caller, and this is the operation that this caller plans
pub record CanPerform {M : Type 0} (begins : Option Call) (t : Table M) (seat : Seat (Unit {0}) (SeatView M)) (op : Op)
    : Type 0 where
  pub fit : IsFit t
  pub table : seat.table_id ≡ t.words.shared.table_id
  pub same_env : seat.me.0.env ≡ t.env
  pub held : Held M
  pub one : seat.me.0.held ≡ held ∷ []
  pub can : CanGo seat.me.0.env held.number begins held.local
  pub plan : plan_of (held_then seat.me.0.env begins held).local ≡ Some op
  pub range : IsPlannedIn t.env.geometry op

-- the seat has stayed in its table
pub record IsSameSeat {M : Type 0} (old new : Seat (Unit {0}) (SeatView M)) : Type 0 where
  pub table : new.table_id ≡ old.table_id
  pub slots : new.me.1 ≡ old.me.1

module _ {M : Type 0} where
  -- the book of a seat's only caller
  abbrev pub book_in : List (Held M) → Book
  book_in [] = new_book
  book_in (held ∷ rest) = held.book

  -- the calls of the pass's number
  abbrev pub book_of : Pass M → Book
  book_of pass = book_in pass.seat.me.0.held

  -- what the pass's number sees of itself
  abbrev pub seen_by : Pass M → View M
  seen_by pass = record { local = pass.local; book = book_of pass }

-- the pass is one of the table's; it has its number, and in one run with the table's config that number has the local and the
-- calls of the pass
pub record IsPassOf {M : Type 0} (mix : ℕ → ℕ → ℕ → ℕ) (t : Table M) (pass : Pass M) : Type 0 where
  pub fit : IsFit t
  pub table : pass.seat.table_id ≡ t.words.shared.table_id
  pub slots : pass.seat.me.1 ≡ []
  pub same_env : pass.seat.me.0.env ≡ t.env
  pub held : pass.seat.me.0.held ≡ held_at pass.number (seen_by pass) ∷ []
  pub in_run : IsInRun mix pass.seat.me.0

-- the pass is of the table that it was of, and has the same number
pub record IsSamePass {M : Type 0} (old new : Pass M) : Type 0 where
  pub table : new.seat.table_id ≡ old.seat.table_id
  pub number : new.number ≡ old.number

-- the operation that the pass has made, by the old word that it found
pub record HasGone {M : Type 0} (mix : ℕ → ℕ → ℕ → ℕ) (t : Table M) (begins : Option Call) (pass : Pass M)
    (reply : Option Reply) (after : Pass M)
    : Type 0 where
  pub old : ℕ
  pub seen : seen_by after ≡ view_stepped mix old (view_then t.env pass.number begins (seen_by pass))
  pub replied : reply ≡ (local_after mix (local_then t.env pass.number begins pass.local) old).1

-- the pass is in this call, and has made so many operations of it, since it was as `before`
pub record IsCalling {M : Type 0} (mix : ℕ → ℕ → ℕ → ℕ) (t : Table M) (call : Call) (steps : ℕ) (before now : Pass M)
    : Type 0 where
  pub pass : IsPassOf mix t now
  pub same : IsSamePass before now
  pub busy : is_idle now.local ≡ false
  pub book :
      book_of now ≡ record { call = Some call; steps = steps; finished = (book_of before).finished }

-- the pass is in no call, and its finished calls are those of `before` and this one, with its answer and its lists
pub record HasCalled {M : Type 0} (mix : ℕ → ℕ → ℕ → ℕ) (t : Table M) (call : Call) (reply : Reply) (before now : Pass M)
    : Type 0 where
  pub pass : IsPassOf mix t now
  pub same : IsSamePass before now
  pub idle : is_idle now.local ≡ true
  pub finished :
      (book_of now).finished
      ≡ (book_of before).finished
      ++ record { call = call; reply = reply; owners = now.local.owners.items; pairs = now.local.pairs.items } ∷ []

-- a pass that is in this call has made no more operations of it than so many
abbrev pub EndsWithin : {M : Type 0} → (ℕ → ℕ → ℕ → ℕ) → Table M → Call → ℕ → Type 0
EndsWithin {M} mix t call most = (steps : ℕ) (before now : Pass M) → IsCalling mix t call steps before now → steps ≤ most

-- an operation of the call has ended it, with this reply, or the call goes on
abbrev pub Turned : {M : Type 0} → (ℕ → ℕ → ℕ → ℕ) → Table M → Call → ℕ → Pass M → Option Reply → Pass M → Type 0
Turned mix t call steps before reply now =
    MatchOption reply (IsCalling mix t call steps before now) (λ answer. HasCalled mix t call answer before now)

-- the pass has made some operations of this call, from its first one on: they ended it with this reply, or the pass is in the middle of it
pub record HasSetOut {M : Type 0} (mix : ℕ → ℕ → ℕ → ℕ) (t : Table M) (call : Call) (before : Pass M) (reply : Option Reply)
    (now : Pass M)
    : Type 0 where
  pub steps : ℕ
  pub turned : Turned mix t call steps before reply now

-- ---- opening

-- the first seat has drawn so many numbers, and still has those below `held`
pub record IsOpening {M : Type 0} (mix : ℕ → ℕ → ℕ → ℕ) (t : Table M) (held drawn : ℕ)
    (seat : Seat (Unit {0}) (SeatView M))
    : Type 0 where
  pub fit : IsFit t
  pub table : seat.table_id ≡ t.words.shared.table_id
  pub slots : seat.me.1 ≡ []
  pub view : seat.me.0 ≡ opening_view t.env held drawn
  pub in_run : IsInRun mix seat.me.0

-- a pass of the table with this number, which has made no call
pub record IsNew {M : Type 0} (mix : ℕ → ℕ → ℕ → ℕ) (t : Table M) (n : ℕ) (given : Pass M) : Type 0 where
  pub pass : IsPassOf mix t given
  pub number : given.number ≡ n
  pub local : given.local ≡ fresh t.env
  pub book : book_of given ≡ new_book

module _ {M : Type 0} where
  -- such passes with the numbers from this one on
  abbrev pub AreNew : (ℕ → ℕ → ℕ → ℕ) → Table M → ℕ → List (Pass M) → Type 0
  AreNew mix t n [] = Unit {0}
  AreNew mix t n (pass ∷ passes) = IsNew mix t n pass × AreNew mix t (n + 1) passes

  -- ---- closing

  -- the pass is one of these
  abbrev pub Among : Pass M → List (Pass M) → Type 0
  Among pass [] = ⊥
  Among pass (other ∷ passes) = (pass ≡ other) ⊎ Among pass passes

  -- the seat has all that these passes had
  abbrev pub HasTaken : List (Pass M) → Seat (Unit {0}) (SeatView M) → Type 0
  HasTaken taken seat = (pass : Pass M) → Among pass taken → In (held_at pass.number (seen_by pass)) seat.me.0.held

  -- one run with this config ends in these words, and in it the number of each of the passes has the local and the calls of
  -- the pass
  pub record IsEnd (mix : ℕ → ℕ → ℕ → ℕ) (env : Env) (passes : List (Pass M)) (words : List ℕ) : Type 0 where
    pub events : List Event
    pub admitted : IsAdmitted events
    pub words_are : (run_of {M = M} mix env events).core.words ≡ words
    pub shows : (pass : Pass M) → Among pass passes
        → Shows env (run_of mix env events) (held_at pass.number (seen_by pass))

  -- such words lie here
  pub record IsLaidEnd (mix : ℕ → ℕ → ℕ → ℕ) (env : Env) (passes : List (Pass M)) (laid : List ℕ) : Type 0 where
    pub words : List ℕ
    pub lie : IsLaidOut laid words
    pub count : length words ≡ words_in env.geometry
    pub end : IsEnd mix env passes words

  -- what was closed is what such words say
  pub record IsClosedWith (mix : ℕ → ℕ → ℕ → ℕ) (env : Env) (passes : List (Pass M)) (closed : Closed) : Type 0 where
    pub words : List ℕ
    pub end : IsEnd mix env passes words
    pub closed_of : IsClosedOf env.geometry words closed
