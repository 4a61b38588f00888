-- The rule of the table: there is a run whose words these are, and in which each caller that a seat knows of is as the seat
-- says. Behind it stands what each kind of step makes of views.
use Rattle.std.specs.Prelude.{◌≡◌, ℕ, zero, suc, ◌+◌, ◌<◌, ◌≤◌, ◌⊎◌, true, false, Option, Some, None, List, [], ◌∷◌, ◌++◌, map}
use mathlib.Core.Option.{some}
use lib.ListN.{get_elem?}
use Rattle.atomic_table.specs.Table.{State}
use Rattle.rht_words.specs.declared.env.Env.{Env}
use Rattle.rht_words.specs.Places.{EnrolledCallers, word_at}
use Rattle.rht_model.specs.declared.history.Call.{Call}
use Rattle.rht_core.specs.declared.event.Event.{Event}
use Rattle.rht_core.specs.declared.book.Book.{Book}
use Rattle.rht_callers.specs.declared.local.Local.{Local}
use Rattle.rht_callers.specs.declared.local.Doing.{Doing}
use Rattle.rht_callers.specs.Batches.{IsBatchIn}
use Rattle.rht_core.specs.Locals.{fresh, is_idle, machine_of, begun_with}
use Rattle.rht_core.specs.Runs.{World, View, view_of, new_book, book_begun, run_of, IsAdmittedCall, IsAdmitted}
use Rattle.rht_core.specs.Laws.{view_stepped}
use Rattle.rht_run.specs.declared.seats.Held.{Held}
use Rattle.rht_run.specs.declared.seats.SeatView.{SeatView}
use Rattle.rht_run.specs.Layout.{IsLaidOut}
use Rattle.rht_run.specs.Spent.{plain_env}

module _ {M : Type 0} where
  -- the caller is one of these
  abbrev pub In : Held M → List (Held M) → Type 0
  In held [] = ⊥
  In held (other ∷ others) = (held ≡ other) ⊎ In held others

  -- what is held of a caller, without its number
  abbrev pub view_in : Held M → View M
  view_in held = record { local = held.local; book = held.book }

  -- a caller of this number that sees this of itself
  abbrev pub held_at : ℕ → View M → Held M
  held_at number view = record { number = number; local = view.local; book = view.book }

-- the run has an enrolled caller of this number, and that caller is so
pub record Shows {M : Type 0} (env : Env) (w : World M) (held : Held M) : Type 0 where
  pub below : held.number < env.geometry.callers
  pub enrolled : held.number < w.core.enrolled
  pub shown : view_of w held.number ≡ view_in held

-- a seat that knows this caller knows the table, and the run has the caller
pub record IsHeldIn {M : Type 0} (env : Env) (w : World M) (view : SeatView M) (held : Held M) : Type 0 where
  pub same_env : view.env ≡ env
  pub shows : Shows env w held

-- a seat that says how many numbers were drawn is the one that draws them, and so many callers are enrolled
pub record IsDrawer {M : Type 0} (env : Env) (enrolled drawer seat : ℕ) (view : SeatView M) (drawn : ℕ) : Type 0 where
  pub same_seat : seat ≡ drawer
  pub same_env : view.env ≡ env
  pub count : drawn ≡ enrolled
  pub few : drawn ≤ env.geometry.callers

-- The rule. One run has these words, where they lie apart, and all that any view says of callers. No caller is in two
-- views: it has one owner, the seat whose view has it. And one seat draws numbers.
pub record Holds {M : Type 0} (mix : ℕ → ℕ → ℕ → ℕ) (env : Env) (s : State (Unit {0}) (SeatView M)) : Type 0 where
  pub events : List Event
  pub admitted : IsAdmitted events
  pub words : IsLaidOut s.words (run_of {M = M} mix env events).core.words
  pub counted :
      let core = (run_of {M = M} mix env events).core in
      word_at env.geometry core.words EnrolledCallers ≡ core.enrolled
  pub shows : (seat : ℕ) (view : SeatView M) → get_elem? s.views seat ≡ some view
      → (held : Held M) → In held view.held → IsHeldIn env (run_of mix env events) view held
  pub owner : ℕ → ℕ
  pub owned : (seat : ℕ) (view : SeatView M) → get_elem? s.views seat ≡ some view
      → (held : Held M) → In held view.held → owner held.number ≡ seat
  pub drawer : ℕ
  pub drawn : (seat : ℕ) (view : SeatView M) → get_elem? s.views seat ≡ some view → (n : ℕ) → view.drawn ≡ Some n
      → IsDrawer env (run_of {M = M} mix env events).core.enrolled drawer seat view n

-- a caller can be given this call: it is in none, the numbers of the call are in range, and there is a machine for it
pub record MayBegin {M : Type 0} (env : Env) (c : ℕ) (call : Call) (local : Local M) : Type 0 where
  pub idle : is_idle local ≡ true
  pub admitted : IsAdmittedCall call
  pub machine : Doing M
  pub machine_is : machine_of env c local.batch call ≡ Some machine

-- the book where this call begins, if one does
abbrev pub book_then : Option Call → Book → Book
book_then None book = book
book_then (Some call) book = book_begun call book

module _ {M : Type 0} where
  -- the table has just been opened, and its first seat has drawn no number
  abbrev pub first_view : Env → SeatView M
  first_view env = record { env = env; held = []; drawn = Some 0 }

  -- one run with the table's config has all that the view says of callers
  pub record IsInRun (mix : ℕ → ℕ → ℕ → ℕ) (view : SeatView M) : Type 0 where
    pub events : List Event
    pub admitted : IsAdmitted events
    pub shows : (held : Held M) → In held view.held → Shows view.env (run_of mix view.env events) held

  -- ---- a step of a call

  -- the caller has a call to go on with, or can be given this one
  abbrev pub CanGo : Env → ℕ → Option Call → Local M → Type 0
  CanGo env c None local = is_idle local ≡ false
  CanGo env c (Some call) local = MayBegin env c call local

  -- where a call begins, its caller's room of owners may have one item a node, and it has its batch
  abbrev pub HasRoom : Env → Option Call → Local M → Type 0
  HasRoom env None local = Unit {0}
  HasRoom env (Some call) local =
      (local.owners.limit ≡ env.geometry.nodes) × (local.pairs.limit ≡ env.geometry.nodes) × IsBatchIn env local.batch

  -- the caller where this call begins, if one does
  abbrev pub local_then : Env → ℕ → Option Call → Local M → Local M
  local_then env c None local = local
  local_then env c (Some call) local = begun_with local (machine_of env c local.batch call)

  abbrev pub view_then : Env → ℕ → Option Call → View M → View M
  view_then env c begins view =
      record { local = local_then env c begins view.local; book = book_then begins view.book }

  abbrev pub held_then : Env → Option Call → Held M → Held M
  held_then env begins held = held_at held.number (view_then env held.number begins (view_in held))

  -- and once its operation has found this word
  abbrev pub held_stepped : (ℕ → ℕ → ℕ → ℕ) → ℕ → Held M → Held M
  held_stepped mix old held = held_at held.number (view_stepped mix old (view_in held))

  abbrev pub begun : Option Call → SeatView M → SeatView M
  begun begins view = record view { held = map (held_then view.env begins) view.held }

  abbrev pub stepped : (ℕ → ℕ → ℕ → ℕ) → ℕ → SeatView M → SeatView M
  stepped mix old view = record view { held = map (held_stepped mix old) view.held }

  -- a step of the call in progress, or the first one of a call that begins: the view is changed by the old word, and is so in
  -- one run
  pub record Went (mix : ℕ → ℕ → ℕ → ℕ) (begins : Option Call) (view : SeatView M) (old : ℕ) (after : SeatView M)
      : Type 0 where
    pub same : after ≡ stepped mix old (begun begins view)
    pub in_run : IsInRun mix after

  -- ---- opening

  -- a caller that has made no call
  abbrev pub idle_held : Env → ℕ → Held M
  idle_held env n = record { number = n; local = fresh env; book = new_book }

  abbrev pub drew : ℕ → SeatView M → SeatView M
  drew n view = record { env = view.env; held = idle_held view.env n ∷ view.held; drawn = Some (n + 1) }

  -- a number was drawn, which the seat had said before
  pub record Drew (mix : ℕ → ℕ → ℕ → ℕ) (view : SeatView M) (n : ℕ) (after : SeatView M) : Type 0 where
    pub same : after ≡ drew n view
    pub said : view.drawn ≡ Some n
    pub in_run : IsInRun mix after

  -- the callers below n, the last one first; each has made no call
  abbrev pub drawn_held : Env → ℕ → List (Held M)
  drawn_held env zero = []
  drawn_held env (suc n) = idle_held env n ∷ drawn_held env n

  -- the first seat once so many numbers were drawn, where it still has so many
  abbrev pub opening_view : Env → ℕ → ℕ → SeatView M
  opening_view env held drawn = record { env = env; held = drawn_held env held; drawn = Some drawn }

  abbrev pub others : List (Held M) → List (Held M)
  others [] = []
  others (held ∷ rest) = rest

  abbrev pub newest : List (Held M) → List (Held M)
  newest [] = []
  newest (held ∷ rest) = held ∷ []

  -- a view cut in two: the newest caller goes to the second one
  abbrev pub split_left : SeatView M → SeatView M
  split_left view = record view { held = others view.held }

  abbrev pub split_right : SeatView M → SeatView M
  split_right view = record { env = view.env; held = newest view.held; drawn = None }

-- ---- closing

-- how many numbers were drawn, by one of two
abbrev pub either_drawn : Option ℕ → Option ℕ → Option ℕ
either_drawn None drawn = drawn
either_drawn (Some n) drawn = Some n

module _ {M : Type 0} where
  -- what two seats know, in one view
  abbrev pub joined : SeatView M → SeatView M → SeatView M
  joined view other =
      record { env = view.env; held = view.held ++ other.held; drawn = either_drawn view.drawn other.drawn }

-- the view of a seat whose callers another one has taken in
abbrev pub spent_view : (M : Type 0) → SeatView M
spent_view M = record { env = plain_env; held = []; drawn = None }
