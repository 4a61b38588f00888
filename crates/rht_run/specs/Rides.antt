-- A call that is driven from outside its pass: the seat's view has what the caller does, and no machine of the call is kept.
use Rattle.std.specs.Prelude.{◌≡◌, ℕ, ◌+◌, Bool, true, false, Option, Some, None, Result, Ok, Err, List, [], ◌∷◌, ◌++◌}
use Rattle.atomic_table.specs.declared.shared.Seat.{Seat}
use Rattle.rht_words.specs.declared.machine.Next.{Next}
use Rattle.rht_words.specs.declared.machine.Next.TheVariants.{Go, Done}
use Rattle.rht_model.specs.declared.history.Call.{Call}
use Rattle.rht_model.specs.declared.history.Call.TheVariants.{Count}
use Rattle.rht_model.specs.declared.history.Reply.{Reply}
use Rattle.rht_model.specs.declared.history.Reply.TheVariants.{Found, Missing, Released, Absent}
use Rattle.rht_model.specs.declared.finished.Finished.{Finished}
use Rattle.rht_model.specs.Rooms.{Kept, emptied, no_room}
use Rattle.rht_callers.specs.declared.local.Local.{Local}
use Rattle.rht_callers.specs.declared.local.Doing.{Doing}
use Rattle.rht_callers.specs.declared.local.Doing.TheVariants.{Idle, Finding, Binding, Listing, Releasing, Rebinding, Working, Counting, Tidying, Walking}
use Rattle.rht_callers.specs.Batches.{with_out}
use Rattle.rht_callers.specs.PortCounts.{count_after}
use Rattle.rht_grace.specs.Batch.{BatchModel}
use Rattle.rht_grace.specs.Tidy.{tidy_after}
use Rattle.rht_walk.specs.Walk.{walk_after}
use Rattle.rht_find.specs.Find.{find_after}
use Rattle.rht_bind.specs.Bind.{bind_after}
use Rattle.rht_release.specs.All.{all_after}
use Rattle.rht_release.specs.Release.{release_after}
use Rattle.rht_release.specs.Rebind.{rebind_after}
use Rattle.rht_move.specs.Work.{work_after}
use Rattle.rht_core.specs.Locals.{is_idle}
use Rattle.rht_core.specs.Laws.{IsDoingIn}
use Rattle.rht_run.specs.declared.seats.Held.{Held}
use Rattle.rht_run.specs.declared.seats.SeatView.{SeatView}
use Rattle.rht_run.specs.declared.table.Table.{Table}
use Rattle.rht_run.specs.declared.pass.Pass.{Pass}
use Rattle.rht_run.specs.Passes.{IsPassOf, book_in}

-- what stays as it is while a call is driven: the caller, the call, the calls before it, the caller's rooms, which are empty, its batch, and
-- whether it holds its section open
pub record Riding : Type 0 where
  pub number : ℕ
  pub call : Call
  pub finished : List Finished
  pub owners : Kept ℕ
  pub pairs : Kept (ℕ × ℕ)
  pub batch : Option BatchModel
  pub over : Bool

-- a call that is never driven
abbrev pub any_riding : Riding
any_riding = record { number = 0; call = Count; finished = []; owners = no_room; pairs = no_room; batch = None; over = false }

-- a batch behind a call that took this node out, or none
abbrev pub batch_with : Option BatchModel → Option ℕ → Option BatchModel
batch_with batch None = batch
batch_with batch (Some node) = with_out batch (Some node)

-- and a caller's
abbrev pub handed : Riding → Option ℕ → Riding
handed r removed = record r { batch = batch_with r.batch removed }

module _ {M : Type 0} where
  abbrev pub owners_in : List (Held M) → Kept ℕ
  owners_in [] = no_room
  owners_in (held ∷ rest) = held.local.owners

  abbrev pub pairs_in : List (Held M) → Kept (ℕ × ℕ)
  pairs_in [] = no_room
  pairs_in (held ∷ rest) = held.local.pairs

  abbrev pub batch_in : List (Held M) → Option BatchModel
  batch_in [] = None
  batch_in (held ∷ rest) = held.local.batch

  abbrev pub over_in : List (Held M) → Bool
  over_in [] = false
  over_in (held ∷ rest) = held.local.held

  -- how many operations the seat's only caller has made in its call
  abbrev pub steps_in : Seat (Unit {0}) (SeatView M) → ℕ
  steps_in seat = (book_in seat.me.0.held).steps

  -- what stays in a call that begins with this seat
  abbrev pub riding_of : ℕ → Call → Seat (Unit {0}) (SeatView M) → Riding
  riding_of number call seat = record {
    number = number;
    call = call;
    finished = (book_in seat.me.0.held).finished;
    owners = emptied (owners_in seat.me.0.held);
    pairs = emptied (pairs_in seat.me.0.held);
    batch = batch_in seat.me.0.held;
    over = over_in seat.me.0.held;
  }

  -- the caller, which does this
  abbrev pub riding_local : Riding → Doing M → Local M
  riding_local r doing = record { doing = doing; owners = r.owners; pairs = r.pairs; batch = r.batch; held = r.over }

  -- and a pass that has it
  abbrev pub riding_pass : Riding → Doing M → Seat (Unit {0}) (SeatView M) → Pass M
  riding_pass r doing seat = record { seat = seat; number = r.number; local = riding_local r doing }

-- the caller of the seat is in no call, and has these calls behind it
pub record IsBefore {M : Type 0} (mix : ℕ → ℕ → ℕ → ℕ) (t : Table M) (r : Riding) (seat : Seat (Unit {0}) (SeatView M))
    : Type 0 where
  pub local : Local M
  pub pass : IsPassOf mix t record { seat = seat; number = r.number; local = local }
  pub idle : is_idle local ≡ true
  pub owners : emptied local.owners ≡ r.owners
  pub pairs : emptied local.pairs ≡ r.pairs
  pub batch : local.batch ≡ r.batch
  pub over : local.held ≡ r.over
  pub finished : (book_in seat.me.0.held).finished ≡ r.finished

-- the caller of the seat is in the call, and does this
pub record IsRiding {M : Type 0} (mix : ℕ → ℕ → ℕ → ℕ) (t : Table M) (r : Riding) (doing : Doing M)
    (seat : Seat (Unit {0}) (SeatView M))
    : Type 0 where
  pub pass : IsPassOf mix t (riding_pass r doing seat)
  pub call : (book_in seat.me.0.held).call ≡ Some r.call
  pub finished : (book_in seat.me.0.held).finished ≡ r.finished
  pub in_range : IsDoingIn t.env r.number doing

-- the call has ended with this reply, this node is in its caller's batch where it took one out, and the caller does this
pub record IsEnded {M : Type 0} (mix : ℕ → ℕ → ℕ → ℕ) (t : Table M) (r : Riding) (doing : Doing M) (reply : Reply)
    (removed : Option ℕ)
    (seat : Seat (Unit {0}) (SeatView M))
    : Type 0 where
  pub pass : IsPassOf mix t (riding_pass (handed r removed) doing seat)
  pub finished :
      (book_in seat.me.0.held).finished
      ≡ r.finished ++ record { call = r.call; reply = reply; owners = r.owners.items; pairs = r.pairs.items } ∷ []

-- the call has ended with this reply and took no node out, and the caller is in no call
abbrev pub HasEnded : {M : Type 0} → (ℕ → ℕ → ℕ → ℕ) → Table M → Riding → Reply → Seat (Unit {0}) (SeatView M) → Type 0
HasEnded mix t r reply seat = IsEnded mix t r Idle reply None seat

-- and where it may have taken one out: this one, or none
abbrev pub HasEndedWith : {M : Type 0} → (ℕ → ℕ → ℕ → ℕ) → Table M → Riding → Reply → Option ℕ
    → Seat (Unit {0}) (SeatView M) → Type 0
HasEndedWith mix t r reply removed seat = IsEnded mix t r Idle reply removed seat

-- the reply of a look-up that has come to this
abbrev pub looked_up : Option ℕ → Reply
looked_up None = Missing
looked_up (Some owner) = Found owner

-- and what it has come to, in its reply; any other reply counts as `Missing`
abbrev pub owner_in : Reply → Option ℕ
owner_in (Found owner) = Some owner
owner_in _ = None

-- the reply of a release that has taken a binding out, with a kick or without one, or has found none
abbrev pub released : Option Bool → Reply
released None = Absent
released (Some kick) = Released kick

-- after an operation: what the caller does, and where the call has ended, its reply and the node that it took out
abbrev pub Stepped : {M : Type 0} → (ℕ → ℕ → ℕ → ℕ) → Table M → Riding → Doing M × Option (Reply × Option ℕ)
    → Seat (Unit {0}) (SeatView M) → Type 0
Stepped mix t r (doing, None) seat = IsRiding mix t r doing seat
Stepped mix t r (doing, Some end) seat = IsEnded mix t r doing end.0 end.1 seat

-- an operation behind which the call goes on is one more of its operations
abbrev pub HasCounted : {M : Type 0} → Seat (Unit {0}) (SeatView M) → Option Reply → Seat (Unit {0}) (SeatView M) → Type 0
HasCounted before None after = steps_in after ≡ steps_in before + 1
HasCounted before (Some reply) after = Unit {0}

-- while a piece goes on the caller does what holds it, and once the piece has answered, what comes behind that
abbrev pub piece_next : {M P A : Type 0} → (P → Doing M) → (A → Doing M × Option (Reply × Option ℕ)) → P × Next A
    → Doing M × Option (Reply × Option ℕ)
piece_next holding behind (piece, Go) = (holding piece, None)
piece_next holding behind (piece, Done answer) = behind answer

-- straight code has brought a piece to its answer, or left it in the state that it answers
abbrev pub come_to : {M P A : Type 0} → (P → Doing M) → (A → Doing M × Option (Reply × Option ℕ)) → Result A P
    → Doing M × Option (Reply × Option ℕ)
come_to holding behind (Ok answer) = behind answer
come_to holding behind (Err piece) = (holding piece, None)

module _ {M : Type 0} where
  -- behind its end a call's caller is in none; most calls end with a reply alone
  abbrev pub ended : Reply × Option ℕ → Doing M × Option (Reply × Option ℕ)
  ended end = (Idle, Some end)

  abbrev pub replied : Reply → Doing M × Option (Reply × Option ℕ)
  replied reply = ended (reply, None)

  -- what a caller does after its operation found this value, and how its call has ended, where it has: `doing_after`, with
  -- the node that the call took out beside its reply
  abbrev pub driven : (ℕ → ℕ → ℕ → ℕ) → Doing M → ℕ → Doing M × Option (Reply × Option ℕ)
  driven mix Idle old = (Idle, None)
  driven mix (Finding m) old = piece_next Finding replied (find_after mix m old)
  driven mix (Binding m) old = piece_next Binding replied (bind_after mix m old)
  driven mix (Listing m) old = piece_next Listing replied (all_after mix m old)
  driven mix (Releasing m) old = piece_next Releasing ended (release_after mix m old)
  driven mix (Rebinding m) old = piece_next Rebinding ended (rebind_after mix m old)
  driven mix (Working m) old = piece_next Working replied (work_after mix m old)
  driven mix (Counting m) old = piece_next Counting replied (count_after m old)
  driven mix (Tidying m) old = piece_next Tidying replied (tidy_after m old)
  driven mix (Walking m) old = piece_next Walking replied (walk_after m old)
