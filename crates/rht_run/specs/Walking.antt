-- A walk that is driven from outside its pass. Until its call ends it has its caller's room of pairs.
use Rattle.std.specs.Prelude.{◌≡◌, ℕ, ◌+◌, ◌<◌}
use Rattle.atomic_table.specs.declared.shared.Seat.{Seat}
use Rattle.rht_words.specs.declared.machine.Next.{Next}
use Rattle.rht_words.specs.declared.machine.Next.TheVariants.{Go, Done}
use Rattle.rht_model.specs.declared.history.Call.{Call}
use Rattle.rht_model.specs.declared.history.Reply.{Reply}
use Rattle.rht_callers.specs.declared.local.Doing.TheVariants.{Walking}
use Rattle.rht_walk.specs.Walk.{Pairs, WalkModel}
use Rattle.rht_walk.specs.declared.walk.WalkAt.{WalkAt}
use Rattle.rht_walk.specs.declared.walk.WalkAt.TheVariants as at
use Rattle.rht_run.specs.declared.seats.SeatView.{SeatView}
use Rattle.rht_run.specs.declared.table.Table.{Table}
use Rattle.rht_run.specs.declared.walking.Walker.{Walker}
use Rattle.rht_run.specs.Passes.{book_in}
use Rattle.rht_run.specs.Rides.{Riding, owners_in, pairs_in, batch_in, over_in, IsRiding, HasEnded, steps_in}

-- what stays as it is in a walk that the seat's caller has begun: its room of owners is empty, and it has none of pairs
abbrev pub walk_riding : {M : Type 0} → ℕ → Call → Seat (Unit {0}) (SeatView M) → Riding
walk_riding number call seat = record {
  number = number;
  call = call;
  finished = (book_in seat.me.0.held).finished;
  owners = owners_in seat.me.0.held;
  pairs = pairs_in seat.me.0.held;
  batch = batch_in seat.me.0.held;
  over = over_in seat.me.0.held;
}

-- the caller has got its room back, with these pairs
abbrev pub with_pairs : Riding → Pairs → Riding
with_pairs r room = record r { pairs = room }

-- the walk goes on so, and has made one operation more
pub record WalksOn {M : Type 0} (mix : ℕ → ℕ → ℕ → ℕ) (t : Table M) (r : Riding) (walk : WalkModel)
    (before after : Seat (Unit {0}) (SeatView M))
    : Type 0 where
  pub riding : IsRiding mix t r (Walking walk) after
  pub counted : steps_in after ≡ steps_in before + 1

-- after an operation of a walk: it goes on, or its call has ended with this reply
abbrev pub WalkStepped : {M : Type 0} → (ℕ → ℕ → ℕ → ℕ) → Table M → Riding → WalkModel × Next Reply
    → Seat (Unit {0}) (SeatView M) → Seat (Unit {0}) (SeatView M) → Type 0
WalkStepped mix t r (walk, Go) before after = WalksOn mix t r walk before after
WalkStepped mix t r (walk, Done reply) before after = HasEnded mix t (with_pairs r walk.room) reply after

-- ---- the states between which it is driven

-- the walk in this state, with these pairs kept
abbrev pub walk_now : Walker → Pairs → WalkAt → WalkModel
walk_now walker room at =
    record { env = walker.env; caller = walker.number; from = walker.from; limit = walker.limit; room = room; at = at }

-- a round begins here: at an entry on the way to a bucket, at the bucket's word or at a node, behind the strange end of a chain or the
-- last bucket; or the section is closed
abbrev pub IsRound : WalkAt → Type 0
IsRound at.Opening = ⊥
IsRound at.CurrentTable = ⊥
IsRound (at.Serial table) = ⊥
IsRound (at.Shape table serial) = ⊥
IsRound (at.Entry visit way) = Unit {0}
IsRound (at.Heading visit place) = Unit {0}
IsRound (at.Key chain node) = Unit {0}
IsRound (at.Owner chain node port) = ⊥
IsRound (at.Link chain node) = ⊥
IsRound (at.StrangeEnd visit) = Unit {0}
IsRound (at.TableEnd table) = Unit {0}
IsRound (at.Closing end) = Unit {0}

-- by an operation or more the walk has come to this state, at which a round begins, with these pairs kept
pub record WalksTo {M : Type 0} (mix : ℕ → ℕ → ℕ → ℕ) (t : Table M) (r : Riding) (walker : Walker) (room : Pairs) (state : WalkAt)
    (before after : Seat (Unit {0}) (SeatView M))
    : Type 0 where
  pub riding : IsRiding mix t r (Walking (walk_now walker room state)) after
  pub round : IsRound state
  pub more : steps_in before < steps_in after
