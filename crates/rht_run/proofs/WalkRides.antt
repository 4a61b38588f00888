-- A walk that is driven from outside its pass goes as its caller does in the run, and ends. While it goes on its caller has no room of
-- pairs; behind it the caller has the walk's room.
use Rattle.std.proofs.Common.{◌≡◌, ℕ, ◌≤◌, ◌++◌, refl, sym, ap, ◌∙◌, subst}
use Rattle.std.specs.Prelude.{Option, Some, None}
use Rattle.atomic_table.specs.declared.shared.Seat.{Seat}
use Rattle.rht_words.specs.declared.machine.Next.{Next}
use Rattle.rht_words.specs.declared.machine.Next.TheVariants.{Go, Done}
use Rattle.rht_model.specs.declared.history.Call.TheVariants.{Walk}
use Rattle.rht_model.specs.declared.history.Cursor.{Cursor}
use Rattle.rht_model.specs.declared.history.Reply.{Reply}
use Rattle.rht_walk.specs.Walk.{Pairs, WalkModel, walk_after}
use Rattle.rht_walk.specs.WalkLaws.{walk_bound}
use Rattle.rht_walk.specs.declared.walk.WalkAt.{WalkAt}
use Rattle.rht_callers.specs.declared.local.Local.{Local}
use Rattle.rht_callers.specs.declared.local.Doing.{Doing}
use Rattle.rht_callers.specs.declared.local.Doing.TheVariants.{Walking}
use Rattle.rht_core.specs.declared.book.Book.{Book}
use Rattle.rht_core.specs.Locals.{doing_next, pairs_given, ending_of}
use Rattle.rht_core.specs.Runs.{book_after, finished_with}
use Rattle.rht_run.specs.declared.seats.SeatView.{SeatView}
use Rattle.rht_run.specs.declared.table.Table.{Table}
use Rattle.rht_run.specs.declared.pass.Pass.{Pass}
use Rattle.rht_run.specs.declared.walking.Walker.{Walker}
use Rattle.rht_run.specs.Rule.{Went}
use Rattle.rht_run.specs.Passes.{IsSameSeat, IsPassOf, book_in}
use Rattle.rht_run.specs.Rides.{Riding, riding_pass, steps_in, IsRiding}
use Rattle.rht_run.specs.Walking.{WalkStepped, WalksTo}
use Rattle.rht_run.proofs.Performed.{still}
use Rattle.rht_run.proofs.ShortCalls.{walk_ends}
use Rattle.rht_run.proofs.Rides.{riding_range, book_now}

module _ {M : Type 0} (mix : ℕ → ℕ → ℕ → ℕ) (t : Table M) (r : Riding) where
  -- what the caller has behind an operation of a walk that leaves this
  abbrev left_by : WalkModel × Next Reply → Local M × Option Reply
  left_by next =
      let doing : Doing M × Option Reply = doing_next Walking next in
      (record { doing = doing.0; owners = r.owners; pairs = pairs_given next r.pairs; batch = r.batch; held = r.over }, doing.1)

  -- by what the pass would be that had the caller, and by its book
  by_next : (next : WalkModel × Next Reply) (seat seat' : Seat (Unit {0}) (SeatView M)) (m : WalkModel) → IsRiding mix t r (Walking m) seat
      → IsPassOf mix t record { seat = seat'; number = r.number; local = (left_by next).0 }
      → book_in seat'.me.0.held ≡ book_after (ending_of (left_by next).0 (left_by next).1) (book_in seat.me.0.held)
      → WalkStepped mix t r next seat seat'
  by_next (m', Go) seat seat' m is pass book = record {
    riding = record {
      pass = pass;
      call = ap (λ (b : Book). b.call) book ∙ is.call;
      finished = ap (λ (b : Book). b.finished) book ∙ is.finished;
      in_range = riding_range mix t r (Walking m') seat' pass;
    };
    counted = ap (λ (b : Book). b.steps) book;
  }
  by_next (m', Done reply) seat seat' m is pass book = record {
    pass = pass;
    finished = ap (λ (b : Book). b.finished) book
        ∙ (λ i. is.finished i ++ finished_with (is.call i) record {
          answer = record { reply = reply; owners = r.owners.items };
          pairs = m'.room.items;
        });
  }

  -- an operation of the walk
  pub walk_stepped : (m : WalkModel) (seat seat' : Seat (Unit {0}) (SeatView M)) (old : ℕ) → IsRiding mix t r (Walking m) seat
      → IsSameSeat seat seat' → Went mix None seat.me.0 old seat'.me.0 → WalkStepped mix t r (walk_after m old) seat seat'
  walk_stepped m seat seat' old is same went =
      let p : Pass M = riding_pass r (Walking m) seat in
      let left : Local M × Option Reply = left_by (walk_after m old) in
      let all = still mix t p record { seat = seat'; number = r.number; local = left.0 } None old left.1 is.pass same went refl refl in
      by_next (walk_after m old) seat seat' m is all.0 (book_now mix t r p None seat' old is.pass went)

  -- what a walk has come to, by other names
  pub comes_to : (walker : Walker) (room room' : Pairs) (state state' : WalkAt) (before after after' : Seat (Unit {0}) (SeatView M))
      → after' ≡ after → room' ≡ room → state' ≡ state → WalksTo mix t r walker room state before after
      → WalksTo mix t r walker room' state' before after'
  comes_to walker room room' state state' before after after' seats rooms states is =
      subst (λ (now : Pairs × WalkAt × Seat (Unit {0}) (SeatView M)). WalksTo mix t r walker now.0 now.1 before now.2)
      (λ i. (sym rooms i, sym states i, sym seats i)) is

  -- a walk has made no more operations than its bound
  pub walk_within : (from : Option Cursor) (limit : ℕ) (m : WalkModel) (seat : Seat (Unit {0}) (SeatView M)) → r.call ≡ Walk from limit
      → IsRiding mix t r (Walking m) seat → steps_in seat ≤ walk_bound t.env.geometry 262144
  walk_within from limit m seat walks is =
      let p : Pass M = riding_pass r (Walking m) seat in
      let book : Book = book_in seat.me.0.held in
      walk_ends mix t from limit book.steps p p record {
        pass = is.pass;
        same = record { table = refl; number = refl };
        busy = refl;
        book = λ i. record { call = (is.call ∙ ap Some walks) i; steps = book.steps; finished = book.finished };
      }
