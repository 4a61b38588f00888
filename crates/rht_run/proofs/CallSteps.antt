-- From one operation to a call: an operation ends the call exactly where it has a reply, and a finished call has a reply of its
-- kind with the lists that come with it.
use Rattle.std.proofs.Common.{◌≡◌, ℕ, ◌+◌, true, cond, List, [], ◌∷◌, ◌++◌, refl, sym, ap, ◌∙◌, subst}
use Rattle.std.specs.Prelude.{Option, Some, None}
use Rattle.std.specs.List.{AllByRecursion, last_or}
use Rattle.atomic_table.specs.declared.shared.Seat.{Seat}
use Rattle.rht_model.specs.declared.history.Call.{Call}
use Rattle.rht_model.specs.declared.history.Reply.{Reply}
use Rattle.rht_model.specs.declared.history.Reply.TheVariants.{Found, Missing}
use Rattle.rht_model.specs.declared.finished.Finished.{Finished}
use Rattle.rht_core.specs.declared.book.Book.{Book}
use Rattle.rht_callers.specs.declared.local.Local.{Local}
use Rattle.rht_callers.specs.declared.local.Doing.TheVariants.{Idle}
use Rattle.rht_core.specs.Locals.{is_idle, local_after, ending_of}
use Rattle.rht_core.specs.Runs.{View, book_after}
use Rattle.rht_core.specs.Replies.{IsRightlyAnswered, IsFindReply, AnswersIn, owners_with, pairs_with}
use Rattle.rht_core.proofs.Events.BusyCallers.{goes_on, ends}
use Rattle.rht_core.proofs.Tracing.RepliesInRuns.{replies}
use Rattle.rht_run.specs.declared.table.Table.{Table}
use Rattle.rht_run.specs.declared.pass.Pass.{Pass}
use Rattle.rht_run.specs.Rule.{CanGo, book_then, local_then}
use Rattle.rht_run.specs.declared.seats.SeatView.{SeatView}
use Rattle.rht_run.specs.Passes.{IsPassOf, IsSamePass, HasGone, HasCalled, Turned, book_of}
use Rattle.rht_run.specs.Rides.{Riding, riding_pass, handed, HasEndedWith, looked_up, owner_in}
use Rattle.rht_run.proofs.Performed.{busy_then, of_run}

-- the last of some calls, each of which was answered
last_answered : (finished : List Finished) (done : Finished) → AllByRecursion IsRightlyAnswered (finished ++ done ∷ [])
    → IsRightlyAnswered done
last_answered [] done all = all.0
last_answered (other ∷ finished) done all = last_answered finished done all.1

-- a look-up's reply is what it has come to
pub looked_up-owner_in : (reply : Reply) → IsFindReply reply → looked_up (owner_in reply) ≡ reply
looked_up-owner_in (Found owner) is = refl
looked_up-owner_in Missing is = refl
looked_up-owner_in _ is = absurd (is)

module _ {M : Type 0} where
  module _ (mix : ℕ → ℕ → ℕ → ℕ) (t : Table M) (before p after : Pass M) (begins : Option Call) (call : Call) (steps : ℕ)
    where
      pub turned : (reply : Option Reply) → IsSamePass before p → CanGo t.env p.number begins p.local
          → book_then begins (book_of p)
          ≡ record { call = Some call; steps = steps; finished = (book_of before).finished }
          → IsPassOf mix t after → IsSamePass p after → HasGone mix t begins p reply after
          → Turned mix t call (steps + 1) before reply after
      turned None same can book pass still gone =
          let local : Local M = local_then t.env p.number begins p.local in
          let next = local_after mix local gone.old in
          let none : next.1 ≡ None = sym gone.replied in
          let local_is : after.local ≡ next.0 = ap (λ (v : View M). v.local) gone.seen in
          let book_is : book_of after ≡ book_after (ending_of next.0 None) (book_then begins (book_of p)) =
          ap (λ (v : View M). v.book) gone.seen
          ∙ ap (λ r. book_after (ending_of next.0 r) (book_then begins (book_of p))) none in
          record {
            pass = pass;
            same = record { table = still.table ∙ same.table; number = still.number ∙ same.number };
            busy = ap is_idle local_is
                ∙ goes_on M mix local gone.old (busy_then t.env p.number begins p.local can) none;
            book = book_is ∙ ap (book_after None) book;
          }
      turned (Some reply) same can book pass still gone =
          let local : Local M = local_then t.env p.number begins p.local in
          let next = local_after mix local gone.old in
          let some : next.1 ≡ Some reply = sym gone.replied in
          let local_is : after.local ≡ next.0 = ap (λ (v : View M). v.local) gone.seen in
          let book_is : book_of after ≡ book_after (ending_of next.0 (Some reply)) (book_then begins (book_of p)) =
          ap (λ (v : View M). v.book) gone.seen
          ∙ ap (λ r. book_after (ending_of next.0 r) (book_then begins (book_of p))) some in
          record {
            pass = pass;
            same = record { table = still.table ∙ same.table; number = still.number ∙ same.number };
            idle = ap is_idle local_is
                ∙ ends M mix local gone.old reply (busy_then t.env p.number begins p.local can) some;
            finished =
                ap (λ (b : Book). b.finished)
                (book_is ∙ ap (book_after (ending_of next.0 (Some reply))) book)
                ∙ ap (λ (l : Local M). (book_of before).finished ++ call_ended reply l ∷ []) (sym local_is);
          }
        where
          -- the call, ended with this reply and the lists in its caller's rooms
          call_ended : Reply → Local M → Finished
          call_ended reply l =
              record { call = call; reply = reply; owners = l.owners.items; pairs = l.pairs.items }

  -- ---- what a finished call was answered

  -- a pass's calls were answered, and its rooms have the lists of the last one
  pub answers : (mix : ℕ → ℕ → ℕ → ℕ) (t : Table M) (p : Pass M) → IsPassOf mix t p
      → AnswersIn t.env p.number p.local (book_of p)
  answers mix t p is = of_run mix t p is (λ env c local book. AnswersIn env c local book)
      (λ env events c admitted. replies M mix env events admitted c)

  pub answered : (mix : ℕ → ℕ → ℕ → ℕ) (t : Table M) (call : Call) (reply : Reply) (before now : Pass M)
      → HasCalled mix t call reply before now
      → IsRightlyAnswered record { call = call; reply = reply; owners = now.local.owners.items; pairs = now.local.pairs.items }
  answered mix t call reply before now has =
      last_answered (book_of before).finished
      record { call = call; reply = reply; owners = now.local.owners.items; pairs = now.local.pairs.items }
      (subst (AllByRecursion IsRightlyAnswered) has.finished (answers mix t now has.pass).finished)

  -- and so was a call that was driven, whether or not it took a node out
  pub drive_answered : (mix : ℕ → ℕ → ℕ → ℕ) (t : Table M) (r : Riding) (reply : Reply) (removed : Option ℕ)
      (seat : Seat (Unit {0}) (SeatView M))
      → HasEndedWith mix t r reply removed seat
      → IsRightlyAnswered record { call = r.call; reply = reply; owners = r.owners.items; pairs = r.pairs.items }
  drive_answered mix t r reply removed seat ended =
      last_answered r.finished record { call = r.call; reply = reply; owners = r.owners.items; pairs = r.pairs.items }
      (subst (AllByRecursion IsRightlyAnswered) ended.finished (answers mix t (riding_pass (handed r removed) Idle seat) ended.pass).finished)

  -- the owners in the room of a pass in no call are those of its last finished call
  pub last_owners : (mix : ℕ → ℕ → ℕ → ℕ) (t : Table M) (p : Pass M) → IsPassOf mix t p → is_idle p.local ≡ true
      → p.local.owners.items ≡ owners_with (last_or None (book_of p).finished)
  last_owners mix t p is idle =
      (answers mix t p is).lists.owners
      ∙ ap (λ b. cond b (owners_with (last_or None (book_of p).finished)) []) idle

  -- and the pairs too
  pub last_pairs : (mix : ℕ → ℕ → ℕ → ℕ) (t : Table M) (p : Pass M) → IsPassOf mix t p → is_idle p.local ≡ true
      → p.local.pairs.items ≡ pairs_with (last_or None (book_of p).finished)
  last_pairs mix t p is idle =
      (answers mix t p is).lists.pairs
      ∙ ap (λ b. cond b (pairs_with (last_or None (book_of p).finished)) []) idle
