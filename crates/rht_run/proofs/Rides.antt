-- A call that is driven from outside its pass goes as its caller does in the run: each operation is one that a pass would make
-- which had the caller, so what is known of passes is known here.
use Rattle.std.proofs.Common.{◌≡◌, ℕ, ◌<◌, Bool, true, false, List, [], ◌∷◌, ◌++◌, map, refl, sym, ap, ◌∙◌, subst, arith}
use Rattle.std.specs.Prelude.{Option, Some, None, option_map}
use Rattle.atomic_table.specs.declared.shared.Seat.{Seat}
use Rattle.rht_words.specs.declared.op.Op.{Op}
use Rattle.rht_words.specs.declared.env.Env.{Env}
use Rattle.rht_words.specs.declared.machine.Next.{Next}
use Rattle.rht_words.specs.declared.machine.Next.TheVariants.{Go, Done}
use Rattle.rht_model.specs.declared.history.Call.{Call}
use Rattle.rht_model.specs.declared.history.Reply.{Reply}
use Rattle.rht_model.specs.Rooms.{Kept, emptied}
use Rattle.rht_core.specs.declared.book.Book.{Book}
use Rattle.rht_callers.specs.declared.local.Local.{Local}
use Rattle.rht_callers.specs.declared.local.Doing.{Doing}
use Rattle.rht_callers.specs.declared.local.Doing.TheVariants.{Idle, Finding, Binding, Listing, Releasing, Rebinding, Working, Counting, Tidying, Walking}
use Rattle.rht_callers.specs.Batches.{with_out, node_out, batch_beside, batch_after}
use Rattle.rht_callers.specs.PortCounts.{count_after}
use Rattle.rht_grace.specs.Batch.{BatchModel}
use Rattle.rht_find.specs.Find.{find_after}
use Rattle.rht_bind.specs.Bind.{bind_after}
use Rattle.rht_release.specs.All.{all_after}
use Rattle.rht_release.specs.Release.{release_after}
use Rattle.rht_release.specs.Rebind.{rebind_after}
use Rattle.rht_move.specs.Work.{work_after}
use Rattle.rht_walk.specs.Walk.{Pairs, WalkModel}
use Rattle.rht_core.specs.Locals.{does_nothing, is_idle, machine_of, doing_plan, plan_of, doing_after, doing_next, without_node, owners_beside, owners_after, pairs_beside, pairs_after, begun_with, local_after, ending_of}
use Rattle.rht_callers.specs.Locals.{soft}
use Rattle.rht_core.proofs.Machines.HeldSteps.{soft-none}
use Rattle.rht_core.specs.Runs.{book_begun, book_after, finished_with, IsAdmittedCall}
use Rattle.rht_core.specs.Laws.{IsDoingIn}
use Rattle.rht_run.specs.declared.seats.Held.{Held}
use Rattle.rht_run.specs.declared.seats.SeatView.{SeatView}
use Rattle.rht_run.specs.declared.table.Table.{Table}
use Rattle.rht_run.specs.declared.pass.Pass.{Pass}
use Rattle.rht_run.specs.Rule.{Went, book_then, local_then, held_then, held_stepped}
use Rattle.rht_run.specs.Passes.{CanPerform, IsSameSeat, IsPassOf, IsCalling, HasCalled, book_in, book_of}
use Rattle.rht_run.specs.Rides.{Riding, riding_of, riding_local, riding_pass, owners_in, pairs_in, batch_in, over_in, batch_with, handed, IsBefore, IsRiding, HasEnded, HasEndedWith, Stepped, HasCounted, piece_next, ended, replied, driven}
use Rattle.rht_run.proofs.Performed.{local_in, number_few, rests, ready, still}

-- how a call has ended, where it has: its reply, and the node that it took out
abbrev reply_in : Option (Reply × Option ℕ) → Option Reply
reply_in None = None
reply_in (Some end) = Some end.0

abbrev removed_in : Option (Reply × Option ℕ) → Option ℕ
removed_in None = None
removed_in (Some end) = end.1

-- a batch behind a call is as its caller's
with-out : (batch : Option BatchModel) (removed : Option ℕ) → batch_with batch removed ≡ with_out batch removed
with-out None None = refl
with-out (Some batch) None = refl
with-out batch (Some node) = refl

-- who holds no section open plans its machine's operation
hard-planned : {M : Type 0} (over : Bool) (doing : Doing M) (op : Op) → over ≡ false → doing_plan doing ≡ Some op
    → option_map (soft over) (doing_plan doing) ≡ Some op
hard-planned over doing op none plan =
    ap (λ b. option_map (soft b) (doing_plan doing)) none ∙ ap (option_map (soft false)) plan ∙ ap Some (soft-none op)

-- a walk has its caller's room of pairs
walks-not : (M : Type 0) (m : WalkModel) → ((room : Pairs) → pairs_beside {M = M} (Walking m) room ≡ emptied room) → ⊥
walks-not M m pairs =
    let limits = ap (λ (room : Pairs). room.limit) (pairs record { items = []; limit = 1 }) in absurd (omega (arith, limits))

module _ {M : Type 0} where
  -- who is in no call does nothing
  nothing_done : (doing : Doing M) → does_nothing doing ≡ true → doing ≡ Idle
  nothing_done Idle idle = refl
  nothing_done (Finding m) idle = absurd (cc)
  nothing_done (Binding m) idle = absurd (cc)
  nothing_done (Listing m) idle = absurd (cc)
  nothing_done (Releasing m) idle = absurd (cc)
  nothing_done (Rebinding m) idle = absurd (cc)
  nothing_done (Working m) idle = absurd (cc)
  nothing_done (Counting m) idle = absurd (cc)
  nothing_done (Tidying m) idle = absurd (cc)
  nothing_done (Walking m) idle = absurd (cc)

  -- ---- what is driven goes as a caller does

  -- the caller does the same behind it, the reply is the same, and so is its batch
  record GoesAs (next : Doing M × Option (Reply × Option ℕ)) (after : Doing M × Option Reply) (old new : Option BatchModel)
      : Type 0 where
    pub doing : next.0 ≡ after.0
    pub reply : reply_in next.1 ≡ after.1
    pub batch : batch_with old (removed_in next.1) ≡ new

  -- a machine that ends with a reply alone leaves the batch
  goes-replied : {A : Type 0} (doing : A → Doing M) (batch : Option BatchModel) (next : A × Next Reply)
      → GoesAs (piece_next doing replied next) (doing_next doing next) batch batch
  goes-replied doing batch (m, Go) = record { doing = refl; reply = refl; batch = refl }
  goes-replied doing batch (m, Done reply) = record { doing = refl; reply = refl; batch = refl }

  -- one that may have taken a node out puts it in
  goes-ended : {A : Type 0} (doing : A → Doing M) (batch : Option BatchModel) (next : A × Next (Reply × Option ℕ))
      → GoesAs (piece_next doing ended next) (doing_next doing (next.0, without_node next.1)) batch
      (with_out batch (node_out next.1))
  goes-ended doing batch (m, Go) = record { doing = refl; reply = refl; batch = with-out batch None }
  goes-ended doing batch (m, Done end) = record { doing = refl; reply = refl; batch = with-out batch end.1 }

  -- a tidying isn't driven, since its caller's batch isn't beside it
  goes-as : (mix : ℕ → ℕ → ℕ → ℕ) (doing : Doing M) (batch : Option BatchModel) (old : ℕ)
      → ((b : Option BatchModel) → batch_beside doing b ≡ b)
      → ((room : Pairs) → pairs_beside doing room ≡ emptied room)
      → GoesAs (driven mix doing old) (doing_after mix doing old) batch (batch_after mix doing batch old)
  goes-as mix Idle batch old beside pairs = record { doing = refl; reply = refl; batch = refl }
  goes-as mix (Finding m) batch old beside pairs = goes-replied Finding batch (find_after mix m old)
  goes-as mix (Binding m) batch old beside pairs = goes-replied Binding batch (bind_after mix m old)
  goes-as mix (Listing m) batch old beside pairs = goes-replied Listing batch (all_after mix m old)
  goes-as mix (Releasing m) batch old beside pairs = goes-ended Releasing batch (release_after mix m old)
  goes-as mix (Rebinding m) batch old beside pairs = goes-ended Rebinding batch (rebind_after mix m old)
  goes-as mix (Working m) batch old beside pairs = goes-replied Working batch (work_after mix m old)
  goes-as mix (Counting m) batch old beside pairs = goes-replied Counting batch (count_after m old)
  goes-as mix (Tidying m) batch old beside pairs = absurd (let none : None ≡ Some m.batch = beside (Some m.batch) in cc)
  goes-as mix (Walking m) batch old beside pairs = absurd (walks-not M m pairs)

  -- nor is a walk, since its caller's room of pairs isn't beside it; so that room stays
  pairs-stay : (doing : Doing M) (room : Pairs) (old : ℕ) → ((room : Pairs) → pairs_beside doing room ≡ emptied room)
      → pairs_after doing room old ≡ room
  pairs-stay Idle room old pairs = refl
  pairs-stay (Finding m) room old pairs = refl
  pairs-stay (Binding m) room old pairs = refl
  pairs-stay (Listing m) room old pairs = refl
  pairs-stay (Releasing m) room old pairs = refl
  pairs-stay (Rebinding m) room old pairs = refl
  pairs-stay (Working m) room old pairs = refl
  pairs-stay (Counting m) room old pairs = refl
  pairs-stay (Tidying m) room old pairs = refl
  pairs-stay (Walking m) room old pairs = absurd (walks-not M m pairs)

module _ {M : Type 0} (mix : ℕ → ℕ → ℕ → ℕ) (t : Table M) (r : Riding) where
  pub riding_range : (doing : Doing M) (seat : Seat (Unit {0}) (SeatView M)) → IsPassOf mix t (riding_pass r doing seat)
      → IsDoingIn t.env r.number doing
  riding_range doing seat is = (local_in mix t (riding_pass r doing seat) is).doing

  -- it has one of the sixteen numbers, and so has a caller before its call
  pub riding_few : (doing : Doing M) (seat : Seat (Unit {0}) (SeatView M)) → IsRiding mix t r doing seat → r.number < 16
  riding_few doing seat is = number_few mix t (riding_pass r doing seat) is.pass

  pub before_few : (seat : Seat (Unit {0}) (SeatView M)) → IsBefore mix t r seat → r.number < 16
  before_few seat is = number_few mix t record { seat = seat; number = r.number; local = is.local } is.pass

  -- what is said of the seat behind an operation, by what the pass would be that had its caller, and by the book
  said : (seat : Seat (Unit {0}) (SeatView M)) (next : Doing M × Option (Reply × Option ℕ)) (book : Book)
      → let left : Riding = handed r (removed_in next.1) in
      IsPassOf mix t (riding_pass left next.0 seat)
      → book_in seat.me.0.held ≡ book_after (ending_of (riding_local left next.0) (reply_in next.1)) book
      → book.call ≡ Some r.call → book.finished ≡ r.finished → Stepped mix t r next seat
  said seat (doing, None) book is same call finished = record {
    pass = is;
    call = ap (λ (b : Book). b.call) same ∙ call;
    finished = ap (λ (b : Book). b.finished) same ∙ finished;
    in_range = riding_range doing seat is;
  }
  said seat (doing, Some end) book is same call finished = record {
    pass = is;
    finished = ap (λ (b : Book). b.finished) same
        ∙ (λ i. finished i ++ finished_with (call i) record { answer = record { reply = end.0; owners = r.owners.items }; pairs = r.pairs.items });
  }

  -- the book behind an operation of a pass, with the call that begins before it, if one does
  pub book_now : (p : Pass M) (begins : Option Call) (seat : Seat (Unit {0}) (SeatView M)) (old : ℕ) → IsPassOf mix t p
      → Went mix begins p.seat.me.0 old seat.me.0
      → let next = local_after mix (local_then t.env p.number begins p.local) old in
      book_in seat.me.0.held ≡ book_after (ending_of next.0 next.1) (book_then begins (book_of p))
  book_now p begins seat old is went =
      ap (λ (v : SeatView M). book_in v.held) went.same
      ∙ ap (λ (hs : List (Held M)). book_in (map (held_stepped mix old) (map (held_then p.seat.me.0.env begins) hs))) is.held
      ∙ ap (λ (e : Env). book_behind (local_after mix (local_then e p.number begins p.local) old) begins (book_of p)) is.same_env
    where
      book_behind : Local M × Option Reply → Option Call → Book → Book
      book_behind next begins book = book_after (ending_of next.0 next.1) (book_then begins book)

  -- how many operations the caller has made behind one more, by its book
  counted : (seat seat' : Seat (Unit {0}) (SeatView M)) (local : Local M) (reply : Option Reply)
      → book_in seat'.me.0.held ≡ book_after (ending_of local reply) (book_in seat.me.0.held) → HasCounted seat reply seat'
  counted seat seat' local None same = ap (λ (b : Book). b.steps) same
  counted seat seat' local (Some reply) same = tt

  module _ (seat : Seat (Unit {0}) (SeatView M)) (doing : Doing M) where
    -- ---- an operation of the call in progress

    pub may_perform : (op : Op) → IsRiding mix t r doing seat → does_nothing doing ≡ false → doing_plan doing ≡ Some op
        → CanPerform None t seat op
    may_perform op is busy plan =
        ready mix t (riding_pass r doing seat) None op is.pass busy
        (hard-planned r.over doing op (rests mix t (riding_pass r doing seat) is.pass) plan)

    pub has_stepped : (seat' : Seat (Unit {0}) (SeatView M)) (old : ℕ) → IsRiding mix t r doing seat
        → ((room : Kept ℕ) → owners_after mix doing room old ≡ room)
        → ((batch : Option BatchModel) → batch_beside doing batch ≡ batch)
        → ((room : Pairs) → pairs_beside doing room ≡ emptied room)
        → IsSameSeat seat seat' → Went mix None seat.me.0 old seat'.me.0 → Stepped mix t r (driven mix doing old) seat'
    has_stepped seat' old is keeps beside apart same went =
        let next : Doing M × Option (Reply × Option ℕ) = driven mix doing old in
        let like = goes-as mix doing r.batch old beside apart in
        let left : Riding = handed r (removed_in next.1) in
        let leads : (riding_local left next.0, reply_in next.1) ≡ local_after mix (riding_local r doing) old =
        λ i. (
          record { doing = like.doing i; owners = sym (keeps r.owners) i; pairs = sym (pairs-stay doing r.pairs old apart) i; batch = like.batch i; held = r.over },
          like.reply i,
        ) in
        let all = still mix t (riding_pass r doing seat) (riding_pass left next.0 seat') None old (reply_in next.1) is.pass same went refl leads in
        said seat' next (book_in seat.me.0.held) all.0 (
        book_now (riding_pass r doing seat) None seat' old is.pass went
        ∙ ap (λ (n : Local M × Option Reply). book_after (ending_of n.0 n.1) (book_in seat.me.0.held)) (sym leads)
        ) is.call is.finished

    pub has_counted : (seat' : Seat (Unit {0}) (SeatView M)) (old : ℕ) → IsRiding mix t r doing seat
        → Went mix None seat.me.0 old seat'.me.0 → HasCounted seat (doing_after mix doing old).1 seat'
    has_counted seat' old is went =
        let next = local_after mix (riding_local r doing) old in
        counted seat seat' next.0 next.1 (book_now (riding_pass r doing seat) None seat' old is.pass went)

    -- ---- the first operation of a call

    -- the machine is that of the caller's own batch
    begins-own : (is : IsBefore mix t r seat) → machine_of t.env r.number r.batch r.call ≡ Some doing
        → machine_of t.env r.number is.local.batch r.call ≡ Some doing
    begins-own is begins = ap (λ (batch : Option BatchModel). machine_of t.env r.number batch r.call) is.batch ∙ begins

    pub may_begin : (op : Op) → IsBefore mix t r seat → machine_of t.env r.number r.batch r.call ≡ Some doing
        → IsAdmittedCall r.call → doing_plan doing ≡ Some op
        → CanPerform (Some r.call) t seat op
    may_begin op is begins admitted plan =
        ready mix t record { seat = seat; number = r.number; local = is.local } (Some r.call) op is.pass
        record { idle = is.idle; admitted = admitted; machine = doing; machine_is = begins-own is begins }
        (ap (λ (m : Option (Doing M)). plan_of (begun_with is.local m)) (begins-own is begins)
        ∙ hard-planned is.local.held doing op (rests mix t record { seat = seat; number = r.number; local = is.local } is.pass) plan)

    pub has_begun : (seat' : Seat (Unit {0}) (SeatView M)) (old : ℕ) → IsBefore mix t r seat
        → machine_of t.env r.number r.batch r.call ≡ Some doing → ((room : Kept ℕ) → owners_beside doing room ≡ emptied room)
        → ((room : Kept ℕ) → owners_after mix doing room old ≡ room)
        → ((batch : Option BatchModel) → batch_beside doing batch ≡ batch)
        → ((room : Pairs) → pairs_beside doing room ≡ emptied room)
        → IsSameSeat seat seat' → Went mix (Some r.call) seat.me.0 old seat'.me.0
        → Stepped mix t r (driven mix doing old) seat'
    has_begun seat' old is begins empties keeps beside apart same went =
        let next : Doing M × Option (Reply × Option ℕ) = driven mix doing old in
        let like = goes-as mix doing r.batch old beside apart in
        let left : Riding = handed r (removed_in next.1) in
        let book : Book = book_begun r.call (book_in seat.me.0.held) in
        let begun : begun_with is.local (machine_of t.env r.number is.local.batch r.call) ≡ riding_local r doing =
        ap (begun_with is.local) (begins-own is begins)
        ∙ (λ i. record {
          doing = doing;
          owners = (empties is.local.owners ∙ is.owners) i;
          pairs = (apart is.local.pairs ∙ is.pairs) i;
          batch = (beside is.local.batch ∙ is.batch) i;
          held = is.over i;
        }) in
        let leads : (riding_local left next.0, reply_in next.1)
        ≡ local_after mix (begun_with is.local (machine_of t.env r.number is.local.batch r.call)) old =
        (λ i. (
          record { doing = like.doing i; owners = sym (keeps r.owners) i; pairs = sym (pairs-stay doing r.pairs old apart) i; batch = like.batch i; held = r.over },
          like.reply i,
        ))
        ∙ ap (λ (l : Local M). local_after mix l old) (sym begun) in
        let all = still mix t record { seat = seat; number = r.number; local = is.local } (riding_pass left next.0 seat') (Some r.call)
        old (reply_in next.1) is.pass same went refl leads in
        said seat' next book all.0 (
        book_now record { seat = seat; number = r.number; local = is.local } (Some r.call) seat' old is.pass went
        ∙ ap (λ (n : Local M × Option Reply). book_after (ending_of n.0 n.1) book) (sym leads)
        ) refl is.finished

  -- ---- an operation of a piece

  pub of_piece : {P A : Type 0} (holding : P → Doing M) (behind : A → Doing M × Option (Reply × Option ℕ))
      (next : Doing M × Option (Reply × Option ℕ)) (piece : P × Next A) (seat : Seat (Unit {0}) (SeatView M))
      → next ≡ piece_next holding behind piece → Stepped mix t r next seat
      → Stepped mix t r (piece_next holding behind piece) seat
  of_piece holding behind next piece seat same is =
      subst (λ (n : Doing M × Option (Reply × Option ℕ)). Stepped mix t r n seat) same is

-- ---- the whole call

module _ {M : Type 0} (mix : ℕ → ℕ → ℕ → ℕ) (t : Table M) (p : Pass M) (call : Call) (is : IsPassOf mix t p)
    (idle : is_idle p.local ≡ true)
  where
    -- the batch of the pass is the one that stays
    pub own_batch : p.local.batch ≡ (riding_of p.number call p.seat).batch
    own_batch = ap (λ (hs : List (Held M)). batch_in hs) (sym is.held)

    pub before : IsBefore mix t (riding_of p.number call p.seat) p.seat
    before = record {
      local = p.local;
      pass = is;
      idle = idle;
      owners = ap (λ (hs : List (Held M)). emptied (owners_in hs)) (sym is.held);
      pairs = ap (λ (hs : List (Held M)). emptied (pairs_in hs)) (sym is.held);
      batch = own_batch;
      over = ap (λ (hs : List (Held M)). over_in hs) (sym is.held);
      finished = refl;
    }

    -- what the pass has behind the call: its rooms are empty, and its batch has the node that the call took out
    abbrev pub local_behind : Option ℕ → Local M
    local_behind removed = record p.local {
      owners = emptied p.local.owners;
      pairs = emptied p.local.pairs;
      batch = batch_with p.local.batch removed;
    }

    -- so it is in no call again, and its finished calls are those before and this one
    pub called_with : (after : Pass M) (reply : Reply) (removed : Option ℕ) → after.number ≡ p.number
        → after.local ≡ local_behind removed
        → HasEndedWith mix t (riding_of p.number call p.seat) reply removed after.seat → HasCalled mix t call reply p after
    called_with after reply removed number local ended =
        let before : Riding = riding_of p.number call p.seat in
        let r : Riding = handed before removed in
        let rooms : local_behind removed ≡ riding_local r Idle =
        λ i. record {
          doing = nothing_done p.local.doing idle i;
          owners = ap (λ (hs : List (Held M)). emptied (owners_in hs)) (sym is.held) i;
          pairs = ap (λ (hs : List (Held M)). emptied (pairs_in hs)) (sym is.held) i;
          batch = ap (λ (hs : List (Held M)). batch_with (batch_in hs) removed) (sym is.held) i;
          held = ap (λ (hs : List (Held M)). over_in hs) (sym is.held) i;
        } in
        let here : after.local ≡ riding_local r Idle = local ∙ rooms in
        let same : riding_pass r Idle after.seat ≡ after =
        λ i. record { seat = after.seat; number = sym number i; local = sym here i } in
        record {
          pass = subst (IsPassOf mix t) same ended.pass;
          same = record { table = ended.pass.table ∙ sym is.table; number = number };
          idle = ap is_idle here;
          finished = ended.finished
              ∙ ap (λ (l : Local M). r.finished ++ record { call = call; reply = reply; owners = l.owners.items; pairs = l.pairs.items } ∷ []) (sym here);
        }

    -- behind operations that have left it in the middle of the call the pass is in that
    pub left_in : (after : Pass M) (doing : Doing M) → after.number ≡ p.number
        → after.local
        ≡ record p.local { doing = doing; owners = emptied p.local.owners; pairs = emptied p.local.pairs }
        → does_nothing doing ≡ false → IsRiding mix t (riding_of p.number call p.seat) doing after.seat
        → IsCalling mix t call (book_of after).steps p after
    left_in after doing number local busy riding =
        let r : Riding = riding_of p.number call p.seat in
        let here : after.local ≡ riding_local r doing =
        local
        ∙ (λ i. record {
          doing = doing;
          owners = ap (λ (hs : List (Held M)). emptied (owners_in hs)) (sym is.held) i;
          pairs = ap (λ (hs : List (Held M)). emptied (pairs_in hs)) (sym is.held) i;
          batch = ap (λ (hs : List (Held M)). batch_in hs) (sym is.held) i;
          held = ap (λ (hs : List (Held M)). over_in hs) (sym is.held) i;
        }) in
        let same : riding_pass r doing after.seat ≡ after =
        λ i. record { seat = after.seat; number = sym number i; local = sym here i } in
        record {
          pass = subst (IsPassOf mix t) same riding.pass;
          same = record { table = riding.pass.table ∙ sym is.table; number = number };
          busy = ap is_idle here ∙ busy;
          book = λ i. record { call = riding.call i; steps = (book_of after).steps; finished = riding.finished i };
        }

    -- most calls take no node out
    pub called : (after : Pass M) (reply : Reply) → after.number ≡ p.number
        → after.local ≡ record p.local { owners = emptied p.local.owners; pairs = emptied p.local.pairs }
        → HasEnded mix t (riding_of p.number call p.seat) reply after.seat → HasCalled mix t call reply p after
    called after reply = called_with after reply None
