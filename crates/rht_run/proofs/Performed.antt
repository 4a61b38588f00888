-- What one operation of a pass asks of its table, and what it leaves.
-- The operation that a pass plans is one that its seat may make, since the pass is as one run has its number; and behind it the
-- pass is so again.
use Rattle.std.proofs.Common.{◌≡◌, ℕ, ◌<◌, true, false, List, [], ◌∷◌, ◌++◌, map, sym, ap, ◌∙◌, subst, arith}
use Rattle.std.specs.Prelude.{Option, Some, None}
use Rattle.atomic_table.specs.Table.{Allows}
use Rattle.atomic_table.specs.declared.shared.Seat.{Seat}
use Rattle.rht_words.specs.declared.op.Op.{Op}
use Rattle.rht_words.specs.declared.env.Env.{Env}
use Rattle.rht_words.specs.Operations.{op_place, word_after}
use Rattle.rht_words.specs.Places.{words_in}
use Rattle.rht_words.specs.Planned.{IsPlannedIn}
use Rattle.rht_words.proofs.PlacesApart.{words_in-few}
use Rattle.rht_model.specs.declared.history.Call.{Call}
use Rattle.rht_model.specs.declared.history.Reply.{Reply}
use Rattle.rht_core.specs.declared.event.Event.{Event}
use Rattle.rht_core.specs.declared.event.Event.TheVariants.{Begin}
use Rattle.rht_core.specs.declared.book.Book.{Book}
use Rattle.rht_callers.specs.declared.local.Local.{Local}
use Rattle.rht_callers.specs.declared.local.Doing.{Doing}
use Rattle.rht_core.specs.Locals.{is_idle, begun_with, plan_of, local_after}
use Rattle.rht_core.specs.Runs.{World, View, local_of, run_of, IsAdmitted}
use Rattle.rht_core.specs.Laws.{view_stepped, IsLocalIn}
use Rattle.rht_core.proofs.Events.Worlds.{run_of-push}
use Rattle.rht_core.proofs.Events.BusyCallers.{busy_plans, begun_busy}
use Rattle.rht_core.proofs.Events.BatchesInRuns.{all_in_range}
use Rattle.rht_core.proofs.Events.InvariantRuns.{has_inv}
use Rattle.rht_callers.specs.Batches.{IsBatchIn}
use Rattle.rht_callers.proofs.RoomsOfCallers.{idle-limit, idle-pairs}
use Rattle.rht_callers.proofs.BatchesOfCallers.{idle-batch}
use Rattle.rht_run.specs.declared.seats.Held.{Held}
use Rattle.rht_run.specs.declared.seats.SeatView.{SeatView}
use Rattle.rht_run.specs.declared.table.Table.{Table}
use Rattle.rht_run.specs.declared.pass.Pass.{Pass}
use Rattle.rht_run.specs.Layout.{physical}
use Rattle.rht_run.specs.Rule.{Shows, Holds, CanGo, HasRoom, Went, view_in, held_at, local_then, view_then, held_then, held_stepped}
use Rattle.rht_run.specs.Passes.{CanPerform, IsSameSeat, IsPassOf, IsSamePass, HasGone, book_in, book_of, seen_by}
use Rattle.rht_run.proofs.LaidWords.{physical_below}
use Rattle.rht_run.proofs.ViewLists.{in_one}
use Rattle.rht_run.proofs.CallerEvents.{admitted_more, begin_admitted, begin_shown, goes}

-- ---- the operation of a seat

module _ (M : Type 0) (mix : ℕ → ℕ → ℕ → ℕ) (begins : Option Call) (t : Table M) (seat : Seat (Unit {0}) (SeatView M))
    (op : Op)
  where
    -- the place is one of the table's
    pub place_small : CanPerform begins t seat op → op_place op < 1099511627776
    place_small p = omega (arith, p.range.within, words_in-few t.env.geometry)

    -- the seat may make a step at this physical place that makes of a word what this function does
    abbrev pub MayStep : ℕ → (ℕ → ℕ) → Type 0
    MayStep place f = (seat.table_id ≡ t.words.shared.table_id) × (place < t.words.shared.table_id.words)
        × Allows (Holds mix t.words.shared.key) t.words.shared.table_id.slots seat.id seat.me place f (λ old after. (after.1 ≡ seat.me.1)
        × Went mix begins seat.me.0 old after.0)

    pub performs : (x : Op) (place : ℕ) (f : ℕ → ℕ) → CanPerform begins t seat op → op ≡ x → place ≡ physical (op_place op)
        → ((n : ℕ) → n < 18446744073709551616 → f n ≡ word_after n x) → MayStep place f
    performs x place f p is lies acts =
        let within : physical (op_place op) < t.words.shared.table_id.words =
        omega (arith, p.fit.count, physical_below (op_place op) (words_in t.env.geometry) p.range.within) in
        subst (λ (at : ℕ). MayStep at f) (sym lies) (
          p.table,
          within,
          goes M mix t.words.shared.key begins t.words.shared.table_id.slots seat.id seat.me p.held op f p.one
              (p.same_env ∙ sym p.fit.key) p.can p.plan (λ n fits. acts n fits ∙ ap (λ (o : Op). word_after n o) (sym is)),
        )

-- ---- the operation of a pass

module _ {M : Type 0} where
  -- a caller that goes on, or begins, is in a call
  pub busy_then : (env : Env) (c : ℕ) (begins : Option Call) (local : Local M) → CanGo env c begins local
      → is_idle (local_then env c begins local) ≡ false
  busy_then env c None local can = can
  busy_then env c (Some call) local can =
      subst (λ (m : Option (Doing M)). is_idle (begun_with local m) ≡ false) (sym can.machine_is)
      (begun_busy M env c local.batch 0 call can.machine can.machine_is)

  module _ (mix : ℕ → ℕ → ℕ → ℕ) (t : Table M) (p : Pass M) (is : IsPassOf mix t p) where
    abbrev env : Env
    env = p.seat.me.0.env

    abbrev held : Held M
    held = held_at p.number (seen_by p)

    abbrev world : World M
    world = run_of mix env is.in_run.events

    -- what every run has of a caller holds of the pass
    pub of_run : (So : Env → ℕ → Local M → Book → Type 0)
        → ((e : Env) (events : List Event) (c : ℕ) → IsAdmitted events
        → let w : World M = run_of mix e events in So e c (local_of w.core c) (w.books c))
        → So t.env p.number p.local (book_of p)
    of_run So law =
        let run = is.in_run in
        let shown = (run.shows held (in_one held p.seat.me.0.held is.held)).shown in
        subst (λ (e : Env). So e p.number p.local (book_of p)) is.same_env
        (subst (λ (v : View M). So env p.number v.local v.book) shown
        (law env run.events p.number run.admitted))

    -- it has one of the sixteen numbers
    pub number_few : p.number < 16
    number_few =
        let below = (is.in_run.shows held (in_one held p.seat.me.0.held is.held)).below in
        omega (arith, below, env.agrees.callers_same, env.settled.geometry.callers_within.1)

    -- its rooms are there
    pub local_in : IsLocalIn t.env p.number p.local
    local_in = of_run (λ e c local book. IsLocalIn e c local)
        (λ e events c admitted. (all_in_range M mix e events admitted).locals c)

    -- no run has a caller that holds its section open over its calls
    pub rests : p.local.held ≡ false
    rests = of_run (λ e c local book. local.held ≡ false) (λ e events c admitted. (has_inv e mix M events admitted).inv.rests c)

    -- in no call it has its batch
    pub own_batch : is_idle p.local ≡ true → IsBatchIn t.env p.local.batch
    own_batch idle = idle-batch M (IsBatchIn t.env) p.local idle local_in.batch

    pub room_for : (begins : Option Call) → CanGo t.env p.number begins p.local → HasRoom t.env begins p.local
    room_for None can = tt
    room_for (Some call) can = (
      idle-limit M p.local t.env.geometry.nodes can.idle local_in.owners,
      idle-pairs M p.local t.env.geometry.nodes can.idle local_in.pairs,
      own_batch can.idle,
    )

    -- the operation that it plans is in range, also where a call begins with it
    pub plans_in : (begins : Option Call) (op : Op) → CanGo t.env p.number begins p.local
        → plan_of (local_then t.env p.number begins p.local) ≡ Some op → IsPlannedIn t.env.geometry op
    plans_in begins op can plan = go begins can plan
      where
        shows : Shows t.env (run_of mix t.env is.in_run.events) held
        shows = subst (λ (e : Env). Shows e (run_of mix e is.in_run.events) held) is.same_env
            (is.in_run.shows held (in_one held p.seat.me.0.held is.held))

        admitted : IsAdmitted is.in_run.events
        admitted = is.in_run.admitted

        go : (begins : Option Call) → CanGo t.env p.number begins p.local
            → plan_of (local_then t.env p.number begins p.local) ≡ Some op → IsPlannedIn t.env.geometry op
        go None can plan =
            (all_in_range M mix t.env is.in_run.events admitted).plans p.number op
            (ap (λ (v : View M). plan_of v.local) shows.shown ∙ plan)
        go (Some call) can plan =
            let events = is.in_run.events in
            let event : Event = Begin p.number call 0 in
            let more = admitted_more M mix t.env events event admitted
            (begin_admitted M mix t.env events admitted held shows call can) in
            (all_in_range M mix t.env (events ++ event ∷ []) more).plans p.number op
            (ap (λ (w : World M). plan_of (local_of w.core p.number)) (run_of-push M mix t.env events event)
            ∙ ap (λ (v : View M). plan_of v.local) (begin_shown M mix t.env events admitted held shows call can) ∙ plan)

    pub plans_some : (begins : Option Call) → CanGo t.env p.number begins p.local
        → plan_of (local_then t.env p.number begins p.local) ≡ None → ⊥
    plans_some begins can none =
        busy_plans M (local_then t.env p.number begins p.local) (busy_then t.env p.number begins p.local can) none

  pub ready : (mix : ℕ → ℕ → ℕ → ℕ) (t : Table M) (p : Pass M) (begins : Option Call) (op : Op) → (is : IsPassOf mix t p)
      → CanGo t.env p.number begins p.local → plan_of (local_then t.env p.number begins p.local) ≡ Some op
      → CanPerform begins t p.seat op
  ready mix t p begins op is can plan = record {
    fit = is.fit;
    table = is.table;
    same_env = is.same_env;
    held = held_at p.number (seen_by p);
    one = is.held;
    can = subst (λ (e : Env). CanGo e p.number begins p.local) (sym is.same_env) can;
    plan = ap (λ (e : Env). plan_of (local_then e p.number begins p.local)) is.same_env ∙ plan;
    range = plans_in mix t p is begins op can plan;
  }

  -- behind the operation the pass is as its view says
  pub still : (mix : ℕ → ℕ → ℕ → ℕ) (t : Table M) (p after : Pass M) (begins : Option Call) (old : ℕ) (reply : Option Reply)
      → IsPassOf mix t p → IsSameSeat p.seat after.seat → Went mix begins p.seat.me.0 old after.seat.me.0
      → after.number ≡ p.number
      → (after.local, reply) ≡ local_after mix (local_then t.env p.number begins p.local) old
      → IsPassOf mix t after × IsSamePass p after × HasGone mix t begins p reply after
  still mix t p after begins old reply is same went number next =
      let v : SeatView M = p.seat.me.0 in
      let v' : SeatView M = after.seat.me.0 in
      let h : Held M = held_at p.number (seen_by p) in
      let h' : Held M = held_stepped mix old (held_then v.env begins h) in
      let held_now : v'.held ≡ h' ∷ [] =
      ap (λ (x : SeatView M). x.held) went.same
      ∙ ap (λ (x : List (Held M)). map (held_stepped mix old) (map (held_then v.env begins) x)) is.held in
      let book_is : book_of after ≡ h'.book = ap book_in held_now in
      let locals : local_then v.env p.number begins p.local ≡ local_then t.env p.number begins p.local =
      ap (λ (e : Env). local_then e p.number begins p.local) is.same_env in
      let local_is : after.local ≡ h'.local =
      ap (λ x. x.0) next ∙ sym (ap (λ (l : Local M). (local_after mix l old).0) locals) in
      let seen_is : seen_by after ≡ view_in h' = λ i. record { local = local_is i; book = book_is i } in (
        record {
          fit = is.fit;
          table = same.table ∙ is.table;
          slots = same.slots ∙ is.slots;
          same_env = ap (λ (x : SeatView M). x.env) went.same ∙ is.same_env;
          held = held_now ∙ (λ i. held_at (sym number i) (sym seen_is i) ∷ []);
          in_run = went.in_run;
        },
        record { table = same.table; number = number },
        record {
          old = old;
          seen = seen_is ∙ ap (λ (e : Env). view_stepped mix old (view_then e p.number begins (seen_by p))) is.same_env;
          replied = ap (λ x. x.1) next;
        },
      )
