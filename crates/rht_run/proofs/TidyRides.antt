-- A tidying that is driven from outside its pass: its machine is held beside the pass. Each of its operations is that of the pass that
-- would have the machine.
use Rattle.std.proofs.Common.{◌≡◌, ℕ, ◌+◌, refl}
use Rattle.std.specs.Prelude.{Some, None}
use Rattle.atomic_table.specs.declared.shared.Seat.{Seat}
use Rattle.rht_words.specs.declared.machine.Next.{Next}
use Rattle.rht_words.specs.declared.machine.Next.TheVariants.{Go, Done}
use Rattle.rht_model.specs.declared.history.Call.TheVariants.{Tidy}
use Rattle.rht_model.specs.declared.history.Reply.{Reply}
use Rattle.rht_grace.specs.Tidy.{TidyModel, tidy_after}
use Rattle.rht_callers.specs.declared.local.Doing.TheVariants.{Idle, Tidying}
use Rattle.rht_callers.specs.Batches.{batch_given}
use Rattle.rht_callers.specs.Locals.{doing_next}
use Rattle.rht_core.specs.Tidied.{batch_or}
use Rattle.rht_run.specs.declared.seats.SeatView.{SeatView}
use Rattle.rht_run.specs.declared.pass.Pass.{Pass}
use Rattle.rht_run.specs.declared.table.Table.{Table}
use Rattle.rht_run.specs.Rule.{Went}
use Rattle.rht_run.specs.Passes.{IsPassOf, IsSamePass, IsSameSeat, HasCalled, HasGone}
use Rattle.rht_run.specs.Tidying.{TidiesBatch}
use Rattle.rht_run.proofs.Performed.{still}
use Rattle.rht_run.proofs.CallSteps.{turned}
use Rattle.rht_run.proofs.PassTidyings.{IsOwn, IsTidyingPass, gone-on}

module _ {M : Type 0} where
  -- the pass that has this machine
  abbrev pub with_tidying : Pass M → TidyModel → Pass M
  with_tidying pass m =
      record { seat = pass.seat; number = pass.number; local = record pass.local { doing = Tidying m } }

  -- and the pass behind an operation of it, from a seat that this operation has left: it has the machine, or its batch again
  abbrev pub behind_tidying : Pass M → TidyModel × Next Reply → Seat (Unit {0}) (SeatView M) → Pass M
  behind_tidying pass next seat = record {
    seat = seat;
    number = pass.number;
    local = record pass.local { doing = (doing_next {M = M} Tidying next).0; batch = batch_given next pass.local.batch };
  }

module _ {M : Type 0} (mix : ℕ → ℕ → ℕ → ℕ) (t : Table M) where
  -- the pass has given its tidying out of hand, which has made so many operations
  pub record IsTidyingBeside (steps : ℕ) (before now : Pass M) (m : TidyModel) : Type 0 where
    pub tidying : IsTidyingPass mix t steps before (with_tidying now m)
    pub idle : now.local.doing ≡ Idle

  -- the tidying has ended with this reply
  pub record HasTidied (before : Pass M) (reply : Reply) (now : Pass M) : Type 0 where
    pub called : HasCalled mix t Tidy reply before now
    pub tidied :
        let own = batch_or t.env.geometry before.local.batch in
        IsOwn t.env.geometry own → TidiesBatch reply own (batch_or t.env.geometry now.local.batch)

  module _ (steps : ℕ) (before now : Pass M) (m : TidyModel) (seat : Seat (Unit {0}) (SeatView M)) (old : ℕ)
      (is : IsTidyingPass mix t steps before (with_tidying now m)) (same : IsSameSeat now.seat seat)
      (went : Went mix None now.seat.me.0 old seat.me.0)
    where
      gone : (next : TidyModel × Next Reply) → next ≡ tidy_after m old
          → let after = behind_tidying now next seat in
          IsPassOf mix t after × IsSamePass (with_tidying now m) after
          × HasGone mix t None (with_tidying now m) (doing_next {M = M} Tidying next).1 after
      gone next came =
          still mix t (with_tidying now m) (behind_tidying now next seat) None old (doing_next {M = M} Tidying next).1
          is.calling.pass same went refl
          (λ i. (
            record now.local { doing = (doing_next {M = M} Tidying (came i)).0; batch = batch_given (came i) now.local.batch },
            (doing_next {M = M} Tidying (came i)).1,
          ))

      -- the tidying goes on
      pub tidies_on : (m' : TidyModel) → (m', Go) ≡ tidy_after m old
          → IsTidyingPass mix t (steps + 1) before (behind_tidying now (m', Go) seat)
      tidies_on m' came =
          let all = gone (m', Go) came in
          let after = behind_tidying now (m', Go) seat in
          record {
            calling = turned mix t before (with_tidying now m) after None Tidy steps None is.calling.same is.calling.busy
                is.calling.book all.0 all.1 all.2;
            tidying = gone-on mix t.env.geometry (batch_or t.env.geometry before.local.batch) t None (with_tidying now m) None after
                is.tidying all.2;
          }

      -- or has ended
      pub tidies_to : (m' : TidyModel) (reply : Reply) → (m', Done reply) ≡ tidy_after m old
          → HasTidied before reply (behind_tidying now (m', Done reply) seat)
      tidies_to m' reply came =
          let all = gone (m', Done reply) came in
          let after = behind_tidying now (m', Done reply) seat in
          record {
            called = turned mix t before (with_tidying now m) after None Tidy steps (Some reply) is.calling.same is.calling.busy
                is.calling.book all.0 all.1 all.2;
            tidied = gone-on mix t.env.geometry (batch_or t.env.geometry before.local.batch) t None (with_tidying now m) (Some reply)
                after is.tidying all.2;
          }
