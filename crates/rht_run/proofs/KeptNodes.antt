-- A node that a call takes out may go into its caller's batch. In the run behind the operation the batch has it, and in no run
-- does a node stand in a caller's batch twice: so it wasn't there before.
use Rattle.std.proofs.Common.{ℕ, ◌<◌, [], ◌∷◌, ◌++◌, Option, Some, None, refl, subst, append_assoc}
use Rattle.atomic_table.specs.declared.shared.Seat.{Seat}
use Rattle.rht_words.specs.Members.{IsDistinct}
use Rattle.rht_words.proofs.Members.{in-middle, In-append_left, NotIn-append, IsDistinct-cut, AllByRecursion-In}
use Rattle.rht_model.specs.declared.history.Call.{Call}
use Rattle.rht_model.specs.declared.history.Reply.{Reply}
use Rattle.rht_grace.specs.Batch.{BatchModel}
use Rattle.rht_callers.specs.Batches.{IsSoundBatch, CanPut, with_out, out_of, batch_room, batch_after}
use Rattle.rht_callers.specs.declared.local.Local.{Local}
use Rattle.rht_callers.specs.declared.local.Doing.{Doing}
use Rattle.rht_callers.specs.declared.local.Doing.TheVariants.{Idle, Tidying}
use Rattle.rht_callers.proofs.BatchesOfCallers.{batch_after-out}
use Rattle.rht_core.specs.Locals.{doing_after, local_after}
use Rattle.rht_core.proofs.Events.BatchesInRuns.{all_in_range}
use Rattle.rht_run.specs.declared.seats.SeatView.{SeatView}
use Rattle.rht_run.specs.declared.table.Table.{Table}
use Rattle.rht_run.specs.declared.pass.Pass.{Pass}
use Rattle.rht_run.specs.Rule.{Went, local_then}
use Rattle.rht_run.specs.Passes.{IsSameSeat, IsPassOf}
use Rattle.rht_run.specs.Rides.{Riding, riding_pass, handed, batch_with, HasEndedWith}
use Rattle.rht_run.proofs.Performed.{of_run, still}

-- ---- one batch

none-put : (batch : Option BatchModel) → CanPut batch None
none-put None = tt
none-put (Some batch) = tt

-- where a batch is sound with the node, the node is the table's, and isn't in the batch without it
put-before : (batch : Option BatchModel) (removed : Option ℕ) → IsSoundBatch (with_out batch removed) → CanPut batch removed
put-before None removed is = tt
put-before (Some batch) None is = tt
put-before (Some batch) (Some node) is =
    let fresh = batch.fresh ++ node ∷ [] in
    let low = AllByRecursion-In (λ n. n < batch.geometry.nodes) node (fresh ++ batch.waiting) is.among
    (In-append_left node fresh batch.waiting (in-middle node batch.fresh [])) in
    let apart = IsDistinct-cut batch.fresh node batch.waiting
    (subst IsDistinct (append_assoc batch.fresh (node ∷ []) batch.waiting) is.distinct) in
    (low, NotIn-append node batch.fresh batch.waiting apart.0 apart.1)

put-with : (batch : Option BatchModel) (removed : Option ℕ) → IsSoundBatch (batch_with batch removed) → CanPut batch removed
put-with batch None is = none-put batch
put-with batch (Some node) is = put-before batch (Some node) is

module _ {M : Type 0} (mix : ℕ → ℕ → ℕ → ℕ) where
  -- so it is of what an operation hands out
  put-now : (doing : Doing M) (batch : Option BatchModel) (old : ℕ)
      → IsSoundBatch (batch_room (doing_after mix doing old).0 (batch_after mix doing batch old))
      → CanPut batch (out_of mix doing old)
  put-now (Tidying m) batch old is = none-put batch
  put-now doing batch old is =
      put-before batch (out_of mix doing old)
      (subst IsSoundBatch (batch_after-out M mix doing batch old (λ m same. absurd (cc))) is)

  -- ---- passes

  module _ (t : Table M) where
    -- the batch of a pass is sound, since it is that of a caller in a run
    sound_in : (p : Pass M) → IsPassOf mix t p → IsSoundBatch (batch_room p.local.doing p.local.batch)
    sound_in p is =
        of_run mix t p is (λ env c local book. IsSoundBatch (batch_room local.doing local.batch))
        (λ env events c admitted. (all_in_range M mix env events admitted).batches c)

    -- what an operation of a pass hands out may be put into its batch
    pub may_take : (p : Pass M) (begins : Option Call) (seat' : Seat (Unit {0}) (SeatView M)) (old : ℕ) → IsPassOf mix t p
        → IsSameSeat p.seat seat' → Went mix begins p.seat.me.0 old seat'.me.0
        → let local : Local M = local_then t.env p.number begins p.local in CanPut local.batch (out_of mix local.doing old)
    may_take p begins seat' old is same went =
        let local : Local M = local_then t.env p.number begins p.local in
        let next = local_after mix local old in
        let after : Pass M = record { seat = seat'; number = p.number; local = next.0 } in
        let now = still mix t p after begins old next.1 is same went refl refl in
        put-now local.doing local.batch old (sound_in after now.0)

    -- and so may be what a call that was driven took out
    pub may_keep : (r : Riding) (reply : Reply) (removed : Option ℕ) (seat : Seat (Unit {0}) (SeatView M))
        → HasEndedWith mix t r reply removed seat → CanPut r.batch removed
    may_keep r reply removed seat ended =
        put-with r.batch removed (sound_in (riding_pass (handed r removed) Idle seat) ended.pass)
