use Rattle.rht_chain.specs.Lock.{lock_new}
use Rattle.rht_run.specs.Rides.{IsRiding}
use Rattle.rht_run.proofs.table.Table.take_lock.Given as goal

-- the lock stands at its first state
abbrev pub invariant-loop : goal.invariant-loop
invariant-loop g l =
    IsRiding g.M.Mix.mix_of l.self g.K.Ride.riding (g.F.Frame.holding l.frame (lock_new l.place)) l.seat
