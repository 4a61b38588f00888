use Rattle.rht_run.specs.Rides.{IsRiding}
use Rattle.rht_run.proofs.table.Table.run_whole.Given as goal

-- the caller is in the call, and its machine stands here
abbrev pub invariant-loop : goal.invariant-loop
invariant-loop g l =
    (goal.iterator-loop g).can_next l.iterator' × (goal.iterator-loop g).is_finite l.iterator'
    × IsRiding g.M.Mix.mix_of l.self g.K.Ride.riding (g.F.Frame.holding l.frame l.machine) l.seat
