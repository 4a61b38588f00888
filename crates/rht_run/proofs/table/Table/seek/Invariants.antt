use Rattle.rht_release.specs.Seek.{locating}
use Rattle.rht_run.specs.Rides.{IsRiding}
use Rattle.rht_run.specs.Seeks.{port_seek}
use Rattle.rht_run.proofs.table.Table.seek.Given as goal

-- the port's bucket in this table comes next
abbrev pub invariant-loop : goal.invariant-loop
invariant-loop g l =
    IsRiding g.M.Mix.mix_of l.self g.K.Ride.riding
    (g.F.Frame.holding l.frame (port_seek l.geometry l.port (locating l.geometry l.table))) l.seat
