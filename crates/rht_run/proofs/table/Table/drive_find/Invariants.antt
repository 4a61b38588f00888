use Rattle.std.specs.Prelude.{◌≤◌}
use Rattle.rht_find.specs.Find.{locating}
use Rattle.rht_run.specs.PieceFrames.{find_at}
use Rattle.rht_run.specs.Rides.{IsRiding, steps_in}
use Rattle.rht_run.proofs.table.Table.drive_find.Given as goal

-- the port's bucket in this table comes next, and each round has made an operation
abbrev pub invariant-loop-rounds : goal.invariant-loop-rounds
invariant-loop-rounds g l = record {
  riding : IsRiding g.M.Mix.mix_of l.self g.K.Ride.riding (find_at l.env l.number l.port (locating l.env l.table)) l.seat;
  made : l.rounds ≤ steps_in l.seat;
}
