use Rattle.rht_move.specs.LastTable.{last_table_new}
use Rattle.rht_run.specs.Rides.{IsRiding}
use Rattle.rht_run.proofs.table.Table.last_table.Given as goal

-- the future of this table comes next
abbrev pub invariant-loop : goal.invariant-loop
invariant-loop g l =
    IsRiding g.M.Mix.mix_of l.self g.K.Ride.riding (g.F.Frame.holding l.frame (last_table_new l.geometry l.table)) l.seat
