use Rattle.rht_move.specs.declared.work.WorkAt.TheVariants.{Returning}
use Rattle.rht_run.specs.Rides.{IsRiding}
use Rattle.rht_run.specs.WorkPieces.{work_at}
use Rattle.rht_run.proofs.table.Table.return_tables.Given as goal

-- the giving back of retired tables stands here
abbrev pub invariant-loop : goal.invariant-loop
invariant-loop g l =
    IsRiding g.M.Mix.mix_of l.self g.K.Ride.riding (work_at l.env l.caller (Returning l.returns)) l.seat
