use Rattle.rht_move.specs.declared.work.WorkAt.TheVariants.{Making}
use Rattle.rht_run.specs.Rides.{IsRiding}
use Rattle.rht_run.specs.WorkPieces.{work_at}
use Rattle.rht_run.proofs.table.Table.attach.Given as goal

-- the making stands here
abbrev pub invariant-loop : goal.invariant-loop
invariant-loop g l =
    IsRiding g.M.Mix.mix_of l.self g.K.Ride.riding (work_at l.env l.caller (Making l.wanted l.make)) l.seat
