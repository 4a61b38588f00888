use Rattle.rht_nest.specs.Locate.{locate_new}
use Rattle.rht_bind.specs.declared.bind.BindAt.TheVariants.{Locating}
use Rattle.rht_run.specs.Rides.{IsRiding}
use Rattle.rht_run.specs.PieceFrames.{bind_at}
use Rattle.rht_run.proofs.table.Table.drive_bind.Given as goal

-- the port's bucket in this table comes next
abbrev pub invariant-loop : goal.invariant-loop
invariant-loop g l =
    IsRiding g.M.Mix.mix_of l.self g.K.Ride.riding
    (bind_at l.env l.number l.port l.owner l.once (Locating l.attempt (locate_new l.env.geometry l.table))) l.seat
