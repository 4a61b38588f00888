use Rattle.rht_run.specs.Rides.{IsRiding}
use Rattle.rht_run.specs.WorkPieces.{work_at, bucket_or_end}
use Rattle.rht_run.proofs.table.Table.move_buckets.Given as goal

-- the bucket of this number comes next, where there is one
abbrev pub invariant-loop-number : goal.invariant-loop-number
invariant-loop-number g l =
    IsRiding g.M.Mix.mix_of l.self g.K.Ride.riding (work_at l.env l.caller (bucket_or_end l.env.geometry l.rehash l.number)) l.seat
