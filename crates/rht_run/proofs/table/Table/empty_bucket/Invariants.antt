use Rattle.rht_run.specs.Rides.{IsRiding}
use Rattle.rht_run.specs.WorkPieces.{work_at, bucket_locked}
use Rattle.rht_run.proofs.table.Table.empty_bucket.Given as goal

-- the bucket has this word, and its last entry comes next
abbrev pub invariant-loop : goal.invariant-loop
invariant-loop g l =
    IsRiding g.M.Mix.mix_of l.self g.K.Ride.riding (work_at l.env l.caller (bucket_locked l.env l.rehash l.number l.bucket)) l.seat
