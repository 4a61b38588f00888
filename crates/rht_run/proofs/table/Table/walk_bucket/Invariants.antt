use Rattle.std.specs.Prelude.{◌≡◌, ◌+◌, ◌≤◌}
use Rattle.rht_find.specs.declared.find.FindAt.TheVariants.{Heading}
use Rattle.rht_run.specs.PieceFrames.{find_at}
use Rattle.rht_run.specs.Rides.{IsRiding, steps_in}
use Rattle.rht_run.proofs.table.Table.walk_bucket.Given as goal

-- the bucket's word comes next, and each walk before was one of the repeats
abbrev pub invariant-loop-walks : goal.invariant-loop-walks
invariant-loop-walks g l = record {
  riding : IsRiding g.M.Mix.mix_of l.self g.K.Ride.riding
      (find_at l.env l.number l.port (Heading (record { table = l.table; place = l.place; left = l.left }))) l.seat;
  repeats : l.left + l.walks ≡ l.env.config.rewalks;
  made : steps_in l.fn.seat ≤ steps_in l.seat;
}
