use Rattle.std.specs.Prelude.{◌<◌}
use Rattle.rht_find.specs.Find.{led_on}
use Rattle.rht_run.specs.PieceFrames.{find_at}
use Rattle.rht_run.specs.Rides.{IsRiding, steps_in}
use Rattle.rht_run.proofs.table.Table.walk_chain.Given as goal

-- the walk is behind this link, and has visited so many nodes
abbrev pub invariant-loop-visited : goal.invariant-loop-visited
invariant-loop-visited g l = record {
  riding : IsRiding g.M.Mix.mix_of l.self g.K.Ride.riding
      (find_at l.env l.number l.port (led_on l.env.geometry l.head l.visited l.link)) l.seat;
  made : steps_in l.fn.seat < steps_in l.seat;
}
