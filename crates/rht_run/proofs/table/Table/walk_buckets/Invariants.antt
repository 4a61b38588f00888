use Rattle.std.specs.Prelude.{◌<◌}
use Rattle.rht_callers.specs.declared.local.Doing.TheVariants.{Walking}
use Rattle.rht_run.specs.Rides.{IsRiding, steps_in}
use Rattle.rht_run.specs.Walking.{IsRound, walk_now}
use Rattle.rht_run.proofs.table.Table.walk_buckets.Given as goal

-- the walk stands here, and has made an operation in each round, beside the first one
abbrev pub invariant-loop-rounds : goal.invariant-loop-rounds
invariant-loop-rounds g l = record {
  riding : IsRiding g.M.Mix.mix_of l.self g.K.Ride.riding (Walking (walk_now l.walker l.room l.at)) l.seat;
  round : IsRound l.at;
  made : l.rounds < steps_in l.seat;
}
