use Rattle.std.specs.Prelude.{◌≤◌}
use Rattle.rht_callers.specs.declared.local.Doing.TheVariants.{Finding}
use Rattle.rht_run.specs.Rides.{IsRiding, steps_in}
use Rattle.rht_run.proofs.table.Table.find_on.Given as goal

-- the caller is in the call, its machine stands here, and it has made an operation in each round
abbrev pub invariant-loop-rounds : goal.invariant-loop-rounds
invariant-loop-rounds g l =
    IsRiding g.M.Mix.mix_of l.self g.K.Ride.riding (Finding l.find) l.seat × (l.rounds ≤ steps_in l.seat)
