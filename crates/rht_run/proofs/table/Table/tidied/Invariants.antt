use Rattle.std.proofs.Common.{◌+◌}
use Rattle.rht_run.proofs.TidyRides.{IsTidyingBeside}
use Rattle.rht_run.proofs.table.Table.tidied.Given as goal

-- the pass is in the tidying, and has made an operation of it for each round beside the first one
abbrev pub invariant-loop-rounds : goal.invariant-loop-rounds
invariant-loop-rounds g l = IsTidyingBeside g.M.Mix.mix_of l.self (l.rounds + 1) l.fn.pass l.pass l.tidy
