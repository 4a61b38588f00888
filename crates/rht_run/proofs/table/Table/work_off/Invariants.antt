use Rattle.rht_run.proofs.ServedCommands.{IsWorking}
use Rattle.rht_run.proofs.table.Table.work_off.Given as goal

-- each `work` so far has answered that it is to be made again
abbrev pub invariant-loop : goal.invariant-loop
invariant-loop g l = IsWorking g.M.Mix.mix_of l.self l.fn.pass l.pass
