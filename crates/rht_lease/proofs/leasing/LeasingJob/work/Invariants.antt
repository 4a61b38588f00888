use Rattle.std.proofs.Common.{◌≡◌, ◌+◌, ◌≤◌, take}
use Rattle.rht_lease.specs.Answers.{commands_of, own_leases}
use Rattle.rht_lease.specs.ServedLeases.{IsWorking}
use Rattle.rht_lease.proofs.leasing.LeasingJob.work.Given as goal

-- the worker's commands so far are done
abbrev pub invariant-loop-command : goal.invariant-loop-command
invariant-loop-command g l = record {
  working :
      IsWorking g.M.Mix.mix_of l.table l.self.script.now.auto (commands_of (l.number + 1) (take l.command-index l.command-items)) l.number
      l.worker;
  capacity : l.worker.book.capacity ≡ own_leases (l.number + 1) l.command-items;
  items : l.command-items ≡ l.self.script.now.commands.items;
  few : l.index ≤ l.command-index;
}
