use Rattle.std.proofs.Common.{◌≡◌, ◌≤◌, take}
use Rattle.rht_registry.specs.Outcomes.{HasServedWorker}
use Rattle.rht_registry.proofs.registry.ServingJob.work.Given as goal

-- the worker's commands so far are served
abbrev pub invariant-loop-command : goal.invariant-loop-command
invariant-loop-command g l = record {
  served : HasServedWorker g.M.Mix.mix_of l.table l.self.script.now.auto (take l.command-index l.command-items) l.number l.pass l.replies;
  items : l.command-items ≡ l.self.script.now.commands.items;
  few : l.index ≤ l.command-index;
}
