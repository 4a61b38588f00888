use Rattle.std.proofs.Common.{◌≡◌, ◌+◌, ◌≤◌, take}
use Rattle.rht_resume.specs.Answers.{commands_of}
use Rattle.rht_resume.specs.ServedPieces.{IsWorking}
use Rattle.rht_resume.proofs.resuming.ResumingJob.work.Given as goal

-- the worker's commands so far are done
abbrev pub invariant-loop-command : goal.invariant-loop-command
invariant-loop-command g l = record {
  working :
      IsWorking g.M.Mix.mix_of l.table l.self.script.now.auto (commands_of (l.number + 1) (take l.command-index l.command-items)) l.number
      l.worker;
  items : l.command-items ≡ l.self.script.now.commands.items;
  few : l.index ≤ l.command-index;
}
