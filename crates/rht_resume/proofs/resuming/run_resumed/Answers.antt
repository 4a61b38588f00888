use Rattle.std.proofs.Common.{subst}
use Rattle.rht_core.specs.Serving.{IsServedRun}
use Rattle.rht_run.proofs.ServedWorkers.{HaveServedAll-passes, IsServedRun-closed}
use Rattle.rht_resume.specs.Answers.{all_calls}
use Rattle.rht_resume.proofs.ResumeRuns.{AreServed-all}
use Rattle.rht_resume.proofs.resuming.run_resumed.Goals as goal

pub close-requires-clause-passes : goal.close-requires-clause-passes
close-requires-clause-passes g c pass among =
    let mix = g.M.Mix.mix_of in
    let script = c.args.script.now in
    let left = c.in_ok-left.left in
    let all = AreServed-all mix script.config left.table script.auto script.commands.items left.passes.items left.own.items
    c.in_ok-left.ensures in
    HaveServedAll-passes mix script.config left.table script.auto (all_calls script.commands.items all.endings) left.passes.items
    all.endings all.served pass among

pub returns-in-Ok : goal.returns-in-Ok
returns-in-Ok g c =
    let mix = g.M.Mix.mix_of in
    let script = c.args.script.now in
    let left = c.in_ok-left.left in
    let all = AreServed-all mix script.config left.table script.auto script.commands.items left.passes.items left.own.items
    c.in_ok-left.ensures in
    let calls = all_calls script.commands.items all.endings in
    record {
      endings = all.endings;
      answered = all.answered;
      served =
          subst (λ m. IsServedRun g.row.M.Denot m script.config script.auto calls all.endings c.in-Ok.closed) c.requires.mix
          (IsServedRun-closed mix script.config left.table script.auto calls left.passes.items all.endings all.served c.in-Ok.closed
          c.in-Ok.ensures.closed);
    }
