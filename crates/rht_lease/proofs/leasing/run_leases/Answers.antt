use Rattle.std.proofs.Common.{subst}
use Rattle.rht_core.specs.Serving.{IsServedRun}
use Rattle.rht_run.proofs.ServedWorkers.{HaveServedAll-passes, IsServedRun-closed}
use Rattle.rht_lease.specs.Answers.{all_calls}
use Rattle.rht_lease.proofs.LeaseRuns.{AreLeased-all}
use Rattle.rht_lease.proofs.leasing.run_leases.Goals as goal

pub close-requires-clause-passes : goal.close-requires-clause-passes
close-requires-clause-passes g c pass among =
    let mix = g.M.Mix.mix_of in
    let script = c.args.script.now in
    let left = c.in_ok-left.left in
    let all = AreLeased-all mix script.config left.table script.auto script.commands.items left.passes.items left.own.items
    c.in_ok-left.ensures in
    HaveServedAll-passes mix script.config left.table script.auto (all_calls script.commands.items left.own.items) left.passes.items
    all.endings all.served pass among

pub returns-in-Ok : goal.returns-in-Ok
returns-in-Ok g c =
    let mix = g.M.Mix.mix_of in
    let script = c.args.script.now in
    let left = c.in_ok-left.left in
    let calls = all_calls script.commands.items left.own.items in
    let all = AreLeased-all mix script.config left.table script.auto script.commands.items left.passes.items left.own.items
    c.in_ok-left.ensures in
    record {
      endings = all.endings;
      answered = all.answered;
      served =
          subst (λ m. IsServedRun g.row.M.Denot m script.config script.auto calls all.endings c.in-Ok.closed) c.requires.mix
          (IsServedRun-closed mix script.config left.table script.auto calls left.passes.items all.endings all.served c.in-Ok.closed
          c.in-Ok.ensures.closed);
    }
