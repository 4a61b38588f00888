use Rattle.std.proofs.Common.{sym, subst}
use Rattle.rht_run.specs.Passes.{IsPassOf, IsClosedWith}
use Rattle.rht_policy.specs.Mix.{mix_named}
use Rattle.rht_run.proofs.ServedWorkers.{HaveServedAll-passes, IsServedRun-closed}
use Rattle.rht_forms.proofs.program.run_by.Goals as goal

pub close-requires-clause-passes : goal.close-requires-clause-passes
close-requires-clause-passes g c pass among =
    let script = c.args.script.now in
    let outcome = c.in_ok-outcome.outcome in
    subst (λ mix. IsPassOf mix outcome.table pass) (sym c.requires.mix)
    (HaveServedAll-passes (mix_named script.config) script.config outcome.table script.auto script.commands.items outcome.passes.items
    outcome.replies.items c.in_ok-outcome.ensures pass among)

pub returns-in-Ok : goal.returns-in-Ok
returns-in-Ok g c =
    let script = c.args.script.now in
    let outcome = c.in_ok-outcome.outcome in
    IsServedRun-closed (mix_named script.config) script.config outcome.table script.auto script.commands.items outcome.passes.items
    outcome.replies.items c.in_ok-outcome.ensures c.in-Ok.closed
    (subst (λ mix. IsClosedWith mix outcome.table.env outcome.passes.items c.in-Ok.closed) c.requires.mix c.in-Ok.ensures.closed)
