use Rattle.std.proofs.Common.{◌≡◌, sym, subst}
use Rattle.rht_run.specs.Passes.{IsPassOf}
use Rattle.rht_policy.specs.Mix.{mix_named}
use Rattle.rht_run.proofs.ServedWorkers.{HaveServedAll-passes}
use Rattle.rht_tests.proofs.registry.closed.Goals as goal

pub close-requires-clause-passes : goal.close-requires-clause-passes
close-requires-clause-passes g c pass among =
    let script = c.args.script.now in
    let outcome = c.args.outcome in
    subst (λ mix. IsPassOf mix outcome.table pass) (sym c.requires.mix)
    (HaveServedAll-passes (mix_named script.config) script.config outcome.table script.auto script.commands.items outcome.passes.items
    outcome.replies.items c.requires.outcome pass among)
