use Rattle.std.proofs.Common.{◌∙◌}
use Rattle.rht_run.proofs.CallSteps.{last_owners}
use Rattle.rht_run.proofs.pass.Pass.owners.Goals as goal

pub returns-clause-last : goal.returns-clause-last
returns-clause-last g c t is idle =
    c.owners.ensures ∙ last_owners g.M.Mix.mix_of t c.args.self.now is idle
