use Rattle.std.proofs.Common.{◌∙◌}
use Rattle.rht_run.proofs.CallSteps.{last_pairs}
use Rattle.rht_run.proofs.pass.Pass.pairs.Goals as goal

pub returns-clause-last : goal.returns-clause-last
returns-clause-last g c t is idle =
    c.pairs.ensures ∙ last_pairs g.M.Mix.mix_of t c.args.self.now is idle
