use Rattle.rht_model.specs.declared.history.Call.TheVariants.{Walk}
use Rattle.rht_run.proofs.CallSteps.{answered}
use Rattle.rht_run.proofs.CallCauses.{called_caused}
use Rattle.rht_run.proofs.table.Table.walk.Goals as goal

pub returns-clause-reply : goal.returns-clause-reply
returns-clause-reply g c =
    (answered g.M.Mix.mix_of c.args.self.now (Walk c.args.from c.args.limit) c.walked.result c.args.pass.now c.walked.new.pass
    c.walked.ensures).reply

pub returns-clause-pairs : goal.returns-clause-pairs
returns-clause-pairs g c =
    (answered g.M.Mix.mix_of c.args.self.now (Walk c.args.from c.args.limit) c.walked.result c.args.pass.now c.walked.new.pass
    c.walked.ensures).pairs

pub returns-clause-cause : goal.returns-clause-cause
returns-clause-cause g c =
    called_caused g.M.Mix.mix_of c.args.self.now (Walk c.args.from c.args.limit) c.walked.result c.args.pass.now c.walked.new.pass
    c.walked.ensures
