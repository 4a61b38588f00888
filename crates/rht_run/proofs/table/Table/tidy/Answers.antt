use Rattle.rht_model.specs.declared.history.Call.TheVariants.{Tidy}
use Rattle.rht_run.proofs.CallSteps.{answered}
use Rattle.rht_run.proofs.CallCauses.{called_caused, tidied_left}
use Rattle.rht_run.proofs.table.Table.tidy.Goals as goal

pub returns-clause-reply : goal.returns-clause-reply
returns-clause-reply g c =
    (answered g.M.Mix.mix_of c.args.self.now Tidy c.tidied.result c.args.pass.now c.tidied.new.pass c.tidied.ensures.called).reply

pub returns-clause-cause : goal.returns-clause-cause
returns-clause-cause g c =
    called_caused g.M.Mix.mix_of c.args.self.now Tidy c.tidied.result c.args.pass.now c.tidied.new.pass c.tidied.ensures.called

pub returns-clause-left : goal.returns-clause-left
returns-clause-left g c =
    tidied_left g.M.Mix.mix_of c.args.self.now c.tidied.result c.args.pass.now c.tidied.new.pass c.tidied.ensures.called
