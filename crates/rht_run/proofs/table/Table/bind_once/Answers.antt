use Rattle.std.proofs.Common.{refl, arith, true}
use Rattle.rht_model.specs.declared.history.Call.TheVariants.{Bind}
use Rattle.rht_run.proofs.CallSteps.{answered}
use Rattle.rht_run.proofs.CallCauses.{called_caused}
use Rattle.rht_run.proofs.table.Table.bind_once.Goals as goal

pub call-requires-clause-may : goal.call-requires-clause-may
call-requires-clause-may g c =
    record { idle = c.requires.idle; admitted = (c.word_of.ensures.within, omega (arith, c.ranges.owner)); machine = _; machine_is = refl }

pub returns-clause-reply : goal.returns-clause-reply
returns-clause-reply g c =
    (answered g.M.Mix.mix_of c.args.self.now (Bind c.args.port c.args.owner true) c.call.result c.args.pass.now c.call.new.pass
    c.call.ensures).reply

pub returns-clause-cause : goal.returns-clause-cause
returns-clause-cause g c =
    called_caused g.M.Mix.mix_of c.args.self.now (Bind c.args.port c.args.owner true) c.call.result c.args.pass.now c.call.new.pass
    c.call.ensures
