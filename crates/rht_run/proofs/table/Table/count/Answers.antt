use Rattle.std.proofs.Common.{refl}
use Rattle.rht_model.specs.declared.history.Call.TheVariants.{Count}
use Rattle.rht_run.proofs.CallCauses.{called_caused}
use Rattle.rht_run.proofs.table.Table.count.Goals as goal

pub start-requires-clause-may : goal.start-requires-clause-may
start-requires-clause-may g c =
    record { idle = c.requires.idle; admitted = tt; machine = _; machine_is = refl }

pub returns-clause-cause : goal.returns-clause-cause
returns-clause-cause g c =
    called_caused g.M.Mix.mix_of c.args.self.now Count c.in-Some.reply c.args.pass.now c.start.new.pass c.in-Some.ensures.turned
