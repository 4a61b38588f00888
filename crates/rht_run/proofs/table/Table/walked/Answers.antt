use Rattle.std.proofs.Common.{rules}
use Rattle.rht_model.specs.declared.history.Call.TheVariants.{Walk}
use Rattle.rht_run.proofs.Performed.{own_batch}
use Rattle.rht_run.proofs.ServedCommands.{MayBegin-made}
use Rattle.rht_run.proofs.table.Table.walked.Goals as goal

pub start-requires-clause-may : goal.start-requires-clause-may
start-requires-clause-may g c =
    MayBegin-made c.args.self.now.env c.args.pass.now.number (Walk c.args.from c.args.limit) c.args.pass.now.local c.requires.idle
    (search rules) (own_batch g.M.Mix.mix_of c.args.self.now c.args.pass.now c.requires.pass c.requires.idle)
