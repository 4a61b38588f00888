use Rattle.std.proofs.Common.{rules}
use Rattle.rht_run.proofs.Performed.{own_batch}
use Rattle.rht_run.proofs.ServedCommands.{MayBegin-made}
use Rattle.rht_run.proofs.table.Table.tried.Goals as goal

pub answer-requires-clause-may : goal.answer-requires-clause-may
answer-requires-clause-may g c =
    MayBegin-made c.args.self.now.env c.args.pass.now.number c.args.call c.args.pass.now.local c.requires.idle (search rules)
    (own_batch g.M.Mix.mix_of c.args.self.now c.args.pass.now c.requires.pass c.requires.idle)

pub answer_again-requires-clause-may : goal.answer_again-requires-clause-may
answer_again-requires-clause-may g c =
    let t = c.args.self.now in
    let tidied = c.tidy.new.pass in
    MayBegin-made t.env tidied.number c.args.call tidied.local c.tidy.ensures.called.idle (search rules)
    (own_batch g.M.Mix.mix_of t tidied c.tidy.ensures.called.pass c.tidy.ensures.called.idle)
