use Rattle.std.proofs.Common.{ℕ, ◌-◌, ◌<◌, length, ◌∙◌, arith}
use Rattle.rht_model.specs.declared.history.Call.{Call}
use Rattle.rht_deal.proofs.ServedAnswers.{IsWorking-more, dealt-at}
use Rattle.rht_deal.proofs.worker.Worker.serve.Goals as goal

pub returns-clause-working : goal.returns-clause-working
returns-clause-working g c =
    let script = c.args.deal.now.script.now in
    let command : ℕ × Call = c.index-command.result.now in
    let first = c.requires.first in
    let last = c.requires.last in
    let within : c.args.number - 1 < length script.commands.items = omega (arith, first, last) in
    let here = dealt-at script (c.args.number - 1) command c.requires.can.dealt within c.index-command.ensures in
    IsWorking-more g.M.Mix.mix_of c.args.deal.now.table.now script c.args.self.now c.keep.new.self c.args.number command.1
    c.serve-reply.result c.serve-reply.new.pass c.in_ok-owners.owners c.requires.working here.0 here.1 c.requires.rises
    c.serve-reply.ensures.served (c.in_ok-owners.ensures ∙ c.owners.ensures.owners) c.in_ok-keep.ensures.done c.keep.ensures.pass
    c.keep.ensures.same
