use Rattle.std.proofs.Common.{refl}
use Rattle.std.proofs.lemmas.Result.{on_ok_weaker}
use Rattle.rht_resume.specs.declared.worker.Worker.{Worker}
use Rattle.rht_resume.proofs.WorkedCommands.{HasDone-served}
use Rattle.rht_resume.proofs.worker.Worker.call.Goals as goal

pub returns : goal.returns
returns g c =
    let after : Worker g.row.M.Denot = record {
      pass = c.serve-reply.new.pass;
      resumed = c.args.self.now.resumed;
      replies = c.push.new.self;
    } in
    on_ok_weaker c.push.result
    (λ (kept : _). HasDone-served g.M.Mix.mix_of c.args.table.now c.args.auto c.args.self.now after c.args.call
    c.serve-reply.result c.owners.result.now c.pairs.result.now c.serve-reply.ensures.served c.owners.ensures.owners
    c.pairs.ensures.pairs kept refl)
    c.push.ensures.ok
