use Rattle.std.proofs.Common.{refl}
use Rattle.std.proofs.lemmas.Result.{on_ok_weaker}
use Rattle.rht_lease.specs.declared.lease.LeaseCall.TheVariants.{Plain}
use Rattle.rht_lease.specs.declared.worker.Worker.{Worker}
use Rattle.rht_lease.proofs.WorkedCommands.{HasDone-served}
use Rattle.rht_lease.proofs.worker.Worker.call.Goals as goal

pub returns : goal.returns
returns g c =
    let after : Worker g.row.M.Denot = record {
      pass = c.serve-reply.new.pass;
      book = c.args.self.now.book;
      replies = c.push.new.self;
    } in
    on_ok_weaker c.push.result
    (λ (kept : _). HasDone-served g.M.Mix.mix_of c.args.table.now c.args.auto (Plain c.args.call) c.args.self.now after c.args.call
    c.serve-reply.result c.owners.result.now refl c.requires.plain c.serve-reply.ensures.served c.owners.ensures.owners kept refl
    (λ endings own. own))
    c.push.ensures.ok
