use Rattle.std.proofs.Common.{false, refl}
use Rattle.std.proofs.lemmas.Result.{on_ok_weaker}
use Rattle.rht_model.specs.declared.history.Call.TheVariants.{Bind}
use Rattle.rht_lease.specs.declared.lease.LeaseCall.TheVariants.{Lease}
use Rattle.rht_lease.specs.declared.worker.Worker.{Worker}
use Rattle.rht_lease.proofs.WorkedCommands.{HasDone-served}
use Rattle.rht_lease.proofs.worker.Worker.lease.Goals as goal

pub returns : goal.returns
returns g c =
    let after : Worker g.row.M.Denot = record {
      pass = c.lease-reply.new.pass;
      book = c.lease-reply.new.self;
      replies = c.push.new.self;
    } in
    let lease = c.args.lease in
    on_ok_weaker c.push.result
    (λ (kept : _). HasDone-served g.M.Mix.mix_of c.args.table.now c.args.auto (Lease lease) c.args.self.now after
    (Bind lease.port lease.owner false) c.lease-reply.result c.owners.result.now refl refl c.lease-reply.ensures.served
    c.owners.ensures.owners kept c.lease-reply.ensures.book (λ endings own. own))
    c.push.ensures.ok
