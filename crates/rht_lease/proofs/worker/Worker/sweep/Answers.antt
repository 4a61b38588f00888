use Rattle.std.proofs.lemmas.Result.{on_ok_weaker}
use Rattle.rht_lease.specs.declared.worker.Worker.{Worker}
use Rattle.rht_lease.proofs.WorkedCommands.{HasDone-swept}
use Rattle.rht_lease.proofs.worker.Worker.sweep.Goals as goal

pub returns : goal.returns
returns g c =
    let after : Worker g.row.M.Denot = record {
      pass = c.sweep-swept.new.pass;
      book = c.sweep-swept.new.self;
      replies = c.push_bare.new.self;
    } in
    on_ok_weaker c.push_bare.result
    (λ (kept : _). HasDone-swept g.M.Mix.mix_of c.args.table.now c.args.auto c.args.now c.args.self.now after c.sweep-swept.result
    c.sweep-swept.ensures.served kept c.sweep-swept.ensures.book)
    c.push_bare.ensures.ok
