use Rattle.std.proofs.Common.{ap}
use Rattle.std.proofs.lemmas.Result.{on_ok_weaker}
use Rattle.rht_resume.specs.declared.worker.Worker.{Worker}
use Rattle.rht_resume.specs.Pieces.{Walking, begun}
use Rattle.rht_resume.proofs.WorkedCommands.{HasDone-next}
use Rattle.rht_resume.proofs.worker.Worker.next.Goals as goal

pub returns : goal.returns
returns g c auto =
    let after : Worker g.row.M.Denot = record {
      pass = c.next-piece.new.pass;
      resumed = c.next-piece.new.self;
      replies = c.push_piece.new.self;
    } in
    on_ok_weaker c.push_piece.result
    (λ (kept : _). HasDone-next g.M.Mix.mix_of c.args.table.now auto c.args.self.now after c.args.limit c.reopen.new.self
    c.next-piece.result c.pairs.result.now (ap (λ (w : Walking). begun w.spot) c.reopen.ensures)
    (ap (λ (w : Walking). w.nodes) c.reopen.ensures) c.next-piece.ensures.resumed c.pairs.ensures kept)
    c.push_piece.ensures.ok
