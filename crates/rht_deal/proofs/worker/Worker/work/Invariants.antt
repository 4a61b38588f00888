use Rattle.crossbeam_queue.specs.Passes.{view, IsPassOf}
use Rattle.rht_deal.proofs.WorkSteps.{IsAtWork}
use Rattle.rht_deal.proofs.worker.Worker.work.Given as goal

-- the worker has done what its pass of the queue has taken since then
abbrev pub invariant-loop : goal.invariant-loop
invariant-loop g l = record {
  at : IsAtWork g.M.Mix.mix_of l.deal.table.now l.deal.script.now l.fn.self l.self (view l.fn.numbers) (view l.numbers);
  queue : IsPassOf l.deal.queue.now l.numbers;
}
