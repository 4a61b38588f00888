use Rattle.std.proofs.Common.{◌≡◌, sym, ap, subst, arith}
use Rattle.crossbeam_queue.specs.Passes.{view}
use Rattle.rht_deal.specs.declared.numbers.Hand.{Hand}
use Rattle.rht_deal.specs.Numbers.{HasAll}
use Rattle.rht_deal.specs.Workers.{HasTaken}
use Rattle.rht_deal.proofs.WorkSteps.{IsAtWork-begun, IsAtWork-rises, IsAtWork-more}
use Rattle.rht_deal.proofs.worker.Worker.work.Goals as goal

pub loop-init : goal.loop-init
loop-init g c = record {
  at = IsAtWork-begun g.M.Mix.mix_of c.args.deal.now.table.now c.args.deal.now.script.now c.args.self.now (view c.args.numbers.now)
      c.requires.working c.requires.among;
  queue = c.requires.queue;
}

pub next-requires-in-loop-clause-part : goal.next-requires-in-loop-clause-part
next-requires-in-loop-clause-part g c =
    let same : (view c.loop.numbers).parts ≡ (view c.args.numbers.now).parts = ap (λ (v : Hand). v.parts) c.loop.invariant.at.taken.taken in
    let part = c.requires.part in
    omega (arith, same, part)

pub serve-requires-clause-working : goal.serve-requires-clause-working
serve-requires-clause-working g c = c.loop.invariant.at.working

pub serve-requires-clause-first : goal.serve-requires-clause-first
serve-requires-clause-first g c = c.in-Some-next.ensures.taken.first

pub serve-requires-clause-last : goal.serve-requires-clause-last
serve-requires-clause-last g c =
    let same : (view c.loop.numbers).pushed ≡ (view c.args.numbers.now).pushed = ap (λ (v : Hand). v.pushed) c.loop.invariant.at.taken.taken in
    let last = c.in-Some-next.ensures.taken.last in
    let pushed = c.requires.pushed in
    omega (arith, same, last, pushed)

pub serve-requires-clause-rises : goal.serve-requires-clause-rises
serve-requires-clause-rises g c =
    IsAtWork-rises g.M.Mix.mix_of c.args.deal.now.table.now c.args.deal.now.script.now c.args.self.now (view c.args.numbers.now)
    c.loop.self (view c.loop.numbers) c.in-Some-next.number (view c.next-in-loop.new.pass) c.loop.invariant.at c.in-Some-next.ensures.taken

pub loop-preserved : goal.loop-preserved
loop-preserved g c = record {
  at = IsAtWork-more g.M.Mix.mix_of c.args.deal.now.table.now c.args.deal.now.script.now c.args.self.now (view c.args.numbers.now)
      c.loop.self (view c.loop.numbers) c.in-Some-next.number (view c.next-in-loop.new.pass) c.loop.invariant.at c.in-Some-next.ensures.taken
      c.serve.new.self c.in_ok-serve-in-Some-next.ensures.working c.in_ok-serve-in-Some-next.ensures.done c.serve.ensures.same;
  queue = c.next-in-loop.ensures.queue;
}

pub returns-in-None-next-clause-taken : goal.returns-in-None-next-clause-taken
returns-in-None-next-clause-taken g c =
    subst (HasTaken c.args.self.now c.loop.self (view c.args.numbers.now)) (sym c.in-None-next.ensures.taken.0) c.loop.invariant.at.taken

pub returns-in-None-next-clause-all : goal.returns-in-None-next-clause-all
returns-in-None-next-clause-all g c = subst HasAll (sym c.in-None-next.ensures.taken.0) c.in-None-next.ensures.taken.1
