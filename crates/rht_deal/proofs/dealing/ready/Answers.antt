use Rattle.std.proofs.Common.{◌≡◌, ◌+◌, ◌-◌, [], length, sym, ◌∙◌, ap, subst, arith}
use Rattle.std.proofs.lemmas.List.{length_push}
use Rattle.std.proofs.lemmas.Iterator.Adapters.{YieldsList-from_vec}
use Rattle.std.proofs.lemmas.Iterator.Consumers.{YieldsList-turn}
use Rattle.crossbeam_queue.specs.Passes.{view}
use Rattle.rht_run.specs.declared.pass.Pass.{Pass}
use Rattle.rht_run.specs.Passes.{IsNew}
use Rattle.rht_run.proofs.ServedWorkers.{AreNew-place}
use Rattle.rht_deal.specs.declared.numbers.Hand.{Hand}
use Rattle.rht_deal.specs.Numbers.{hand, all_parts, shared}
use Rattle.rht_deal.specs.Workers.{AreReady, IsReady}
use Rattle.rht_deal.proofs.WorkSteps.{IsWorking-new}
use Rattle.rht_deal.proofs.ReadyWorkers.{AreReady-push}
use Rattle.rht_deal.proofs.dealing.ready.Goals as goal

pub loop-pass-init : goal.loop-pass-init
loop-pass-init g c =
    let is = c.requires.dealer.hand_is in
    let none : c.in_ok-jobs.jobs.items ≡ [] = c.in_ok-jobs.ensures.items in
    record {
      jobs =
          subst (AreReady g.M.Mix.mix_of c.args.deal.now.table.now c.args.deal.now.queue.now c.args.deal.now.script.now 1) (sym none) tt;
      many = omega (arith, ap length none, c.in_ok-jobs.jobs.ok.0);
      queue = c.requires.dealer.of_queue;
      hand_is = is ∙ ap (λ (v : Hand). hand v.parts (length c.args.deal.now.script.now.commands.items) v.taken) (sym is);
      parts = (let all : (view c.args.dealer.now).parts ≡ all_parts = ap (λ (v : Hand). v.parts) is in omega (arith, all));
    }

pub loop-pass-preserved : goal.loop-pass-preserved
loop-pass-preserved g c =
    let mix = g.M.Mix.mix_of in
    let table = c.args.deal.now.table.now in
    let queue = c.args.deal.now.queue.now in
    let script = c.args.deal.now.script.now in
    let before = c.loop-pass.invariant in
    let yielded = c.loop-pass.yielded in
    let many = before.many in
    let passes = c.args.passes.items in
    let pass : Pass g.row.M.Denot = c.in-Some.pass in
    let turn = YieldsList-turn (YieldsList-from_vec passes c.into_iter-pass-iterator.ensures.into_iter_gives.0 (c.into_iter-pass-iterator.ensures.into_iter_gives.1 ∙ c.args.passes.ok.0)) yielded c.loop-pass.pass-iterator
    c.loop-pass.yielded_by c.next.result c.next.new.self pass c.in-Some.is c.next.ensures.steps in
    let new : IsNew mix table (length yielded) pass =
    subst (IsNew mix table (length yielded)) (sym turn.1) (AreNew-place mix table passes (length yielded) pass c.requires.passes turn.0) in
    let worker = c.in_ok-worker.worker in
    let number : worker.number ≡ length yielded + 1 =
    (let is = c.in_ok-worker.ensures.number in omega (arith, is, many)) in
    let count = length script.commands.items in
    let is = before.hand_is in
    let one : IsReady mix table queue script (1 + length c.loop-pass.jobs.items) worker c.share-numbers.result =
    record {
      working =
          IsWorking-new mix table script (length yielded) pass worker new c.in_ok-worker.ensures.pass number
          c.in_ok-worker.ensures.done;
      number_is = omega (arith, number, many, c.loop-pass.jobs.ok.0);
      none = c.in_ok-worker.ensures.done;
      of_queue = c.share-numbers.ensures.queue.1;
      hand_is = c.share-numbers.ensures.right ∙ ap shared is;
    } in
    let left : view c.share-numbers.new.pass ≡ hand ((view c.loop-pass.dealer).parts - 1) (view c.loop-pass.dealer).pushed (view c.loop-pass.dealer).taken =
    c.share-numbers.ensures.left in
    let fewer : (view c.share-numbers.new.pass).parts ≡ (view c.loop-pass.dealer).parts - 1 = ap (λ (v : Hand). v.parts) left in
    record {
      jobs =
          subst (AreReady mix table queue script 1) (sym c.in_ok-push.ensures.items)
          (AreReady-push mix table queue script 1 c.loop-pass.jobs.items (worker, c.share-numbers.result) before.jobs one);
      many = omega (arith, many, c.in_ok-push.ensures.len, length_push yielded pass);
      queue = c.share-numbers.ensures.queue.0;
      hand_is =
          left ∙ ap (λ (v : Hand). hand ((view c.loop-pass.dealer).parts - 1) v.pushed v.taken) is
          ∙ ap (λ n. hand n count (view c.args.dealer.now).taken) (sym fewer);
      parts =
          (let parts = before.parts in let room = c.requires.count in
          omega (arith, fewer, parts, length_push yielded pass, turn.0, room, c.args.passes.ok.0));
    }
