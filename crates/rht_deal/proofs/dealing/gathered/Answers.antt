use Rattle.std.proofs.Common.{◌≡◌, ◌+◌, ◌++◌, [], ◌∷◌, List, length, sym, ◌∙◌, ap, subst, arith}
use Rattle.std.specs.Prelude.{IfOk}
use Rattle.std.specs.declared.alloc.AllocError.{AllocError}
use Rattle.std.proofs.lemmas.List.{map-id}
use Rattle.std.proofs.lemmas.Iterator.Adapters.{YieldsList-from_vec}
use Rattle.std.proofs.lemmas.Iterator.Consumers.{YieldsList-end, YieldsList-turn}
use Rattle.crossbeam_queue.specs.Passes.{view, IsPassOf}
use Rattle.rht_deal.specs.declared.numbers.Hand.{Hand}
use Rattle.rht_deal.specs.declared.worker.Worker.{Worker}
use Rattle.rht_deal.specs.Workers.{HasGathered}
use Rattle.rht_deal.proofs.Gathering.{HasGathered-none, HasGathered-push}
use Rattle.rht_deal.proofs.ReadyWorkers.{EachElement-at}
use Rattle.rht_deal.proofs.dealing.gathered.Goals as goal

pub loop-worked-init : goal.loop-worked-init
loop-worked-init g c = record {
  queue = c.requires.dealer;
  part = c.requires.part;
  so_far =
      subst (λ (ws : List (Worker g.row.M.Denot)). HasGathered {M = g.row.M.Denot} {E = AllocError} [] ws (view c.args.dealer.now)
      (view c.args.dealer.now)) (sym c.in_ok-workers.ensures.items) (HasGathered-none (view c.args.dealer.now));
}

pub join-requires-clause-queue : goal.join-requires-clause-queue
join-requires-clause-queue g c =
    let left = c.args.left.items in
    let turn = YieldsList-turn (YieldsList-from_vec left c.into_iter-worked-iterator.ensures.into_iter_gives.0 (c.into_iter-worked-iterator.ensures.into_iter_gives.1 ∙ c.args.left.ok.0)) c.loop-worked.yielded c.loop-worked.worked-iterator
    c.loop-worked.yielded_by c.next.result c.next.new.self c.in-Some.worked c.in-Some.is c.next.ensures.steps in
    let each = EachElement-at (λ worked. IfOk worked (λ job. IsPassOf c.args.queue.now job.1)) left (length c.loop-worked.yielded)
    c.in-Some.worked c.requires.left turn.0 in (
      c.loop-worked.invariant.queue,
      subst (λ worked. IfOk worked (λ job. IsPassOf c.args.queue.now job.1)) (sym turn.1 ∙ c.in_ok-worker.was) each,
    )

pub loop-worked-preserved : goal.loop-worked-preserved
loop-worked-preserved g c =
    let before = c.loop-worked.invariant in
    let old = view c.loop-worked.dealer in
    let own = view c.in_ok-worker.numbers in
    let parts : (view c.join.new.pass).parts ≡ old.parts + own.parts = ap (λ (v : Hand). v.parts) c.join.ensures.joined in
    record {
      queue = c.join.ensures.queue;
      part = (let part = before.part in omega (arith, parts, part));
      so_far =
          subst (λ ws. HasGathered (c.loop-worked.yielded ++ c.in-Some.worked ∷ []) ws (view c.args.dealer.now) (view c.join.new.pass))
          (sym c.in_ok-push.ensures.items)
          (HasGathered-push c.loop-worked.yielded c.loop-worked.workers.items (view c.args.dealer.now) old c.in-Some.worked
          (c.in_ok-worker.worker, c.in_ok-worker.numbers) (view c.join.new.pass) before.so_far c.in_ok-worker.was c.join.ensures.joined);
    }

pub returns-clause-gathered : goal.returns-clause-gathered
returns-clause-gathered g c =
    let end = YieldsList-end (YieldsList-from_vec c.args.left.items (cc) (cc)) c.loop-worked.yielded c.loop-worked.worked-iterator
    c.loop-worked.yielded_by c.next.result c.next.new.self c.in-None.is c.next.ensures.steps in
    subst (λ left. HasGathered left c.loop-worked.workers.items (view c.args.dealer.now) (view c.loop-worked.dealer))
    (sym (map-id c.loop-worked.yielded) ∙ end.0) c.loop-worked.invariant.so_far
