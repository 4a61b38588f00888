use Rattle.std.proofs.Common.{[], ◌∷◌, ◌++◌, map, sym, ◌∙◌, ap}
use Rattle.std.specs.declared.alloc.Global.{Global}
use Rattle.std.specs.declared.collections.VecDeque.{VecDeque}
use Rattle.std.proofs.lemmas.List.{map_push, map-id}
use Rattle.std.proofs.lemmas.Iterator.Adapters.{YieldsList-from_vec}
use Rattle.std.proofs.lemmas.Iterator.Consumers.{YieldsList-end}
use Rattle.rht_script.specs.declared.done.Done.{Done}
use Rattle.rht_deal.specs.declared.worker.Worker.{Worker}
use Rattle.rht_deal.proofs.dealing.parted.Goals as goal

pub loop-worker-preserved : goal.loop-worker-preserved
loop-worker-preserved g c =
    let W : Type 0 = Worker g.row.M.Denot in
    let worker : W = c.in-Some.worker in
    let yielded = c.loop-worker.yielded in
    let before = c.loop-worker.invariant in
    record {
      passes =
          c.in_ok-push.ensures.items ∙ ap (λ l. l ++ worker.pass ∷ []) before.passes
          ∙ sym (map_push (λ (w : W). w.pass) yielded worker);
      kept =
          ap (map (λ (own : VecDeque Done Global). own.items)) c.in_ok-push-2.ensures.items
          ∙ map_push (λ (own : VecDeque Done Global). own.items) c.loop-worker.kept.items worker.done
          ∙ ap (λ l. l ++ worker.done.items ∷ []) before.kept
          ∙ sym (map_push (λ (w : W). w.done.items) yielded worker);
    }

pub returns-clause-passes : goal.returns-clause-passes
returns-clause-passes g c =
    let W : Type 0 = Worker g.row.M.Denot in
    let end = YieldsList-end (YieldsList-from_vec c.args.workers.items (cc) (cc)) c.loop-worker.yielded c.loop-worker.worker-iterator
    c.loop-worker.yielded_by c.next.result c.next.new.self c.in-None.is c.next.ensures.steps in
    c.loop-worker.invariant.passes ∙ ap (map (λ (w : W). w.pass)) (sym (map-id c.loop-worker.yielded) ∙ end.0)

pub returns-clause-kept : goal.returns-clause-kept
returns-clause-kept g c =
    let W : Type 0 = Worker g.row.M.Denot in
    let end = YieldsList-end (YieldsList-from_vec c.args.workers.items (cc) (cc)) c.loop-worker.yielded c.loop-worker.worker-iterator
    c.loop-worker.yielded_by c.next.result c.next.new.self c.in-None.is c.next.ensures.steps in
    c.loop-worker.invariant.kept ∙ ap (map (λ (w : W). w.done.items)) (sym (map-id c.loop-worker.yielded) ∙ end.0)
