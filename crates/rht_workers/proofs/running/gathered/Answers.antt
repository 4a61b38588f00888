use Rattle.std.proofs.Common.{◌≡◌, [], ◌∷◌, ◌++◌, length, sym, ◌∙◌, ap, arith}
use Rattle.std.proofs.lemmas.List.{length_push, map-id}
use Rattle.std.proofs.lemmas.Iterator.Adapters.{YieldsList-from_vec}
use Rattle.std.proofs.lemmas.Iterator.Consumers.{YieldsList-end}
use Rattle.rht_workers.specs.Jobs.{side_by_side}
use Rattle.rht_workers.proofs.PlacesLeft.{side_by_side-push}
use Rattle.rht_workers.proofs.running.gathered.Goals as goal

pub loop-worked-preserved : goal.loop-worked-preserved
loop-worked-preserved g c =
    let passes = c.loop-worked.passes in
    let all = c.loop-worked.all in
    let before = c.loop-worked.invariant in
    let same : length passes.items ≡ length all.items = omega (arith, before.passes, before.own, passes.ok.0, all.ok.0) in
    let pushed = length_push c.loop-worked.yielded c.in-Some.worked in
    let more = side_by_side-push passes.items all.items c.in_ok-pass.pass c.in_ok-pass.own same in
    record {
      all =
          ap (λ l. l ++ c.in-Some.worked ∷ []) before.all
          ∙ ap (λ w. side_by_side passes.items all.items ++ w ∷ []) c.in_ok-pass.was
          ∙ sym more
          ∙ ap (λ l. side_by_side l (all.items ++ c.in_ok-pass.own ∷ [])) (sym c.in_ok-push.ensures.items)
          ∙ ap (λ l. side_by_side c.push.new.self.items l) (sym c.in_ok-push-2.ensures.items);
      passes = omega (arith, pushed, before.passes, c.in_ok-push.ensures.len);
      own = omega (arith, pushed, before.own, c.in_ok-push-2.ensures.len);
    }

pub returns-clause-all : goal.returns-clause-all
returns-clause-all g c =
    let end = YieldsList-end (YieldsList-from_vec c.args.left.items (cc) (cc)) c.loop-worked.yielded c.loop-worked.worked-iterator
    c.loop-worked.yielded_by c.next.result c.next.new.self c.in-None.is c.next.ensures.steps in
    sym end.0 ∙ map-id c.loop-worked.yielded ∙ c.loop-worked.invariant.all
