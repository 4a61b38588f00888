use Rattle.std.proofs.Common.{◌+◌, ◌-◌, ◌≤◌, sym, ◌∙◌, subst, arith}
use Rattle.std.specs.List.{AllByRecursion}
use Rattle.std.specs.declared.alloc.Global.{Global}
use Rattle.std.specs.declared.collections.VecDeque.{VecDeque}
use Rattle.std.proofs.lemmas.List.{length-map}
use Rattle.rht_script.specs.declared.done.Done.{Done}
use Rattle.rht_deal.specs.Ordering.{kept_items}
use Rattle.rht_deal.proofs.DoneOrder.{InOrder, somebody, InOrder-more, InOrder-own}
use Rattle.rht_deal.proofs.ordering.in_order.Goals as goal

pub unreachable-requires : goal.unreachable-requires
unreachable-requires c =
    let so = c.loop-i.invariant in
    let one = somebody (c.loop-i.i + 1) (c.args.count - c.loop-i.i) (kept_items c.loop-i.kept) (omega (arith, c.loop-i-test.true)) so.own so.once in
    c.in_default.ensures.1 one.0 one.1 one.2

pub loop-i-preserved : goal.loop-i-preserved
loop-i-preserved c =
    let after = kept_items c.taken_out.new.kept in
    subst (λ dones. InOrder c.args.count (kept_items c.args.kept) after dones (c.loop-i.i + 1)) (sym c.in_ok-push.ensures.items)
    (InOrder-more c.args.count (kept_items c.args.kept) (kept_items c.loop-i.kept) after c.loop-i.done.items c.loop-i.i c.loop-i.invariant
    c.in-Some.next c.in-Some.ensures c.loop-i-test.true)

pub returns-clause-workers : goal.returns-clause-workers
returns-clause-workers c =
    let many = length-map c.args.kept.items (λ (own : VecDeque Done Global). own.items) in
    subst (λ n. AllByRecursion (λ (done : Done). (1 ≤ done.worker) × (done.worker ≤ n)) c.loop-i.done.items) (many ∙ sym c.args.kept.ok.0)
    c.loop-i.invariant.workers

pub returns-clause-own : goal.returns-clause-own
returns-clause-own c i below =
    let many = length-map c.args.kept.items (λ (own : VecDeque Done Global). own.items) in
    InOrder-own c.args.count (kept_items c.args.kept) (kept_items c.loop-i.kept) c.loop-i.done.items c.loop-i.i c.loop-i.invariant
    (omega (arith, c.loop-i-test.false)) i (omega (arith, below, many, c.args.kept.ok.0))
