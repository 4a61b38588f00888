use Rattle.rht_deal.specs.Ordering.{kept_items}
use Rattle.rht_deal.proofs.DoneOrder.{InOrder}
use Rattle.rht_deal.proofs.ordering.in_order.Given as goal

-- so many of all commands stand in order
abbrev pub invariant-loop-i : goal.invariant-loop-i
invariant-loop-i l = InOrder l.count (kept_items l.initial.kept) (kept_items l.kept) l.done.items l.i
