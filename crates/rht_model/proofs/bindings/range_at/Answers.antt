use Rattle.std.proofs.Common.{add-one}
use Rattle.rht_model.proofs.FlatPairs.{range_in_order}
use Rattle.rht_model.proofs.bindings.range_at.Goals as goal

pub returns-clause-in_order : goal.returns-clause-in_order
returns-clause-in_order c =
    let in_order = range_in_order c.args.heads.now c.args.end c.args.i c.requires.in_order in
    rw (c.start_at.ensures, c.start_at-2.ensures, add-one) in_order.0

pub returns-clause-within : goal.returns-clause-within
returns-clause-within c =
    let in_order = range_in_order c.args.heads.now c.args.end c.args.i c.requires.in_order in
    rw (c.start_at-2.ensures, add-one) in_order.1
