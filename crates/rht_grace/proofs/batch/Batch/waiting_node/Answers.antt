use Rattle.std.proofs.Common.{ap, arith}
use Rattle.rht_grace.proofs.BatchNodes.{waiting-node}
use Rattle.rht_grace.proofs.batch.Batch.waiting_node.Goals as goal

pub returns-clause-within : goal.returns-clause-within
returns-clause-within c =
    let nodes = ap (λ batch. batch.geometry.nodes) c.self.view_is in
    let below = waiting-node _ c.self.invariant.sound c.args.index in
    rw c.as_slice.ensures.items (omega (arith, nodes, below))
