use Rattle.rht_grace.proofs.BatchNodes.{none_of-NotIn}
use Rattle.rht_grace.proofs.batch.none_of.Goals as goal

pub returns : goal.returns
returns c = none_of-NotIn c.args.node c.args.nodes.now c.contains.result c.contains.ensures.value
