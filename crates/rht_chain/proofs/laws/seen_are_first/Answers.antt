use Rattle.rht_chain.proofs.FirstNodes.{seen_are_first}
use Rattle.rht_chain.proofs.laws.seen_are_first.Goals as goal

pub returns : goal.returns
returns c = seen_are_first
