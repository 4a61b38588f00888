use Rattle.rht_chain.proofs.WalksSeen.{walks_see_their_chain}
use Rattle.rht_chain.proofs.laws.walks_see_their_chain.Goals as goal

pub returns : goal.returns
returns c = walks_see_their_chain
