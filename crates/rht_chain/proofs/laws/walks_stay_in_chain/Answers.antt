use Rattle.rht_chain.proofs.WalksStay.{walks_stay_in_chain}
use Rattle.rht_chain.proofs.laws.walks_stay_in_chain.Goals as goal

pub returns : goal.returns
returns c = walks_stay_in_chain
