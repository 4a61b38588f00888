use Rattle.rht_chain.proofs.ChainsRelinked.{relinks_chains}
use Rattle.rht_chain.proofs.laws.relinks_chains.Goals as goal

pub returns : goal.returns
returns c = relinks_chains
