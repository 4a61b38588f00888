use Rattle.rht_deal.proofs.NumberRule.{begins}
use Rattle.rht_deal.proofs.numbers.filled.Goals as goal

pub ruled-requires-clause-rule : goal.ruled-requires-clause-rule
ruled-requires-clause-rule g c = begins
