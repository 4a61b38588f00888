use Rattle.rht_deal.proofs.NumberRule.{forks}
use Rattle.rht_deal.proofs.numbers.share.Goals as goal

pub another-requires-clause-rule : goal.another-requires-clause-rule
another-requires-clause-rule c = forks _ _ c.requires.parts
