use Rattle.rht_deal.proofs.NumberRule.{merges}
use Rattle.rht_deal.proofs.numbers.join.Goals as goal

pub absorb-requires-clause-rule : goal.absorb-requires-clause-rule
absorb-requires-clause-rule c = merges _ _ _ _ c.requires.part
