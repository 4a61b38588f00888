use Rattle.rht_deal.proofs.NumberRule.{pops, learns}
use Rattle.rht_deal.proofs.numbers.next.Goals as goal

pub pop_as-requires-clause-rule : goal.pop_as-requires-clause-rule
pop_as-requires-clause-rule g c = (pops _ _ c.requires.part, learns _ _)
