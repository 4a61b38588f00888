use Rattle.std.proofs.Common.{arith, ◌∙◌, refl}
use Rattle.std.proofs.lemmas.Nat.{one_shl}
use Rattle.rht_words.specs.Sizes.{rounded_up, powers}
use Rattle.rht_words.proofs.Rounding.{rounded_down-power}
use Rattle.rht_words.proofs.sizes.rounded_down.Goals as goal

pub returns-then-number-eq0 : goal.returns-then-number-eq0
unfolding rounded_up powers
returns-then-number-eq0 c = rw c.if-number-eq0.true refl

pub returns-else-number-eq0 : goal.returns-else-number-eq0
returns-else-number-eq0 c =
    one_shl c.ilog2.result 32 c.ilog2.ensures.bound ∙ rounded_down-power _ c.ilog2.result (omega arith)
    c.ilog2.ensures.power_le c.ilog2.ensures.next_power_gt
