use Rattle.std.proofs.Common.{arith}
use Rattle.rht_words.proofs.Rounding.{rounded_up-next}
use Rattle.rht_words.proofs.sizes.rounded_up.Goals as goal

pub returns : goal.returns
returns c =
    rounded_up-next _ _ (omega arith) (
      c.next_power_of_two.ensures.power,
      c.next_power_of_two.ensures.lower_bound,
      c.next_power_of_two.ensures.upper_bound,
    )
