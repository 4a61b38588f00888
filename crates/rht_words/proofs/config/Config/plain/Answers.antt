use Rattle.std.proofs.Common.{refl, arith}
use Rattle.rht_words.specs.Settled.{IsSettled, plain_config}
use Rattle.rht_words.specs.Sizes.{rounded_up, powers}
use Rattle.rht_words.proofs.Rounding.{IsGreatestSize-zero}
use Rattle.rht_words.proofs.config.Config.plain.Goals as goal

plain_config-settled : IsSettled plain_config
unfolding rounded_up powers
plain_config-settled = record {
  geometry = record { nodes_within = omega arith; pages_within = omega arith; callers_within = omega arith };
  hint = omega arith;
  least = record { within = omega arith; rounded = refl };
  greatest = IsGreatestSize-zero;
  agree = λ some. absurd (some refl);
  seed = omega arith;
  rewalks = omega arith;
  starts = omega arith;
}

pub returns-clause-settled : goal.returns-clause-settled
returns-clause-settled c = plain_config-settled
