use Rattle.std.proofs.Common.{refl}
use Rattle.rht_words.proofs.Rounding.{IsGreatestSize-zero}
use Rattle.rht_words.proofs.sizes.is_greatest_size.Goals as goal

pub returns-then-number-eq0 : goal.returns-then-number-eq0
returns-then-number-eq0 c = rw c.if-number-eq0.true (λ _. IsGreatestSize-zero, λ _. refl)
