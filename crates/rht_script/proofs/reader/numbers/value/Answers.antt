use Rattle.std.proofs.Common.{arith}
use Rattle.rht_script.proofs.NumberLemmas.{value_of-more}
use Rattle.rht_script.proofs.reader.numbers.value.Goals as goal

pub returns-in_err-checked_mul : goal.returns-in_err-checked_mul
returns-in_err-checked_mul c =
    let digits = c.args.digits.now in
    let more =
    value_of-more digits c.loop-digit.digit-index c.loop-digit.value c.loop-digit-test.true
    c.loop-digit.invariant.value in
    rw c.from_residual.ensures (λ small. omega (arith, more, small, c.in_err-checked_mul.ensures))

pub returns-in_err-value : goal.returns-in_err-value
returns-in_err-value c =
    let digits = c.args.digits.now in
    let more =
    value_of-more digits c.loop-digit.digit-index c.loop-digit.value c.loop-digit-test.true
    c.loop-digit.invariant.value in
    rw c.from_residual-in_err-value.ensures (λ small. omega
    (arith, more, small, c.in_err-value.ensures, c.in_ok-checked_mul.ensures))
