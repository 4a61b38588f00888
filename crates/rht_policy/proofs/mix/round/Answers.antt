-- The code's rotation is the sum of two parts.
use Rattle.std.proofs.Common.{◌≡◌, ◌+◌, ◌-◌, ◌%◌, bit_xor, ap, ◌∙◌}
use Rattle.rht_policy.specs.Mix.{after_round, rotated_left}
use Rattle.rht_policy.proofs.Rotations.{rotate_left-sum}
use Rattle.rht_policy.proofs.mix.round.Goals as goal

pub returns : goal.returns
unfolding after_round
returns c =
    let rotated : c.rotate_left.result ≡ rotated_left c.args.other c.args.by =
    c.rotate_left.ensures ∙ rotate_left-sum c.args.other c.args.by c.ranges.other.fits c.requires.some
    c.requires.few in
    ap (λ r. (bit_xor c.args.word c.args.other + (4294967296 - r)) % 4294967296) rotated
