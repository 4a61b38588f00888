-- The mix of the port 1, worked out by computation: the word that each of the seven rounds leaves.
-- They are examples to read beside the definitions; nothing cites them.
use Rattle.std.proofs.Common.{◌≡◌, refl}
use Rattle.rht_policy.specs.Mix.{after_round, final_mix}

first_round : after_round 0 0 14 ≡ 0
unfolding after_round
first_round = refl

second_round : after_round 1 0 11 ≡ 1
unfolding after_round
second_round = refl

third_round : after_round 0 1 25 ≡ 0xFE000001
unfolding after_round
third_round = refl

fourth_round : after_round 0 0xFE000001 16 ≡ 0xFDFE0201
unfolding after_round
fourth_round = refl

fifth_round : after_round 1 0xFDFE0201 4 ≡ 0x1E1DE1E1
unfolding after_round
fifth_round = refl

sixth_round : after_round 0xFE000001 0x1E1DE1E1 14 ≡ 0x67A59A59
unfolding after_round
sixth_round = refl

seventh_round : after_round 0xFDFE0201 0x67A59A59 24 ≡ 0x40F3F2BE
unfolding after_round
seventh_round = refl

mix_of_port_1 : final_mix 1 0 0 ≡ 1089729214
unfolding after_round final_mix
mix_of_port_1 = refl
