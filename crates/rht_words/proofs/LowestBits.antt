-- The lowest set bit of a map's word stands for one of so many.
use Rattle.std.proofs.Common.{ℕ, ◌*◌, ◌<◌, ◌≤◌, ◌-◌, ◌^◌, inl, inr, min, bit_and, arith}
use Rattle.std.proofs.lemmas.Bool.{cases_lt}
use Rattle.std.proofs.lemmas.Nat.{and_le_r, pow_pos}
use Rattle.std.proofs.lemmas.Nat.Bits.{bit_at-trailing_zeros, bit_at_above}
use Rattle.std.proofs.Math.Pow.{pow_mono}
use Rattle.std.specs.Int.{trailing_zeros, w64}
use Rattle.rht_words.specs.Maps.{map_bits, IsBitIn}

-- A bit at or above the number of those in use isn't set, so the lowest set one lies below.
pub lowest_is_in : (count index word : ℕ) → 0 < bit_and word (map_bits count index)
    → IsBitIn count index (trailing_zeros w64 (bit_and word (map_bits count index)))
lowest_is_in count index word some =
    let free = bit_and word (map_bits count index) in
    let used = min 64 (count - 64 * index) in
    let few : free ≤ 2 ^ used - 1 = and_le_r word (map_bits count index) in
    let positive : 0 < 2 ^ used = pow_pos used in
    let short : 2 ^ used ≤ 2 ^ 64 = pow_mono {i = used} {j = 64} (omega arith) in
    let lowest = bit_at-trailing_zeros w64 free some (omega arith) in
    let below : trailing_zeros w64 free < used = elim (cases_lt (trailing_zeros w64 free) used) [
      | inl l ↦ l
      | inr above ↦ absurd (omega (
        arith,
        lowest.1,
        bit_at_above free used (trailing_zeros w64 free)
            (omega arith) above,
      ))
    ] in
    record { within = lowest.0; below = omega arith }
