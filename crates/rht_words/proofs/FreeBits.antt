-- What the lowest set bit of a map's word says of the others.
use Rattle.std.proofs.Common.{◌≡◌, ℕ, ◌+◌, ◌*◌, ◌<◌, ◌-◌, ◌^◌, min, Some, None, sym, ap, ◌∙◌, subst, bit_and, eqb, arith}
use Rattle.std.proofs.lemmas.Bool.{cond_both, eqb-true, eqb-false}
use Rattle.std.proofs.lemmas.Nat.{and_le_r, pow_pos}
use Rattle.std.proofs.lemmas.Nat.Bits.{bit_at-trailing_zeros, bit_at_and, bit_at-zero, bit_at_ones, bit_at-lt, bit_at_mask_inside}
use Rattle.std.proofs.Math.Pow.{pow_mono}
use Rattle.std.specs.Int.{bit_at, trailing_zeros, w64}
use Rattle.rht_words.specs.Maps.{map_bits, bits_above, lowest_free, IsBitIn}
use Rattle.rht_words.proofs.LowestBits.{lowest_is_in}

-- a bit of the map is free in the word where it is free among the map's bits
bit_at-free : (count index word bit : ℕ) → bit < 64 → 64 * index + bit < count
    → bit_at (bit_and word (map_bits count index)) bit ≡ bit_at word bit
bit_at-free count index word bit low within =
    omega (
      arith,
      bit_at_and word (map_bits count index) bit,
      bit_at_ones (min 64 (count - 64 * index))
          bit (omega arith),
      bit_at-lt word bit,
    )

-- what there is where no bit is free, and where this one is the lowest that is
pub record NoneIsFree (count index word : ℕ) : Type 0 where
  pub clear : (bit : ℕ) → bit < 64 → 64 * index + bit < count → bit_at word bit ≡ 0

pub record IsLowestFree (count index word bit : ℕ) : Type 0 where
  pub within : IsBitIn count index bit
  pub set : bit_at word bit ≡ 1
  pub below : (other : ℕ) → other < bit → bit_at word other ≡ 0

-- the map's bits of a word are a word
free_below : (count index word : ℕ) → bit_and word (map_bits count index) < 2 ^ 64
free_below count index word =
    let used = min 64 (count - 64 * index) in
    omega (
      arith,
      and_le_r word (map_bits count index),
      pow_pos used,
      pow_mono {i = used} {j = 64}
          (omega arith),
    )

lowest_of : (count index word : ℕ) → 0 < bit_and word (map_bits count index)
    → bit_and word (map_bits count index) < 2 ^ 64
    → IsLowestFree count index word (trailing_zeros w64 (bit_and word (map_bits count index)))
lowest_of count index word positive few =
    let free = bit_and word (map_bits count index) in
    let within : IsBitIn count index (trailing_zeros w64 free) = lowest_is_in count index word positive in
    let lowest = bit_at-trailing_zeros w64 free positive few in
    record {
      within = within;
      set = sym (bit_at-free count index word (trailing_zeros w64 free) within.within within.below)
          ∙ lowest.1;
      below = λ other l.
          let in_word : other < 64 = omega (arith, within.within) in
          let in_map : 64 * index + other < count = omega (arith, within.below) in
          sym (bit_at-free count index word other in_word in_map) ∙ lowest.2 other l;
    }

pub lowest_free-None : (count index word : ℕ) → lowest_free count index word ≡ None
    → NoneIsFree count index word
lowest_free-None count index word =
    let free = bit_and word (map_bits count index) in
    cond_both (eqb free 0) None (Some (trailing_zeros w64 free)) (λ o. o ≡ None → NoneIsFree count index word)
    (λ zero none. record {
      clear = λ bit low within. sym (bit_at-free count index word bit low within)
          ∙ (ap (λ f. bit_at f bit) (eqb-true free 0 zero) ∙ bit_at-zero bit);
    })
    (λ some none. absurd (cc))

pub lowest_free-Some : (count index word bit : ℕ) → lowest_free count index word ≡ Some bit
    → IsLowestFree count index word bit
lowest_free-Some count index word bit =
    let free = bit_and word (map_bits count index) in
    cond_both (eqb free 0) None (Some (trailing_zeros w64 free)) (λ o. o ≡ Some bit
    → IsLowestFree count index word bit)
    (λ zero some. absurd (cc))
    (λ nonzero some.
    let is : trailing_zeros w64 free ≡ bit = cc in
    let positive : 0 < free = omega (arith, eqb-false free 0 nonzero) in
    let few : free < 2 ^ 64 = free_below count index word in
    subst (λ b. IsLowestFree count index word b) is (lowest_of count index word positive few))

-- the bits above one are the word's
pub bit_at-above : (word bit other : ℕ) → bit < other → other < 64
    → bit_at (bit_and word (bits_above bit)) other ≡ bit_at word other
bit_at-above word bit other high low =
    omega (
      arith,
      bit_at_and word (bits_above bit) other,
      bit_at_mask_inside (bit + 1) 64 other
          (omega arith) low,
      bit_at-lt word other,
    )
