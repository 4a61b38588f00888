-- To set or to clear one bit of a word changes no other bit.
-- A place past the 64 bits has no set bit, neither before nor after.
use Rattle.std.proofs.Common.{◌≡◌, ◌≢◌, ℕ, ◌^◌, ◌<◌, bit_and, sym, ◌∙◌, inl, inr, arith}
use Rattle.std.specs.Prelude.{bit_or}
use Rattle.std.specs.Int.{bit_at, bit_not, w64}
use Rattle.std.proofs.Math.Pow.{pow-lt}
use Rattle.std.proofs.lemmas.Bool.{cases_lt, cases_eq}
use Rattle.std.proofs.lemmas.Nat.{and_le_l, or_lt, pow_below}
use Rattle.std.proofs.lemmas.Nat.Bits.{bit_at_above, bit_at_and, bit_at_or, bit_at_not, bit_at-lt, bit_at-pow_same, bit_at-pow_other, same_from_bits_below}
use Rattle.rht_words.specs.Maps.{bit_of}
use Rattle.rht_words.specs.Laws.{ChangesOneBit}

-- the word without one bit
pub bit_at-cleared : (word bit : ℕ) → bit < 64 → bit_at (bit_and word (bit_not w64 (bit_of bit))) bit ≡ 0
bit_at-cleared word bit low =
    omega (
      arith,
      bit_at_and word (bit_not w64 (bit_of bit)) bit,
      bit_at_not w64 (bit_of bit) bit
          (pow_below bit 64 low) low,
      bit_at-pow_same bit,
    )

pub bit_at-cleared_other : (word bit other : ℕ) → bit < 64 → other < 64 → other ≢ bit
    → bit_at (bit_and word (bit_not w64 (bit_of bit))) other ≡ bit_at word other
bit_at-cleared_other word bit other low l differ =
    omega (
      arith,
      bit_at_and word (bit_not w64 (bit_of bit)) other,
      bit_at_not w64 (bit_of bit) other
          (pow_below bit 64 low) l,
      bit_at-pow_other bit other differ,
      bit_at-lt word other,
    )

-- clearing a bit that is clear changes nothing
pub cleared_already : (word bit : ℕ) → bit < 64 → word < 2 ^ 64 → bit_at word bit ≡ 0
    → bit_and word (bit_not w64 (bit_of bit)) ≡ word
cleared_already word bit low small clear =
    let cleared = bit_and word (bit_not w64 (bit_of bit)) in
    let less : cleared < 2 ^ 64 = omega (arith, and_le_l word (bit_not w64 (bit_of bit))) in
    same_from_bits_below 64 cleared word less small (λ i l. elim (cases_eq i bit) [
      | inl same ↦ rw same (bit_at-cleared word bit low ∙ sym clear)
      | inr differ ↦ bit_at-cleared_other word bit i low l differ
    ])

-- the word with one bit more
pub bit_at-set : (word bit : ℕ) → bit_at (bit_or word (bit_of bit)) bit ≡ 1
bit_at-set word bit = omega (arith, bit_at_or word (bit_of bit) bit, bit_at-pow_same bit, bit_at-lt word bit)

pub bit_at-set_other : (word bit other : ℕ) → other ≢ bit
    → bit_at (bit_or word (bit_of bit)) other ≡ bit_at word other
bit_at-set_other word bit other differ =
    omega (arith, bit_at_or word (bit_of bit) other, bit_at-pow_other bit other differ)

module _ (word bit : ℕ) (small : word < 2 ^ 64) (within : bit < 64) where
  cleared_fits : bit_and word (bit_not w64 (bit_of bit)) < 2 ^ 64
  cleared_fits = omega (arith, and_le_l word (bit_not w64 (bit_of bit)))

  cleared_others : (other : ℕ) → other ≢ bit
      → bit_at (bit_and word (bit_not w64 (bit_of bit))) other ≡ bit_at word other
  cleared_others other differ = elim (cases_lt other 64) [
    | inl below ↦ bit_at-cleared_other word bit other within below differ
    | inr past ↦
        bit_at_above (bit_and word (bit_not w64 (bit_of bit))) 64 other cleared_fits past
        ∙ sym (bit_at_above word 64 other small past)
  ]

  pub changes_one_bit : ChangesOneBit word bit
  changes_one_bit = record {
    set = bit_at-set word bit;
    set_others = λ other differ. bit_at-set_other word bit other differ;
    set_fits = or_lt 64 word (bit_of bit) small (pow-lt within);
    cleared = bit_at-cleared word bit within;
    cleared_others = cleared_others;
    cleared_fits = cleared_fits;
  }
