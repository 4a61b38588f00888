-- The bits of a run's pages in a word of the page map: which there are, and what it says of a word that it has them all.
use Rattle.std.proofs.Common.{◌≡◌, ℕ, ◌+◌, ◌-◌, ◌*◌, ◌^◌, ◌<◌, ◌≤◌, min, bit_and, ◌∙◌, ap, inl, inr, arith}
use Rattle.std.specs.Int.{bit_at, bit_not, trailing_zeros, w64}
use Rattle.std.proofs.Math.Pow.{pow_mono}
use Rattle.std.proofs.lemmas.Bool.{cases_eq, cases_lt}
use Rattle.std.proofs.lemmas.Nat.{pow_pos, and_le_l, and_le_r}
use Rattle.std.proofs.lemmas.Nat.Bits.{bit_at_and, bit_at_not, bit_at-lt, bit_at-zero, bit_at-trailing_zeros, same_from_bits, same_from_bits_below, bit_at_mask_inside, bit_at_mask_below, bit_at_mask_above}
use Rattle.rht_words.specs.Maps.{map_bits}
use Rattle.rht_words.specs.Planned.{IsWord}
use Rattle.rht_arena.specs.PageRuns.{run_bits}

-- a longer map has more bits in a word
pub map_bits_rise : (few more index : ℕ) → map_bits few index ≤ map_bits (few + more) index
map_bits_rise few more index =
    let below = min 64 (few - 64 * index) in
    let above = min 64 (few + more - 64 * index) in
    omega (arith, pow_mono {i = below} {j = above} (omega arith))

-- the bits of a run are a word's
pub run_bits-fits : (first pages index : ℕ) → IsWord (run_bits first pages index)
run_bits-fits first pages index =
    let above = min 64 (first + pages - 64 * index) in
    omega (arith, pow_mono {i = above} {j = 64} (omega arith), pow_pos above)

-- what a word has of some bits are some of them
pub of_bits : (word bits : ℕ) → bit_and (bit_and word bits) bits ≡ bit_and word bits
of_bits word bits = same_from_bits (bit_and (bit_and word bits) bits) (bit_and word bits)
    (λ i. omega (arith, bit_at_and (bit_and word bits) bits i, bit_at_and word bits i))

-- ---- which bits there are

module _ (first pages index bit : ℕ) (low : bit < 64) where
  abbrev below : ℕ
  below = min 64 (first - 64 * index)

  abbrev above : ℕ
  above = min 64 (first + pages - 64 * index)

  -- the run's bits of a word are ones in a row
  in_row : run_bits first pages index ≡ 2 ^ above - 2 ^ below
  in_row = omega (arith, pow_pos below)

  -- a page of the run has its bit
  pub bit_at-run : first ≤ 64 * index + bit → 64 * index + bit < first + pages
      → bit_at (run_bits first pages index) bit ≡ 1
  bit_at-run from until =
      ap (λ w. bit_at w bit) in_row ∙ bit_at_mask_inside below above bit (omega arith) (omega arith)

  -- and what has its bit is a page of the run
  pub bit_at-run_from : bit_at (run_bits first pages index) bit ≡ 1 → first ≤ 64 * index + bit
  bit_at-run_from set = elim (cases_lt (64 * index + bit) first) [
    | inl before ↦
        let clear : bit_at (run_bits first pages index) bit ≡ 0 =
        ap (λ w. bit_at w bit) in_row ∙ bit_at_mask_below below above bit (omega arith) in
        absurd (omega (arith, clear, set))
    | inr from ↦ from
  ]

  pub bit_at-run_until : bit_at (run_bits first pages index) bit ≡ 1 → 64 * index + bit < first + pages
  bit_at-run_until set = elim (cases_lt (64 * index + bit) (first + pages)) [
    | inl until ↦ until
    | inr past ↦
        let clear : bit_at (run_bits first pages index) bit ≡ 0 =
        ap (λ w. bit_at w bit) in_row ∙ bit_at_mask_above below above bit (omega arith) in
        absurd (omega (arith, clear, set))
  ]

-- ---- a word that has them all, and one that doesn't

-- a word that has some bits has each of them
pub has_each : (word bits bit : ℕ) → bit_and word bits ≡ bits → bit_at bits bit ≡ 1 → bit_at word bit ≡ 1
has_each word bits bit all set =
    let same : bit_at (bit_and word bits) bit ≡ bit_at bits bit = ap (λ w. bit_at w bit) all in
    omega (arith, same, set, bit_at_and word bits bit, bit_at-lt word bit)

-- one of the bits, which the word lacks
pub record LacksBit (word bits : ℕ) : Type 0 where
  pub bit : ℕ
  pub low : bit < 64
  pub wanted : bit_at bits bit ≡ 1
  pub clear : bit_at word bit ≡ 0

module _ (word bits : ℕ) (fits : IsWord bits) where
  -- the bits that it lacks
  abbrev lacking : ℕ
  lacking = bit_and bits (bit_not w64 (bit_and word bits))

  bit_at-lacking : (bit : ℕ) → bit < 64
      → bit_at lacking bit ≡ min (bit_at bits bit) (1 - bit_at (bit_and word bits) bit)
  bit_at-lacking bit low =
      let had : bit_and word bits < 2 ^ 64 = omega (arith, and_le_r word bits) in
      bit_at_and bits (bit_not w64 (bit_and word bits)) bit
      ∙ ap (λ b. min (bit_at bits bit) b) (bit_at_not w64 (bit_and word bits) bit had low)

  -- where it lacks none it has them all
  lacks_none : lacking ≡ 0 → bit_and word bits ≡ bits
  lacks_none none =
      let had : bit_and word bits < 2 ^ 64 = omega (arith, and_le_r word bits) in
      same_from_bits_below 64 (bit_and word bits) bits had fits
      (λ bit low.
      let zero : bit_at lacking bit ≡ 0 = ap (λ w. bit_at w bit) none ∙ bit_at-zero bit in
      omega
      (arith, zero, bit_at-lacking bit low, bit_at_and word bits bit, bit_at-lt bits bit, bit_at-lt word bit))

  -- and else it lacks the lowest of them
  pub lacks_bit : (bit_and word bits ≡ bits → ⊥) → LacksBit word bits
  lacks_bit other = elim (cases_eq lacking 0) [
    | inl none ↦ absurd (other (lacks_none none))
    | inr some ↦
        let positive : 0 < lacking = omega (arith, some) in
        let few : lacking < 2 ^ 64 = omega (arith, and_le_l bits (bit_not w64 (bit_and word bits))) in
        let lowest = bit_at-trailing_zeros w64 lacking positive few in
        let bit = trailing_zeros w64 lacking in
        let here = bit_at-lacking bit lowest.0 in
        record {
          bit = bit;
          low = lowest.0;
          wanted = omega (arith, lowest.1, here, bit_at-lt bits bit);
          clear = omega (arith, lowest.1, here, bit_at_and word bits bit, bit_at-lt bits bit, bit_at-lt word bit);
        }
  ]
