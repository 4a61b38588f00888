-- The bits of a map's words: 64 nodes or pages to a word, and a set bit for each that is free.
use Rattle.std.specs.Prelude.{ℕ, ◌+◌, ◌-◌, ◌*◌, ◌^◌, ◌<◌, ◌==◌, min, bit_and, Option, None, Some, if◌then◌else◌}
use Rattle.std.specs.Int.{trailing_zeros, w64}

-- all bits of a word of a map of so many bits
abbrev pub map_bits : ℕ → ℕ → ℕ
map_bits count index = 2 ^ min 64 (count - 64 * index) - 1

-- the one bit at a place
abbrev pub bit_of : ℕ → ℕ
bit_of bit = 2 ^ bit

-- all bits above a place
abbrev pub bits_above : ℕ → ℕ
bits_above bit = 2 ^ 64 - 2 ^ (bit + 1)

-- the place is one of a word's, and its bit stands for one of so many
pub record IsBitIn (count index place : ℕ) : Type 0 where
  pub within : place < 64
  pub below : 64 * index + place < count

-- the lowest bit of a word that is set and stands for one of so many
abbrev pub lowest_free : ℕ → ℕ → ℕ → Option ℕ
lowest_free count index word =
    if bit_and word (map_bits count index) == 0 then None else Some
    (trailing_zeros w64 (bit_and word (map_bits count index)))
