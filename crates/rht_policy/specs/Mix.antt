-- The mix of three words of 32 bits: seven rounds, each of which changes one word by another.
use Rattle.std.specs.Prelude.{ℕ, ◌+◌, ◌-◌, ◌*◌, ◌/◌, ◌%◌, ◌^◌, bit_xor}
use Rattle.rht_words.specs.declared.config.Config.{Config}
use Rattle.rht_words.specs.declared.config.Hash.{Hash}
use Rattle.rht_words.specs.declared.config.Hash.TheVariants as hashes
use Rattle.rht_words.specs.Ports.{net_of, number_of}
use Rattle.rht_words.specs.Shapes.{size_of, unpacked}

-- the difference of two words, which wraps
abbrev pub wrapping_difference : ℕ → ℕ → ℕ
wrapping_difference x y = (x + (2 ^ 32 - y)) % 2 ^ 32

-- a word rotated to the left by so many bits: the bits that leave above come in below
abbrev pub rotated_left : ℕ → ℕ → ℕ
rotated_left word by = word * 2 ^ by % 2 ^ 32 + word / 2 ^ (32 - by)

-- a word after a round: joined with the other by an exclusive or, less the other rotated to the left
unfoldable pub after_round : ℕ → ℕ → ℕ → ℕ
after_round word other by = wrapping_difference (bit_xor word other) (rotated_left other by)

-- the last of the words a, b and c after seven rounds: c, a and b in turn, each changed by the one changed before it
unfoldable pub final_mix : ℕ → ℕ → ℕ → ℕ
final_mix a b c =
    let c1 = after_round c b 14 in
    let a1 = after_round a c1 11 in
    let b1 = after_round b a1 25 in
    let c2 = after_round c1 b1 16 in
    let a2 = after_round a1 c2 4 in
    let b2 = after_round b1 a2 14 in
    after_round c2 b2 24

-- the mix that is the number itself
abbrev pub low_mix : ℕ → ℕ → ℕ → ℕ
low_mix number net seed = number

-- the mix that a config's hash names
abbrev pub mix_of_hash : Hash → ℕ → ℕ → ℕ → ℕ
mix_of_hash hashes.Mix = final_mix
mix_of_hash hashes.Low = low_mix

abbrev pub mix_named : Config → ℕ → ℕ → ℕ → ℕ
mix_named config = mix_of_hash config.hash

-- the bucket of a port in a table whose slot has these words for its shape and its seed
abbrev pub bucket_of : (ℕ → ℕ → ℕ → ℕ) → ℕ → ℕ → ℕ → ℕ
bucket_of mix port shape seed = mix (number_of port) (net_of port) (seed % 2 ^ 32) % size_of (unpacked shape)
