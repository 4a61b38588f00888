-- The sizes of tables: rounding to powers of two, and the size of the first table.
use Rattle.std.specs.Prelude.{◌≡◌, ◌≢◌, ℕ, ◌≤◌, ◌+◌, ◌*◌, ◌/◌, ◌^◌, ◌==◌, nat_le, min, max, List, map, unwrap_or, if◌then◌else◌}
use Rattle.std.specs.Int.{IsPowerOfTwo}
use Rattle.std.specs.List.{find, range_with_len}
use Rattle.rht_words.specs.Limits.{IsWithin, IsWithinLimits, min_limits, max_limits, least_size}
use Rattle.rht_words.specs.declared.config.Config.{Config}

-- the powers of two from 1 to 2^32, in rising order
unfoldable pub powers : List ℕ
powers = map (λ exponent. 2 ^ exponent) (range_with_len 0 33)

-- the least power of two at or above n, of numbers up to 2^32
unfoldable pub rounded_up : ℕ → ℕ
rounded_up n = unwrap_or (find (λ power. nat_le n power) powers) 0

-- the greatest power of two at or below n, which is half of the least one above n; 0 for 0
abbrev pub rounded_down : ℕ → ℕ
rounded_down n = rounded_up (n + 1) / 2

-- a power of two from the least number of buckets to this bound
pub record IsSizeUpTo (bound size : ℕ) : Type 0 where
  pub power : IsPowerOfTwo size
  pub least : least_size ≤ size
  pub greatest : size ≤ bound

-- the number can be the least size of a table, which is rounded up
pub record IsLeastSize (number : ℕ) : Type 0 where
  pub within : IsWithin least_size min_limits.greatest number
  pub rounded : rounded_up number ≡ number

-- the number can be the greatest size of a table, which is rounded down; 0 is no greatest size
pub record IsGreatestSize (number : ℕ) : Type 0 where
  pub within : number ≢ 0 → IsWithinLimits max_limits number
  pub rounded : rounded_down number ≡ number

-- the size that is wished for at a hint of so many ports, of which three quarters of a table are to be enough; 0 is no hint
abbrev pub wished_size : ℕ → ℕ
wished_size hint = if hint == 0 then 64 else rounded_up (hint * 4 / 3)

-- a size cut to the greatest one; 0 is no greatest one
abbrev pub cut_size : ℕ → ℕ → ℕ
cut_size greatest size = if greatest == 0 then size else min size greatest

-- the size of the first table, from the hint, the least size and the greatest one
abbrev pub starting_size : ℕ → ℕ → ℕ → ℕ
starting_size hint least greatest = cut_size greatest (max (wished_size hint) least)

-- the size of the first table of a config
abbrev pub first_size : Config → ℕ
first_size config = starting_size config.hint config.min config.max

-- p is the least power of two at or above n
pub record IsLeastPower (n p : ℕ) : Type 0 where
  pub power : IsPowerOfTwo p
  pub above : n ≤ p
  pub least : (q : ℕ) → IsPowerOfTwo q → n ≤ q → p ≤ q

-- p is the greatest power of two at or below n
pub record IsGreatestPower (n p : ℕ) : Type 0 where
  pub power : IsPowerOfTwo p
  pub below : p ≤ n
  pub greatest : (q : ℕ) → IsPowerOfTwo q → q ≤ n → q ≤ p
