-- When a table grows, shrinks and is full. All divisions round down.
use Rattle.std.specs.Prelude.{ℕ, ◌*◌, ◌/◌, ◌==◌, ◌&&◌, ◌||◌, nat_lt, nat_le, Bool}
use Rattle.rht_policy.specs.Sizes.{most_ports}

-- a table of this size is below the greatest one; 0 is no greatest one
abbrev pub may_grow : ℕ → ℕ → Bool
may_grow size greatest = greatest == 0 || nat_lt size greatest

-- the ports are more than three quarters of the buckets, and the table may grow
abbrev pub is_above_75 : ℕ → ℕ → ℕ → Bool
is_above_75 count size greatest = nat_lt (size / 4 * 3) count && may_grow size greatest

-- the ports are more than the buckets, and the table may grow
abbrev pub is_above_100 : ℕ → ℕ → ℕ → Bool
is_above_100 count size greatest = nat_lt size count && may_grow size greatest

-- the ports are fewer than three tenths of the buckets, and the table is above the least size
abbrev pub is_below_30 : ℕ → ℕ → ℕ → Bool
is_below_30 count size least = nat_lt count (size * 3 / 10) && nat_lt least size

-- the ports are as many as a table may hold, or more
abbrev pub is_above_max : ℕ → ℕ → Bool
is_above_max count greatest = nat_le (most_ports greatest) count
