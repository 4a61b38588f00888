-- The size of a smaller table, and how many ports a table may hold. All divisions round down.
use Rattle.std.specs.Prelude.{ℕ, ◌*◌, ◌/◌, ◌^◌, ◌==◌, nat_lt, max, if◌then◌else◌}
use Rattle.rht_words.specs.Sizes.{rounded_up}

-- the least power of two at or above one and a half times the ports, or 0 for no ports; at least the least size
abbrev pub shrunk_size : ℕ → ℕ → ℕ
shrunk_size count least = max (if count == 0 then 0 else rounded_up (count * 3 / 2)) least

-- how many ports a table may hold: twice the greatest size where that is below 2^30; 0 is no greatest one
abbrev pub most_ports : ℕ → ℕ
most_ports greatest = if greatest == 0 then 2 ^ 31 else if nat_lt greatest (2 ^ 30) then 2 * greatest
    else 2 ^ 31
