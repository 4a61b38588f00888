-- What is due for the last table, by its shape, by how many ports are bound, and by the config. The laws of resizings and of kicks speak
-- in these words, which stand on the formulas of `rht_policy`, and not in what the machines compute of them.
use Rattle.std.specs.Prelude.{ℕ, Bool, ◌*◌, ◌/◌, ◌^◌, ◌&&◌, min, max, if◌then◌else◌}
use Rattle.rht_words.specs.declared.env.Env.{Env}
use Rattle.rht_words.specs.Shapes.{size_of, unpacked}
use Rattle.rht_policy.specs.Sizes.{shrunk_size}
use Rattle.rht_policy.specs.Thresholds.{is_above_75, is_below_30}
use Rattle.rht_nest.specs.Tables.{is_nested}
use Rattle.rht_move.specs.declared.work.choice.Choice.{Choice}
use Rattle.rht_move.specs.declared.work.choice.Choice.TheVariants.{Attach, Later, Nothing}

-- shrinking is on, and a table of this size with so many ports is due to shrink: they are fewer than three tenths of its buckets, rounded
-- down, and it has more than the least size
abbrev pub is_due_to_shrink : Env → ℕ → ℕ → Bool
is_due_to_shrink env ports size = env.config.shrink && is_below_30 ports size env.config.min

-- What is due behind a last table of this shape, where this count of ports was loaded; `alone` says that it is the current one. One that is
-- to grow gets a table of twice its size. One that is to shrink gets a smaller one where it is alone. Else a nested one gets a flat one of
-- its size, and one that is to shrink and isn't alone has to wait. A count above 65,536, the most nodes, is read as that.
abbrev pub due : Env → ℕ → ℕ → Bool → Choice
due env count shape alone =
    let ports = min count 65536 in
    let size = size_of (unpacked shape) in
    if is_above_75 ports size env.config.max then Attach (2 * size)
    else if is_due_to_shrink env ports size && alone then Attach (shrunk_size ports env.config.min)
    else if is_nested shape then Attach size
    else if is_due_to_shrink env ports size then Later
    else Nothing

-- How many pages a flat table of this size takes: one for each 64 buckets, and one where it has fewer. A size above 2^17, the greatest, is
-- read as that.
abbrev pub pages_due : ℕ → ℕ
pages_due size = max 1 (min size (2 ^ 17) / 64)
