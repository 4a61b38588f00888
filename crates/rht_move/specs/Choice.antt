-- Whether a table is due behind the last one, and of which size, from how many ports are bound and the last table's shape.
use Rattle.std.specs.Prelude.{ℕ, Bool, ◌*◌, ◌&&◌, min, if◌then◌else◌}
use Rattle.rht_words.specs.declared.env.Env.{Env}
use Rattle.rht_words.specs.Shapes.{size_of, unpacked}
use Rattle.rht_policy.specs.Sizes.{shrunk_size}
use Rattle.rht_policy.specs.Thresholds.{is_above_75, is_below_30}
use Rattle.rht_nest.specs.Tables.{is_nested}
use Rattle.rht_move.specs.declared.work.choice.Choice.{Choice}
use Rattle.rht_move.specs.declared.work.choice.Choice.TheVariants.{Attach, Later, Nothing}

-- shrinking is on, and so few ports are too few for a table of this size
abbrev pub is_sparse : Env → ℕ → ℕ → Bool
is_sparse env ports size = env.config.shrink && is_below_30 ports size env.config.min

-- A full table gets one of twice its size behind it, a nearly empty one that is the only one a smaller one, and a nested one a
-- flat one of its size. A nearly empty one that isn't the only one has to wait.
abbrev pub chosen : ℕ → ℕ → Bool → Bool → Bool → Bool → Choice
chosen size smaller full sparse alone nested =
    if full then Attach (2 * size)
    else if sparse && alone then Attach smaller
    else if nested then Attach size
    else if sparse then Later
    else Nothing

-- what is due where this many ports are bound; `alone` says that the last table is the current one. A count that no run gives is
-- read as the greatest number of ports
abbrev pub choice_of : Env → ℕ → ℕ → Bool → Choice
choice_of env count shape alone =
    let ports = min count 65536 in
    let size = size_of (unpacked shape) in
    chosen size (shrunk_size ports env.config.min) (is_above_75 ports size env.config.max) (is_sparse env ports size) alone
    (is_nested shape)
