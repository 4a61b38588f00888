-- What the other crates rely on.
use Rattle.std.specs.Prelude.{◌≡◌, ℕ, ◌^◌, ◌≤◌, Bool}
use Rattle.std.specs.List.{range_with_len}
use Rattle.rht_words.specs.declared.env.Env.{Env}
use Rattle.rht_words.specs.declared.geometry.Geometry.{Geometry}
use Rattle.rht_words.specs.Shapes.{size_of, unpacked}
use Rattle.rht_words.specs.Sizes.{IsSizeUpTo}
use Rattle.rht_nest.specs.Tables.{pages_of_shape}
use Rattle.rht_nest.specs.Make.{pages_taken, IsMadeIn}
use Rattle.rht_move.specs.Choice.{choice_of}
use Rattle.rht_move.specs.declared.work.choice.Choice.{Choice}
use Rattle.rht_move.specs.declared.work.choice.Choice.TheVariants.{Attach, Later, Nothing}

-- a table that is due has one of the sizes of tables
abbrev pub IsOfASize : Choice → Type 0
IsOfASize (Attach size) = IsSizeUpTo (2 ^ 17) size
IsOfASize Later = Unit {0}
IsOfASize Nothing = Unit {0}

-- however many ports are bound, a table that is due has one of the sizes of tables, where the last table has
abbrev pub TablesDueHaveSizes : Type 0
TablesDueHaveSizes =
    (env : Env) (count shape : ℕ) (alone : Bool)
    → size_of (unpacked shape) ≤ 2 ^ 17 → IsOfASize (choice_of env count shape alone)

-- of a table that was made a worker holds the pages of the run that was taken for it
abbrev pub HoldsWhatWasMade : Type 0
HoldsWhatWasMade =
    (g : Geometry) (exponent : ℕ) (allowed : Bool) (slot shape : ℕ)
    → exponent ≤ 17 → (made : IsMadeIn g exponent allowed slot shape)
    → pages_of_shape shape ≡ range_with_len made.page (pages_taken exponent made.nested)
