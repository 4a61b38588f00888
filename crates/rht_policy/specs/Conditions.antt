-- Which sizes may be asked about. What a least and a greatest size can be is said in `rht_words`.
use Rattle.std.specs.Prelude.{ℕ, ◌^◌}
use Rattle.rht_words.specs.Sizes.{IsSizeUpTo}

-- the size of a table, with one doubling beyond the greatest that a table has
abbrev pub IsSize : ℕ → Type 0
IsSize size = IsSizeUpTo (2 ^ 18) size
