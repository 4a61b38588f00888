-- How a table's shape is packed into a word.
use Rattle.std.specs.Prelude.{ℕ, ◌+◌, ◌*◌, ◌/◌, ◌%◌, ◌^◌, ◌<◌, min, max}
use Rattle.std.specs.Int.{trailing_zeros, w32}
use Rattle.rht_words.specs.declared.shape.Shape.{Shape}

-- the word of a shape
abbrev pub packed : Shape → ℕ
packed shape = shape.exponent + 32 * shape.nest + 1024 * shape.page

-- the shape that a word is read as
abbrev pub unpacked : ℕ → Shape
unpacked word = record { exponent = word % 32; nest = word / 32 % 32; page = word / 1024 % 2 ^ 32 }

-- the numbers of the shape fit their places in a word
pub record IsPackable (shape : Shape) : Type 0 where
  pub exponent_fits : shape.exponent < 32
  pub nest_fits : shape.nest < 32
  pub page_fits : shape.page < 2 ^ 32

-- how many buckets a table of this shape has, which is read as at least 4 and at most 2^18
abbrev pub size_of : Shape → ℕ
size_of shape = 2 ^ max 2 (min shape.exponent 18)

-- the binary exponent of a size, which is a power of two
abbrev pub exponent_of : ℕ → ℕ
exponent_of size = trailing_zeros w32 size
