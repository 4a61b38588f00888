-- What a table is made of: its shape and its pages.
use Rattle.std.specs.Prelude.{ℕ, Bool, nat_lt, ◌+◌, ◌-◌, ◌/◌, ◌%◌, ◌^◌, min, max, List, if◌then◌else◌}
use Rattle.std.specs.List.{range_with_len}
use Rattle.rht_words.specs.declared.geometry.Geometry.{Geometry}
use Rattle.rht_words.specs.declared.shape.Shape.{Shape}
use Rattle.rht_words.specs.Shapes.{unpacked, size_of, exponent_of}

-- the binary exponent of a size from 4 to 2^17, as which another number is read too
abbrev pub exponent_made : ℕ → ℕ
exponent_made size = max 2 (min (exponent_of size) 17)

-- the table whose shape is packed into this word is nested
abbrev pub is_nested : ℕ → Bool
is_nested shape = nat_lt 0 (unpacked shape).nest

-- the shape of a flat table
abbrev pub flat_shape : ℕ → ℕ → Shape
flat_shape exponent page = record { exponent = exponent; nest = 0; page = page }

-- and of a nested one with this top page. It has so many entries there that each further level takes six bits of a bucket's
-- number.
abbrev pub nested_shape : ℕ → ℕ → Shape
nested_shape exponent page = record { exponent = exponent; nest = (exponent - 1) % 6 + 1; page = page }

-- the pages that a table takes when it is made: those of its buckets from its first page on, or the top page of a nested one
abbrev pub table_pages : Shape → ℕ
table_pages shape = if nat_lt 0 shape.nest then 1 else max 1 (size_of shape / 64)

-- those of a table whose shape is packed into this word
abbrev pub pages_of_shape : ℕ → List ℕ
pages_of_shape shape = range_with_len (unpacked shape).page (table_pages (unpacked shape))

-- the run of them, cut to the pages that there are
abbrev pub run_first : Geometry → ℕ → ℕ
run_first g shape = min (unpacked shape).page (g.pages - 1)

abbrev pub run_pages : Geometry → ℕ → ℕ
run_pages g shape = min (table_pages (unpacked shape)) (g.pages - run_first g shape)

-- and its pages
abbrev pub pages_of_table : Geometry → ℕ → List ℕ
pages_of_table g shape = range_with_len (run_first g shape) (run_pages g shape)

-- the seed of a table's hash: that of the config and the table's serial together
abbrev pub table_seed : ℕ → ℕ → ℕ
table_seed seed serial = (seed + serial) % 2 ^ 32
