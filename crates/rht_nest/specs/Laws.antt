-- What the machines that read a flat table rely on. Where the buckets of a nested one are is said beside the machine that finds them.
use Rattle.std.specs.Prelude.{◌≡◌, ◌≢◌, ℕ, ◌+◌, ◌*◌, ◌<◌, ◌≤◌, ◌⊎◌}
use Rattle.rht_words.specs.declared.geometry.Geometry.{Geometry}
use Rattle.rht_words.specs.declared.shape.Shape.{Shape}
use Rattle.rht_words.specs.Places.{PageWord, place_of}
use Rattle.rht_words.specs.Shapes.{unpacked, size_of}
use Rattle.rht_nest.specs.Place.{flat_place}

-- the number of the table's first bucket word among the words of all pages, and of the one behind its last
abbrev pub first_word : Shape → ℕ
first_word shape = 64 * shape.page

abbrev pub end_word : Shape → ℕ
end_word shape = first_word shape + size_of shape

-- the table is flat, and its buckets are words of the pages
pub record IsFlatIn (g : Geometry) (shape : Shape) : Type 0 where
  pub flat : shape.nest ≡ 0
  pub within : end_word shape ≤ 64 * g.pages

-- the table of this shape has such a bucket
pub record HasBucket (g : Geometry) (shape : Shape) (bucket : ℕ) : Type 0 where
  pub table : IsFlatIn g shape
  pub within : bucket < size_of shape

-- a flat table's buckets stand in a row from its first page on
abbrev pub BucketsStandInARow : Type 0
BucketsStandInARow =
    (g : Geometry) (shape bucket : ℕ)
    → HasBucket g (unpacked shape) bucket
    → flat_place g shape bucket ≡ place_of g (PageWord (first_word (unpacked shape) + bucket))

-- two flat tables share no word of the pages
abbrev pub LieApart : Shape → Shape → Type 0
LieApart shape other = (end_word shape ≤ first_word other) ⊎ (end_word other ≤ first_word shape)

-- no two buckets of flat tables have one place, be they of one table or of two that lie apart
pub record BucketsNeverMeet : Type 0 where
  pub in_one :
      (g : Geometry) (shape bucket other : ℕ)
      → HasBucket g (unpacked shape) bucket → HasBucket g (unpacked shape) other
      → flat_place g shape bucket ≡ flat_place g shape other → bucket ≡ other
  pub in_two :
      (g : Geometry) (shape bucket second other : ℕ)
      → HasBucket g (unpacked shape) bucket → HasBucket g (unpacked second) other
      → LieApart (unpacked shape) (unpacked second)
      → flat_place g shape bucket ≢ flat_place g second other
