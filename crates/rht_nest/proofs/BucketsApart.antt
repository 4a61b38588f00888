-- The word of a flat table's bucket is one of the pages' words, whatever shape is read. The buckets of flat tables stand in a row,
-- and no two have one place.
use Rattle.std.proofs.Common.{◌≡◌, ℕ, ◌∙◌, sym, arith}
use Rattle.rht_words.specs.declared.geometry.Geometry.{Geometry}
use Rattle.rht_words.specs.Places.{PageWord, IsBucketPlace, place_of}
use Rattle.rht_words.specs.Shapes.{unpacked}
use Rattle.rht_nest.specs.Place.{bucket_index, flat_place}
use Rattle.rht_nest.specs.Laws.{HasBucket, BucketsStandInARow, BucketsNeverMeet}

-- the place of a bucket's word is that of a word of the pages
pub flat_place_in : (g : Geometry) (shape bucket : ℕ) → IsBucketPlace g (flat_place g shape bucket)
flat_place_in g shape bucket =
    let few = g.within.pages_within.0 in
    (omega arith, omega (arith, few))

-- a bucket that there is stands before the end of the last page
pub placed : (g : Geometry) (shape bucket : ℕ) → HasBucket g (unpacked shape) bucket
    → flat_place g shape bucket ≡ place_of g (PageWord (bucket_index shape bucket))
placed g shape bucket has = omega (arith, has.within, has.table.within)

pub buckets_stand_in_a_row : BucketsStandInARow
buckets_stand_in_a_row g shape bucket has = placed g shape bucket has

-- two buckets of one place have one number
same_index : (g : Geometry) (shape bucket second other : ℕ) → HasBucket g (unpacked shape) bucket
    → HasBucket g (unpacked second) other
    → flat_place g shape bucket ≡ flat_place g second other
    → bucket_index shape bucket ≡ bucket_index second other
same_index g shape bucket second other has others same =
    let equal : place_of g (PageWord (bucket_index shape bucket)) ≡ place_of g (PageWord (bucket_index second other)) =
    sym (placed g shape bucket has) ∙ same ∙ placed g second other others in
    omega (arith, equal)

pub buckets_never_meet : BucketsNeverMeet
buckets_never_meet = record {
  in_one = λ g shape bucket other has others same. omega
      (arith, same_index g shape bucket shape other has others same);
  in_two = λ g shape bucket second other has others apart same.
      absurd (omega (
        arith,
        same_index g shape bucket second other has others same,
        has.within,
        others.within,
        apart,
      ));
}
