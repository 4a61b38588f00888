-- Finding the word of a port's bucket: what each state performs, and what comes after it.
use Rattle.std.specs.Prelude.{◌≡◌, ℕ, ◌<◌, Option, IfSome, if◌then◌else◌}
use Rattle.rht_words.specs.declared.op.Op.{Op}
use Rattle.rht_words.specs.declared.op.Op.TheVariants.{Load}
use Rattle.rht_words.specs.declared.machine.Next.{Next}
use Rattle.rht_words.specs.declared.machine.Next.TheVariants.{Go, Done}
use Rattle.rht_words.specs.declared.geometry.Geometry.{Geometry}
use Rattle.rht_words.specs.Links.{slot_of}
use Rattle.rht_words.specs.Places.{Slot, ShapeWord, SeedWord, FutureWord, IsBucketPlace, place_of}
use Rattle.rht_words.specs.Planned.{IsWord}
use Rattle.rht_policy.specs.Mix.{bucket_of}
use Rattle.rht_nest.specs.Tables.{is_nested}
use Rattle.rht_nest.specs.Place.{PlaceModel, flat_place, nested_place, place_plan, place_after, IsPlaceIn}
use Rattle.rht_nest.specs.declared.place.Bucket.{Bucket}
use Rattle.rht_nest.specs.declared.place.Bucket.TheVariants.{At, Absent}
use Rattle.rht_nest.specs.declared.locate.LocateAt.{LocateAt}
use Rattle.rht_nest.specs.declared.locate.LocateAt.TheVariants as at
use Rattle.rht_nest.specs.declared.locate.Located.{Located}
use Rattle.rht_nest.specs.declared.locate.LocatedBucket.{LocatedBucket}
use Rattle.rht_nest.specs.declared.locate.LocatedBucket.TheVariants as buckets

-- what contracts see of the machine
pub record LocateModel : Type 0 where
  pub geometry : Geometry
  pub table : ℕ
  pub at : LocateAt

-- it begins with the shape of this slot's table
abbrev pub locate_new : Geometry → ℕ → LocateModel
locate_new g table = record { geometry = g; table = table; at = at.Shape }

-- the state's one operation
abbrev pub locate_plan_at : Geometry → ℕ → LocateAt → Op
locate_plan_at g table at.Shape = Load (place_of g (Slot table ShapeWord))
locate_plan_at g table (at.Seed shape) = Load (place_of g (Slot table SeedWord))
locate_plan_at g table (at.Early shape place) = Load (place_of g (Slot table FutureWord))
locate_plan_at g table (at.Entry shape early place) = place_plan place

abbrev pub locate_plan : LocateModel → Op
locate_plan m = locate_plan_at m.geometry m.table m.at

-- the bucket's word has this place
abbrev pub located_at : ℕ → ℕ → Located
located_at shape place = record { shape = shape; bucket = buckets.At place }

-- once the number of the bucket is known: a flat table has its word in a row, and a nested one behind entries
abbrev pub hashed : LocateModel → ℕ → ℕ → LocateModel × Next Located
hashed m shape bucket =
    if is_nested shape then (record m { at = at.Early shape (nested_place m.geometry shape bucket) }, Go)
    else (m, Done (located_at shape (flat_place m.geometry shape bucket)))

-- what comes after an entry: the next one, the bucket's word, or that the bucket is missing
abbrev pub entry_followed : LocateModel → ℕ → Option ℕ → PlaceModel → Next Bucket → LocateModel × Next Located
entry_followed m shape early place Go = (record m { at = at.Entry shape early place }, Go)
entry_followed m shape early place (Done (At word)) = (m, Done (located_at shape word))
entry_followed m shape early place (Done (Absent entry)) =
    (m, Done (record { shape = shape; bucket = buckets.Missing place early }))

-- what comes after a state that found this word
abbrev pub locate_after_at : (ℕ → ℕ → ℕ → ℕ) → ℕ → LocateModel → LocateAt → ℕ → LocateModel × Next Located
locate_after_at mix port m at.Shape word = (record m { at = at.Seed word }, Go)
locate_after_at mix port m (at.Seed shape) word = hashed m shape (bucket_of mix port shape word)
locate_after_at mix port m (at.Early shape place) word = (record m { at = at.Entry shape (slot_of word) place }, Go)
locate_after_at mix port m (at.Entry shape early place) word =
    entry_followed m shape early (place_after place word).0 (place_after place word).1

abbrev pub locate_after : (ℕ → ℕ → ℕ → ℕ) → ℕ → LocateModel → ℕ → LocateModel × Next Located
locate_after mix port m word = locate_after_at mix port m m.at word

-- the way to a bucket in a table of this shape, which leads over entries
pub record IsNestedIn (g : Geometry) (shape : ℕ) (place : PlaceModel) : Type 0 where
  pub shape_in : IsWord shape
  pub place_in : IsPlaceIn g place

-- and the table behind it as it was known before
pub record IsEntryIn (g : Geometry) (shape : ℕ) (early : Option ℕ) (place : PlaceModel) : Type 0 where
  pub nested_in : IsNestedIn g shape place
  pub early_in : IfSome early (λ next. next < 8)

-- what the state keeps are words of the table's, and a slot
abbrev pub IsLocateAtIn : Geometry → LocateAt → Type 0
IsLocateAtIn g at.Shape = Unit {0}
IsLocateAtIn g (at.Seed shape) = IsWord shape
IsLocateAtIn g (at.Early shape place) = IsNestedIn g shape place
IsLocateAtIn g (at.Entry shape early place) = IsEntryIn g shape early place

-- the machine works in this table of words, at one of its slots
pub record IsLocateIn (g : Geometry) (m : LocateModel) : Type 0 where
  pub geometry_same : m.geometry ≡ g
  pub table_in : m.table < 8
  pub at_in : IsLocateAtIn g m.at

-- the place is a bucket's; or the bucket is missing, at an entry of the table's, and the table behind is in a slot
pub record IsMissingIn (g : Geometry) (place : PlaceModel) (early : Option ℕ) : Type 0 where
  pub place_in : IsPlaceIn g place
  pub early_in : IfSome early (λ next. next < 8)

abbrev pub IsLocatedBucketIn : Geometry → LocatedBucket → Type 0
IsLocatedBucketIn g (buckets.At place) = IsBucketPlace g place
IsLocatedBucketIn g (buckets.Missing place early) = IsMissingIn g place early

-- what was found is the table's
pub record IsLocatedIn (g : Geometry) (located : Located) : Type 0 where
  pub shape_in : IsWord located.shape
  pub bucket_in : IsLocatedBucketIn g located.bucket

abbrev pub IsLocateEndIn : Geometry → Next Located → Type 0
IsLocateEndIn g Go = Unit {0}
IsLocateEndIn g (Done located) = IsLocatedIn g located
