-- Finding the word of a port's bucket, for a call that knows nothing of the tables before: what each state performs, and what comes
-- after it.
use Rattle.std.specs.Prelude.{◌≡◌, ℕ, ◌<◌}
use Rattle.rht_words.specs.declared.op.Op.{Op}
use Rattle.rht_words.specs.declared.op.Op.TheVariants.{Load}
use Rattle.rht_words.specs.declared.machine.Next.{Next}
use Rattle.rht_words.specs.declared.machine.Next.TheVariants.{Go, Done}
use Rattle.rht_words.specs.declared.machine.Start.{Start}
use Rattle.rht_words.specs.declared.machine.Start.TheVariants as starts
use Rattle.rht_words.specs.declared.geometry.Geometry.{Geometry}
use Rattle.rht_words.specs.Places.{Slot, ShapeWord, SeedWord, place_of}
use Rattle.rht_words.specs.Planned.{IsWord}
use Rattle.rht_policy.specs.Mix.{bucket_of}
use Rattle.rht_nest.specs.Place.{PlaceModel, place_new, place_plan, place_after, IsPlaceIn}
use Rattle.rht_nest.specs.declared.place.Bucket.{Bucket}
use Rattle.rht_nest.specs.declared.reach.ReachAt.{ReachAt}
use Rattle.rht_nest.specs.declared.reach.ReachAt.TheVariants as at

-- what contracts see of the machine
pub record ReachModel : Type 0 where
  pub geometry : Geometry
  pub table : ℕ
  pub at : ReachAt

-- it begins with the shape of this slot's table
abbrev pub reach_new : Geometry → ℕ → ReachModel
reach_new g table = record { geometry = g; table = table; at = at.Shape }

-- the state's one operation
abbrev pub reach_plan_at : Geometry → ℕ → ReachAt → Op
reach_plan_at g table at.Shape = Load (place_of g (Slot table ShapeWord))
reach_plan_at g table (at.Seed shape) = Load (place_of g (Slot table SeedWord))
reach_plan_at g table (at.Entry place) = place_plan place

abbrev pub reach_plan : ReachModel → Op
reach_plan m = reach_plan_at m.geometry m.table m.at

-- once the number of the bucket is known: the first entry on the way to it, or in a flat table the place of its word
abbrev pub begun : ReachModel → Start PlaceModel Bucket → ReachModel × Next Bucket
begun m (starts.Running place) = (record m { at = at.Entry place }, Go)
begun m (starts.Done bucket) = (m, Done bucket)

-- what comes after an entry: the next one, the bucket's word, or that the bucket is missing
abbrev pub followed : ReachModel → PlaceModel → Next Bucket → ReachModel × Next Bucket
followed m place Go = (record m { at = at.Entry place }, Go)
followed m place (Done bucket) = (m, Done bucket)

-- what comes after a state that found this word
abbrev pub reach_after_at : (ℕ → ℕ → ℕ → ℕ) → ℕ → ReachModel → ReachAt → ℕ → ReachModel × Next Bucket
reach_after_at mix port m at.Shape word = (record m { at = at.Seed word }, Go)
reach_after_at mix port m (at.Seed shape) word = begun m (place_new m.geometry shape (bucket_of mix port shape word))
reach_after_at mix port m (at.Entry place) word = followed m (place_after place word).0 (place_after place word).1

abbrev pub reach_after : (ℕ → ℕ → ℕ → ℕ) → ℕ → ReachModel → ℕ → ReachModel × Next Bucket
reach_after mix port m word = reach_after_at mix port m m.at word

-- what the state keeps is a word, or an entry of the table of words
abbrev pub IsReachAtIn : Geometry → ReachAt → Type 0
IsReachAtIn g at.Shape = Unit {0}
IsReachAtIn g (at.Seed shape) = IsWord shape
IsReachAtIn g (at.Entry place) = IsPlaceIn g place

-- the machine works in this table of words, at one of its slots
pub record IsReachIn (g : Geometry) (m : ReachModel) : Type 0 where
  pub geometry_same : m.geometry ≡ g
  pub table_in : m.table < 8
  pub at_in : IsReachAtIn g m.at
