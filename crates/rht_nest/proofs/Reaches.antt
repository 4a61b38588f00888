-- Whatever words it is told, the reaching of a bucket stays in its table, and what it finds is the table's. It works on the words of its
-- slot, and on entries.
use Rattle.std.proofs.Common.{◌≡◌, ℕ, ◌<◌, refl, sym, subst}
use Rattle.rht_words.specs.declared.geometry.Geometry.{Geometry}
use Rattle.rht_words.specs.declared.machine.Next.{Next}
use Rattle.rht_words.specs.declared.machine.Next.TheVariants.{Go, Done}
use Rattle.rht_words.specs.declared.machine.Start.{Start}
use Rattle.rht_words.specs.declared.machine.Start.TheVariants as starts
use Rattle.rht_words.specs.Places.{Slot, ShapeWord, SeedWord}
use Rattle.rht_words.specs.Planned.{IsWord, IsPlannedIn}
use Rattle.rht_words.proofs.PlannedWords.{planned_load}
use Rattle.rht_policy.specs.Mix.{bucket_of}
use Rattle.rht_nest.specs.Place.{PlaceModel, place_new, place_after, IsPlaceStartIn, IsPlaceEndIn}
use Rattle.rht_nest.specs.Reach.{ReachModel, reach_plan, reach_plan_at, reach_after, reach_after_at, begun, followed, IsReachAtIn, IsReachIn}
use Rattle.rht_nest.specs.declared.place.Bucket.{Bucket}
use Rattle.rht_nest.specs.declared.reach.ReachAt.{ReachAt}
use Rattle.rht_nest.specs.declared.reach.ReachAt.TheVariants as at
use Rattle.rht_nest.proofs.Places.{PlaceStays, place_stays, place_new_in, planned_place}

-- the machine stays in its table, and what it finds is the table's
pub record ReachStays (g : Geometry) (next : ReachModel × Next Bucket) : Type 0 where
  pub reach_in : IsReachIn g next.0
  pub end_in : IsPlaceEndIn g next.1

module _ (mix : ℕ → ℕ → ℕ → ℕ) (port : ℕ) (g : Geometry) where
  -- in another state
  goes_to : (m : ReachModel) (state : ReachAt) → IsReachIn g m → IsReachAtIn g state
      → ReachStays g (record m { at = state }, Go)
  goes_to m state within is = record {
    reach_in = record { geometry_same = within.geometry_same; table_in = within.table_in; at_in = is };
    end_in = tt;
  }

  begun-in : (m : ReachModel) (start : Start PlaceModel Bucket) → IsReachIn g m → IsPlaceStartIn g start
      → ReachStays g (begun m start)
  begun-in m (starts.Running place) within is = goes_to m (at.Entry place) within is
  begun-in m (starts.Done bucket) within is = record { reach_in = within; end_in = is }

  followed-in : (m : ReachModel) (place : PlaceModel) (next : Next Bucket) → IsReachIn g m → PlaceStays g (place, next)
      → ReachStays g (followed m place next)
  followed-in m place Go within stays = goes_to m (at.Entry place) within stays.place_in
  followed-in m place (Done bucket) within stays = record { reach_in = within; end_in = stays.end_in }

  reach_stays_at : (m : ReachModel) (state : ReachAt) (word : ℕ) → IsReachIn g m → IsReachAtIn g state → IsWord word
      → ReachStays g (reach_after_at mix port m state word)
  reach_stays_at m at.Shape word within here told = goes_to m (at.Seed word) within told
  reach_stays_at m (at.Seed shape) word within here told =
      let bucket = bucket_of mix port shape word in
      subst (λ (h : Geometry). ReachStays g (begun m (place_new h shape bucket))) (sym within.geometry_same)
      (begun-in m (place_new g shape bucket) within (place_new_in g shape bucket))
  reach_stays_at m (at.Entry place) word within here told =
      followed-in m (place_after place word).0 (place_after place word).1 within (place_stays g place word here)

  pub reach_stays : (m : ReachModel) (word : ℕ) → IsReachIn g m → IsWord word
      → ReachStays g (reach_after mix port m word)
  reach_stays m word within told = reach_stays_at m m.at word within within.at_in told

module _ (mix : ℕ → ℕ → ℕ → ℕ) (port : ℕ) where
  begun-table : (m : ReachModel) (start : Start PlaceModel Bucket) → (begun m start).0.table ≡ m.table
  begun-table m (starts.Running place) = refl
  begun-table m (starts.Done bucket) = refl

  followed-table : (m : ReachModel) (place : PlaceModel) (next : Next Bucket) → (followed m place next).0.table ≡ m.table
  followed-table m place Go = refl
  followed-table m place (Done bucket) = refl

  -- it is in the table of one slot
  reach_table_at : (m : ReachModel) (state : ReachAt) (word : ℕ) → (reach_after_at mix port m state word).0.table ≡ m.table
  reach_table_at m at.Shape word = refl
  reach_table_at m (at.Seed shape) word = begun-table m (place_new m.geometry shape (bucket_of mix port shape word))
  reach_table_at m (at.Entry place) word = followed-table m (place_after place word).0 (place_after place word).1

  pub reach_after-table : (m : ReachModel) (word : ℕ) → (reach_after mix port m word).0.table ≡ m.table
  reach_after-table m word = reach_table_at m m.at word

module _ (g : Geometry) where
  planned_reach_at : (table : ℕ) (state : ReachAt) → table < 8 → IsReachAtIn g state
      → IsPlannedIn g (reach_plan_at g table state)
  planned_reach_at table at.Shape table_in here = planned_load g (Slot table ShapeWord) (table_in, tt) tt
  planned_reach_at table (at.Seed shape) table_in here = planned_load g (Slot table SeedWord) (table_in, tt) tt
  planned_reach_at table (at.Entry place) table_in here = planned_place g place here

  -- what it performs is on a word of its slot, or an entry
  pub planned_reach : (m : ReachModel) → IsReachIn g m → IsPlannedIn g (reach_plan m)
  planned_reach m within =
      subst (λ (h : Geometry). IsPlannedIn g (reach_plan_at h m.table m.at)) (sym within.geometry_same)
      (planned_reach_at m.table m.at within.table_in within.at_in)
