-- Whatever words it is told, the finding of a bucket stays in its table, and what it finds is the table's. It works on
-- the words of its slot, and on entries.
use Rattle.std.proofs.Common.{◌≡◌, ℕ, ◌<◌, refl, sym, subst, arith}
use Rattle.std.specs.Prelude.{Option, IfSome}
use Rattle.std.proofs.lemmas.Bool.{cond_both}
use Rattle.std.proofs.lemmas.Bool.Decides.{nat_tests}
use Rattle.rht_words.specs.declared.geometry.Geometry.{Geometry}
use Rattle.rht_words.specs.declared.machine.Next.{Next}
use Rattle.rht_words.specs.declared.machine.Next.TheVariants.{Go, Done}
use Rattle.rht_words.specs.Links.{slot_of}
use Rattle.rht_words.specs.Places.{Slot, ShapeWord, SeedWord, FutureWord}
use Rattle.rht_words.specs.Planned.{IsWord, IsPlannedIn}
use Rattle.rht_words.proofs.PlannedWords.{planned_load}
use Rattle.rht_policy.specs.Mix.{bucket_of}
use Rattle.rht_nest.specs.Tables.{is_nested}
use Rattle.rht_nest.specs.Place.{PlaceModel, place_after}
use Rattle.rht_nest.specs.Locate.{LocateModel, locate_plan, locate_plan_at, locate_after, locate_after_at, hashed, entry_followed, IsLocateAtIn, IsLocateIn, IsLocateEndIn}
use Rattle.rht_nest.specs.declared.place.Bucket.{Bucket}
use Rattle.rht_nest.specs.declared.place.Bucket.TheVariants.{At, Absent}
use Rattle.rht_nest.specs.declared.locate.LocateAt.{LocateAt}
use Rattle.rht_nest.specs.declared.locate.LocateAt.TheVariants as at
use Rattle.rht_nest.specs.declared.locate.Located.{Located}
use Rattle.rht_nest.proofs.BucketsApart.{flat_place_in}
use Rattle.rht_nest.proofs.Places.{PlaceStays, place_stays, nested_place_in, planned_place}

-- a slot that is read is one of the eight
pub slot_of-in : (word : ℕ) → IfSome (slot_of word) (λ next. next < 8)
slot_of-in word = grind (arith, nat_tests)

-- the machine stays in its table, and what it finds is the table's
pub record LocateStays (g : Geometry) (next : LocateModel × Next Located) : Type 0 where
  pub locate_in : IsLocateIn g next.0
  pub end_in : IsLocateEndIn g next.1

module _ (mix : ℕ → ℕ → ℕ → ℕ) (port : ℕ) (g : Geometry) where
  hashed-in : (m : LocateModel) (shape bucket : ℕ) → IsLocateIn g m → IsWord shape → m.geometry ≡ g
      → LocateStays g (hashed (record m { geometry = g }) shape bucket)
  hashed-in m shape bucket within shape_in same =
      cond_both (is_nested shape) _ _ (LocateStays g)
      (λ t. record {
        locate_in = record {
          geometry_same = refl;
          table_in = within.table_in;
          at_in = record { shape_in = shape_in; place_in = nested_place_in g shape bucket };
        };
        end_in = tt;
      })
      (λ f. record {
        locate_in = record { geometry_same = refl; table_in = within.table_in; at_in = within.at_in };
        end_in = record { shape_in = shape_in; bucket_in = flat_place_in g shape bucket };
      })

  entry_followed-in : (m : LocateModel) (shape : ℕ) (early : Option ℕ) (place : PlaceModel) (next : Next Bucket)
      → IsLocateIn g m → IsWord shape → IfSome early (λ slot. slot < 8) → PlaceStays g (place, next)
      → LocateStays g (entry_followed m shape early place next)
  entry_followed-in m shape early place Go within shape_in early_in stays = record {
    locate_in = record {
      geometry_same = within.geometry_same;
      table_in = within.table_in;
      at_in = record {
        nested_in = record { shape_in = shape_in; place_in = stays.place_in };
        early_in = early_in;
      };
    };
    end_in = tt;
  }
  entry_followed-in m shape early place (Done (At word)) within shape_in early_in stays = record {
    locate_in = within;
    end_in = record { shape_in = shape_in; bucket_in = stays.end_in };
  }
  entry_followed-in m shape early place (Done (Absent entry)) within shape_in early_in stays = record {
    locate_in = within;
    end_in = record {
      shape_in = shape_in;
      bucket_in = record { place_in = stays.place_in; early_in = early_in };
    };
  }

  locate_stays_at : (m : LocateModel) (at : LocateAt) (word : ℕ) → IsLocateIn g m → IsLocateAtIn g at
      → IsWord word
      → LocateStays g (locate_after_at mix port m at word)
  locate_stays_at m at.Shape word within here told = record {
    locate_in = record { geometry_same = within.geometry_same; table_in = within.table_in; at_in = told };
    end_in = tt;
  }
  locate_stays_at m (at.Seed shape) word within here told =
      subst (λ (h : Geometry). LocateStays g (hashed (record m { geometry = h }) shape (bucket_of mix port shape word)))
      (sym within.geometry_same)
      (hashed-in m shape (bucket_of mix port shape word) within here within.geometry_same)
  locate_stays_at m (at.Early shape place) word within here told = record {
    locate_in = record {
      geometry_same = within.geometry_same;
      table_in = within.table_in;
      at_in = record { nested_in = here; early_in = slot_of-in word };
    };
    end_in = tt;
  }
  locate_stays_at m (at.Entry shape early place) word within here told =
      entry_followed-in m shape early (place_after place word).0 (place_after place word).1 within
      here.nested_in.shape_in here.early_in (place_stays g place word here.nested_in.place_in)

  pub locate_stays : (m : LocateModel) (word : ℕ) → IsLocateIn g m → IsWord word
      → LocateStays g (locate_after mix port m word)
  locate_stays m word within told = locate_stays_at m m.at word within within.at_in told

module _ (g : Geometry) where
  pub planned_locate_at : (table : ℕ) (at : LocateAt) → table < 8 → IsLocateAtIn g at
      → IsPlannedIn g (locate_plan_at g table at)
  planned_locate_at table at.Shape table_in here = planned_load g (Slot table ShapeWord) (table_in, tt) tt
  planned_locate_at table (at.Seed shape) table_in here = planned_load g (Slot table SeedWord) (table_in, tt) tt
  planned_locate_at table (at.Early shape place) table_in here =
      planned_load g (Slot table FutureWord) (table_in, tt) tt
  planned_locate_at table (at.Entry shape early place) table_in here = planned_place g place here.nested_in.place_in

  -- what it performs is on a word of its slot, or an entry
  pub planned_locate : (m : LocateModel) → IsLocateIn g m → IsPlannedIn g (locate_plan m)
  planned_locate m within =
      subst (λ (h : Geometry). IsPlannedIn g (locate_plan_at h m.table m.at)) (sym within.geometry_same)
      (planned_locate_at m.table m.at within.table_in within.at_in)
