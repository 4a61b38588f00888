-- The operations on the way to a port's bucket, for a look-up that takes no lock and knows nothing of the tables before. Each is a load.
--
-- What they tell is true of the words and of any table that is known by its slot. It is no knowledge of a caller: it may be carried along
-- in any induction over runs, since it outlives whatever leaves tables what they are.
use Rattle.std.proofs.Common.{◌≡◌, ℕ, ◌<◌, ◌≤◌, List, Option, Some, None, cond, refl, sym, ◌∙◌, ap, subst}
use Rattle.rht_words.specs.declared.env.Env.{Env}
use Rattle.rht_words.specs.declared.geometry.Geometry.{Geometry}
use Rattle.rht_words.specs.declared.machine.Next.{Next}
use Rattle.rht_words.specs.declared.machine.Next.TheVariants.{Go, Done}
use Rattle.rht_words.specs.declared.machine.Start.{Start}
use Rattle.rht_words.specs.declared.machine.Start.TheVariants as starts
use Rattle.rht_words.specs.declared.op.Op.TheVariants.{Load}
use Rattle.rht_words.specs.Links.{page_of}
use Rattle.rht_words.specs.Operations.{old_of}
use Rattle.rht_words.specs.Places.{Slot, SeedWord, PageWord, place_of}
use Rattle.rht_words.proofs.Memory.{Memory}
use Rattle.rht_policy.specs.Mix.{bucket_of}
use Rattle.rht_nest.specs.Tables.{is_nested}
use Rattle.rht_nest.specs.Place.{PlaceModel, flat_place, nested_place, place_new, place_plan, entered, went_behind, entry_seen}
use Rattle.rht_nest.specs.Reach.{ReachModel, reach_plan, reach_after, begun, followed, IsReachAtIn, IsReachIn}
use Rattle.rht_nest.specs.declared.place.Bucket.{Bucket}
use Rattle.rht_nest.specs.declared.place.Bucket.TheVariants.{At, Absent}
use Rattle.rht_nest.specs.declared.reach.ReachAt.{ReachAt}
use Rattle.rht_nest.specs.declared.reach.ReachAt.TheVariants as reaches
use Rattle.rht_ghost.proofs.Theory.Ghosts.{Ghost}
use Rattle.rht_ghost.proofs.Theory.Wholes.{IsAt, at-there, Whole, hash_in, home}
use Rattle.rht_ghost.proofs.Theory.Passed.{GrowsFrom}
use Rattle.rht_ghost.proofs.Theory.Knowledge.{IsWayTo}
use Rattle.rht_ghost.proofs.Theory.WaysRead.{IsPlaceOf, on_way_next, home_place}
use Rattle.rht_ghost.proofs.Theory.WaysStay.{IsWayTo-from}
use Rattle.rht_ghost.proofs.Theory.Steps.{Holding, by_test, mem, SilentStep, loads}
use Rattle.rht_ghost.proofs.Pieces.TableLoads.{shape_word, way_begins, flat_home, way_missing, way_home}

module _ (env : Env) (mix : ℕ → ℕ → ℕ → ℕ) where
  -- what is so on the way: the shape is the table's, and the entry is on the way to the port's bucket
  abbrev pub IsReachingHome : Ghost → ℕ → ℕ → ReachAt → Type 0
  IsReachingHome G port τ reaches.Shape = Unit {0}
  IsReachingHome G port τ (reaches.Seed shape) = (G.table τ).shape ≡ shape
  IsReachingHome G port τ (reaches.Entry place) = IsWayTo env mix G port τ place

  -- and at its end: the place is that of the bucket's word, or the bucket is missing, so no port is seated there
  abbrev pub HasReached : Ghost → ℕ → ℕ → Bucket → Type 0
  HasReached G port τ (At place) = IsPlaceOf env mix G τ (hash_in env mix G port τ) place
  HasReached G port τ (Absent entry) = home env mix G port τ ≡ None

  -- what an operation tells
  abbrev pub ReachTells : Ghost → ℕ → ℕ → ReachModel × Next Bucket → Type 0
  ReachTells G port τ (m, Go) = IsReachingHome G port τ m.at
  ReachTells G port τ (m, Done bucket) = HasReached G port τ bucket

  -- it outlives whatever leaves the table what it is
  pub IsReachingHome-from : (low : ℕ) (G G' : Ghost) → GrowsFrom env mix low G G' → (port τ : ℕ) (state : ReachAt) → τ < G.attached
      → low ≤ τ → IsReachingHome G port τ state → IsReachingHome G' port τ state
  IsReachingHome-from low G G' grow port τ reaches.Shape attached from is = tt
  IsReachingHome-from low G G' grow port τ (reaches.Seed shape) attached from is = (grow.tables τ attached).shape ∙ is
  IsReachingHome-from low G G' grow port τ (reaches.Entry place) attached from is =
      IsWayTo-from env mix low G G' grow port τ place attached from is

  module _ (words : List ℕ) (G : Ghost) (whole : Whole env mix (mem env mix words) G) where
    abbrev M : Memory
    M = mem env mix words

    -- each state loads a word, whatever the caller knows
    silent_at : (c : ℕ) (h : Holding) (Knows : Memory → Ghost → Type 0) (g : Geometry) (slot : ℕ) (state : ReachAt)
        → Knows M G
        → let m : ReachModel = record { geometry = g; table = slot; at = state } in
        SilentStep env mix c words G (reach_plan m) h h Knows
    silent_at c h Knows g slot reaches.Shape knows = loads env mix c words G _ h h Knows whole refl refl knows
    silent_at c h Knows g slot (reaches.Seed shape) knows = loads env mix c words G _ h h Knows whole refl refl knows
    silent_at c h Knows g slot (reaches.Entry place) knows = loads env mix c words G _ h h Knows whole refl refl knows

    pub reach_step : (c : ℕ) (h : Holding) (Knows : Memory → Ghost → Type 0) (m : ReachModel) → Knows M G
        → SilentStep env mix c words G (reach_plan m) h h Knows
    reach_step c h Knows m knows = silent_at c h Knows m.geometry m.table m.at knows

    module _ (port slot : ℕ) (at : IsAt G slot) where
      abbrev τ : ℕ
      τ = at.table

      abbrev at_slot : ReachAt → ReachModel
      at_slot state = record { geometry = env.geometry; table = slot; at = state }

      abbrev Tells : ReachModel × Next Bucket → Type 0
      Tells = ReachTells G port τ

      -- by the seed the way begins, or in a flat table the bucket is there
      seed_tells : (shape : ℕ) → (G.table τ).shape ≡ shape
          → let number = bucket_of mix port shape (M (Slot slot SeedWord)) in
          Tells (begun (at_slot (reaches.Seed shape)) (place_new env.geometry shape number))
      seed_tells shape shape_is =
          let number = bucket_of mix port shape (M (Slot slot SeedWord)) in
          let place = flat_place env.geometry shape number in
          by_test (λ t. Tells (begun (at_slot (reaches.Seed shape)) (cond {A = Start PlaceModel Bucket} t
          (starts.Running (nested_place env.geometry shape number)) (starts.Done (At place)))))
          (is_nested shape)
          (λ nested. way_begins env mix M G whole port slot at shape shape_is nested)
          (λ flat. home_place env mix M G whole port τ (at-there at) place
          (flat_home env mix M G whole port slot at shape shape_is flat))

      module _ (state : ReachAt) (place : PlaceModel) (same : place.geometry ≡ env.geometry)
          (to : IsWayTo env mix G port τ place) where
        abbrev led_by : Option ℕ
        led_by = page_of env.geometry.pages (M (PageWord place.entry))

        -- an entry that leads to a page: the next entry, or the bucket
        entered_tells : (page : ℕ) → led_by ≡ Some page → (start : Start PlaceModel ℕ) → entered place page ≡ start
            → let next = went_behind place start in Tells (followed (at_slot state) next.0 next.1)
        entered_tells page leads (starts.Running next) e =
            on_way_next env mix M G whole port τ (at-there at) place to next page leads e
        entered_tells page leads (starts.Done there) e =
            home_place env mix M G whole port τ (at-there at) there
            (way_home env mix M G whole port slot at place same to page there leads e)

        -- and one that leads to none: the bucket is missing
        entry_tells : (entry : Option ℕ) → led_by ≡ entry
            → let next = entry_seen place entry in Tells (followed (at_slot state) next.0 next.1)
        entry_tells None none = way_missing env mix M G whole port slot at place same to none
        entry_tells (Some page) leads = entered_tells page leads (entered place page) refl

      tells_at : (state : ReachAt) → IsReachAtIn env.geometry state → IsReachingHome G port τ state
          → Tells (reach_after mix port (at_slot state) (old_of words (reach_plan (at_slot state))))
      tells_at reaches.Shape within is = sym (shape_word env mix M G whole slot at)
      tells_at (reaches.Seed shape) within is = seed_tells shape is
      tells_at (reaches.Entry place) within is =
          let same = within.geometry_same in
          let led = ap (λ (g : Geometry). page_of g.pages (old_of words (Load (place_of g (PageWord place.entry))))) same in
          entry_tells (reaches.Entry place) place same is (page_of place.geometry.pages (old_of words (place_plan place)))
          (sym led)

    -- what each tells of the table in the slot
    pub reach_tells : (port : ℕ) (m : ReachModel) → IsReachIn env.geometry m → (at : IsAt G m.table)
        → IsReachingHome G port at.table m.at
        → ReachTells G port at.table (reach_after mix port m (old_of words (reach_plan m)))
    reach_tells port m within at is =
        subst (λ g. let here : ReachModel = record { geometry = g; table = m.table; at = m.at } in
        ReachTells G port at.table (reach_after mix port here (old_of words (reach_plan here))))
        (sym within.geometry_same) (tells_at port m.table at m.at within.at_in is)
