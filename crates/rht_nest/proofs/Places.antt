-- Whatever words it is told, the way to a bucket of a nested table stays among the words of the pages.
use Rattle.std.proofs.Common.{◌≡◌, ℕ, ◌+◌, ◌*◌, ◌%◌, ◌<◌, ◌≤◌, min, refl, sym, ap, ◌∙◌, subst, arith}
use Rattle.std.specs.Prelude.{Option, Some, None}
use Rattle.std.proofs.Math.Nat.{mod-lt}
use Rattle.std.proofs.lemmas.Bool.{cond_both}
use Rattle.std.proofs.lemmas.Bool.Decides.{nat_tests}
use Rattle.rht_words.specs.declared.geometry.Geometry.{Geometry}
use Rattle.rht_words.specs.declared.machine.Next.{Next}
use Rattle.rht_words.specs.declared.machine.Start.{Start}
use Rattle.rht_words.specs.declared.machine.Start.TheVariants as starts
use Rattle.rht_words.specs.Links.{page_of}
use Rattle.rht_words.specs.Places.{PageWord}
use Rattle.rht_words.specs.Planned.{IsPlannedIn}
use Rattle.rht_words.specs.Shapes.{unpacked}
use Rattle.rht_words.proofs.PlannedWords.{planned_load}
use Rattle.rht_words.proofs.Rounding.{powers-rise}
use Rattle.rht_nest.specs.Place.{PlaceModel, top_page, top_entries, nested_place, place_new, place_plan, entered, went_behind, entry_seen, place_after, IsPlaceIn, IsPlaceStartIn, IsPlaceEndIn, IsEnteredIn}
use Rattle.rht_nest.specs.Tables.{is_nested}
use Rattle.rht_nest.specs.declared.place.Bucket.{Bucket}
use Rattle.rht_nest.proofs.BucketsApart.{flat_place_in}

-- a page has no more than 64 entries
pub few_entries : (shape : ℕ) → top_entries shape ≤ 64
few_entries shape = powers-rise (min (unpacked shape).nest 6) 6 (omega arith)

pub some_entries : (shape : ℕ) → 0 < top_entries shape
some_entries shape = powers-rise 0 (min (unpacked shape).nest 6) (omega arith)

-- the first entry is one of the top page's
pub top_entry_in : (g : Geometry) (shape bucket : ℕ)
    → 64 * top_page g shape + bucket % top_entries shape < 64 * g.pages
top_entry_in g shape bucket =
    let few = few_entries shape in
    let some = g.within.pages_within in
    let below = mod-lt bucket {m = top_entries shape} (some_entries shape) in
    omega (arith, few, below, some.0)

pub nested_place_in : (g : Geometry) (shape bucket : ℕ) → IsPlaceIn g (nested_place g shape bucket)
nested_place_in g shape bucket =
    record { geometry_same = refl; entry_in = top_entry_in g shape bucket }

-- and in a flat table the bucket's word is one of the pages'
pub place_new_in : (g : Geometry) (shape bucket : ℕ) → IsPlaceStartIn g (place_new g shape bucket)
place_new_in g shape bucket =
    cond_both (is_nested shape) _ _ (IsPlaceStartIn g) (λ t. nested_place_in g shape bucket)
    (λ f. flat_place_in g shape bucket)

module _ (g : Geometry) where
  -- behind an entry the way is in the page that it leads to
  pub entered_in : (m : PlaceModel) (page : ℕ) → IsPlaceIn g m → page < g.pages → IsEnteredIn g (entered m page)
  entered_in m page within there =
      subst (λ (h : Geometry). IsEnteredIn g (entered (record m { geometry = h }) page)) (sym within.geometry_same)
      (cond_both m.deep _ _ (IsEnteredIn g)
      (λ t. record { geometry_same = refl; entry_in = omega (arith, there) })
      (λ f. (omega arith, omega (arith, there))))

  -- what comes after an entry is in the table of words
  pub record PlaceStays (next : PlaceModel × Next Bucket) : Type 0 where
    pub place_in : IsPlaceIn g next.0
    pub end_in : IsPlaceEndIn g next.1

  went_behind-in : (m : PlaceModel) (start : Start PlaceModel ℕ) → IsPlaceIn g m → IsEnteredIn g start
      → PlaceStays (went_behind m start)
  went_behind-in m (starts.Running next) within is = record { place_in = is; end_in = tt }
  went_behind-in m (starts.Done place) within is = record { place_in = within; end_in = is }

  page_of-in : (entry page : ℕ) → page_of g.pages entry ≡ Some page → page < g.pages
  page_of-in entry page is = grind (arith, nat_tests, is)

  entry_seen-in : (m : PlaceModel) (page : Option ℕ) → IsPlaceIn g m
      → ((p : ℕ) → page ≡ Some p → p < g.pages) → PlaceStays (entry_seen m page)
  entry_seen-in m None within there = record {
    place_in = within;
    end_in = subst (λ (h : Geometry). IsPlaceEndIn g (entry_seen (record m { geometry = h }) None).1)
        (sym within.geometry_same) (let l = within.entry_in in (omega arith, omega (arith, l)));
  }
  entry_seen-in m (Some page) within there =
      went_behind-in m (entered m page) within (entered_in m page within (there page refl))

  pub place_stays : (m : PlaceModel) (word : ℕ) → IsPlaceIn g m → PlaceStays (place_after m word)
  place_stays m word within =
      entry_seen-in m (page_of m.geometry.pages word) within
      (λ p is. page_of-in word p (ap (λ (h : Geometry). page_of h.pages word) (sym within.geometry_same) ∙ is))

  -- and so is what it performs
  pub planned_place : (m : PlaceModel) → IsPlaceIn g m → IsPlannedIn g (place_plan m)
  planned_place m within =
      subst (λ (h : Geometry). IsPlannedIn g (place_plan (record m { geometry = h }))) (sym within.geometry_same)
      (planned_load g (PageWord m.entry) within.entry_in tt)
