-- Where the finding of a bucket's place ends: at the place that is read from the words that it found, or at an entry that
-- leads to no page.
--
-- Both go by induction over the words that the operations find, and by cases on what the entry leads to: to no page, to a page
-- of entries, or to one of buckets' words.
use Rattle.std.proofs.Common.{◌≡◌, ℕ, List, [], ◌∷◌, Bool, true, false, inl, inr, refl, ap, subst, arith}
use Rattle.std.specs.Prelude.{Option, Some, None, ◌↔◌, if◌then◌else◌}
use Rattle.std.specs.List.{Any}
use Rattle.std.proofs.lemmas.List.Elements.{All-head, All-tail}
use Rattle.std.proofs.lemmas.Bool.{cond_both}
use Rattle.rht_words.specs.declared.op.Op.TheVariants.{Load}
use Rattle.rht_words.specs.declared.machine.Next.{Next}
use Rattle.rht_words.specs.declared.machine.Next.TheVariants.{Go, Done}
use Rattle.rht_words.specs.declared.machine.Start.{Start}
use Rattle.rht_words.specs.declared.machine.Start.TheVariants as starts
use Rattle.rht_words.specs.declared.geometry.Geometry.{Geometry}
use Rattle.rht_words.specs.Links.{page_of}
use Rattle.rht_words.specs.Operations.{old_of}
use Rattle.rht_words.specs.Machines.{Performed, Ran, went_on, ran}
use Rattle.rht_arena.proofs.NodesInTurn.{Any-behind}
use Rattle.rht_nest.specs.Tables.{is_nested}
use Rattle.rht_nest.specs.Place.{PlaceModel, flat_place, nested_place, place_plan, place_after, entry_place, entered, went_behind, entry_seen, behind_entry, place_at_once, place_or_last, read_last, read_place}
use Rattle.rht_nest.specs.PlaceLaws.{finding_from, page_words, FoundAmong, FindsPlaceOfWords, FindsNoPage, AbsentWhereNoPage}
use Rattle.rht_nest.specs.declared.place.Bucket.{Bucket}
use Rattle.rht_nest.specs.declared.place.Bucket.TheVariants.{At, Absent}
use Rattle.rht_nest.proofs.OneOfSteps.{Any-parts, Any-only, Any-first}

-- what comes of a machine
abbrev from : PlaceModel → List ℕ → Ran Bucket
from m olds = ran place_plan place_after m olds

-- ---- at an entry that leads to no page

-- what is to be shown of a run: it ends at an entry exactly where that led to no page
abbrev EndsAtNoPage : Geometry → Ran Bucket → Type 0
EndsAtNoPage g run =
    (answer : Bucket) → run.next ≡ Done answer
    → (entry : ℕ) → (answer ≡ Absent entry) ↔ Any (FindsNoPage g entry) run.steps

module _ (m : PlaceModel) (old : ℕ) (olds : List ℕ) where
  abbrev table : Geometry
  table = m.geometry

  abbrev step : Performed
  step = record { op = place_plan m; old = old }

  -- an entry that leads to a page isn't one that leads to none
  other_than_none : (page entry : ℕ) → page_of table.pages old ≡ Some page → FindsNoPage table entry step → ⊥
  other_than_none page entry is finds = let none = finds.none in cc

  -- behind it
  entered-ends : (page : ℕ) (start : Start PlaceModel ℕ) → page_of table.pages old ≡ Some page
      → ((next : PlaceModel) → start ≡ starts.Running next → EndsAtNoPage table (from next olds))
      → EndsAtNoPage table (went_on step (went_behind m start).1 (from (went_behind m start).0 olds))
  entered-ends page (starts.Running next) is later answer done entry =
      let behind = later next refl answer done entry in (
        λ absent. Any-behind (FindsNoPage table entry) step (from next olds).steps (behind.0 absent),
        λ some. elim (Any-parts (FindsNoPage table entry) step (from next olds).steps some) [
          | inl here ↦ absurd (other_than_none page entry is here)
          | inr rest ↦ behind.1 rest
        ],
      )
  entered-ends page (starts.Done place) is later answer done entry = (
    λ absent. absurd (cc),
    λ some. absurd (other_than_none page entry is (Any-only (FindsNoPage table entry) step some)),
  )

  seen-ends : (page : Option ℕ) → page_of table.pages old ≡ page
      → ((p : ℕ) (next : PlaceModel) → entered m p ≡ starts.Running next → EndsAtNoPage table (from next olds))
      → EndsAtNoPage table (went_on step (entry_seen m page).1 (from (entry_seen m page).0 olds))
  seen-ends None is later answer done entry = (
    λ absent.
        let same : entry_place m ≡ entry = cc in
        Any-first (FindsNoPage table entry) step [] (record { loads = ap Load same; none = is }),
    λ some.
        let loads = (Any-only (FindsNoPage table entry) step some).loads in
        let same : entry_place m ≡ entry = cc in
        cc,
  )
  seen-ends (Some page) is later answer done entry =
      entered-ends page (entered m page) is (later page) answer done entry

-- the way on works in the same table
entered-same : (m : PlaceModel) (page : ℕ) (next : PlaceModel) → entered m page ≡ starts.Running next
    → next.geometry ≡ m.geometry
entered-same m page next is = grind (arith, is)

ends_at : (olds : List ℕ) (m : PlaceModel) → EndsAtNoPage m.geometry (from m olds)
ends_at [] m = λ answer done. absurd (cc)
ends_at (old ∷ olds) m =
    seen-ends m old olds (page_of m.geometry.pages old) refl
    (λ page next is. subst (λ (h : Geometry). EndsAtNoPage h (from next olds)) (entered-same m page next is)
    (ends_at olds next))

pub absent_where_no_page : AbsentWhereNoPage
absent_where_no_page g shape bucket olds answer done =
    cond_both (is_nested shape) (starts.Running (nested_place g shape bucket)) (starts.Done (At (flat_place g shape bucket)))
    (λ (start : Start PlaceModel Bucket). (finding_from start olds).next ≡ Done answer
    → (entry : ℕ) → (answer ≡ Absent entry) ↔ Any (FindsNoPage g entry) (finding_from start olds).steps)
    (λ t. ends_at olds (nested_place g shape bucket) answer)
    (λ f flat entry. (λ absent. absurd (cc), λ (k, y, within, is, holds). absurd (omega (arith, within))))
    done

-- ---- at the place that is read

module _ (words : List ℕ) where
  -- what is to be shown of a run: it ends at a place exactly where that is to be read, if its entries are found as they are
  abbrev EndsAtPlace : Option ℕ → Ran Bucket → Type 0
  EndsAtPlace want run =
      (answer : Bucket) → run.next ≡ Done answer → FoundAmong words run.steps
      → (place : ℕ) → (answer ≡ At place) ↔ (want ≡ Some place)

  -- the words of the pages in the machine's table
  abbrev read : PlaceModel → ℕ → ℕ
  read m = page_words m.geometry words

  -- a first operation that found its word as it is
  first_found : (step : Performed) (next : Next Bucket) (rest : Ran Bucket)
      → FoundAmong words (went_on step next rest).steps → step.old ≡ old_of words step.op
  first_found step Go rest found = All-head (λ s. s.old ≡ old_of words s.op) step rest.steps found
  first_found step (Done answer) rest found = All-head (λ s. s.old ≡ old_of words s.op) step [] found

  -- `go` says where the bucket is, once it is known what is behind an entry
  module _ (go : Start PlaceModel ℕ → Option ℕ) (at_once : (place : ℕ) → go (starts.Done place) ≡ Some place)
      (m : PlaceModel) (old : ℕ) (olds : List ℕ) where
    abbrev first : Performed
    first = record { op = place_plan m; old = old }

    entered-place : (start : Start PlaceModel ℕ)
        → ((next : PlaceModel) → start ≡ starts.Running next → EndsAtPlace (go (starts.Running next)) (from next olds))
        → EndsAtPlace (go start) (went_on first (went_behind m start).1 (from (went_behind m start).0 olds))
    entered-place (starts.Running next) later answer done found place =
        later next refl answer done (All-tail (λ s. s.old ≡ old_of words s.op) first (from next olds).steps found) place
    entered-place (starts.Done there) later answer done found place =
        let once = at_once there in
        (λ at. cc, λ want. cc)

    seen-place : (page : Option ℕ)
        → ((p : ℕ) (next : PlaceModel) → entered m p ≡ starts.Running next
        → EndsAtPlace (go (starts.Running next)) (from next olds))
        → EndsAtPlace (behind_entry go m page) (went_on first (entry_seen m page).1 (from (entry_seen m page).0 olds))
    seen-place None later answer done found place = (λ at. absurd (cc), λ want. absurd (cc))
    seen-place (Some page) later answer done found place =
        entered-place (entered m page) (later page) answer done found place

    -- the entry is found as it is
    as_read : ((p : ℕ) (next : PlaceModel) → entered m p ≡ starts.Running next
        → EndsAtPlace (go (starts.Running next)) (from next olds))
        → EndsAtPlace (behind_entry go m (page_of m.geometry.pages (read m m.entry))) (from m (old ∷ olds))
    as_read later answer done found place =
        let is : old ≡ read m m.entry =
        first_found first (place_after m old).1 (from (place_after m old).0 olds) found in
        subst
        (λ o. (answer ≡ At place) ↔ (behind_entry go m (page_of m.geometry.pages o) ≡ Some place))
        is (seen-place (page_of m.geometry.pages old) later answer done found place)

  -- behind the last entry there is no other
  last-place : (olds : List ℕ) (m : PlaceModel) → m.deep ≡ false → EndsAtPlace (read_last (read m) m) (from m olds)
  last-place [] m last = λ answer done. absurd (cc)
  last-place (old ∷ olds) m last =
      as_read place_at_once (λ place. refl) m old olds
      (λ page next is. absurd (grind (arith, is, last)))

  -- behind an entry there is at most one other
  entered-last : (m : PlaceModel) (page : ℕ) (next : PlaceModel) → entered m page ≡ starts.Running next
      → next.deep ≡ false
  entered-last m page next is = grind (arith, is)

  ends-place : (olds : List ℕ) (m : PlaceModel) → EndsAtPlace (read_place (read m) m) (from m olds)
  ends-place [] m = λ answer done. absurd (cc)
  ends-place (old ∷ olds) m =
      as_read (place_or_last (read m)) (λ place. refl) m old olds
      (λ page next is. subst (λ (h : Geometry). EndsAtPlace (read_last (page_words h words) next) (from next olds))
      (entered-same m page next is) (last-place olds next (entered-last m page next is)))

  -- be the table nested or flat
  by_kind : (g : Geometry) (shape bucket : ℕ) (olds : List ℕ) (nested : Bool)
      → EndsAtPlace
      (if nested then read_place (page_words g words) (nested_place g shape bucket) else Some (flat_place g shape bucket))
      (finding_from
      (if nested then starts.Running (nested_place g shape bucket) else starts.Done (At (flat_place g shape bucket))) olds)
  by_kind g shape bucket olds true = ends-place olds (nested_place g shape bucket)
  by_kind g shape bucket olds false = λ answer done found place. (λ at. cc, λ want. cc)

pub finds_place_of_words : FindsPlaceOfWords
finds_place_of_words g shape bucket words olds answer done found place =
    by_kind words g shape bucket olds (is_nested shape) answer done found place
