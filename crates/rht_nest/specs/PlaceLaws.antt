-- Where the finding of a bucket's place ends.
use Rattle.std.specs.Prelude.{◌≡◌, ◌↔◌, ◌⊎◌, ℕ, None, Some, List, []}
use Rattle.std.specs.List.{All, Any}
use Rattle.rht_words.specs.declared.op.Op.TheVariants.{Load}
use Rattle.rht_words.specs.declared.machine.Next.TheVariants.{Done}
use Rattle.rht_words.specs.declared.machine.Start.{Start}
use Rattle.rht_words.specs.declared.machine.Start.TheVariants as starts
use Rattle.rht_words.specs.declared.geometry.Geometry.{Geometry}
use Rattle.rht_words.specs.Links.{page_of}
use Rattle.rht_words.specs.Places.{PageWord, word_at}
use Rattle.rht_words.specs.Operations.{old_of}
use Rattle.rht_words.specs.Machines.{Performed, Ran, ran}
use Rattle.rht_nest.specs.Place.{PlaceModel, place_new, place_plan, place_after, read_place, missing_at, place_in}
use Rattle.rht_nest.specs.declared.place.Bucket.{Bucket}
use Rattle.rht_nest.specs.declared.place.Bucket.TheVariants.{At, Absent}

-- the finding of a bucket, whose operations find these words; in a flat table it has none
abbrev pub finding_from : Start PlaceModel Bucket → List ℕ → Ran Bucket
finding_from (starts.Running m) olds = ran place_plan place_after m olds
finding_from (starts.Done bucket) olds = record { steps = []; next = Done bucket }

abbrev pub finding_ran : Geometry → ℕ → ℕ → List ℕ → Ran Bucket
finding_ran g shape bucket olds = finding_from (place_new g shape bucket) olds

-- ---- where it is

-- the words of the pages, by their numbers
abbrev pub page_words : Geometry → List ℕ → ℕ → ℕ
page_words g words index = word_at g words (PageWord index)

-- each operation found its word as it is among these
abbrev pub FoundAmong : List ℕ → List Performed → Type 0
FoundAmong words steps = All (λ step. step.old ≡ old_of words step.op) steps

-- a finding that has ended, each of whose entries was found as it is among these words, answers exactly the place that is
-- read from them
abbrev pub FindsPlaceOfWords : Type 0
FindsPlaceOfWords =
    (g : Geometry) (shape bucket : ℕ) (words olds : List ℕ) (answer : Bucket)
    → (finding_ran g shape bucket olds).next ≡ Done answer
    → FoundAmong words (finding_ran g shape bucket olds).steps
    → (place : ℕ) → (answer ≡ At place) ↔ (place_in (page_words g words) g shape bucket ≡ Some place)

-- ---- where there is none

-- the operation loaded this entry, and found that it leads to no page
pub record FindsNoPage (g : Geometry) (entry : ℕ) (step : Performed) : Type 0 where
  pub loads : step.op ≡ Load entry
  pub none : page_of g.pages step.old ≡ None

-- a finding that has ended answers that a bucket is absent, at an entry, exactly where it found that the entry leads to no page
abbrev pub AbsentWhereNoPage : Type 0
AbsentWhereNoPage =
    (g : Geometry) (shape bucket : ℕ) (olds : List ℕ) (answer : Bucket)
    → (finding_ran g shape bucket olds).next ≡ Done answer
    → (entry : ℕ) → (answer ≡ Absent entry) ↔ Any (FindsNoPage g entry) (finding_ran g shape bucket olds).steps

-- the way to a bucket leads to the place of its word, or a page is missing on it, and never both
abbrev pub PlaceOrMissing : Type 0
PlaceOrMissing =
    (read : ℕ → ℕ) (m : PlaceModel)
    → ((place : ℕ) × (read_place read m ≡ Some place) × (missing_at read m ≡ None))
    ⊎ ((entry : ℕ) × (missing_at read m ≡ Some entry) × (read_place read m ≡ None))
