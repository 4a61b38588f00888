-- By any words of the pages, the way to a bucket of a nested table leads to the place of its word, or ends at the entry that leads to
-- no page.
use Rattle.std.proofs.Common.{◌≡◌, ◌⊎◌, ℕ, ◌/◌, Bool, true, false, cond, inl, inr, refl}
use Rattle.std.specs.Prelude.{Option, Some, None}
use Rattle.rht_words.specs.declared.machine.Start.{Start}
use Rattle.rht_words.specs.declared.machine.Start.TheVariants as starts
use Rattle.rht_words.specs.Links.{page_of}
use Rattle.rht_words.specs.Places.{PageWord, place_of}
use Rattle.rht_nest.specs.Place.{PlaceModel, picked, behind_entry, place_at_once, place_or_last, read_last, missing_behind, missing_none, missing_or_last, missing_last}
use Rattle.rht_nest.specs.PlaceLaws.{PlaceOrMissing}

-- just one of them is some
abbrev IsOneOf : Option ℕ → Option ℕ → Type 0
IsOneOf there missing =
    ((place : ℕ) × (there ≡ Some place) × (missing ≡ None)) ⊎ ((entry : ℕ) × (missing ≡ Some entry) × (there ≡ None))

module _ (read : ℕ → ℕ) (m : PlaceModel) where
  abbrev next : ℕ → PlaceModel
  next page = record { geometry = m.geometry; entry = picked m page; rest = m.rest / 64; deep = false }

  abbrev behind : Bool → ℕ → Start PlaceModel ℕ
  behind deep page =
      cond deep (starts.Running (next page)) (starts.Done (place_of m.geometry (PageWord (picked m page))))

  -- the last entry
  at_last : (page : Option ℕ) → m.deep ≡ false
      → IsOneOf (behind_entry place_at_once m page) (missing_behind missing_none m page)
  at_last None last = inr (m.entry, refl, refl)
  at_last (Some page) last = go m.deep last
    where
      go : (deep : Bool) → deep ≡ false → IsOneOf (place_at_once (behind deep page)) (missing_none (behind deep page))
      go true is = absurd (cc)
      go false is = inl (place_of m.geometry (PageWord (picked m page)), refl, refl)

module _ (read : ℕ → ℕ) where
  last_one : (m : PlaceModel) → m.deep ≡ false → IsOneOf (read_last read m) (missing_last read m)
  last_one m last = at_last read m (page_of m.geometry.pages (read m.entry)) last

  -- and the first one
  at_first : (m : PlaceModel) (page : Option ℕ)
      → IsOneOf (behind_entry (place_or_last read) m page) (missing_behind (missing_or_last read) m page)
  at_first m None = inr (m.entry, refl, refl)
  at_first m (Some page) = go m.deep
    where
      go : (deep : Bool)
          → IsOneOf (place_or_last read (behind read m deep page)) (missing_or_last read (behind read m deep page))
      go true = last_one (next read m page) refl
      go false = inl (place_of m.geometry (PageWord (picked m page)), refl, refl)

pub place_or_missing : PlaceOrMissing
place_or_missing read m = at_first read m (page_of m.geometry.pages (read m.entry))
