-- Where the word of a bucket is. The buckets of a flat table stand in a row. A nested table's are in pages that are entered as
-- they are needed: the low bits of a bucket's number pick an entry of the top page, and each further six bits a word of the page
-- that is found, of which the last is the bucket's.
use Rattle.std.specs.Prelude.{◌≡◌, ℕ, Bool, false, ◌+◌, ◌-◌, ◌*◌, ◌/◌, ◌%◌, ◌^◌, ◌<◌, nat_le, min, Option, None, Some, if◌then◌else◌}
use Rattle.rht_words.specs.declared.op.Op.{Op}
use Rattle.rht_words.specs.declared.op.Op.TheVariants.{Load}
use Rattle.rht_words.specs.declared.machine.Next.{Next}
use Rattle.rht_words.specs.declared.machine.Next.TheVariants.{Go, Done}
use Rattle.rht_words.specs.declared.machine.Start.{Start}
use Rattle.rht_words.specs.declared.machine.Start.TheVariants as starts
use Rattle.rht_words.specs.declared.geometry.Geometry.{Geometry}
use Rattle.rht_words.specs.Links.{page_of}
use Rattle.rht_words.specs.Places.{PageWord, IsBucketPlace, place_of}
use Rattle.rht_words.specs.Shapes.{unpacked}
use Rattle.rht_nest.specs.Tables.{is_nested}
use Rattle.rht_nest.specs.declared.place.Bucket.{Bucket}
use Rattle.rht_nest.specs.declared.place.Bucket.TheVariants.{At, Absent}

-- ---- flat tables

-- the number of a bucket's word among those of all pages
abbrev pub bucket_index : ℕ → ℕ → ℕ
bucket_index shape bucket = 64 * (unpacked shape).page + bucket

-- the place of a bucket's word in a flat table whose shape is packed into this word; behind the last page it is read as that page's last
abbrev pub flat_place : Geometry → ℕ → ℕ → ℕ
flat_place g shape bucket = place_of g (PageWord (min (bucket_index shape bucket) (64 * g.pages - 1)))

-- ---- nested tables

-- what contracts see of the machine: the entry at which it stands, by its number among the words of all pages, what is left of the
-- bucket's number, and whether the page to which the entry leads has entries too
pub record PlaceModel : Type 0 where
  pub geometry : Geometry
  pub entry : ℕ
  pub rest : ℕ
  pub deep : Bool

-- a top page past the last one is read as the last
abbrev pub top_page : Geometry → ℕ → ℕ
top_page g shape = min (unpacked shape).page (g.pages - 1)

-- how many entries of the top page are in use; a page has no more than 64
abbrev pub top_entries : ℕ → ℕ
top_entries shape = 2 ^ min (unpacked shape).nest 6

-- from 2^13 buckets on there are two levels of entries
abbrev pub is_deep : ℕ → Bool
is_deep shape = nat_le 13 (unpacked shape).exponent

-- it begins with an entry of the top page
abbrev pub nested_place : Geometry → ℕ → ℕ → PlaceModel
nested_place g shape bucket = record {
  geometry = g;
  entry = 64 * top_page g shape + bucket % top_entries shape;
  rest = bucket / top_entries shape;
  deep = is_deep shape;
}

-- the bucket of a flat table is known at once
abbrev pub place_new : Geometry → ℕ → ℕ → Start PlaceModel Bucket
place_new g shape bucket =
    if is_nested shape then starts.Running (nested_place g shape bucket)
    else starts.Done (At (flat_place g shape bucket))

-- the place of the entry
abbrev pub entry_place : PlaceModel → ℕ
entry_place m = place_of m.geometry (PageWord m.entry)

-- the state's one operation
abbrev pub place_plan : PlaceModel → Op
place_plan m = Load (entry_place m)

-- the word of a page that the lowest six bits of what is left pick
abbrev pub picked : PlaceModel → ℕ → ℕ
picked m page = 64 * page + m.rest % 64

-- Behind an entry that leads to this page the next entry is looked at, or the bucket's word is known.
abbrev pub entered : PlaceModel → ℕ → Start PlaceModel ℕ
entered m page =
    if m.deep then starts.Running (record { geometry = m.geometry; entry = picked m page; rest = m.rest / 64; deep = false })
    else starts.Done (place_of m.geometry (PageWord (picked m page)))

abbrev pub went_behind : PlaceModel → Start PlaceModel ℕ → PlaceModel × Next Bucket
went_behind m (starts.Running next) = (next, Go)
went_behind m (starts.Done place) = (m, Done (At place))

-- an entry that leads to no page has no bucket behind it
abbrev pub entry_seen : PlaceModel → Option ℕ → PlaceModel × Next Bucket
entry_seen m None = (m, Done (Absent (entry_place m)))
entry_seen m (Some page) = went_behind m (entered m page)

-- what comes after an entry that was this
abbrev pub place_after : PlaceModel → ℕ → PlaceModel × Next Bucket
place_after m word = entry_seen m (page_of m.geometry.pages word)

-- the machine works in this table of words, at one of the pages' words
pub record IsPlaceIn (g : Geometry) (m : PlaceModel) : Type 0 where
  pub geometry_same : m.geometry ≡ g
  pub entry_in : m.entry < 64 * g.pages

-- what is found is a word of the pages, or an entry
abbrev pub IsBucketIn : Geometry → Bucket → Type 0
IsBucketIn g (At place) = IsBucketPlace g place
IsBucketIn g (Absent entry) = IsBucketPlace g entry

abbrev pub IsPlaceEndIn : Geometry → Next Bucket → Type 0
IsPlaceEndIn g Go = Unit {0}
IsPlaceEndIn g (Done bucket) = IsBucketIn g bucket

-- and so it is at the beginning
abbrev pub IsPlaceStartIn : Geometry → Start PlaceModel Bucket → Type 0
IsPlaceStartIn g (starts.Running next) = IsPlaceIn g next
IsPlaceStartIn g (starts.Done bucket) = IsBucketIn g bucket

-- and behind an entry that leads to a page
abbrev pub IsEnteredIn : Geometry → Start PlaceModel ℕ → Type 0
IsEnteredIn g (starts.Running next) = IsPlaceIn g next
IsEnteredIn g (starts.Done place) = IsBucketPlace g place

-- ---- all at once, from the words of the pages, which `read` gives by their numbers

abbrev pub place_at_once : Start PlaceModel ℕ → Option ℕ
place_at_once (starts.Running next) = None
place_at_once (starts.Done place) = Some place

-- behind the entry at which the machine stands
abbrev pub behind_entry : (Start PlaceModel ℕ → Option ℕ) → PlaceModel → Option ℕ → Option ℕ
behind_entry go m None = None
behind_entry go m (Some page) = go (entered m page)

abbrev pub read_last : (ℕ → ℕ) → PlaceModel → Option ℕ
read_last read m = behind_entry place_at_once m (page_of m.geometry.pages (read m.entry))

abbrev pub place_or_last : (ℕ → ℕ) → Start PlaceModel ℕ → Option ℕ
place_or_last read (starts.Running next) = read_last read next
place_or_last read (starts.Done place) = Some place

-- the place of the bucket's word, where no page is missing on the way
abbrev pub read_place : (ℕ → ℕ) → PlaceModel → Option ℕ
read_place read m = behind_entry (place_or_last read) m (page_of m.geometry.pages (read m.entry))

-- and else the number of the entry that leads to no page
abbrev pub missing_behind : (Start PlaceModel ℕ → Option ℕ) → PlaceModel → Option ℕ → Option ℕ
missing_behind go m None = Some m.entry
missing_behind go m (Some page) = go (entered m page)

-- behind the last entry there is no other
abbrev pub missing_none : Start PlaceModel ℕ → Option ℕ
missing_none start = None

abbrev pub missing_last : (ℕ → ℕ) → PlaceModel → Option ℕ
missing_last read m = missing_behind missing_none m (page_of m.geometry.pages (read m.entry))

abbrev pub missing_or_last : (ℕ → ℕ) → Start PlaceModel ℕ → Option ℕ
missing_or_last read (starts.Running next) = missing_last read next
missing_or_last read (starts.Done place) = None

abbrev pub missing_at : (ℕ → ℕ) → PlaceModel → Option ℕ
missing_at read m = missing_behind (missing_or_last read) m (page_of m.geometry.pages (read m.entry))

abbrev pub place_in : (ℕ → ℕ) → Geometry → ℕ → ℕ → Option ℕ
place_in read g shape bucket =
    if is_nested shape then read_place read (nested_place g shape bucket) else Some (flat_place g shape bucket)
