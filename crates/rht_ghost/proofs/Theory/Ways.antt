-- The way to the word of a bucket of a nested table, by what the ghost says of the table's pages and entries. The low bits of a bucket's
-- number pick an entry of the top page; in a table with two levels of entries, six bits more pick one of the page to which that leads.
-- So the low bits lead to a page of buckets, in which the bits above them pick the bucket's word.
use Rattle.std.specs.Prelude.{◌≡◌, ℕ, true, ◌+◌, ◌-◌, ◌*◌, ◌/◌, ◌%◌, ◌^◌, ◌<◌, ◌≤◌, ◌==◌, Option, None, Some, if◌then◌else◌}
use Rattle.rht_words.specs.Shapes.{unpacked, size_of}
use Rattle.rht_nest.specs.Place.{is_deep}
use Rattle.rht_ghost.proofs.Theory.Ghosts.{put, put_in, Part, Row, Leaf, Middle, Top, Table}

-- the first page of a table, which is the top page of a nested one
abbrev pub first_page : ℕ → ℕ
first_page shape = (unpacked shape).page

-- the size of a nested table, and how many low bits of a bucket's number pick an entry of the top page: so many that of those above
-- them six or twelve are left
pub record IsNestedShape (shape : ℕ) : Type 0 where
  pub least : 7 ≤ (unpacked shape).exponent
  pub most : (unpacked shape).exponent ≤ 17
  pub nest_is : (unpacked shape).nest ≡ ((unpacked shape).exponent - 1) % 6 + 1

-- how many entries of the top page are in use
abbrev pub entries_in : ℕ → ℕ
entries_in shape = 2 ^ (unpacked shape).nest

-- how many pages the buckets of a nested table take, and so how many different low bits there are
abbrev pub leaves_in : ℕ → ℕ
leaves_in shape = if is_deep shape then 64 * entries_in shape else entries_in shape

-- what a page has to which this entry of a page leads; where that page has no entries, there is none
abbrev pub child : ℕ → Part → ℕ → Part
child shape Row index = Row
child shape (Leaf low) index = Leaf low
child shape (Middle low) index = Leaf (low + entries_in shape * index)
child shape Top index = if is_deep shape then Middle index else Leaf index

-- ---- from a bucket's number to its word

-- where this entry of the top page leads to this page, the page of buckets behind it
abbrev pub behind_top : Table → Option ℕ → ℕ → Option ℕ
behind_top table None rest = None
behind_top table (Some page) rest = if is_deep table.shape then table.entry (64 * page + rest % 64) else Some page

-- the page of the buckets whose numbers have these low bits
abbrev pub leaf_page : Table → ℕ → Option ℕ
leaf_page table low = behind_top table
    (table.entry (64 * first_page table.shape + low % entries_in table.shape)) (low / entries_in table.shape)

-- a bucket's word in its page
abbrev pub word_in : Option ℕ → ℕ → Option ℕ
word_in None high = None
word_in (Some page) high = Some (64 * page + high % 64)

-- the word of a bucket, where no page is missing on the way
abbrev pub followed : Table → ℕ → Option ℕ
followed table number = word_in (leaf_page table (number % leaves_in table.shape)) (number / leaves_in table.shape)

-- ---- from a word to its bucket's number

-- the number of the bucket that has this word of a page with this part, where one has it
abbrev pub number_of : ℕ → Part → ℕ → ℕ
number_of shape Row j = j - 64 * first_page shape
number_of shape (Leaf low) j = low + leaves_in shape * (j % 64)
number_of shape (Middle low) j = 0
number_of shape Top j = 0

abbrev pub number_in : Table → ℕ → ℕ
number_in table j = number_of table.shape (table.part (j / 64)) j

-- the word is no bucket's: it is behind the last one of a row, or is an entry
abbrev pub IsSpareIn : ℕ → Part → ℕ → Type 0
IsSpareIn shape Row j = 64 * first_page shape + size_of (unpacked shape) ≤ j
IsSpareIn shape (Leaf low) j = ⊥
IsSpareIn shape (Middle low) j = Unit {0}
IsSpareIn shape Top j = Unit {0}

-- ---- from a page to the entries that lead to it

-- a page of entries behind this entry of the top page
pub record IsMiddleAt (table : Table) (low page : ℕ) : Type 0 where
  pub deep : is_deep table.shape ≡ true
  pub below : low < entries_in table.shape
  pub entered : table.entry (64 * first_page table.shape + low) ≡ Some page

-- a page of the buckets whose numbers have these low bits
pub record IsLeafAt (table : Table) (low page : ℕ) : Type 0 where
  pub below : low < leaves_in table.shape
  pub entered : leaf_page table low ≡ Some page

-- the page stands where one with this part is to stand in a nested table
abbrev pub StandsAs : Table → ℕ → Part → Type 0
StandsAs table page Row = ⊥
StandsAs table page (Leaf low) = IsLeafAt table low page
StandsAs table page (Middle low) = IsMiddleAt table low page
StandsAs table page Top = page ≡ first_page table.shape

-- ---- a page that is entered

-- The table with this page behind an entry that led to none: the page has what is to be there, and its own entries, if it has any, lead
-- to none. The words of buckets are where the ways lead from then on.
abbrev with_entry : Table → ℕ → ℕ → Table
with_entry table j page = record table {
  part = put table.part page (child table.shape (table.part (j / 64)) (j % 64));
  entry = put (put_in (λ i. i / 64 == page) None table.entry) j (Some page);
}

abbrev pub entered_table : Table → ℕ → ℕ → Table
entered_table table j page = record (with_entry table j page) { place = followed (with_entry table j page) }

-- such an entry of a page with this part is one of those in use
abbrev pub IsInUse : ℕ → Part → ℕ → Type 0
IsInUse shape Row index = ⊥
IsInUse shape (Leaf low) index = ⊥
IsInUse shape (Middle low) index = Unit {0}
IsInUse shape Top index = index < entries_in shape
