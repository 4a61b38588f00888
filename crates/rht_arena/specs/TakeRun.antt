-- How a run of free pages is taken: what each state performs, and what comes after it.
use Rattle.std.specs.Prelude.{◌≡◌, ℕ, Bool, ◌+◌, ◌-◌, ◌*◌, ◌/◌, ◌%◌, ◌==◌, ◌&&◌, ◌||◌, nat_le, nat_lt, max, bit_and, List, filter, Option, None, Some, if◌then◌else◌}
use Rattle.std.specs.List.{range_with_len}
use Rattle.std.specs.Int.{bit_at, bit_not, w64}
use Rattle.rht_words.specs.declared.op.Op.{Op}
use Rattle.rht_words.specs.declared.op.Op.TheVariants.{Load, And, Or}
use Rattle.rht_words.specs.declared.machine.Next.{Next}
use Rattle.rht_words.specs.declared.machine.Next.TheVariants.{Go, Done}
use Rattle.rht_words.specs.declared.machine.Start.{Start}
use Rattle.rht_words.specs.declared.machine.Start.TheVariants as starts
use Rattle.rht_words.specs.declared.geometry.Geometry.{Geometry}
use Rattle.rht_words.specs.Places.{PageMap, place_of}
use Rattle.rht_arena.specs.declared.take_run.TakeRunAt.{TakeRunAt}
use Rattle.rht_arena.specs.declared.take_run.TakeRunAt.TheVariants.{MapWord, Claim, GiveBack}
use Rattle.rht_arena.specs.PageRuns.{run_bits, IsRunIn, IsRunWord}

-- what contracts see of the machine: how many pages the run is to have, and where its taking stands
pub record TakeRunModel : Type 0 where
  pub geometry : Geometry
  pub pages : ℕ
  pub at : TakeRunAt

-- a run has a page at least
abbrev pub run_length : ℕ → ℕ
run_length pages = max 1 pages

-- it begins with the run from page 0 on
abbrev pub first_run : Geometry → ℕ → TakeRunModel
first_run g pages = record { geometry = g; pages = pages; at = MapWord 0 0 }

-- where there are too few pages for such a run it ends without an operation
abbrev pub take_run_new : Geometry → ℕ → Start TakeRunModel (Option ℕ)
take_run_new g pages =
    if nat_le (run_length pages) g.pages then starts.Running (first_run g (run_length pages))
    else starts.Done None

-- the state's one operation
abbrev pub take_run_plan_at : Geometry → ℕ → TakeRunAt → Op
take_run_plan_at g pages (MapWord first index) = Load (place_of g (PageMap index))
take_run_plan_at g pages (Claim first index) =
    And (place_of g (PageMap index)) (bit_not w64 (run_bits first pages index))
take_run_plan_at g pages (GiveBack first index bits) = Or (place_of g (PageMap index)) bits

abbrev pub take_run_plan : TakeRunModel → Op
take_run_plan m = take_run_plan_at m.geometry m.pages m.at

-- behind this run comes the next one; where there is none, no run was free
abbrev pub next_run : TakeRunModel → ℕ → TakeRunModel × Next (Option ℕ)
next_run m first =
    if nat_le (first + 2 * m.pages) m.geometry.pages
    then (record m { at = MapWord (first + m.pages) ((first + m.pages) / 64) }, Go)
    else (m, Done None)

-- the run's pages in the words before this one were cleared, and are given back, the last word first
abbrev pub given_below : TakeRunModel → ℕ → ℕ → TakeRunModel × Next (Option ℕ)
given_below m first index =
    if nat_le (64 * index) first then next_run m first
    else (record m { at = GiveBack first (index - 1) (run_bits first m.pages (index - 1)) }, Go)

-- and so are these bits of this one, where there are any
abbrev pub given_from : TakeRunModel → ℕ → ℕ → ℕ → TakeRunModel × Next (Option ℕ)
given_from m first index bits =
    if bits == 0 then given_below m first index else (record m { at = GiveBack first index bits }, Go)

-- the run's pages up to those of this word were taken
abbrev pub claimed : TakeRunModel → ℕ → ℕ → TakeRunModel × Next (Option ℕ)
claimed m first index =
    if nat_lt (64 * (index + 1)) (first + m.pages) then (record m { at = MapWord first (index + 1) }, Go)
    else (m, Done (Some first))

-- the word has all bits of the run's pages in it
abbrev pub has_run : ℕ → ℕ → ℕ → ℕ → Bool
has_run first pages index word = bit_and word (run_bits first pages index) == run_bits first pages index

-- where all pages of the run in a word are free they are claimed
abbrev pub looked : TakeRunModel → ℕ → ℕ → ℕ → TakeRunModel × Next (Option ℕ)
looked m first index word =
    if has_run first m.pages index word then (record m { at = Claim first index }, Go)
    else given_below m first index

-- where all of them were free still the word's are taken, and else those that were
abbrev pub cleared : TakeRunModel → ℕ → ℕ → ℕ → TakeRunModel × Next (Option ℕ)
cleared m first index word =
    if has_run first m.pages index word then claimed m first index
    else given_from m first index (bit_and word (run_bits first m.pages index))

-- what comes after a state that found this word
abbrev pub take_run_after_at : TakeRunModel → TakeRunAt → ℕ → TakeRunModel × Next (Option ℕ)
take_run_after_at m (MapWord first index) word = looked m first index word
take_run_after_at m (Claim first index) word = cleared m first index word
take_run_after_at m (GiveBack first index bits) word = given_below m first index

abbrev pub take_run_after : TakeRunModel → ℕ → TakeRunModel × Next (Option ℕ)
take_run_after m old = take_run_after_at m m.at old

-- the run is one of the table's, and has pages in the word of the map
pub record IsRunAt (g : Geometry) (pages first index : ℕ) : Type 0 where
  pub run : IsRunIn g first pages
  pub word : IsRunWord first pages index

-- these are bits of the run's pages in the word
pub record IsGivenAt (g : Geometry) (pages first index bits : ℕ) : Type 0 where
  pub run : IsRunAt g pages first index
  pub of_run : bit_and bits (run_bits first pages index) ≡ bits

-- the state stands at a run, and what is given back are bits of its pages
abbrev pub IsTakeRunAtIn : Geometry → ℕ → TakeRunAt → Type 0
IsTakeRunAtIn g pages (MapWord first index) = IsRunAt g pages first index
IsTakeRunAtIn g pages (Claim first index) = IsRunAt g pages first index
IsTakeRunAtIn g pages (GiveBack first index bits) = IsGivenAt g pages first index bits

-- the machine takes pages of this table
pub record IsTakeRunIn (g : Geometry) (m : TakeRunModel) : Type 0 where
  pub geometry_same : m.geometry ≡ g
  pub at_in : IsTakeRunAtIn g m.pages m.at

-- a run that is answered is one of the table's
abbrev pub IsRunEndIn : Geometry → ℕ → Next (Option ℕ) → Type 0
IsRunEndIn g pages Go = Unit {0}
IsRunEndIn g pages (Done None) = Unit {0}
IsRunEndIn g pages (Done (Some first)) = IsRunIn g first pages

-- whether the machine has cleared the page's bit and not given it back
abbrev pub has_page : ℕ → TakeRunAt → ℕ → Bool
has_page pages (MapWord first index) page = nat_le first page && nat_lt page (64 * index)
has_page pages (Claim first index) page = nat_le first page && nat_lt page (64 * index)
has_page pages (GiveBack first index bits) page =
    (nat_le first page && nat_lt page (64 * index)) || ((page / 64 == index) && (bit_at bits (page % 64) == 1))

-- the pages whose bits it has cleared and not given back
abbrev pub pages_of_take_run : TakeRunModel → List ℕ
pages_of_take_run m = filter (has_page m.pages m.at) (range_with_len 0 m.geometry.pages)
