-- How a run of pages is given back: what its one state performs, and what comes after it.
use Rattle.std.specs.Prelude.{◌≡◌, ℕ, Bool, ◌+◌, ◌*◌, ◌/◌, ◌&&◌, nat_le, nat_lt, List, filter, if◌then◌else◌}
use Rattle.std.specs.List.{range_with_len}
use Rattle.rht_words.specs.declared.op.Op.{Op}
use Rattle.rht_words.specs.declared.op.Op.TheVariants.{Or}
use Rattle.rht_words.specs.declared.machine.Next.{Next}
use Rattle.rht_words.specs.declared.machine.Next.TheVariants.{Go, Done}
use Rattle.rht_words.specs.declared.geometry.Geometry.{Geometry}
use Rattle.rht_words.specs.Places.{PageMap, place_of}
use Rattle.rht_arena.specs.PageRuns.{run_bits, IsRunIn, IsRunWord}

-- what contracts see of the machine: the run, and the word of the page map that comes next
pub record GiveRunModel : Type 0 where
  pub geometry : Geometry
  pub first : ℕ
  pub pages : ℕ
  pub index : ℕ

-- it begins with the word that has the first page's bit
abbrev pub give_run_new : Geometry → ℕ → ℕ → GiveRunModel
give_run_new g first pages = record { geometry = g; first = first; pages = pages; index = first / 64 }

-- its operation sets the bits of the run's pages in the word
abbrev pub give_run_plan : GiveRunModel → Op
give_run_plan m = Or (place_of m.geometry (PageMap m.index)) (run_bits m.first m.pages m.index)

-- then comes the next word, whatever this one was, up to the one that has the last page's bit
abbrev pub give_run_after : GiveRunModel → ℕ → GiveRunModel × Next (Unit {0})
give_run_after m word =
    if nat_lt (64 * (m.index + 1)) (m.first + m.pages) then (record m { index = m.index + 1 }, Go)
    else (m, Done tt)

-- the machine gives back a run of this table
pub record IsGiveRunIn (g : Geometry) (m : GiveRunModel) : Type 0 where
  pub geometry_same : m.geometry ≡ g
  pub run : IsRunIn g m.first m.pages
  pub word : IsRunWord m.first m.pages m.index

-- the pages that it has still to give back
abbrev pub has_yet : GiveRunModel → ℕ → Bool
has_yet m page = nat_le (64 * m.index) page && (nat_le m.first page && nat_lt page (m.first + m.pages))

abbrev pub pages_of_give_run : GiveRunModel → List ℕ
pages_of_give_run m = filter (has_yet m) (range_with_len 0 m.geometry.pages)
