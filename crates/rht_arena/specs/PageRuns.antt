-- Runs of pages: which there are, and their bits in the words of the page map.
use Rattle.std.specs.Prelude.{ℕ, Bool, ◌+◌, ◌-◌, ◌*◌, ◌<◌, ◌≤◌, ◌&&◌, nat_le, nat_lt}
use Rattle.rht_words.specs.declared.geometry.Geometry.{Geometry}
use Rattle.rht_words.specs.Maps.{map_bits}

-- the bits of a word of the page map that stand for the pages of a run: those below its end, without those below its first page
abbrev pub run_bits : ℕ → ℕ → ℕ → ℕ
run_bits first pages index = map_bits (first + pages) index - map_bits first index

-- there is such a run: it has a page, and no page past the last one
pub record IsRunIn (g : Geometry) (first pages : ℕ) : Type 0 where
  pub some : 0 < pages
  pub within : first + pages ≤ g.pages

-- a page of the run has its bit in this word of the page map
pub record IsRunWord (first pages index : ℕ) : Type 0 where
  pub from : first < 64 * (index + 1)
  pub until : 64 * index < first + pages

-- the page is one of the run's
abbrev pub is_in_run : ℕ → ℕ → ℕ → Bool
is_in_run first pages page = nat_le first page && nat_lt page (first + pages)
