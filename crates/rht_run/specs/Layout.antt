-- Where the words of a table lie: the single words and the section words have a cache line each, and the others follow them.
use Rattle.std.specs.Prelude.{◌≡◌, ℕ, ◌+◌, ◌-◌, ◌*◌, ◌<◌, nat_lt, if◌then◌else◌, List, length, slice_index}
use Rattle.rht_words.specs.declared.op.Op.{Op}
use Rattle.rht_words.specs.declared.geometry.Geometry.{Geometry}
use Rattle.rht_words.specs.Operations.{op_place}
use Rattle.rht_words.specs.Places.{nodes_at, pages_at}

-- how many words lie between others that nothing is said of
abbrev pub gaps : ℕ
gaps = 168

-- the physical place of the word at a place
unfoldable pub physical : ℕ → ℕ
physical place = if nat_lt place 24 then 8 * place else place + gaps

-- the physical place of the word that an operation is on
abbrev pub physical_place : Op → ℕ
physical_place op = physical (op_place op)

-- the nodes begin at this physical place, the pages so many words behind the first 24, and the last word of all pages has this number
-- among theirs
abbrev pub AreStarts : Geometry → ℕ → ℕ → ℕ → Type 0
AreStarts g nodes pages last = (nodes ≡ nodes_at g + gaps) × (24 + pages ≡ pages_at g) × (last ≡ 64 * g.pages - 1)

-- these are the words, each in its physical place
pub record IsLaidOut (laid words : List ℕ) : Type 0 where
  pub count : length laid ≡ length words + gaps
  pub at : (place : ℕ) → place < length words → slice_index laid (physical place) ≡ slice_index words place
