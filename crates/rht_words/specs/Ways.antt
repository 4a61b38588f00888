-- Where a caller's search for a free node begins, by the table's ways.
use Rattle.std.specs.Prelude.{ℕ, zero, suc, Bool, true, false, nat_lt, if◌then◌else◌}
use Rattle.rht_words.specs.declared.env.Env.{Env}
use Rattle.rht_words.specs.Places.{map_words}

-- this word, where searches may begin at any and the map has it; otherwise the first
abbrev pub word_begun : Bool → ℕ → ℕ → ℕ
word_begun spread words zero = 0
word_begun false words (suc index) = 0
word_begun true words (suc index) = if nat_lt (suc index) words then suc index else 0

-- the word of the node map at which a search begins for which `start` is given
abbrev pub start_in : Env → ℕ → ℕ
start_in env start = word_begun env.ways.spread (map_words env.geometry.nodes) start
