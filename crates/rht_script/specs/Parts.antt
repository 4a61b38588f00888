-- The parts of a script, as calls read them one by one: where a line ends, and where its next word stands.
use Rattle.std.specs.Prelude.{◌≡◌, ℕ, ◌+◌, ◌<◌, ◌≤◌, ◌==◌, not, List, ◌∷◌, length, drop, slice_range}
use Rattle.std.specs.List.{position_or_len}
use Rattle.rht_script.specs.Spelling.{lines_of, words_of, is_blank}

-- The line that begins at the first place ends at the second: at the next line feed, or where the bytes end.
pub record IsLineEnd (bytes : List ℕ) (at end : ℕ) : Type 0 where
  pub place : end ≡ at + position_or_len (λ byte. byte == 10) (drop at bytes)
  pub within : end ≤ length bytes
  pub line : at < length bytes
      → lines_of (drop at bytes) ≡ slice_range bytes at end ∷ lines_of (drop (end + 1) bytes)

-- The next word from a place on: it begins with the first byte that is no blank, and ends before the next blank, or with
-- the line. So the rest of a word that the place lies in is a word too.
pub record IsNextWord (line : List ℕ) (at : ℕ) (word : ℕ × ℕ) : Type 0 where
  pub begins : word.0 ≡ at + position_or_len (λ byte. not (is_blank byte)) (drop at line)
  pub ends : word.1 ≡ word.0 + position_or_len is_blank (drop word.0 line)
  pub some : word.0 < word.1
  pub within : word.1 ≤ length line
  pub words : words_of (drop at line) ≡ slice_range line word.0 word.1 ∷ words_of (drop word.1 line)
