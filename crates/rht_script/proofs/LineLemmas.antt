-- What a line's number and its length say of it: that it is one too many, that it is too long, or neither.
use Rattle.std.proofs.Common.{◌≡◌, ℕ, ◌<◌, ◌≤◌, Ok, Err, List, [], ◌∷◌, length, refl, arith}
use Rattle.std.proofs.lemmas.Bool.{lt-ltb, le-ltb}
use Rattle.rht_script.specs.declared.cause.Cause.TheVariants.{TooManyLines, LineTooLong}
use Rattle.rht_script.specs.Grammar.{most_lines, most_in_line, words_at}
use Rattle.rht_script.specs.Spelling.{lines_of, words_of}
use Rattle.rht_script.proofs.PiecesLemmas.{lines_of-empty}

pub lines_of-none : (text : List ℕ) → length text ≡ 0 → lines_of text ≡ []
lines_of-none [] none = lines_of-empty
lines_of-none (byte ∷ text) none = absurd (omega (arith, none))

-- ---- what a line's number and length say

module _ (number : ℕ) (line : List ℕ) where
  pub words_at-many : most_lines < number → words_at number line ≡ Err TooManyLines
  words_at-many many = rw (lt-ltb most_lines number many) refl

  pub words_at-long : number ≤ most_lines → most_in_line < length line
      → words_at number line ≡ Err LineTooLong
  words_at-long few long = rw (le-ltb most_lines number few)
      (rw (lt-ltb most_in_line (length line) long) refl)

  pub words_at-right : number ≤ most_lines → length line ≤ most_in_line
      → words_at number line ≡ Ok (words_of line)
  words_at-right few short = rw (le-ltb most_lines number few)
      (rw (le-ltb most_in_line (length line) short) refl)
