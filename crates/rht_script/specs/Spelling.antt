-- How a script is spelled: bytes are a list of lines, a line is a list of words, and some words are numbers.
use Rattle.std.specs.Prelude.{ℕ, ◌+◌, ◌-◌, ◌*◌, Bool, true, false, ◌&&◌, ◌||◌, ◌==◌, not, nat_lt, nat_le, if◌then◌else◌, Result, Ok, Err, List, [], ◌∷◌, length, filter, fold}
use Rattle.std.specs.Char.{is_ascii_digit}
use Rattle.std.specs.List.{list_all, slice_split}
use Rattle.std.specs.Str.{bytes_eq}
use Rattle.rht_words.specs.declared.limits.Limits.{Limits}
use Rattle.rht_script.specs.declared.cause.Cause.{Cause}
use Rattle.rht_script.specs.declared.cause.Cause.TheVariants.{BadNumber, OutOfRange}

-- what one reading gives goes on to the next; the first fault ends it
infixl 10 ◌>>=◌
abbrev pub ◌>>=◌ : {A B E : Type 0} → Result A E → (A → Result B E) → Result B E
Ok value >>= next = next value
Err fault >>= next = Err fault

-- ---- lines and words

-- behind a line feed that ends the text no further line begins
abbrev pub without_empty_end : List (List ℕ) → List (List ℕ)
without_empty_end [] = []
without_empty_end ([] ∷ []) = []
without_empty_end (line ∷ lines) = line ∷ without_empty_end lines

-- the lines of a text: the pieces between its line feeds
unfoldable pub lines_of : List ℕ → List (List ℕ)
lines_of bytes = without_empty_end (slice_split (λ byte. byte == 10) bytes)

-- a space, a tab or a carriage return, which part words
abbrev pub is_blank : ℕ → Bool
is_blank byte = byte == 32 || byte == 9 || byte == 13

-- there is something in the piece
abbrev pub is_some_text : List ℕ → Bool
is_some_text [] = false
is_some_text (byte ∷ bytes) = true

-- the words of a line: the pieces between blanks in which there is something
unfoldable pub words_of : List ℕ → List (List ℕ)
words_of line = filter is_some_text (slice_split is_blank line)

-- the word begins a comment
abbrev pub is_comment : List ℕ → Bool
is_comment [] = false
is_comment (byte ∷ bytes) = byte == 35

-- a line without words is skipped, and so is a comment
abbrev pub is_skipped : List (List ℕ) → Bool
is_skipped [] = true
is_skipped (word ∷ words) = is_comment word

-- the word is this text
abbrev pub is_word : List ℕ → List ℕ → Bool
is_word word text = bytes_eq word text

-- ---- numbers

-- the greatest number of digits of a number
abbrev pub most_digits : ℕ
most_digits = 20

-- 1 to 20 digits, leading zeros allowed
abbrev pub is_number : List ℕ → Bool
is_number word = nat_lt 0 (length word) && nat_le (length word) most_digits && list_all is_ascii_digit word

-- what digits stand for, the first one highest
abbrev pub value_of : List ℕ → ℕ
value_of digits = fold (λ value digit. value * 10 + (digit - 48)) 0 digits

-- the limits of the numbers from the least to the greatest
abbrev pub between : ℕ → ℕ → Limits
between least greatest = record { least = least; greatest = greatest }

-- the number is within these limits
abbrev pub is_within : Limits → ℕ → Bool
is_within limits number = nat_le limits.least number && nat_le number limits.greatest

-- the number that the word stands for, of those within these limits
unfoldable pub number_of : Limits → List ℕ → Result ℕ Cause
number_of limits word =
    if not (is_number word) then Err BadNumber
    else if is_within limits (value_of word) then Ok (value_of word)
    else Err OutOfRange
