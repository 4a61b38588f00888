-- A plain word has a byte, no blank and no line feed, and it is short: so are the names in a script, and so are numbers
-- in decimal. Words in a row with a space between each two are the words of that line, and lines that each end with a
-- line feed are the lines of their text. A number in decimal is read as that number.
use Rattle.std.proofs.Common.{◌≡◌, ℕ, ◌+◌, ◌-◌, ◌*◌, ◌%◌, ◌^◌, ◌<◌, ◌≤◌, ◌==◌, Bool, true, false, not, ◌&&◌, Ok, List, [], ◌∷◌, ◌++◌, length, refl, ap, ◌∙◌, arith, length-append, append_assoc}
use Rattle.std.specs.Prelude.{All, codes, decimal, filter, nat_le}
use Rattle.std.specs.Char.{is_ascii_digit}
use Rattle.std.specs.List.{AllByRecursion, list_all, join_with_byte, slice_split}
use Rattle.std.proofs.lemmas.Bool.{le-leb, leb-true, lt-ltb, ne_eqb, and_from, and_parts, not-true, cond-true, false≢true}
use Rattle.std.proofs.lemmas.Fmt.{decimal_by_steps, decimal_nonempty, length-decimal-le}
use Rattle.std.proofs.lemmas.List.Elements.{All-nil, All-cons, All-append}
use Rattle.std.proofs.lemmas.List.Folds.{list_all-append}
use Rattle.std.proofs.lemmas.List.Sums.{fold-append}
use Rattle.std.proofs.lemmas.List.Splits.{slice_split_at, slice_split_none, length-slice_split}
use Rattle.rht_words.specs.declared.limits.Limits.{Limits}
use Rattle.rht_words.specs.Limits.{IsWithinLimits}
use Rattle.rht_script.specs.Spelling.{without_empty_end, lines_of, is_blank, is_some_text, words_of, is_comment, is_word, is_number, value_of, is_within, number_of, most_digits}
use Rattle.rht_script.specs.Plain.{plain_line}
use Rattle.rht_script.proofs.PiecesLemmas.{onto_pieces}

-- ---- digits

-- these are digits, and stand for the number
abbrev pub IsDigitsOf : ℕ → List ℕ → Type 0
IsDigitsOf number digits = (list_all is_ascii_digit digits ≡ true) × (value_of digits ≡ number)

is_ascii_digit-digit : (digit : ℕ) → digit < 10 → is_ascii_digit (48 + digit) ≡ true
is_ascii_digit-digit digit small =
    and_from (nat_le 48 (48 + digit)) (nat_le (48 + digit) 57)
    (le-leb 48 (48 + digit) (omega arith)) (le-leb (48 + digit) 57 (omega (arith, small)))

-- by steps of one digit more
IsDigitsOf-decimal : (number : ℕ) → number < 2 ^ 64 → IsDigitsOf number (decimal number)
IsDigitsOf-decimal =
    decimal_by_steps IsDigitsOf
    (λ digit small. (
      and_from (is_ascii_digit (48 + digit)) true (is_ascii_digit-digit digit small) refl,
      omega arith,
    ))
    (λ number digits large digits_are.
    let last = (48 + number % 10) ∷ [] in
    let small : number % 10 < 10 = omega arith in
    let value = fold-append (λ value digit. value * 10 + (digit - 48)) 0 digits last in
    let digit = and_from (is_ascii_digit (48 + number % 10)) true
    (is_ascii_digit-digit (number % 10) small) refl in (
      list_all-append is_ascii_digit digits last ∙ and_from (list_all is_ascii_digit digits) _
          digits_are.0 digit,
      omega (arith, value, digits_are.1),
    ))

-- The word begins no line of a schedule.
pub record BeginsNoSchedule (word : List ℕ) : Type 0 where
  pub step : is_word word (codes "step") ≡ false
  pub skip : is_word word (codes "skip") ≡ false
  pub finish : is_word word (codes "finish") ≡ false

-- A word that begins with a digit is no comment, and begins no line of a schedule.
record BeginsWithDigit (word : List ℕ) : Type 0 where
  some : is_some_text word ≡ true
  no_comment : is_comment word ≡ false
  no_schedule : BeginsNoSchedule word

BeginsWithDigit-digits : (word : List ℕ) → 0 < length word → list_all is_ascii_digit word ≡ true
    → BeginsWithDigit word
BeginsWithDigit-digits [] some digits = absurd (omega (arith, some))
BeginsWithDigit-digits (byte ∷ word) some digits =
    let first = (and_parts (is_ascii_digit byte) (list_all is_ascii_digit word) digits).0 in
    let parts = and_parts (nat_le 48 byte) (nat_le byte 57) first in
    let above : 48 ≤ byte = leb-true 48 byte parts.0 in
    let below : byte ≤ 57 = leb-true byte 57 parts.1 in
    let no_s = ne_eqb byte 115 (λ same. absurd (omega (arith, below, same))) in
    let no_f = ne_eqb byte 102 (λ same. absurd (omega (arith, below, same))) in
    record {
      some = refl;
      no_comment = ne_eqb byte 35 (λ same. absurd (omega (arith, above, same)));
      no_schedule = record { step = rw no_s refl; skip = rw no_s refl; finish = rw no_f refl };
    }

-- ---- words

-- the byte parts neither words nor lines
abbrev is_plain_byte : ℕ → Bool
is_plain_byte byte = not (is_blank byte) && not (byte == 10)

-- A word of up to sixteen bytes, which part neither words nor lines.
pub record IsPlainWord (word : List ℕ) : Type 0 where
  pub some : is_some_text word ≡ true
  pub bytes : list_all is_plain_byte word ≡ true
  pub short : length word ≤ 16

-- the test of such a word
abbrev pub is_plain_word : List ℕ → Bool
is_plain_word word = is_some_text word && (list_all is_plain_byte word && nat_le (length word) 16)

-- a word that passes is plain, as every name of a script
pub plain_name : {word : List ℕ} → is_plain_word word ≡ true → IsPlainWord word
plain_name {word} passes =
    let parts = and_parts (is_some_text word) _ passes in
    let others = and_parts (list_all is_plain_byte word) (nat_le (length word) 16) parts.1 in
    record { some = parts.0; bytes = others.0; short = leb-true (length word) 16 others.1 }

-- a digit is no blank and no line feed
is_plain_byte-digit : (byte : ℕ) → is_ascii_digit byte ≡ true → is_plain_byte byte ≡ true
is_plain_byte-digit byte digit =
    let above : 48 ≤ byte = leb-true 48 byte (and_parts (nat_le 48 byte) (nat_le byte 57) digit).0 in
    let other = λ (blank : ℕ) (low : blank < 48). ne_eqb byte blank
    (λ same. absurd (omega (arith, above, low, same))) in
    rw (other 32 (omega arith), other 9 (omega arith), other 13 (omega arith), other 10 (omega arith)) refl

-- what passes one test passes a weaker one
list_all-weaker : (strong weak : ℕ → Bool) → ((byte : ℕ) → strong byte ≡ true → weak byte ≡ true)
    → (bytes : List ℕ) → list_all strong bytes ≡ true → list_all weak bytes ≡ true
list_all-weaker strong weak each [] all = refl
list_all-weaker strong weak each (byte ∷ bytes) all =
    let parts = and_parts (strong byte) (list_all strong bytes) all in
    and_from (weak byte) (list_all weak bytes) (each byte parts.0)
    (list_all-weaker strong weak each bytes parts.1)

-- ---- numbers of 32 bits

module _ (number : ℕ) (small : number < 2 ^ 32) where
  pub digits_are : IsDigitsOf number (decimal number)
  digits_are = IsDigitsOf-decimal number (omega (arith, small))

  digits_some : 0 < length (decimal number)
  digits_some = decimal_nonempty number (omega (arith, small))

  -- there are at most ten digits
  pub digits_few : length (decimal number) ≤ 10
  digits_few = length-decimal-le 10 number (omega arith) (omega (arith, small)) (omega (arith, small))

  begins_with_digit : BeginsWithDigit (decimal number)
  begins_with_digit = BeginsWithDigit-digits (decimal number) digits_some digits_are.0

  pub BeginsNoSchedule-decimal : BeginsNoSchedule (decimal number)
  BeginsNoSchedule-decimal = begins_with_digit.no_schedule

  pub is_comment-decimal : is_comment (decimal number) ≡ false
  is_comment-decimal = begins_with_digit.no_comment

  pub IsPlainWord-decimal : IsPlainWord (decimal number)
  IsPlainWord-decimal = record {
    some = begins_with_digit.some;
    bytes = list_all-weaker is_ascii_digit is_plain_byte is_plain_byte-digit (decimal number) digits_are.0;
    short = omega (arith, digits_few);
  }

  is_number-decimal : is_number (decimal number) ≡ true
  is_number-decimal =
      let count = length (decimal number) in
      and_from _ (list_all is_ascii_digit (decimal number))
      (and_from _ (nat_le count most_digits) (lt-ltb 0 count digits_some)
      (le-leb count most_digits (omega (arith, digits_few))))
      digits_are.0

  -- the number is read as it is
  pub number_of-decimal : (limits : Limits) → IsWithinLimits limits number
      → number_of limits (decimal number) ≡ Ok number
  unfolding number_of
  number_of-decimal limits within =
      let is : is_within limits number ≡ true =
      and_from (nat_le limits.least number) (nat_le number limits.greatest)
      (le-leb limits.least number within.0) (le-leb number limits.greatest within.1) in
      rw (is_number-decimal, digits_are.1, is) refl

-- two plain words with a dot between them are one, where they are short enough
pub IsPlainWord-dotted : (first second : List ℕ) → IsPlainWord first → IsPlainWord second
    → length first + length second ≤ 15 → IsPlainWord (first ++ 46 ∷ second)
IsPlainWord-dotted [] second plain other few = absurd (false≢true plain.some)
IsPlainWord-dotted (byte ∷ first) second plain other few = record {
  some = refl;
  bytes = list_all-append is_plain_byte (byte ∷ first) (46 ∷ second)
      ∙ and_from (list_all is_plain_byte (byte ∷ first)) (list_all is_plain_byte second) plain.bytes other.bytes;
  short = omega (arith, few, length-append (byte ∷ first) (46 ∷ second));
}

-- ---- lines

-- none of the bytes is a blank
no_blanks : (word : List ℕ) → list_all is_plain_byte word ≡ true → All (λ byte. is_blank byte ≡ false) word
no_blanks [] plain = All-nil (λ byte. is_blank byte ≡ false)
no_blanks (byte ∷ word) plain =
    let parts = and_parts (is_plain_byte byte) (list_all is_plain_byte word) plain in
    let first = (and_parts (not (is_blank byte)) (not (byte == 10)) parts.0).0 in
    All-cons (λ byte. is_blank byte ≡ false) byte word (not-true (is_blank byte) first)
    (no_blanks word parts.1)

-- none of them is a line feed
no_line_feeds : (word : List ℕ) → list_all is_plain_byte word ≡ true → All (λ byte. (byte == 10) ≡ false) word
no_line_feeds [] plain = All-nil (λ byte. (byte == 10) ≡ false)
no_line_feeds (byte ∷ word) plain =
    let parts = and_parts (is_plain_byte byte) (list_all is_plain_byte word) plain in
    let first = (and_parts (not (is_blank byte)) (not (byte == 10)) parts.0).1 in
    All-cons (λ byte. (byte == 10) ≡ false) byte word (not-true (byte == 10) first)
    (no_line_feeds word parts.1)

-- words in a row, with a space between each two
abbrev pub spaced_words : List (List ℕ) → List ℕ
spaced_words words = join_with_byte 32 words

-- by induction: a space ends the first word, and the words behind it are those of what stands behind
pub words_of-spaced : (words : List (List ℕ)) → AllByRecursion IsPlainWord words
    → words_of (spaced_words words) ≡ words
unfolding words_of
words_of-spaced [] plain = refl
words_of-spaced (word ∷ []) plain =
    ap (filter is_some_text) (slice_split_none is_blank word (no_blanks word plain.0.bytes))
    ∙ cond-true (is_some_text word) _ _ plain.0.some
words_of-spaced (word ∷ next ∷ words) plain =
    let behind = spaced_words (next ∷ words) in
    ap (filter is_some_text) (slice_split_at is_blank word 32 behind (no_blanks word plain.0.bytes) refl)
    ∙ cond-true (is_some_text word) _ _ plain.0.some
    ∙ ap (λ (ws : List (List ℕ)). word ∷ ws) (words_of-spaced (next ∷ words) plain.1)

-- nor has a line of plain words a line feed
no_line_feeds-spaced : (words : List (List ℕ)) → AllByRecursion IsPlainWord words
    → All (λ byte. (byte == 10) ≡ false) (spaced_words words)
no_line_feeds-spaced [] plain = All-nil (λ byte. (byte == 10) ≡ false)
no_line_feeds-spaced (word ∷ []) plain = no_line_feeds word plain.0.bytes
no_line_feeds-spaced (word ∷ next ∷ words) plain =
    let behind = spaced_words (next ∷ words) in
    All-append (λ byte. (byte == 10) ≡ false) word (32 ∷ behind) (no_line_feeds word plain.0.bytes)
    (All-cons (λ byte. (byte == 10) ≡ false) 32 behind refl (no_line_feeds-spaced (next ∷ words) plain.1))

-- how long words are together, each with a space
abbrev pub letters : List (List ℕ) → ℕ
letters [] = 0
letters (word ∷ words) = length word + 1 + letters words

pub letters-append : (words others : List (List ℕ)) → letters (words ++ others) ≡ letters words + letters others
letters-append [] others = omega arith
letters-append (word ∷ words) others = omega (arith, letters-append words others)

-- so long is their line at most
pub length-spaced : (words : List (List ℕ)) → length (spaced_words words) ≤ letters words
length-spaced [] = omega arith
length-spaced (word ∷ []) = omega arith
length-spaced (word ∷ next ∷ words) =
    let joined = length-append word (32 ∷ spaced_words (next ∷ words)) in
    omega (arith, joined, length-spaced (next ∷ words))

-- words of up to sixteen bytes, each with a space
pub letters-plain : (words : List (List ℕ)) → AllByRecursion IsPlainWord words → letters words ≤ 17 * length words
letters-plain [] plain = omega arith
letters-plain (word ∷ words) plain = omega (arith, plain.0.short, letters-plain words plain.1)

-- a plain line is the first line of a text
pub lines_of-plain : (words : List (List ℕ)) (text : List ℕ) → AllByRecursion IsPlainWord words
    → lines_of (plain_line words ++ text) ≡ spaced_words words ∷ lines_of text
unfolding lines_of plain_line
lines_of-plain words text plain =
    let line = spaced_words words in
    let pieces = slice_split (λ byte. byte == 10) text in
    ap (λ (bytes : List ℕ). without_empty_end (slice_split (λ byte. byte == 10) bytes))
    (append_assoc line (10 ∷ []) text)
    ∙ ap without_empty_end (slice_split_at (λ byte. byte == 10) line 10 text
    (no_line_feeds-spaced words plain) refl)
    ∙ onto_pieces line pieces (omega (arith, length-slice_split (λ byte. byte == 10) text))
