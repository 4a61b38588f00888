-- The first line of a text ends where its first line feed is, and the other lines are those of what stands
-- behind it. The first word of a line begins at the first byte that is no blank and ends at the next blank.
use Rattle.std.proofs.Common.{◌≡◌, ◌≢◌, ℕ, ◌+◌, ◌<◌, ◌≤◌, ◌==◌, Bool, true, false, not, cond, List, [], ◌∷◌, length, get_or, take, drop, nat_lt, Some, None, position, suc, refl, ap, ◌∙◌, sym, arith, inl, inr, add-one, drop-cons}
use Rattle.std.specs.Prelude.{filter}
use Rattle.std.specs.List.{slice_split, position_or_len, onto_first}
use Rattle.std.proofs.lemmas.List.{get_or-drop}
use Rattle.std.proofs.lemmas.List.Sums.{passes_at_first}
use Rattle.std.proofs.lemmas.List.Splits.{slice_split_first, slice_split-cons_yes, slice_split-cons_no, length-slice_split}
use Rattle.std.proofs.lemmas.Option.{cond_some, none-some}
use Rattle.std.proofs.lemmas.Bool.{ltb-true, ltb-false, cases_Bool, cond-true}
use Rattle.rht_script.specs.Cursors.{BeginsWord}
use Rattle.rht_script.specs.Spelling.{without_empty_end, lines_of, is_blank, is_some_text, words_of, is_skipped}

module _ (test : ℕ → Bool) where
  -- the text has a byte that passes first at this place
  pub slice_split-position : (text : List ℕ) (end : ℕ) → position test text ≡ Some end
      → slice_split test text ≡ take end text ∷ slice_split test (drop (end + 1) text)
  slice_split-position text end found =
      let place = position_or_len test text in
      let at = cond_some (nat_lt place (length text)) place end found in
      let within : place < length text = ltb-true place (length text) at.0 in
      rw at.1 at (slice_split_first test text 0 within)

  -- By induction: a byte that doesn't pass belongs to the first piece.
  whole : (text : List ℕ) → length text ≤ position_or_len test text → slice_split test text ≡ text ∷ []
  whole [] absent = refl
  whole (byte ∷ text) absent =
      let place = position_or_len test text in
      let pieces = slice_split test text in
      (elim (test byte) as (λ here. suc (length text) ≤ cond (not here) (1 + place) 0
      → cond here ([] ∷ pieces) (onto_first byte pieces) ≡ (byte ∷ text) ∷ []) [
        | true ↦ λ h. absurd (omega (arith, h))
        | false ↦ λ h. ap (onto_first byte) (whole text (omega (arith, h)))
      ]) absent

  -- the text has no byte that passes
  pub slice_split-position_none : (text : List ℕ) → position test text ≡ None
      → slice_split test text ≡ text ∷ []
  slice_split-position_none text absent =
      let place = position_or_len test text in
      whole text (elim (cases_Bool (nat_lt place (length text))) [
        | inl within ↦ absurd (none-some place (sym absent
            ∙ cond-true (nat_lt place (length text)) (Some place) None within))
        | inr past ↦ ltb-false place (length text) past
      ])

-- ---- lines

abbrev is_line_feed : ℕ → Bool
is_line_feed byte = byte == 10

-- a piece in front of further pieces is a line
pub onto_pieces : (line : List ℕ) (pieces : List (List ℕ)) → 0 < length pieces
    → without_empty_end (line ∷ pieces) ≡ line ∷ without_empty_end pieces
onto_pieces line [] some = absurd (omega (arith, some))
onto_pieces [] (piece ∷ pieces) some = refl
onto_pieces (byte ∷ line) (piece ∷ pieces) some = refl

-- a line feed ends the first line
pub lines_of-position : (text : List ℕ) (end : ℕ) → position is_line_feed text ≡ Some end
    → lines_of text ≡ take end text ∷ lines_of (drop (end + 1) text)
unfolding lines_of
lines_of-position text end found =
    let behind = slice_split is_line_feed (drop (end + 1) text) in
    ap without_empty_end (slice_split-position is_line_feed text end found)
    ∙ onto_pieces (take end text) behind (omega (
      arith,
      length-slice_split is_line_feed
          (drop (end + 1) text),
    ))

only_line : (text : List ℕ) → text ≢ [] → without_empty_end (text ∷ []) ≡ text ∷ []
only_line [] some = absurd (some refl)
only_line (byte ∷ text) some = refl

pub lines_of-empty : lines_of [] ≡ []
unfolding lines_of
lines_of-empty = refl

-- without a line feed the text is its only line
pub lines_of-position_none : (text : List ℕ) → text ≢ [] → position is_line_feed text ≡ None
    → lines_of text ≡ text ∷ lines_of []
unfolding lines_of
lines_of-position_none text some absent =
    ap without_empty_end (slice_split-position_none is_line_feed text absent) ∙ only_line text some

-- ---- words

abbrev is_letter : ℕ → Bool
is_letter byte = not (is_blank byte)

pub words_of-empty : words_of [] ≡ []
unfolding words_of
words_of-empty = refl

words_of-blank : (byte : ℕ) (text : List ℕ) → is_blank byte ≡ true → words_of (byte ∷ text) ≡ words_of text
unfolding words_of
words_of-blank byte text blank = ap (filter is_some_text) (slice_split-cons_yes is_blank byte text blank)

-- By induction: blanks at the front of a text change none of its words.
all_blank : (text : List ℕ) → length text ≤ position_or_len is_letter text → words_of text ≡ []
all_blank [] absent = words_of-empty
all_blank (byte ∷ text) absent =
    elim (cases_Bool (is_blank byte)) [
      | inl blank ↦
          let further = rw blank at absent in
          words_of-blank byte text blank ∙ all_blank text (omega (arith, further))
      | inr letter ↦ let none = rw letter at absent in absurd (omega (arith, none))
    ]

-- By induction too: the words are those from the first byte of a word on.
from_letter : (text : List ℕ) → position_or_len is_letter text < length text
    → (words_of text ≡ words_of (drop (position_or_len is_letter text) text))
    × BeginsWord (drop (position_or_len is_letter text) text)
from_letter [] within = absurd (omega (arith, within))
from_letter (byte ∷ text) within =
    let place = position_or_len is_letter text in
    (elim (is_blank byte) as (λ blank. cond (not (not blank)) (1 + place) 0 < suc (length text)
    → is_blank byte ≡ blank
    → (words_of (byte ∷ text) ≡ words_of (drop (cond (not (not blank)) (1 + place) 0) (byte ∷ text)))
    × BeginsWord (drop (cond (not (not blank)) (1 + place) 0) (byte ∷ text))) [
      | true ↦ λ before blank.
          let further = from_letter text (omega (arith, before)) in
          let next : 1 + place ≡ suc place = omega arith in
          rw next (words_of-blank byte text blank ∙ further.0, further.1)
      | false ↦ λ before letter. (refl, letter)
    ]) within refl

-- a line without a byte of a word has no words
pub words_of-position_none : (line : List ℕ) → position is_letter line ≡ None → words_of line ≡ []
words_of-position_none line absent =
    let place = position_or_len is_letter line in
    all_blank line (elim (cases_Bool (nat_lt place (length line))) [
      | inl within ↦ absurd (none-some place (sym absent
          ∙ cond-true (nat_lt place (length line)) (Some place) None within))
      | inr past ↦ ltb-false place (length line) past
    ])

-- the words begin at the first byte of a word
pub words_of-position : (line : List ℕ) (start : ℕ) → position is_letter line ≡ Some start
    → (words_of line ≡ words_of (drop start line)) × BeginsWord (drop start line)
words_of-position line start found =
    let place = position_or_len is_letter line in
    let at = cond_some (nat_lt place (length line)) place start found in
    let within : place < length line = ltb-true place (length line) at.0 in
    rw at.1 at (from_letter line within)

-- the first byte of a word tells a comment
is_skipped-letter : (text : List ℕ) → BeginsWord text → is_skipped (words_of text) ≡ (get_or text 0 0 == 35)
unfolding words_of
is_skipped-letter [] begins = absurd begins
is_skipped-letter (byte ∷ text) begins =
    rw (slice_split-cons_no is_blank byte text begins)
    (elim (slice_split is_blank text) as (λ pieces. is_skipped
    (filter is_some_text (onto_first byte pieces)) ≡ (byte == 35)) [
      | [] ↦ refl
      | piece ∷ pieces ↦ refl
    ])

-- so does the first byte of a line that is no blank
pub is_skipped-position : (line : List ℕ) (start : ℕ) → position is_letter line ≡ Some start
    → is_skipped (words_of line) ≡ (get_or line start 0 == 35)
is_skipped-position line start found =
    let begins = words_of-position line start found in
    let here : start + 0 ≡ start = omega arith in
    let first = get_or-drop start line 0 0 ∙ ap (λ n. get_or line n 0) here in
    ap is_skipped begins.0 ∙ is_skipped-letter (drop start line) begins.1 ∙ ap (λ b. b == 35) first

-- a word that a blank ends
some_text : (text : List ℕ) (end : ℕ) → BeginsWord text → position is_blank text ≡ Some end
    → is_some_text (take end text) ≡ true
some_text [] end begins found = absurd begins
some_text (byte ∷ text) end begins found =
    let place = position_or_len is_blank text in
    let first = position_or_len is_blank (byte ∷ text) in
    let at = cond_some (nat_lt first (suc (length text))) first end found in
    let behind : suc place ≡ end = omega (arith, rw begins at at.1) in
    rw (← behind) refl

-- the blank itself changes none of the words behind it
behind_blank : (text : List ℕ) (end : ℕ) → position is_blank text ≡ Some end
    → words_of (drop end text) ≡ words_of (drop (end + 1) text)
behind_blank text end found =
    let place = position_or_len is_blank text in
    let at = cond_some (nat_lt place (length text)) place end found in
    let within : place < length text = ltb-true place (length text) at.0 in
    let blank : is_blank (get_or text end 0) ≡ true = rw at.1 at (passes_at_first is_blank text 0 within) in
    let here : end < length text = rw at.1 at within in
    ap words_of (drop-cons text end 0 here)
    ∙ words_of-blank (get_or text end 0) (drop (suc end) text) blank
    ∙ ap (λ n. words_of (drop n text)) (sym (add-one end))

pub words_of-blank_at : (text : List ℕ) (end : ℕ) → BeginsWord text → position is_blank text ≡ Some end
    → words_of text ≡ take end text ∷ words_of (drop end text)
unfolding words_of
words_of-blank_at text end begins found =
    ap (filter is_some_text) (slice_split-position is_blank text end found)
    ∙ cond-true (is_some_text (take end text)) _ _ (some_text text end begins found)
    ∙ ap (λ (words : List (List ℕ)). take end text ∷ words) (sym (behind_blank text end found))

only_word : (text : List ℕ) → BeginsWord text → filter is_some_text (text ∷ []) ≡ text ∷ []
only_word [] begins = absurd begins
only_word (byte ∷ text) begins = refl

-- a word that ends with the text
pub words_of-no_blank : (text : List ℕ) → BeginsWord text → position is_blank text ≡ None
    → words_of text ≡ text ∷ words_of []
unfolding words_of
words_of-no_blank text begins absent =
    ap (filter is_some_text) (slice_split-position_none is_blank text absent) ∙ only_word text begins
