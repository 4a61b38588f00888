-- Where a line ends and where its next word stands, as places of the whole text: what stands behind a place is a text of its
-- own, and its first line and its first word are found there.
use Rattle.std.proofs.Common.{◌≡◌, ◌≢◌, ℕ, ◌+◌, ◌-◌, ◌<◌, ◌≤◌, ◌==◌, Bool, not, List, [], ◌∷◌, length, take, drop, nat_lt, Some, None, position, ap, ◌∙◌, sym, subst, arith, inl, inr, length-drop}
use Rattle.std.specs.List.{position_or_len}
use Rattle.std.proofs.lemmas.Bool.{ltb-true, ltb-false, cases_Bool, cond-true}
use Rattle.std.proofs.Math.Seq.{drop-length}
use Rattle.std.proofs.lemmas.List.{drop-drop, drop_all, take_rest}
use Rattle.std.proofs.lemmas.List.Sums.{prefix_len-le-length}
use Rattle.std.proofs.lemmas.Option.{cond_some, none-some}
use Rattle.rht_script.specs.Cursors.{BeginsWord}
use Rattle.rht_script.specs.Parts.{IsLineEnd, IsNextWord}
use Rattle.rht_script.specs.Spelling.{lines_of, words_of, is_blank}
use Rattle.rht_script.proofs.PiecesLemmas.{lines_of-position, lines_of-position_none, words_of-position, words_of-blank_at, words_of-no_blank}

-- ---- the first byte that passes a test

module _ (test : ℕ → Bool) (text : List ℕ) where
  -- it is found, within the text
  pub found_within : (place : ℕ) → position test text ≡ Some place
      → (place ≡ position_or_len test text) × (place < length text)
  found_within place found =
      let first = position_or_len test text in
      let at = cond_some (nat_lt first (length text)) first place found in
      let within : first < length text = ltb-true first (length text) at.0 in
      let same : first ≡ place = at.1 in
      (sym same, omega (arith, within, same))

  -- none does
  pub none_within : position test text ≡ None → position_or_len test text ≡ length text
  none_within absent =
      let first = position_or_len test text in
      let most : first ≤ length text = prefix_len-le-length (λ byte. not (test byte)) text in
      elim (cases_Bool (nat_lt first (length text))) [
        | inl within ↦ absurd (none-some first (sym absent
            ∙ cond-true (nat_lt first (length text)) (Some first) None within))
        | inr past ↦ (let behind : length text ≤ first = ltb-false first (length text) past in omega arith)
      ]

-- ---- the end of a line

abbrev is_line_feed : ℕ → Bool
is_line_feed byte = byte == 10

module _ (bytes : List ℕ) (at : ℕ) (within : at ≤ length bytes) where
  pub line_end-feed : (len : ℕ) → position is_line_feed (drop at bytes) ≡ Some len → IsLineEnd bytes at (at + len)
  line_end-feed len found =
      let text = drop at bytes in
      let here = found_within is_line_feed text len found in
      let left : length text ≡ length bytes - at = length-drop at bytes in
      let wide : (at + len) - at ≡ len = omega arith in
      let next : at + (len + 1) ≡ (at + len) + 1 = omega arith in
      let behind = drop-drop (len + 1) at bytes ∙ ap (λ n. drop n bytes) next in
      record {
        place = ap (λ n. at + n) here.0;
        within = omega (arith, here.1, left, within);
        line = λ some. rw wide (lines_of-position text len found
            ∙ ap (λ (rest : List ℕ). take len text ∷ lines_of rest) behind);
      }

  pub line_end-last : position is_line_feed (drop at bytes) ≡ None → IsLineEnd bytes at (length bytes)
  line_end-last absent =
      let text = drop at bytes in
      let left : length text ≡ length bytes - at = length-drop at bytes in
      let most = none_within is_line_feed text absent in
      let past : length bytes ≤ length bytes + 1 = omega arith in
      let behind : drop (length bytes + 1) bytes ≡ [] = drop_all (length bytes + 1) bytes past in
      record {
        place = omega (arith, most, left, within);
        within = omega arith;
        line = λ some.
            let filled : text ≢ [] = λ empty. omega (arith, ap length empty, left, some) in
            rw (take_rest bytes at, behind) (lines_of-position_none text filled absent);
      }

-- ---- the next word

abbrev is_letter : ℕ → Bool
is_letter byte = not (is_blank byte)

-- a text that begins a word has no blank at its first place
begins-some : (text : List ℕ) → BeginsWord text → 0 < position_or_len is_blank text
begins-some [] begins = absurd begins
begins-some (byte ∷ text) begins = rw begins (omega arith)

module _ (line : List ℕ) (at : ℕ) (within : at ≤ length line) (before : ℕ)
    (found : position is_letter (drop at line) ≡ Some before) where
  -- the word's first byte lies within the line, and what stands from there on begins with the word
  pub start_within : at + before < length line
  start_within =
      let here = found_within is_letter (drop at line) before found in
      let left : length (drop at line) ≡ length line - at = length-drop at line in
      omega (arith, here.1, left, within)

  begins_here : BeginsWord (drop (at + before) line)
  begins_here = subst BeginsWord (drop-drop before at line) (words_of-position (drop at line) before found).1

  words_here : words_of (drop at line) ≡ words_of (drop (at + before) line)
  words_here =
      (words_of-position (drop at line) before found).0 ∙ ap words_of (drop-drop before at line)

  begins_at : at + before ≡ at + position_or_len is_letter (drop at line)
  begins_at = ap (λ n. at + n) (found_within is_letter (drop at line) before found).0

  -- a blank ends the word
  pub word_at-blank : (len : ℕ) → position is_blank (drop (at + before) line) ≡ Some len
      → IsNextWord line at (at + before, (at + before) + len)
  word_at-blank len blank =
      let start = at + before in
      let text = drop start line in
      let here = found_within is_blank text len blank in
      let left : length text ≡ length line - start = length-drop start line in
      let some : 0 < position_or_len is_blank text = begins-some text begins_here in
      let wide : (start + len) - start ≡ len = omega arith in
      record {
        begins = begins_at;
        ends = ap (λ n. start + n) here.0;
        some = omega (arith, here.0, some);
        within = omega (arith, here.1, left, start_within);
        words = words_here ∙ rw wide (words_of-blank_at text len begins_here blank
            ∙ ap (λ (rest : List ℕ). take len text ∷ words_of rest) (drop-drop len start line));
      }

  -- or the line does
  pub word_at-last : position is_blank (drop (at + before) line) ≡ None
      → IsNextWord line at (at + before, length line)
  word_at-last absent =
      let start = at + before in
      let text = drop start line in
      let left : length text ≡ length line - start = length-drop start line in
      let most = none_within is_blank text absent in
      record {
        begins = begins_at;
        ends = omega (arith, most, left, start_within);
        some = start_within;
        within = omega arith;
        words = words_here ∙ rw (take_rest line start, drop-length line)
            (words_of-no_blank text begins_here absent);
      }
