-- Within the bounds no line is one too many, and none is too long. So what is read follows from the words of the lines
-- that aren't skipped: it is read from these words alone, in which no line has a number. By induction over the lines,
-- for those below the table line first: a line that is skipped leaves both as they are, and any other is read from its words on either side.
use Rattle.std.proofs.Common.{◌≡◌, ℕ, ◌+◌, ◌≤◌, not, Result, Ok, Err, List, [], ◌∷◌, length, refl, sym, ap, ◌∙◌, inl, inr, arith}
use Rattle.std.specs.Prelude.{All, map, filter}
use Rattle.std.proofs.lemmas.Bool.{cases_Bool}
use Rattle.std.proofs.lemmas.List.Elements.{All-head, All-tail}
use Rattle.rht_script.specs.declared.script.ScriptFault.{ScriptFault}
use Rattle.rht_script.specs.declared.script.TableLine.{TableLine}
use Rattle.rht_script.specs.declared.script.ScriptLine.{ScriptLine}
use Rattle.rht_script.specs.declared.cause.Cause.{Cause}
use Rattle.rht_script.specs.declared.cause.Cause.TheVariants.{NoTableLine}
use Rattle.rht_script.specs.Spelling.{◌>>=◌, lines_of, words_of, is_skipped}
use Rattle.rht_script.specs.Grammar.{most_lines, most_in_line, code_of, at_line, words_at, Said, said_of, lines_from, said_from, reading_of}
use Rattle.rht_script.specs.TableLines.{table_of}
use Rattle.rht_script.specs.ScriptLines.{line_of}
use Rattle.rht_script.specs.Laws.{IsWithinBounds, words_said, meaning_of, WordsDecide}
use Rattle.rht_script.proofs.LineLemmas.{words_at-right}
use Rattle.rht_script.proofs.ReadingLemmas.{reading_of-lines}

-- ---- readings of which the lines of faults are left out

-- what is read, with the number of a cause
abbrev coded : {X : Type 0} → Result X Cause → Result X ℕ
coded (Ok value) = Ok value
coded (Err cause) = Err (code_of cause)

meaning_of-at_line : {X : Type 0} (number : ℕ) (read : Result X Cause)
    → meaning_of (at_line number read) ≡ coded read
meaning_of-at_line number (Ok value) = refl
meaning_of-at_line number (Err cause) = refl

-- the meaning of a chain of readings is the chain of their meanings
meaning_of-bind : {A B : Type 0} (read : Result A ScriptFault) (next : A
    → Result B ScriptFault) (meant : Result A ℕ)
    (then : A → Result B ℕ)
    → meaning_of read ≡ meant → ((value : A) → meaning_of (next value) ≡ then value)
    → meaning_of (read >>= next) ≡ (meant >>= then)
meaning_of-bind (Ok value) next meant then first behind = rw (← first) (behind value)
meaning_of-bind (Err fault) next meant then first behind = rw (← first) refl

-- what lines of these words say below the table line
lines_in : TableLine → List (List (List ℕ)) → Result (List ScriptLine) ℕ
lines_in table [] = Ok []
lines_in table (words ∷ lines) =
    coded (line_of table words) >>= (λ first. lines_in table lines >>= (λ others. Ok (first ∷ others)))

-- what lines of these words say
said_in : List (List (List ℕ)) → Result Said ℕ
said_in [] = Err (code_of NoTableLine)
said_in (words ∷ lines) =
    coded (table_of words) >>= (λ table. lines_in table lines >>= (λ said. Ok (said_of table said)))

-- ---- lines within the bounds

-- the words of the lines that aren't skipped
abbrev words_kept : List (List ℕ) → List (List (List ℕ))
words_kept lines = filter (λ words. not (is_skipped words)) (map words_of lines)

-- no line is too long
abbrev AreShort : List (List ℕ) → Type 0
AreShort lines = All (λ line. length line ≤ most_in_line) lines

short_behind : (line : List ℕ) (lines : List (List ℕ)) → AreShort (line ∷ lines) → AreShort lines
short_behind line lines short = All-tail (λ line. length line ≤ most_in_line) line lines short

-- the first line has the words that it has
read_first : (number : ℕ) (line : List ℕ) (lines : List (List ℕ))
    → number + length (line ∷ lines) ≤ most_lines + 1
    → AreShort (line ∷ lines) → words_at number line ≡ Ok (words_of line)
read_first number line lines few short =
    words_at-right number line (omega (arith, few)) (All-head (λ line. length line ≤ most_in_line) line
    lines short)

meaning_of-lines : (table : TableLine) (number : ℕ) (lines : List (List ℕ))
    → number + length lines ≤ most_lines + 1
    → AreShort lines
    → meaning_of (lines_from number table lines) ≡ lines_in table (words_kept lines)
unfolding lines_in
meaning_of-lines table number [] few short = refl
meaning_of-lines table number (line ∷ lines) few short =
    let words = words_of line in
    let read = read_first number line lines few short in
    let onward : meaning_of (lines_from (number + 1) table lines) ≡ lines_in table (words_kept lines) =
    meaning_of-lines table (number + 1) lines (omega (arith, few)) (short_behind line lines short) in
    elim (cases_Bool (is_skipped words)) [
      | inl skipped ↦ rw (read, skipped) onward
      | inr said ↦
          rw (read, said)
          (meaning_of-bind (at_line number (line_of table words)) _ (coded (line_of table words)) _
          (meaning_of-at_line number (line_of table words)) (λ first.
          meaning_of-bind (lines_from (number + 1) table lines) _
          (lines_in table (words_kept lines)) _ onward
          (λ said. refl)))
    ]

meaning_of-said : (number : ℕ) (lines : List (List ℕ)) → number + length lines ≤ most_lines + 1
    → AreShort lines → meaning_of (said_from number lines) ≡ said_in (words_kept lines)
unfolding said_in
meaning_of-said number [] few short = refl
meaning_of-said number (line ∷ lines) few short =
    let words = words_of line in
    let read = read_first number line lines few short in
    let others_short = short_behind line lines short in
    elim (cases_Bool (is_skipped words)) [
      | inl skipped ↦ rw (read, skipped) (meaning_of-said (number + 1) lines (omega (arith, few))
          others_short)
      | inr said ↦
          rw (read, said)
          (meaning_of-bind (at_line number (table_of words)) _ (coded (table_of words)) _
          (meaning_of-at_line number (table_of words)) (λ table.
          meaning_of-bind (lines_from (number + 1) table lines) _ (lines_in table (words_kept lines)) _
          (meaning_of-lines table (number + 1) lines (omega (arith, few)) others_short)
          (λ said. refl)))
    ]

meaning_of-reading : (bytes : List ℕ) → IsWithinBounds bytes
    → meaning_of (reading_of bytes) ≡ said_in (words_said bytes)
meaning_of-reading bytes bounds =
    ap meaning_of (reading_of-lines bytes bounds.bytes_few)
    ∙ meaning_of-said 1 (lines_of bytes) (omega (arith, bounds.lines_few)) bounds.lines_short

pub words_decide : WordsDecide
words_decide bytes other within other_within same =
    meaning_of-reading bytes within ∙ ap said_in same ∙ sym (meaning_of-reading other other_within)
