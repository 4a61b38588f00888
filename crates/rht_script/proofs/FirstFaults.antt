-- Where a line is at fault, reading stops there: it gives the same fault whatever lines come behind, and the lines
-- before it have no fault of their own. By induction over the lines. A line that can't be read, or that is no table
-- line, or neither a command nor a line of the schedule, is where reading stops. Behind any other line reading goes on, and it stops where that stops.
use Rattle.std.proofs.Common.{◌≡◌, ℕ, ◌+◌, ◌-◌, ◌<◌, ◌≤◌, true, false, Result, Ok, Err, List, [], ◌∷◌, ◌++◌, length, take, drop, refl, sym, ap, ◌∙◌, subst, inl, inr, arith, append_assoc, take-append-drop}
use Rattle.std.specs.Prelude.{◌⊎◌, IsOk}
use Rattle.std.proofs.Math.Seq.{take-append_seam, take-append-add}
use Rattle.std.proofs.lemmas.Bool.{cases_Bool}
use Rattle.rht_script.specs.declared.script.ScriptFault.{ScriptFault}
use Rattle.rht_script.specs.declared.script.TableLine.{TableLine}
use Rattle.rht_script.specs.declared.cause.Cause.{Cause}
use Rattle.rht_script.specs.declared.cause.Cause.TheVariants.{NoTableLine}
use Rattle.rht_script.specs.Spelling.{◌>>=◌, lines_of, is_skipped}
use Rattle.rht_script.specs.Grammar.{most_bytes, at_line, fault_at, words_at, lines_from, said_with, said_from, reading_of}
use Rattle.rht_script.specs.TableLines.{table_of}
use Rattle.rht_script.specs.ScriptLines.{line_of}
use Rattle.rht_script.specs.Laws.{IsLineFault, IsFirstOfLines, HasNoLineFault, FaultsAreFirst}
use Rattle.rht_script.proofs.ReadingLemmas.{reading_of-lines}

-- ---- where a chain of readings ends

-- it ends with the first reading's fault, or goes on from its value and ends there
bind-err : {A B E : Type 0} (read : Result A E) (next : A → Result B E) (fault : E)
    → (read >>= next) ≡ Err fault
    → (read ≡ Err fault) ⊎ ((value : A) × (read ≡ Ok value) × (next value ≡ Err fault))
bind-err (Ok value) next fault stopped = inr (value, refl, stopped)
bind-err (Err other) next fault stopped = inl (cc)

-- a value is read where one was read before
IsOk-bind : {A B E : Type 0} (read : Result A E) (next : A → Result B E) → IsOk read
    → ((value : A) → IsOk (next value)) → IsOk (read >>= next)
IsOk-bind (Ok value) next ok goes_on = goes_on value
IsOk-bind (Err fault) next ok goes_on = absurd (cc)

-- the fault of a line has the line's number
line-at_line : {X : Type 0} (number : ℕ) (read : Result X Cause) (fault : ScriptFault)
    → at_line number read ≡ Err fault → fault.line ≡ number
line-at_line number (Ok value) fault stopped = absurd (cc)
line-at_line number (Err cause) fault stopped =
    let same : fault_at number cause ≡ fault = cc in ap (λ (f : ScriptFault). f.line) (sym same)

-- ---- where reading lines stops

-- Reading lines that are counted on from a number stops at one of them, whatever comes behind it, and goes on over
-- those before it.
record Stops {X : Type 0} (read : List (List ℕ) → Result X ScriptFault) (GoesOn : List (List ℕ) → Type 0)
    (number : ℕ) (lines : List (List ℕ)) (fault : ScriptFault) : Type 0 where
  front : List (List ℕ)
  line : List ℕ
  behind : List (List ℕ)
  split : lines ≡ front ++ line ∷ behind
  place : fault.line ≡ number + length front
  alone : (other : List (List ℕ)) → read (front ++ line ∷ other) ≡ Err fault
  before : GoesOn front

-- it stops at the first line
stops_here : {X : Type 0} (read : List (List ℕ) → Result X ScriptFault) (GoesOn : List (List ℕ) → Type 0)
    (number : ℕ) (line : List ℕ) (lines : List (List ℕ)) (fault : ScriptFault)
    → fault.line ≡ number → ((other : List (List ℕ)) → read (line ∷ other) ≡ Err fault) → GoesOn []
    → Stops read GoesOn number (line ∷ lines) fault
stops_here read GoesOn number line lines fault place alone before = record {
  front = [];
  line = line;
  behind = lines;
  split = refl;
  place = omega (arith, place);
  alone = alone;
  before = before;
}

-- it stops behind the first line, where reading on stops
stops_later : {X Y : Type 0} (read : List (List ℕ) → Result X ScriptFault) (GoesOn : List (List ℕ) → Type 0)
    (onward : List (List ℕ) → Result Y ScriptFault) (GoesOnward : List (List ℕ) → Type 0)
    (number : ℕ) (line : List ℕ) (lines : List (List ℕ)) (fault : ScriptFault)
    → ((other : List (List ℕ)) → onward other ≡ Err fault → read (line ∷ other) ≡ Err fault)
    → ((other : List (List ℕ)) → GoesOnward other → GoesOn (line ∷ other))
    → Stops onward GoesOnward (number + 1) lines fault → Stops read GoesOn number (line ∷ lines) fault
stops_later read GoesOn onward GoesOnward number line lines fault stop go later = record {
  front = line ∷ later.front;
  line = later.line;
  behind = later.behind;
  split = ap (λ (ls : List (List ℕ)). line ∷ ls) later.split;
  place = (let place = later.place in omega arith);
  alone = λ other. stop (later.front ++ later.line ∷ other) (later.alone other);
  before = go later.front later.before;
}

-- ---- lines below the table line

module _ (table : TableLine) (fault : ScriptFault) where
  lines_stop : (number : ℕ) (lines : List (List ℕ)) → lines_from number table lines ≡ Err fault
      → Stops (lines_from number table) (λ front. IsOk (lines_from number table front)) number
      lines fault
  lines_stop number [] stopped = absurd (cc)
  lines_stop number (line ∷ lines) stopped =
      let read_from = λ (n : ℕ). lines_from n table in
      let Goes = λ (n : ℕ) (front : List (List ℕ)). IsOk (lines_from n table front) in
      elim (bind-err (at_line number (words_at number line)) _ fault stopped) [
        | inl wrong ↦ stops_here (read_from number) (Goes number) number line lines fault
            (line-at_line number (words_at number line) fault wrong) (λ other. rw wrong refl) refl
        | inr read ↦ elim (cases_Bool (is_skipped read.0)) [
          | inl skipped ↦
              let onward = rw skipped at read.2 in
              stops_later (read_from number) (Goes number) (read_from (number + 1)) (Goes (number + 1))
              number line lines fault
              (λ other stop. rw (read.1, skipped) stop) (λ other go. rw (read.1, skipped) go)
              (lines_stop (number + 1) lines onward)
          | inr said ↦
              let asked = rw said at read.2 in
              elim (bind-err (at_line number (line_of table read.0)) _ fault asked) [
                | inl wrong ↦ stops_here (read_from number) (Goes number) number line lines fault
                    (line-at_line number (line_of table read.0) fault wrong)
                    (λ other. rw (read.1, said, wrong) refl) refl
                | inr first ↦ elim (bind-err (lines_from (number + 1) table lines) _ fault first.2) [
                  | inl later ↦
                      stops_later (read_from number) (Goes number) (read_from (number + 1))
                      (Goes (number + 1))
                      number line lines fault
                      (λ other stop. rw (read.1, said, first.1, stop) refl)
                      (λ other go. rw (read.1, said, first.1)
                      (IsOk-bind (lines_from (number + 1) table other) _ go (λ said. refl)))
                      (lines_stop (number + 1) lines later)
                  | inr others ↦ absurd (let never = others.2 in cc)
                ]
              ]
        ]
      ]

-- ---- the whole script

-- the lines are a script, or end without a table line
abbrev HaveNoFault : ℕ → List (List ℕ) → Type 0
HaveNoFault number lines =
    IsOk (said_from number lines) ⊎ (said_from number lines ≡ Err
    (fault_at (number + length lines) NoTableLine))

module _ (fault : ScriptFault) where
  -- below the table line the other lines decide
  said_stops-table : (number : ℕ) (line : List ℕ) (lines words : List (List ℕ)) (table : TableLine)
      → at_line number (words_at number line) ≡ Ok words → is_skipped words ≡ false
      → at_line number (table_of words) ≡ Ok table → said_with table (number + 1) lines ≡ Err fault
      → Stops (said_from number) (HaveNoFault number) number (line ∷ lines) fault
  said_stops-table number line lines words table read said is stopped =
      elim (bind-err (lines_from (number + 1) table lines) _ fault stopped) [
        | inl later ↦
            stops_later (said_from number) (HaveNoFault number) (lines_from (number + 1) table)
            (λ front. IsOk (lines_from (number + 1) table front)) number line lines fault
            (λ other stop. rw (read, said, is, stop) refl)
            (λ other go. inl (rw (read, said, is)
            (IsOk-bind (lines_from (number + 1) table other) _ go (λ said. refl))))
            (lines_stop table fault (number + 1) lines later)
        | inr others ↦ absurd (let never = others.2 in cc)
      ]

  -- a line more before lines without a fault
  onto_skipped : (number : ℕ) (line : List ℕ) (lines words : List (List ℕ))
      → at_line number (words_at number line) ≡ Ok words → is_skipped words ≡ true
      → HaveNoFault (number + 1) lines → HaveNoFault number (line ∷ lines)
  onto_skipped number line lines words read skipped (inl ok) = inl (rw (read, skipped) ok)
  onto_skipped number line lines words read skipped (inr ends) =
      let here : number + 1 + length lines ≡ number + length (line ∷ lines) = omega arith in
      inr (rw (read, skipped) (ends ∙ ap (λ n. Err (fault_at n NoTableLine)) here))

  said_stops : (number : ℕ) (lines : List (List ℕ)) → said_from number lines ≡ Err fault
      → fault.line < number + length lines → Stops (said_from number) (HaveNoFault number) number lines fault
  said_stops number [] stopped within =
      let same : fault_at number NoTableLine ≡ fault = cc in
      absurd (omega (arith, within, ap (λ (f : ScriptFault). f.line) same))
  said_stops number (line ∷ lines) stopped within =
      elim (bind-err (at_line number (words_at number line)) _ fault stopped) [
        | inl wrong ↦ stops_here (said_from number) (HaveNoFault number) number line lines fault
            (line-at_line number (words_at number line) fault wrong) (λ other. rw wrong refl)
            (inr (at_end number))
        | inr read ↦ elim (cases_Bool (is_skipped read.0)) [
          | inl skipped ↦
              let onward = rw skipped at read.2 in
              stops_later (said_from number) (HaveNoFault number) (said_from (number + 1))
              (HaveNoFault (number + 1))
              number line lines fault
              (λ other stop. rw (read.1, skipped) stop)
              (λ other. onto_skipped number line other read.0 read.1 skipped)
              (said_stops (number + 1) lines onward (omega (arith, within)))
          | inr said ↦
              let asked = rw said at read.2 in
              elim (bind-err (at_line number (table_of read.0)) _ fault asked) [
                | inl wrong ↦ stops_here (said_from number) (HaveNoFault number) number line lines fault
                    (line-at_line number (table_of read.0) fault wrong)
                    (λ other. rw (read.1, said, wrong) refl) (inr (at_end number))
                | inr table ↦ said_stops-table number line lines read.0 table.0 read.1 said table.1 table.2
              ]
        ]
      ]
    where
      at_end : (n : ℕ) → said_from n [] ≡ Err (fault_at (n + 0) NoTableLine)
      at_end n = let same : n ≡ n + 0 = omega arith in ap (λ m. said_from m []) same

-- ---- of whole inputs

-- the same first lines are the same front, the same line, and then some others
same_front : (front : List (List ℕ)) (line : List ℕ) (behind lines : List (List ℕ))
    → take (length front + 1) lines ≡ take (length front + 1) (front ++ line ∷ behind)
    → lines ≡ front ++ line ∷ drop (length front + 1) lines
same_front front line behind lines same =
    let first : take (length front + 1) lines ≡ front ++ line ∷ [] = same
    ∙ take-append-add front (line ∷ behind) 1 in
    sym (take-append-drop (length front + 1) lines)
    ∙ ap (λ (l : List (List ℕ)). l ++ drop (length front + 1) lines) first
    ∙ append_assoc front (line ∷ []) (drop (length front + 1) lines)

module _ (bytes : List ℕ) (fault : ScriptFault) (wrong : IsLineFault bytes fault) where
  stop : Stops (said_from 1) (HaveNoFault 1) 1 (lines_of bytes) fault
  stop =
      let read = sym (reading_of-lines bytes wrong.few) ∙ wrong.first in
      said_stops fault 1 (lines_of bytes) read (omega (arith, wrong.line))

  alone : (other : List ℕ) → length other ≤ most_bytes
      → take fault.line (lines_of other) ≡ take fault.line (lines_of bytes) → reading_of other ≡ Err fault
  alone other few same =
      let place : fault.line ≡ length stop.front + 1 = (let at = stop.place in omega arith) in
      let lines_are = stop.front ++ stop.line ∷ stop.behind in
      let first : take (length stop.front + 1) (lines_of other) ≡ take (length stop.front + 1) lines_are =
      subst (λ n. take n (lines_of other) ≡ take n lines_are) place (same
      ∙ ap (take fault.line) stop.split) in
      let lines = same_front stop.front stop.line stop.behind (lines_of other) first in
      reading_of-lines other few ∙ ap (said_from 1) lines
      ∙ stop.alone (drop (length stop.front + 1) (lines_of other))

  before : (front : List ℕ) → length front ≤ most_bytes
      → lines_of front ≡ take (fault.line - 1) (lines_of bytes) → HasNoLineFault front
  before front few same =
      let place : fault.line - 1 ≡ length stop.front = (let at = stop.place in omega arith) in
      let lines : lines_of front ≡ stop.front =
      same ∙ ap (λ n. take n (lines_of bytes)) place ∙ ap (take (length stop.front)) stop.split
      ∙ take-append_seam stop.front (stop.line ∷ stop.behind) in
      let read = reading_of-lines front few in
      elim (subst (HaveNoFault 1) (sym lines) stop.before) [
        | inl ok ↦ inl (rw read ok)
        | inr ends ↦
            let count : 1 + length (lines_of front) ≡ length (lines_of front) + 1 = omega arith in
            inr (read ∙ ends ∙ ap (λ n. Err (fault_at n NoTableLine)) count)
      ]

  first_of_lines : IsFirstOfLines bytes fault
  first_of_lines = record {
    counted = (let at = stop.place in omega arith);
    alone = alone;
    before = before;
  }

pub faults_are_first : FaultsAreFirst
faults_are_first = first_of_lines
