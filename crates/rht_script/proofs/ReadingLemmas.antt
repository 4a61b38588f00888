-- The two ways to read bytes: those that are too many have a fault, which the front of them tells, and any others
-- are read line by line; and the parts of a text, read one after another: what one reading gives goes on to the next.
use Rattle.std.proofs.Common.{◌≡◌, ℕ, ◌+◌, ◌<◌, ◌≤◌, ◌==◌, nat_lt, Bool, true, false, cond, Ok, Err, Result, List, [], ◌∷◌, length, take, refl, ◌++◌, ◌∙◌, sym, ap, arith, length-append}
use Rattle.std.specs.Prelude.{count_by}
use Rattle.std.proofs.lemmas.Bool.{lt-ltb, le-ltb}
use Rattle.std.proofs.lemmas.List.{take-append-le}
use Rattle.rht_script.specs.declared.script.TableLine.{TableLine}
use Rattle.rht_script.specs.declared.script.ScriptFault.{ScriptFault}
use Rattle.rht_script.specs.declared.script.ReadError.{ReadError}
use Rattle.rht_script.specs.declared.script.ReadError.TheVariants.{Fault, Memory}
use Rattle.rht_script.specs.declared.cause.Cause.TheVariants.{ScriptTooLong}
use Rattle.rht_script.specs.Grammar.{most_bytes, fault_at, at_line, words_at, from_table, said_from, reading_by, reading_of}
use Rattle.rht_script.specs.Spelling.{◌>>=◌, lines_of, is_skipped}
use Rattle.rht_script.specs.TableLines.{table_of}
use Rattle.rht_script.specs.Cursors.{Unread, table_above, table_from, table_reading_of}
use Rattle.rht_script.specs.Reading.{IsReasonFor}

module _ {X : Type 0} (read_from : ℕ → List (List ℕ) → Result X ScriptFault) where
  pub reading_by-long : (bytes : List ℕ) → most_bytes < length bytes
      → reading_by read_from bytes ≡ Err (fault_at (1 + count_by (λ byte. byte == 10) (take most_bytes bytes))
      ScriptTooLong)
  reading_by-long bytes long = rw (lt-ltb most_bytes (length bytes) long) refl

  pub reading_by-lines : (bytes : List ℕ) → length bytes ≤ most_bytes
      → reading_by read_from bytes ≡ read_from 1 (lines_of bytes)
  reading_by-lines bytes short = rw (le-ltb most_bytes (length bytes) short) refl

  -- of too many bytes the front tells the fault, whatever comes behind it
  pub reading_by-front : (bytes front behind : List ℕ) → bytes ≡ front ++ behind
      → most_bytes < length front → reading_by read_from bytes ≡ reading_by read_from front
  reading_by-front bytes front behind is long =
      let longer : most_bytes < length bytes =
      omega (arith, ap (λ (l : List ℕ). length l) is, length-append front behind) in
      let first : take most_bytes bytes ≡ take most_bytes front =
      ap (take most_bytes) is ∙ take-append-le most_bytes front behind (omega arith) in
      reading_by-long bytes longer
      ∙ ap (λ (l : List ℕ). Err (fault_at (1 + count_by (λ byte. byte == 10) l) ScriptTooLong)) first
      ∙ sym (reading_by-long front long)

-- ---- the table line, and what is said below it

-- the reason why something was not read is one why what is read behind it was not
pub reason_first : {X Y : Type 0} (read : Result X ScriptFault) (next : X → Result Y ScriptFault) (error : ReadError)
    → IsReasonFor read error → IsReasonFor (read >>= next) error
reason_first (Ok value) next (Fault fault) reason = absurd (cc)
reason_first (Err other) next (Fault fault) reason = let same : other ≡ fault = cc in ap (λ (f : ScriptFault). Err f) same
reason_first read next Memory reason = tt

module _ {X : Type 0} (below : TableLine → ℕ → List (List ℕ) → Result X ScriptFault) where
  -- what is said with a table line that was found, by the lines below it
  abbrev below_found : TableLine × Unread → Result X ScriptFault
  below_found found = below found.0 found.1.number found.1.lines

  module _ (number : ℕ) (lines : List (List ℕ)) (behind : from_table below number lines ≡ (table_from number lines >>= below_found)) where
    by_table : (read : Result TableLine ScriptFault)
        → (read >>= (λ table. below table number lines)) ≡ ((read >>= (λ table. table_above table number lines)) >>= below_found)
    by_table (Ok table) = refl
    by_table (Err fault) = refl

    by_test : (read : Result TableLine ScriptFault) (skipped : Bool)
        → cond skipped (from_table below number lines) (read >>= (λ table. below table number lines))
        ≡ (cond skipped (table_from number lines) (read >>= (λ table. table_above table number lines)) >>= below_found)
    by_test read true = behind
    by_test read false = by_table read

    by_words : (here : ℕ) (read : Result (List (List ℕ)) ScriptFault)
        → (read >>= (λ words. cond (is_skipped words) (from_table below number lines)
        (at_line here (table_of words) >>= (λ table. below table number lines))))
        ≡ ((read >>= (λ words. cond (is_skipped words) (table_from number lines)
        (at_line here (table_of words) >>= (λ table. table_above table number lines)))) >>= below_found)
    by_words here (Ok words) = by_test (at_line here (table_of words)) (is_skipped words)
    by_words here (Err fault) = refl

  -- By induction over the lines up to the table line.
  from_table-found : (number : ℕ) (lines : List (List ℕ)) → from_table below number lines ≡ (table_from number lines >>= below_found)
  from_table-found number [] = refl
  from_table-found number (line ∷ lines) =
      by_words (number + 1) lines (from_table-found (number + 1) lines) number (at_line number (words_at number line))

  by_length : (bytes : List ℕ) (fault : ScriptFault) (long : Bool) → cond long (Err fault) (from_table below 1 (lines_of bytes))
      ≡ (cond long (Err fault) (table_from 1 (lines_of bytes)) >>= below_found)
  by_length bytes fault true = refl
  by_length bytes fault false = from_table-found 1 (lines_of bytes)

  reading_by-found : (bytes : List ℕ) → reading_by (from_table below) bytes ≡ (table_reading_of bytes >>= below_found)
  reading_by-found bytes =
      by_length bytes (fault_at (1 + count_by (λ byte. byte == 10) (take most_bytes bytes)) ScriptTooLong) (nat_lt most_bytes (length bytes))

  -- what is said where the table line was found, and where it was not
  pub reading_by-table : (bytes : List ℕ) (table : TableLine) (lines : Unread) → Ok (table, lines) ≡ table_reading_of bytes
      → reading_by (from_table below) bytes ≡ below table lines.number lines.lines
  reading_by-table bytes table lines found = reading_by-found bytes ∙ ap (λ r. r >>= below_found) (sym found)

  pub reading_by-no_table : (bytes : List ℕ) (fault : ScriptFault) → Err fault ≡ table_reading_of bytes
      → reading_by (from_table below) bytes ≡ Err fault
  reading_by-no_table bytes fault found = reading_by-found bytes ∙ ap (λ r. r >>= below_found) (sym found)

-- ---- a script

pub reading_of-long : (bytes : List ℕ) → most_bytes < length bytes
    → reading_of bytes ≡ Err (fault_at (1 + count_by (λ byte. byte == 10) (take most_bytes bytes)) ScriptTooLong)
unfolding reading_of
reading_of-long bytes long = reading_by-long said_from bytes long

pub reading_of-lines : (bytes : List ℕ) → length bytes ≤ most_bytes → reading_of bytes ≡ said_from 1 (lines_of bytes)
unfolding reading_of
reading_of-lines bytes short = reading_by-lines said_from bytes short

pub reading_of-front : (bytes front behind : List ℕ) → bytes ≡ front ++ behind
    → most_bytes < length front → reading_of bytes ≡ reading_of front
unfolding reading_of
reading_of-front bytes front behind is long = reading_by-front said_from bytes front behind is long
