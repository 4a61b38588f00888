-- Inputs that are no resume script, with their first faults, as the definitions compute them. What is wanted was worked out by hand from the
-- rules of lines. They are examples to read beside the definitions; nothing cites them. That these are the faults that `read_resume` tells is its
-- clause `reason`.
use Rattle.std.proofs.Common.{◌≡◌, ℕ, Err, List, [], ◌∷◌, ◌++◌, map, codes, refl}
use Rattle.rht_words.specs.Sizes.{powers, rounded_up}
use Rattle.rht_script.specs.declared.cause.Cause.{Cause}
use Rattle.rht_script.specs.declared.cause.Cause.TheVariants.{NoTableLine, UnknownWord, BadNumber, OutOfRange}
use Rattle.rht_script.specs.Spelling.{lines_of, words_of, number_of}
use Rattle.rht_script.specs.TableLines.{setting_of, configured, config_of, table_of}
use Rattle.rht_script.specs.CommandLines.{bare_of, call_of, worker_of}
use Rattle.rht_script.specs.Grammar.{fault_at}
use Rattle.rht_resume.specs.ResumeLines.{piece_of, ask_of, resume_line_of}
use Rattle.rht_resume.specs.Reading.{resume_reading_of}

-- the definitions that reading a resume script computes
whole_reading : Unit {0}
unfolding resume_reading_of resume_line_of ask_of piece_of lines_of words_of number_of table_of setting_of config_of configured rounded_up
    powers worker_of call_of bare_of
whole_reading = tt

-- each of these texts has its first fault at this line, of this cause
abbrev HaveFault : ℕ → Cause → List (List ℕ) → Type 0
HaveFault line cause texts = map resume_reading_of texts ≡ map (λ text. Err (fault_at line cause)) texts

-- the lines below the table line of a table with 8 nodes
abbrev below_table : List (List ℕ) → List (List ℕ)
below_table lines = map (λ line. codes "table single nodes 8\n" ++ line ++ codes "\n") lines

-- there is no table line
no_table_line : HaveFault 1 NoTableLine (codes "1 next 1\n" ∷ codes "" ∷ [])
unfolding whole_reading
no_table_line = refl

-- a word is missing or one too many, or it is no verb of resume scripts
unknown_words : HaveFault 2 UnknownWord (below_table (
    codes "1 next" ∷ codes "1 next 1 1" ∷ codes "1 nexts 1" ∷ codes "1" ∷ codes "1 walk 1" ∷ codes "1 lease 80 7 1" ∷ codes "step 1 1"
    ∷ codes "skip next 1" ∷ []))
unfolding whole_reading
unknown_words = refl

bad_numbers : HaveFault 2 BadNumber (below_table (codes "1 next x" ∷ codes "x next 1" ∷ codes "next 1" ∷ []))
unfolding whole_reading
bad_numbers = refl

-- a piece has one pair at least, and at most as many as there are nodes; and the leftmost word is at fault
out_of_range : HaveFault 2 OutOfRange (below_table (codes "1 next 0" ∷ codes "1 next 9" ∷ codes "2 next x" ∷ []))
unfolding whole_reading
out_of_range = refl

-- lines that are skipped are counted
counted : HaveFault 5 BadNumber (below_table (codes "# a comment\n\n1 count\n1 next x" ∷ []))
unfolding whole_reading
counted = refl
