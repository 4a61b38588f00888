-- Inputs that are no lease script, with their first faults, as the definitions compute them. What is wanted was worked out by hand from the
-- rules of lines. They are examples to read beside the definitions; nothing cites them. That these are the faults that `read_leases` tells is its
-- clause `reason`.
use Rattle.std.proofs.Common.{◌≡◌, ℕ, Err, List, [], ◌∷◌, ◌++◌, map, codes, refl}
use Rattle.rht_words.specs.Sizes.{powers, rounded_up}
use Rattle.rht_script.specs.declared.cause.Cause.{Cause}
use Rattle.rht_script.specs.declared.cause.Cause.TheVariants.{NoTableLine, UnknownWord, BadNumber, OutOfRange}
use Rattle.rht_script.specs.Spelling.{lines_of, words_of, number_of}
use Rattle.rht_script.specs.TableLines.{setting_of, configured, config_of, table_of}
use Rattle.rht_script.specs.PortWords.{port_of_word}
use Rattle.rht_script.specs.CommandLines.{bare_of, call_of, worker_of}
use Rattle.rht_script.specs.Grammar.{fault_at}
use Rattle.rht_lease.specs.LeaseLines.{lease_of_words, cancel_of, sweep_of, ask_of, lease_line_of}
use Rattle.rht_lease.specs.Reading.{lease_reading_of}

-- the definitions that reading a lease script computes
whole_reading : Unit {0}
unfolding lease_reading_of lease_line_of ask_of lease_of_words cancel_of sweep_of lines_of words_of number_of port_of_word table_of setting_of
    config_of configured rounded_up powers worker_of call_of bare_of
whole_reading = tt

-- each of these texts has its first fault at this line, of this cause
abbrev HaveFault : ℕ → Cause → List (List ℕ) → Type 0
HaveFault line cause texts = map lease_reading_of texts ≡ map (λ text. Err (fault_at line cause)) texts

-- the lines below a plain table line
abbrev below_table : List (List ℕ) → List (List ℕ)
below_table lines = map (λ line. codes "table single\n" ++ line ++ codes "\n") lines

-- there is no table line
no_table_line : HaveFault 1 NoTableLine (codes "1 lease 80 7 1\n" ∷ codes "" ∷ [])
unfolding whole_reading
no_table_line = refl

-- a word is missing or one too many, or it is no verb of lease scripts
unknown_words : HaveFault 2 UnknownWord (below_table (
    codes "1 lease 80 7" ∷ codes "1 lease 80 7 10 1" ∷ codes "1 renew 80 7" ∷ codes "1 cancel 80" ∷ codes "1 cancel 80 7 9"
    ∷ codes "1 sweep" ∷ codes "1 sweep 5 5" ∷ codes "1 leases 80 7 1" ∷ codes "1" ∷ codes "1 walk" ∷ codes "1 work" ∷ codes "1 tidy"
    ∷ codes "step 1 1" ∷ codes "skip lease 80" ∷ codes "finish sweep 5" ∷ []))
unfolding whole_reading
unknown_words = refl

bad_numbers : HaveFault 2 BadNumber (below_table (
    codes "1 lease 80 7 x" ∷ codes "1 lease 80 7 100000000000000000000" ∷ codes "1 lease 3.80 7 1" ∷ codes "x lease 80 7 1"
    ∷ codes "lease 80 7 1" ∷ []))
unfolding whole_reading
bad_numbers = refl

-- the leftmost word is at fault
out_of_range : HaveFault 2 OutOfRange (below_table (
    codes "1 lease 80 7 18446744073709551616" ∷ codes "1 lease 80 4294967296 x" ∷ codes "2 lease x 7 1"
    ∷ codes "1 sweep 18446744073709551616" ∷ []))
unfolding whole_reading
out_of_range = refl

-- lines that are skipped are counted
counted : HaveFault 5 BadNumber (below_table (codes "# a comment\n\n1 count\n1 sweep x" ∷ []))
unfolding whole_reading
counted = refl
