-- Dealt scripts, and inputs that are none, with what they say or their first faults, as the definitions compute them. What is wanted was
-- worked out by hand from the rules of dealt scripts. They are examples to read beside the definitions; nothing cites them.
use Rattle.std.proofs.Common.{◌≡◌, ℕ, true, false, Ok, Err, List, [], ◌∷◌, ◌++◌, map, codes, refl}
use Rattle.rht_words.specs.Ports.{port_at}
use Rattle.rht_words.specs.Settled.{plain_config}
use Rattle.rht_words.specs.Sizes.{powers, rounded_up}
use Rattle.rht_words.specs.declared.config.Kind.TheVariants.{Listed}
use Rattle.rht_words.specs.declared.config.Config.{Config}
use Rattle.rht_model.specs.declared.history.Call.{Call}
use Rattle.rht_model.specs.declared.history.Call.TheVariants.{Bind, Find, All, Release, Rebind, Count}
use Rattle.rht_script.specs.declared.cause.Cause.{Cause}
use Rattle.rht_script.specs.declared.cause.Cause.TheVariants.{NoTableLine, UnknownWord, BadNumber, OutOfRange, OptionsDisagree}
use Rattle.rht_script.specs.Spelling.{lines_of, words_of, number_of}
use Rattle.rht_script.specs.TableLines.{setting_of, configured, config_of, table_of}
use Rattle.rht_script.specs.PortWords.{one_number, net_and_number, port_of_word}
use Rattle.rht_script.specs.CommandLines.{bind_of, find_of, all_of, release_of, rebind_of, bare_of, call_of}
use Rattle.rht_script.specs.Grammar.{fault_at}
use Rattle.rht_script.specs.Dealt.{dealt_of, dealing_of}

-- the definitions that reading a dealt script computes
whole_dealing : Unit {0}
unfolding dealing_of dealt_of lines_of words_of number_of port_of_word table_of setting_of config_of configured rounded_up powers
    call_of bind_of find_of all_of release_of rebind_of bare_of
whole_dealing = tt

-- each of these texts has its first fault at this line, of this cause
abbrev HaveFault : ℕ → Cause → List (List ℕ) → Type 0
HaveFault line cause texts = map dealing_of texts ≡ map (λ text. Err (fault_at line cause)) texts

-- the text says this config, in this form of ports, and these calls, which are nobody's yet
abbrev Says : ℕ → List ℕ → Config → List Call → Type 0
Says form text config calls =
    dealing_of text ≡ Ok (record {
      config = config;
      auto = true;
      form = form;
      commands = map (λ call. (0, call)) calls;
      schedule = [];
    })

-- the lines below a plain table line
abbrev below_table : List (List ℕ) → List (List ℕ)
below_table lines = map (λ line. codes "table single\n" ++ line) lines

-- ---- dealt scripts

two_commands : Says one_number (codes "table single\nany bind 80 100\nany find 80\n") plain_config (Bind 80 100 false ∷ Find 80 ∷ [])
unfolding whole_dealing
two_commands = refl

all_commands : Says one_number
    (codes "# a\ntable listed\nany bind 80 1\n\n any\tall 80\nany rebind 80 1 2\nany release 80 2\nany count\nany find 80")
    (record plain_config { kind = Listed })
    (Bind 80 1 false ∷ All 80 ∷ Rebind 80 1 2 ∷ Release 80 2 ∷ Count ∷ Find 80 ∷ [])
unfolding whole_dealing
all_commands = refl

no_commands : Says one_number (codes "table single workers 4\n") (record plain_config { callers = 4 }) []
unfolding whole_dealing
no_commands = refl

nets : Says net_and_number (codes "table single form 2\nany find 3.80\n") plain_config (Find (port_at 3 80) ∷ [])
unfolding whole_dealing
nets = refl

-- ---- faults

-- there is no table line, or it is none
no_table_line : HaveFault 1 NoTableLine (codes "any find 80\n" ∷ codes "" ∷ [])
unfolding whole_dealing
no_table_line = refl

-- a line doesn't begin with `any`, or its command is none that any worker may do
unknown_words : HaveFault 2 UnknownWord (below_table (
    codes "1 find 80\n" ∷ codes "Any find 80\n" ∷ codes "any\n" ∷ codes "any any find 80\n" ∷ codes "any walk\n"
    ∷ codes "any work\n" ∷ codes "any tidy\n" ∷ codes "any walk 1\n" ∷ codes "any find\n" ∷ codes "any find 80 1\n"
    ∷ codes "step 1 5\n" ∷ codes "finish find 80\n" ∷ codes "table single\n" ∷ []))
unfolding whole_dealing
unknown_words = refl

bad_numbers : HaveFault 2 BadNumber (below_table (
    codes "any find x\n" ∷ codes "any bind 80 -1\n" ∷ codes "any find 3.80\n" ∷ []))
unfolding whole_dealing
bad_numbers = refl

out_of_range : HaveFault 2 OutOfRange (below_table (
    codes "any find 4294967296\n" ∷ codes "any bind 80 4294967296 x\n" ∷ []))
unfolding whole_dealing
out_of_range = refl

-- the table line is that of any script
options : HaveFault 1 OptionsDisagree (codes "table single workers 2 workers 2\nany find 80\n" ∷ [])
unfolding whole_dealing
options = refl

-- the first fault is that of the first line
first_line : HaveFault 2 UnknownWord (below_table (codes "any walk\nany find x\n" ∷ codes "any find 80 81\n1 find x\n" ∷ []))
unfolding whole_dealing
first_line = refl
