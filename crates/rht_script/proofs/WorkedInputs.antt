-- Inputs, and what they say or their first faults, as the definitions compute them: each cause at its places, each pair of
-- causes of which one has to come first, and scripts. What is wanted was worked out by hand from the rules of scripts.
-- The tests of `read` have what would take too long here: too many lines, too many bytes, and what competes with these.
-- They are examples to read beside the definitions; nothing cites them.
use Rattle.std.proofs.Common.{◌≡◌, ℕ, ◌+◌, Bool, true, false, None, Ok, Err, List, [], ◌∷◌, ◌++◌, map, replicate, codes, refl}
use Rattle.rht_words.specs.Ports.{port_at}
use Rattle.rht_words.specs.Settled.{plain_config}
use Rattle.rht_words.specs.Sizes.{powers, rounded_up}
use Rattle.rht_words.specs.declared.config.Kind.TheVariants.{Listed}
use Rattle.rht_words.specs.declared.config.Config.{Config}
use Rattle.rht_words.specs.declared.config.Hash.TheVariants.{Low}
use Rattle.rht_model.specs.declared.history.Call.{Call}
use Rattle.rht_model.specs.declared.history.Call.TheVariants.{Bind, Find, All, Release, Rebind, Walk, Work, Tidy, Count}
use Rattle.rht_script.specs.declared.script.Sched.{Sched}
use Rattle.rht_script.specs.declared.script.Sched.TheVariants.{Step, Skip, Finish}
use Rattle.rht_script.specs.declared.script.TableLine.{TableLine}
use Rattle.rht_script.specs.declared.cause.Cause.{Cause}
use Rattle.rht_script.specs.declared.cause.Cause.TheVariants.{NoTableLine, UnknownWord, BadNumber, OutOfRange, LineTooLong, OptionsDisagree}
use Rattle.rht_script.specs.Spelling.{lines_of, words_of, number_of}
use Rattle.rht_script.specs.TableLines.{setting_of, configured, config_of, table_of}
use Rattle.rht_script.specs.PortWords.{one_number, net_and_number, port_of_word}
use Rattle.rht_script.specs.CommandLines.{bind_of, find_of, all_of, release_of, rebind_of, bare_of, call_of, worker_of, command_of}
use Rattle.rht_script.specs.ScheduleLines.{events_of}
use Rattle.rht_script.specs.ScriptLines.{line_of}
use Rattle.rht_script.specs.Grammar.{most_in_line, fault_at, reading_of}

-- the definitions that reading a text computes
whole_reading : Unit {0}
unfolding reading_of lines_of words_of number_of port_of_word table_of setting_of config_of configured rounded_up powers
    line_of events_of command_of worker_of call_of bind_of find_of all_of release_of rebind_of bare_of
whole_reading = tt

-- each of these texts has its first fault at this line, of this cause
abbrev HaveFault : ℕ → Cause → List (List ℕ) → Type 0
HaveFault line cause texts = map reading_of texts ≡ map (λ text. Err (fault_at line cause)) texts

-- the text says this config, whether workers run `work` by themselves, these commands, and this schedule, in form 1
abbrev SaysAll : Bool → List ℕ → Config → List (ℕ × Call) → List Sched → Type 0
SaysAll auto text config commands schedule =
    reading_of text ≡ Ok (record {
      config = config;
      auto = auto;
      form = one_number;
      commands = commands;
      schedule = schedule;
    })

-- it says this, and no schedule
abbrev SaysOf : Bool → List ℕ → Config → List (ℕ × Call) → Type 0
SaysOf auto text config commands = SaysAll auto text config commands []

-- workers run `work` by themselves where nothing is said of that
abbrev Says : List ℕ → Config → List (ℕ × Call) → Type 0
Says = SaysOf true

-- below a plain table line of form 2 the lines say these commands
abbrev SaysNets : List ℕ → List (ℕ × Call) → Type 0
SaysNets lines commands =
    reading_of (codes "table single form 2\n" ++ lines) ≡ Ok (record {
      config = plain_config;
      auto = true;
      form = net_and_number;
      commands = commands;
      schedule = [];
    })

-- the lines below a plain table line of form 2
abbrev below_nets : List (List ℕ) → List (List ℕ)
below_nets lines = map (λ line. codes "table single form 2\n" ++ line) lines

-- the lines below a plain table line
abbrev below_table : List (List ℕ) → List (List ℕ)
below_table lines = map (λ line. codes "table single\n" ++ line) lines

-- the texts, each with as many spaces before it as make its first line too long
abbrev too_long : List (List ℕ) → List (List ℕ)
too_long lines = map (λ line. replicate (most_in_line + 1) 32 ++ line) lines

-- a plain table line
abbrev plain_table : TableLine
plain_table = record { config = plain_config; auto = true; form = one_number }

-- each of these lines, read as a command's below that one, has this cause
abbrev HaveCause : Cause → List (List ℕ) → Type 0
HaveCause cause lines = map (λ line. command_of plain_table (words_of line)) lines ≡ map (λ line. Err cause) lines

-- ---- each cause at its places

-- the first line that isn't skipped begins with another word
no_table_line : HaveFault 1 NoTableLine (
    codes "1 find 80\n" ∷ codes "tables single\n" ∷ codes "Table single\n" ∷ codes "table# single\n"
    ∷ [])
unfolding whole_reading
no_table_line = refl

-- every line is skipped: the line is the one behind the last
ends_without_table_line : HaveFault 3 NoTableLine (
    codes "# a\n \t\r\n" ∷ codes "\n# table single" ∷ [])
unfolding whole_reading
ends_without_table_line = refl

-- a word of the table line can't stand there, or is missing
unknown_words_of_tables : HaveFault 1 UnknownWord (
    codes "table\n" ∷ codes "table double\n" ∷ codes "table single single\n"
    ∷ codes "table single listed\n" ∷ codes "table single workers\n" ∷ codes "table single worker 2\n"
    ∷ codes "table single work on\n"
    ∷ codes "table single work\n" ∷ codes "table single shrink auto\n" ∷ codes "table single shrink 1\n"
    ∷ codes "table single shrinks on\n" ∷ codes "table single Work auto\n"
    ∷ codes "table single hint\n" ∷ codes "table listed nodes\n" ∷ codes "table single max\n"
    ∷ codes "table single hint 96 97\n" ∷ codes "table single hash 1\n" ∷ codes "table single form\n"
    ∷ codes "table single forms 2\n" ∷ codes "table single form 2 net\n" ∷ [])
unfolding whole_reading
unknown_words_of_tables = refl

-- a word of a command line can't stand there, is missing, or is one too many
unknown_words_of_commands : HaveFault 2 UnknownWord (below_table (
    codes "1\n" ∷ codes "1 lookup\n" ∷ codes "1 Find 80\n" ∷ codes "1 bind\n" ∷ codes "1 bind 80\n"
    ∷ codes "1 find\n" ∷ codes "1 release 80\n" ∷ codes "1 bind 80 100 7\n"
    ∷ codes "1 find 80 100\n" ∷ codes "1 find 80 # who?\n" ∷ codes "1 release 80 100 7\n"
    ∷ codes "1 all\n" ∷ codes "1 all 80 100\n" ∷ codes "1 rebind 80\n" ∷ codes "1 rebind 80 1\n"
    ∷ codes "1 rebind 80 1 2 3\n" ∷ codes "1 count 80\n" ∷ codes "1 work 1\n" ∷ codes "1 work auto\n" ∷ codes "1 tidy 1\n"
    ∷ codes "1 Tidy\n" ∷ codes "1 walk 16\n" ∷ codes "1 walk more\n" ∷ codes "1 Walk\n" ∷ []))
unfolding whole_reading
unknown_words_of_commands = refl

-- a word that begins a line of the schedule is unknown at a worker's place, where a line is read as a command's
no_workers : HaveCause UnknownWord (
    codes "step" ∷ codes "skip" ∷ codes "finish" ∷ codes "step 1 5" ∷ codes "skip find 80"
    ∷ codes "finish bind x" ∷ [])
unfolding whole_reading
no_workers = refl

-- any other word there that is no number is a bad number
other_workers : HaveCause BadNumber (
    codes "Step 1 5" ∷ codes "skips find 80" ∷ codes "find 80" ∷ codes "finished" ∷ [])
unfolding whole_reading
other_workers = refl

-- a word of a schedule line is missing, or is one too many
unknown_words_of_schedules : HaveFault 2 UnknownWord (below_table (
    codes "step\n" ∷ codes "skip\n" ∷ codes "finish\n" ∷ codes "step 1\n" ∷ codes "skip 1\n"
    ∷ codes "finish 1\n" ∷ codes "step 1 5 6\n" ∷ codes "skip 1 5 skip\n"
    ∷ codes "finish 1 5 # all\n" ∷ []))
unfolding whole_reading
unknown_words_of_schedules = refl

-- a word of the table line is no number where one has to stand
bad_numbers_of_tables : HaveFault 1 BadNumber (
    codes "table single hint x\n" ∷ codes "table single min +4\n"
    ∷ codes "table single pages 0x10\n" ∷ codes "table single seed -1\n"
    ∷ codes "table single rewalks 000000000000000000008\n" ∷ codes "table listed nodes x\n"
    ∷ codes "table single max x\n" ∷ codes "table single workers two\n" ∷ codes "table single form x\n"
    ∷ codes "table single form 1.2\n" ∷ [])
unfolding whole_reading
bad_numbers_of_tables = refl

-- a word of a command line is none
bad_numbers_of_commands : HaveFault 2 BadNumber (below_table (
    codes "x find 80\n" ∷ codes "1: find 80\n" ∷ codes "bind 80 100\n" ∷ codes "1 find http\n"
    ∷ codes "1 bind x 100\n" ∷ codes "1 bind 80 x\n" ∷ codes "1 release x 100\n"
    ∷ codes "1 release 80 x\n" ∷ codes "1 find 000000000000000000080\n" ∷ codes "1 all x\n"
    ∷ codes "1 rebind x 1 2\n" ∷ codes "1 rebind 80 x 2\n" ∷ codes "1 rebind 80 1 x\n"
    ∷ codes "x count\n" ∷ codes "x work\n" ∷ codes "work\n" ∷ []))
unfolding whole_reading
bad_numbers_of_commands = refl

-- a word of a schedule line is none; behind any other first word that is none, too, since that is a command's worker
bad_numbers_of_schedules : HaveFault 2 BadNumber (below_table (
    codes "step x 5\n" ∷ codes "skip x 5\n" ∷ codes "finish x 5\n" ∷ codes "step 1 x\n"
    ∷ codes "skip 1 -5\n" ∷ codes "finish 1 000000000000000000001\n" ∷ codes "Step 1 5\n"
    ∷ codes "stepped 1 5\n" ∷ codes "jump 1 5\n" ∷ []))
unfolding whole_reading
bad_numbers_of_schedules = refl

-- an option's number is below the least or above the greatest
numbers_out_of_range_of_tables : HaveFault 1 OutOfRange (
    codes "table single hint 0\n" ∷ codes "table single hint 65537\n" ∷ codes "table single min 0\n"
    ∷ codes "table single min 65537\n" ∷ codes "table single pages 3\n"
    ∷ codes "table single pages 4097\n" ∷ codes "table single seed 4294967296\n"
    ∷ codes "table single rewalks 256\n" ∷ codes "table single seed 18446744073709551616\n"
    ∷ codes "table single nodes 0\n" ∷ codes "table single nodes 65537\n" ∷ codes "table single max 3\n"
    ∷ codes "table single max 131073\n" ∷ codes "table single workers 0\n"
    ∷ codes "table single workers 17\n" ∷ codes "table single form 0\n" ∷ codes "table single form 3\n"
    ∷ codes "table single form 18446744073709551618\n" ∷ [])
unfolding whole_reading
numbers_out_of_range_of_tables = refl

-- so is a worker's, a port or an owner
numbers_out_of_range_of_commands : HaveFault 2 OutOfRange (below_table (
    codes "0 find 80\n" ∷ codes "2 find 80\n" ∷ codes "1 find 4294967296\n"
    ∷ codes "1 bind 4294967296 100\n" ∷ codes "1 bind 80 4294967296\n"
    ∷ codes "1 release 4294967296 100\n" ∷ codes "1 release 80 4294967296\n"
    ∷ codes "1 find 18446744073709551696\n" ∷ codes "1 all 4294967296\n"
    ∷ codes "1 rebind 4294967296 1 2\n" ∷ codes "1 rebind 80 4294967296 2\n"
    ∷ codes "1 rebind 80 1 4294967296\n" ∷ codes "2 work\n" ∷ []))
unfolding whole_reading
numbers_out_of_range_of_commands = refl

-- in form 1, named or not, a port with a net is no number
nets_in_form_1 : HaveFault 2 BadNumber (below_table (
    codes "1 find 3.80\n" ∷ codes "1 find 0.80\n" ∷ codes "1 bind 65536.1 100\n" ∷ codes "1 all 3.80\n"
    ∷ codes "1 release 3.80 100\n" ∷ codes "1 rebind 3.80 1 2\n" ∷ [])
    ++ codes "table single form 1\n1 find 3.80\n" ∷ [])
unfolding whole_reading
nets_in_form_1 = refl

-- In form 2 the word of a port is cut at its first dot, and each part is 1 to 20 digits. An owner is one number.
bad_numbers_of_nets : HaveFault 2 BadNumber (below_nets (
    codes "1 find 3.\n" ∷ codes "1 find .3\n" ∷ codes "1 find .\n" ∷ codes "1 find 1.2.3\n" ∷ codes "1 find x.3\n"
    ∷ codes "1 find 3.x\n" ∷ codes "1 find x\n" ∷ codes "1 find 3:80\n" ∷ codes "1 find 3.-1\n"
    ∷ codes "1 find 000000000000000000003.80\n" ∷ codes "1 find 3.000000000000000000080\n"
    ∷ codes "1 bind 3. 100\n" ∷ codes "1 all 3..80\n" ∷ codes "1 release .3 100\n" ∷ codes "1 rebind 3. 1 2\n"
    ∷ codes "1 bind 3.80 3.100\n" ∷ codes "1.0 find 3.80\n" ∷ []))
unfolding whole_reading
bad_numbers_of_nets = refl

-- a net is above the greatest, or a number in it is, or a number alone
nets_out_of_range : HaveFault 2 OutOfRange (below_nets (
    codes "1 find 65536.1\n" ∷ codes "1 find 3.4294967296\n" ∷ codes "1 find 4294967296\n"
    ∷ codes "1 find 18446744073709551616.1\n" ∷ codes "1 find 0.18446744073709551616\n"
    ∷ codes "1 bind 65536.1 100\n" ∷ codes "1 all 65536.1\n" ∷ codes "1 release 65536.1 100\n"
    ∷ codes "1 rebind 65536.1 1 2\n" ∷ []))
unfolding whole_reading
nets_out_of_range = refl

-- what is wrong with the net comes before what is wrong with the number behind it
net_before_number : HaveFault 2 OutOfRange (below_nets (
    codes "1 find 65536.x\n" ∷ codes "1 find 65536.1.2\n" ∷ codes "1 find 65536.\n" ∷ []))
unfolding whole_reading
net_before_number = refl

bad_net_before_number : HaveFault 2 BadNumber (below_nets (
    codes "1 find x.4294967296\n" ∷ codes "1 find .4294967296\n" ∷ []))
unfolding whole_reading
bad_net_before_number = refl

-- so is a worker's number in a schedule line, or the other number
numbers_out_of_range_of_schedules : HaveFault 2 OutOfRange (below_table (
    codes "step 0 5\n" ∷ codes "skip 2 5\n" ∷ codes "finish 17 5\n" ∷ codes "step 1 0\n"
    ∷ codes "skip 1 1000001\n" ∷ codes "finish 1 18446744073709551617\n" ∷ []))
unfolding whole_reading
numbers_out_of_range_of_schedules = refl

-- where the table line says how many workers there are, the first number out of range is the one behind the last
workers_out_of_range : HaveFault 2 OutOfRange (
    codes "table single workers 2\n3 find 1\n" ∷ codes "table listed workers 2\n0 find 1\n"
    ∷ codes "table single workers 1\n2 find 1\n" ∷ codes "table single workers 16\n17 find 1\n" ∷ [])
unfolding whole_reading
workers_out_of_range = refl

-- a line is too long, be it the table line, a comment, a blank line or a command's
lines_too_long : HaveFault 1 LineTooLong (too_long (codes "table single\n" ∷ codes "# a\n" ∷ codes "\n" ∷ []))
unfolding whole_reading
lines_too_long = refl

later_line_too_long : HaveFault 2 LineTooLong (below_table
    (too_long (codes "1 find 80\n" ∷ codes "# a" ∷ [])))
unfolding whole_reading
later_line_too_long = refl

-- an option stands twice
options_twice : HaveFault 1 OptionsDisagree (
    codes "table single hint 96 hint 96\n" ∷ codes "table single min 4 seed 1 min 4\n"
    ∷ codes "table single pages 4 pages 4\n" ∷ codes "table single seed 1 seed 2 seed 3\n"
    ∷ codes "table single rewalks 8 rewalks 8\n" ∷ codes "table single hash low hash low\n"
    ∷ codes "table single workers 2 workers 2\n" ∷ codes "table listed nodes 16 nodes 16\n" ∷ codes "table single max 4 max 4\n"
    ∷ codes "table single shrink off shrink off\n" ∷ codes "table single work auto shrink on work auto\n"
    ∷ codes "table single form 1 form 2\n" ∷ codes "table single form 2 form 2\n" ∷ [])
unfolding whole_reading
options_twice = refl

-- the least size is above the greatest once both are rounded: 8 and 4, 8 and 4, and 128 and 64
sizes_disagree : HaveFault 1 OptionsDisagree (
    codes "table single min 5 max 4\n" ∷ codes "table single max 7 min 5\n"
    ∷ codes "table listed min 65 max 127\n" ∷ [])
unfolding whole_reading
sizes_disagree = refl

-- the first table has more buckets than its pages: 512, 512 and 131,072
no_room : HaveFault 1 OptionsDisagree (
    codes "table single pages 4 hint 300\n" ∷ codes "table single min 257 pages 4\n"
    ∷ codes "table single hint 65536 pages 2047\n" ∷ [])
unfolding whole_reading
no_room = refl

-- ---- which of two causes comes first

-- that a line is too long comes before all that is wrong with its words
too_long_before_words : HaveFault 1 LineTooLong (too_long
    (codes "1 find 80\n" ∷ codes "table listed\n" ∷ codes "table single hint x\n" ∷ codes
    "table single hint 0\n"
    ∷ codes "table single hint 96 hint 96\n" ∷ []))
unfolding whole_reading
too_long_before_words = refl

too_long_before_commands : HaveFault 2 LineTooLong (below_table (too_long
    (codes "1 lookup\n" ∷ codes "1 find x\n" ∷ codes "2 find 80\n" ∷ [])))
unfolding whole_reading
too_long_before_commands = refl

-- that a line is no table line comes before all that is wrong with its other words
no_table_line_before_words : HaveFault 1 NoTableLine (
    codes "1 lookup\n" ∷ codes "x find 80\n" ∷ codes "99 find 80\n" ∷ codes "tables listed hint x\n"
    ∷ codes "tables single hint 0\n" ∷ codes "tables single hint 96 hint 96\n" ∷ [])
unfolding whole_reading
no_table_line_before_words = refl

-- of two words of a table line the left one comes first: an unknown word, before a number
unknown_word_left_of_number : HaveFault 1 UnknownWord (
    codes "table double hint x\n" ∷ codes "table single speed x\n" ∷ codes "table double hint 0\n"
    ∷ [])
unfolding whole_reading
unknown_word_left_of_number = refl

-- a bad number, before an unknown word and a number out of range
bad_number_left : HaveFault 1 BadNumber (
    codes "table single hint x speed 1\n" ∷ codes "table single seed x hint 0\n" ∷ [])
unfolding whole_reading
bad_number_left = refl

-- and a number out of range, before an unknown word and a bad number
number_out_of_range_left : HaveFault 1 OutOfRange (
    codes "table single hint 0 speed 4\n" ∷ codes "table single hint 0 seed x\n" ∷ [])
unfolding whole_reading
number_out_of_range_left = refl

-- so it is in a command line, also where a word is missing or one too many: an unknown word before a number
unknown_word_left_in_command : HaveFault 2 UnknownWord (below_table (
    codes "1 lookup x\n" ∷ codes "1 lookup 4294967296\n" ∷ []))
unfolding whole_reading
unknown_word_left_in_command = refl

-- a bad number before an unknown, a missing and an extra word, and before a number out of range
bad_number_left_in_command : HaveFault 2 BadNumber (below_table (
    codes "x lookup\n" ∷ codes "1 bind x\n" ∷ codes "1 find x 100\n" ∷ codes "1 bind x 4294967296\n"
    ∷ codes "x find 4294967296\n" ∷ []))
unfolding whole_reading
bad_number_left_in_command = refl

-- and a number out of range before an unknown, a missing and an extra word, and before a bad number
number_out_of_range_left_in_command : HaveFault 2 OutOfRange (below_table (
    codes "2 lookup x\n" ∷ codes "1 bind 4294967296\n" ∷ codes "1 bind 80 4294967296 7\n"
    ∷ codes "1 bind 4294967296 x\n" ∷ []))
unfolding whole_reading
number_out_of_range_left_in_command = refl

-- and in a schedule line: a bad number before a missing and an extra word, and before a number out of range
bad_number_left_in_schedule : HaveFault 2 BadNumber (below_table (
    codes "step x\n" ∷ codes "skip x 0\n" ∷ codes "finish 1 x 6\n" ∷ []))
unfolding whole_reading
bad_number_left_in_schedule = refl

-- and a number out of range before a missing and an extra word, and before a bad number
number_out_of_range_left_in_schedule : HaveFault 2 OutOfRange (below_table (
    codes "step 0\n" ∷ codes "skip 2 x\n" ∷ codes "finish 1 0 6\n" ∷ []))
unfolding whole_reading
number_out_of_range_left_in_schedule = refl

-- that options disagree comes last, behind an unknown word
unknown_word_before_options : HaveFault 1 UnknownWord (
    codes "table single hint 96 hint\n" ∷ codes "table single hint 96 hint 96 speed 4\n"
    ∷ codes "table single pages 4 hint 300 max\n" ∷ codes "table single min 5 max 4 nodes\n" ∷ [])
unfolding whole_reading
unknown_word_before_options = refl

-- behind a bad number
bad_number_before_options : HaveFault 1 BadNumber (
    codes "table single hint 96 hint x\n" ∷ codes "table single pages 4 hint 300 seed x\n" ∷ [])
unfolding whole_reading
bad_number_before_options = refl

-- and behind a number out of range
number_out_of_range_before_options : HaveFault 1 OutOfRange (
    codes "table single hint 96 hint 0\n" ∷ codes "table single pages 4 hint 300 rewalks 256\n" ∷ [])
unfolding whole_reading
number_out_of_range_before_options = refl

-- of two lines the upper one comes first, whatever is wrong with the other: a table line with an unknown word
table_line_before_commands : HaveFault 1 UnknownWord (
    codes "table\n1 find x\n" ∷ codes "table double\n2 find 80\n" ∷ [])
unfolding whole_reading
table_line_before_commands = refl

-- with options that disagree
table_line_before_commands_options : HaveFault 1 OptionsDisagree (
    codes "table single hint 96 hint 96\n1 lookup\n" ∷ [])
unfolding whole_reading
table_line_before_commands_options = refl

-- a command with an unknown word
unknown_word_before_later_lines : HaveFault 2 UnknownWord (below_table (
    codes "1 lookup\n1 find x\n" ∷ codes "1 lookup\n2 find 80\n" ∷ []))
unfolding whole_reading
unknown_word_before_later_lines = refl

-- with a bad number
bad_number_before_later_lines : HaveFault 2 BadNumber (below_table (
    codes "1 find x\n1 lookup\n" ∷ codes "1 find x\n2 find 80\n" ∷ []))
unfolding whole_reading
bad_number_before_later_lines = refl

-- and with a number out of range
number_out_of_range_before_later_lines : HaveFault 2 OutOfRange (below_table (
    codes "2 find 80\n1 lookup\n" ∷ codes "2 find 80\n1 find x\n" ∷ []))
unfolding whole_reading
number_out_of_range_before_later_lines = refl

-- so it is with a line that is too long, above or below
too_long_before_later_lines : HaveFault 2 LineTooLong
    (below_table (too_long (codes "1 find 80\n1 lookup\n" ∷ [])))
unfolding whole_reading
too_long_before_later_lines = refl

unknown_word_before_too_long : HaveFault 2 UnknownWord (below_table (map (λ line. codes "1 lookup\n" ++ line)
    (too_long (codes "1 find 80\n" ∷ []))))
unfolding whole_reading
unknown_word_before_too_long = refl

-- ---- scripts

-- a table line without options, and a command of each verb
verbs : Says (codes
    "table single\n1 bind 80 100\n1 find 80\n1 all 80\n1 rebind 80 100 7\n1 work\n1 count\n1 release 80 7\n1 tidy\n1 walk")
    plain_config
    ((1, Bind 80 100 false) ∷ (1, Find 80) ∷ (1, All 80) ∷ (1, Rebind 80 100 7) ∷ (1, Work) ∷ (1, Count)
    ∷ (1, Release 80 7) ∷ (1, Tidy) ∷ (1, Walk None 4096) ∷ [])
unfolding whole_reading
verbs = refl

-- a table of lists
lists : Says (codes "table listed nodes 16\n1 bind 80 1\n1 all 80\n1 rebind 80 1 2\n1 walk\n1 count\n1 release 80 2\n")
    (record plain_config { kind = Listed; nodes = 16 })
    ((1, Bind 80 1 false) ∷ (1, All 80) ∷ (1, Rebind 80 1 2) ∷ (1, Walk None 16) ∷ (1, Count) ∷ (1, Release 80 2) ∷ [])
unfolding whole_reading
lists = refl

-- The greatest size is rounded down to a power of two, and cuts the first size: 64 to 4, so that it has room in the pages.
greatest_size : Says (codes "table single max 7 nodes 16 pages 4 min 3\n")
    (record plain_config { max = 4; nodes = 16; pages = 4 }) []
unfolding whole_reading
greatest_size = refl

-- a hint of 65,536 would take 131,072 buckets; a greatest size of 16,384 is room for what the pages have without options
cut_to_greatest : Says (codes "table listed hint 65536 max 32767\n")
    (record plain_config { kind = Listed; hint = 65536; max = 16384 }) []
unfolding whole_reading
cut_to_greatest = refl

-- each option; a hint of 192 takes 256 buckets, which have room in 4 pages, and 5 is rounded up to 8
options : Says (codes "table single hash low rewalks 0 seed 7 pages 4 min 5 hint 192\n")
    (record plain_config { hash = Low; rewalks = 0; seed = 7; pages = 4; min = 8; hint = 192 }) []
unfolding whole_reading
options = refl

-- the commands of two workers, in the order of their lines
two_workers : Says (codes "table single workers 2\n2 bind 80 100\n1 find 80\n02 count\n")
    (record plain_config { callers = 2 })
    ((2, Bind 80 100 false) ∷ (1, Find 80) ∷ (2, Count) ∷ [])
unfolding whole_reading
two_workers = refl

-- as many workers as there can be, and one, as there is without the option
most_workers : Says (codes "table single pages 4 workers 16\n16 find 80\n")
    (record plain_config { callers = 16; pages = 4 }) ((16, Find 80) ∷ [])
unfolding whole_reading
most_workers = refl

one_worker : Says (codes "table single workers 1\n1 find 80\n") plain_config ((1, Find 80) ∷ [])
unfolding whole_reading
one_worker = refl

-- the lines of a schedule between commands and behind them, each kept in the order of its lines
schedules : SaysAll true
    (codes "table single workers 2\nfinish 2 1\n1 find 80\nstep 01 1000000\n2 count\n\nskip 2 7\nstep 1 1")
    (record plain_config { callers = 2 })
    ((1, Find 80) ∷ (2, Count) ∷ [])
    (Finish 2 1 ∷ Step 1 1000000 ∷ Skip 2 7 ∷ Step 1 1 ∷ [])
unfolding whole_reading
schedules = refl

-- a schedule alone
schedule_alone : SaysAll true (codes "table single\nskip 1 1\n") plain_config [] (Skip 1 1 ∷ [])
unfolding whole_reading
schedule_alone = refl

-- a table that shrinks, in which only commands run the work
shrinking : SaysOf false (codes "table single shrink on work manual\n1 work\n") (record plain_config { shrink = true })
    ((1, Work) ∷ [])
unfolding whole_reading
shrinking = refl

-- both options, as they are where they aren't named
named_defaults : Says (codes "table listed work auto shrink off\n") (record plain_config { kind = Listed }) []
unfolding whole_reading
named_defaults = refl

-- blank lines, comments and blanks, and numbers with leading zeros
blanks : Says (codes "\n# a\n \t\r\n\ttable  single \r\n#b\n\n\t01 find\t00000000004294967295 \r\n")
    plain_config
    ((1, Find 4294967295) ∷ [])
unfolding whole_reading
blanks = refl

-- ports of three nets in form 2; those of net 0 with it and without it are the same
nets : SaysNets (codes
    "1 bind 80 100\n1 bind 3.80 200\n1 bind 0.80 7\n1 find 3.80\n1 find 4.80\n1 release 3.80 200\n1 bind 65535.0 9\n")
    ((1, Bind 80 100 false) ∷ (1, Bind (port_at 3 80) 200 false) ∷ (1, Bind 80 7 false) ∷ (1, Find (port_at 3 80))
    ∷ (1, Find (port_at 4 80)) ∷ (1, Release (port_at 3 80) 200) ∷ (1, Bind (port_at 65535 0) 9 false) ∷ [])
unfolding whole_reading
nets = refl

-- leading zeros on either side, up to twenty digits, and the greatest port
long_nets : SaysNets (codes
    "1 find 007.080\n1 all 00000000000000000007.00000000000000000080\n1 rebind 65535.4294967295 1 2\n")
    ((1, Find (port_at 7 80)) ∷ (1, All (port_at 7 80)) ∷ (1, Rebind 281474976710655 1 2) ∷ [])
unfolding whole_reading
long_nets = refl

-- form 1, as it is where it isn't named
named_form : Says (codes "table single form 01\n1 find 80\n") plain_config ((1, Find 80) ∷ [])
unfolding whole_reading
named_form = refl
