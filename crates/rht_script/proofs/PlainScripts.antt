-- What is spelled plainly is read back. A plain line has the words that it was made of (`PlainWords`), so a command's line
-- is read as the command, case by case of the verbs, a line of the schedule as that, and the table line as the config,
-- option by option: each is set once, its number is within its limits, and the least size and the greatest are rounded
-- already. By induction over the commands and the schedule behind them, their lines are read as they.
use Rattle.std.proofs.Common.{◌≡◌, ℕ, ◌+◌, ◌*◌, ◌^◌, ◌<◌, ◌≤◌, ◌==◌, Bool, true, false, cond, Option, Some, None, Ok, List, [], ◌∷◌, ◌++◌, length, map, max, unwrap_or, refl, sym, ap, ◌∙◌, inl, inr, arith}
use Rattle.std.specs.Prelude.{codes, decimal}
use Rattle.std.specs.List.{AllByRecursion, flat_map}
use Rattle.std.proofs.lemmas.Bool.{cases_Bool, le-leb, eqb-false, eqb-true}
use Rattle.std.proofs.lemmas.List.Elements.{recursion_from_All}
use Rattle.rht_words.specs.declared.config.Config.{Config}
use Rattle.rht_words.specs.declared.config.Kind.{Kind}
use Rattle.rht_words.specs.declared.config.Kind.TheVariants.{Single, Listed}
use Rattle.rht_words.specs.declared.config.Hash.{Hash}
use Rattle.rht_words.specs.declared.config.Hash.TheVariants.{Mix, Low}
use Rattle.rht_words.specs.declared.limits.Limits.{Limits}
use Rattle.rht_words.specs.Limits.{IsWithinLimits, node_limits, hint_limits, min_limits, max_limits, page_limits, caller_limits, seed_limits, rewalk_limits, page_words}
use Rattle.rht_words.specs.Settled.{IsSettled, plain_config}
use Rattle.rht_words.specs.Sizes.{rounded_down, first_size}
use Rattle.rht_words.proofs.EachElement.{AllByRecursion-append}
use Rattle.rht_words.proofs.Rounding.{rounded_down-zero}
use Rattle.rht_model.specs.declared.history.Call.{Call}
use Rattle.rht_model.specs.declared.history.Call.TheVariants.{Bind, Find, All as ListAll, Release, Rebind, Walk, Work, Tidy, Count}
use Rattle.rht_script.specs.declared.script.TableLine.{TableLine}
use Rattle.rht_script.specs.declared.script.Sched.{Sched}
use Rattle.rht_script.specs.declared.script.Sched.TheVariants.{Step, Skip, Finish}
use Rattle.rht_script.specs.declared.script.ScriptLine.{ScriptLine}
use Rattle.rht_script.specs.declared.script.ScriptLine.TheVariants.{Command, Schedule}
use Rattle.rht_script.specs.declared.options.Setting.{Setting}
use Rattle.rht_script.specs.declared.options.Setting.TheVariants.{Nodes, Hint, Min, Max, Pages, Workers, Seed, Rewalks, Form, Hashing, Shrink, Auto}
use Rattle.rht_script.specs.declared.options.Options.{Options}
use Rattle.rht_script.specs.Spelling.{◌>>=◌, lines_of, is_skipped, number_of}
use Rattle.rht_script.specs.Grammar.{most_lines, most_in_line, words_at, lines_from, said_from}
use Rattle.rht_script.specs.TableLines.{no_options, kind_of, with_setting, setting_of, options_from, configured, sizes_agree, has_room, rounded_min, config_of, table_of}
use Rattle.rht_script.specs.CommandLines.{owner_limits, worker_limits, bind_of, find_of, all_of, release_of, rebind_of, bare_of, call_of, worker_of, command_of}
use Rattle.rht_script.specs.PortWords.{form_limits, IsForm}
use Rattle.rht_script.specs.ScheduleLines.{event_limits, events_of}
use Rattle.rht_script.specs.ScriptLines.{line_of, commands_among, schedule_among}
use Rattle.rht_script.specs.Plain.{IsSayableCall, IsSayableCommand, IsSayableSched, number_or_none, kind_word, hash_word, switch_word, auto_word, table_words, call_words, command_words, sched_words, line_words, plain_order, plain_line, plain_script}
use Rattle.rht_script.specs.Laws.{ReadsBack}
use Rattle.rht_script.proofs.LineLemmas.{words_at-right}
use Rattle.rht_script.proofs.PiecesLemmas.{lines_of-empty}
use Rattle.rht_script.proofs.ReadingLemmas.{reading_of-lines}
use Rattle.rht_script.proofs.ReadLines.{HoldsOfLine}
use Rattle.rht_script.proofs.PlainWords.{digits_few, number_of-decimal, IsPlainWord, plain_name, IsPlainWord-decimal, BeginsNoSchedule-decimal, is_comment-decimal, spaced_words, words_of-spaced, letters, letters-append, length-spaced, letters-plain, lines_of-plain}
use Rattle.rht_script.proofs.PortTexts.{port_of_word-text, IsPlainWord-port_text}

-- ---- calls

module _ (table : TableLine) where
  -- what can be asked below this table line
  abbrev IsSayableHere : Call → Type 0
  IsSayableHere call = IsSayableCall table.form table.config call

  -- by cases: of each call for which there is a verb
  call_of-plain : (call : Call) → IsSayableHere call → call_of table (call_words call) ≡ Ok call
  unfolding call_of bind_of find_of all_of release_of rebind_of bare_of
  call_of-plain (Bind port owner once) sayable =
      let port_is = port_of_word-text table.form port sayable.0 in
      let owner_is = number_of-decimal owner (omega (arith, sayable.1)) owner_limits sayable.1 in
      rw (port_is, owner_is) (ap (λ o. Ok (Bind port owner o)) (sym sayable.2))
  call_of-plain (Find port) sayable =
      rw (port_of_word-text table.form port sayable) refl
  call_of-plain (ListAll port) sayable =
      rw (port_of_word-text table.form port sayable) refl
  call_of-plain (Release port owner) sayable =
      let port_is = port_of_word-text table.form port sayable.0 in
      let owner_is = number_of-decimal owner (omega (arith, sayable.1)) owner_limits sayable.1 in
      rw (port_is, owner_is) refl
  call_of-plain (Rebind port owner new) sayable =
      let port_is = port_of_word-text table.form port sayable.0 in
      let owner_is = number_of-decimal owner (omega (arith, sayable.1)) owner_limits sayable.1 in
      let new_is = number_of-decimal new (omega (arith, sayable.2)) owner_limits sayable.2 in
      rw (port_is, owner_is, new_is) refl
  call_of-plain (Walk from limit) sayable = ap (λ (c : Call). Ok c) (sym sayable)
  call_of-plain Work sayable = refl
  call_of-plain Tidy sayable = refl
  call_of-plain Count sayable = refl

  -- the words of a call are plain, and at most four
  call_words-plain : (call : Call) → IsSayableHere call
      → AllByRecursion IsPlainWord (call_words call) × (length (call_words call) ≤ 4)
  call_words-plain (Bind port owner once) sayable =
      let port_is = IsPlainWord-port_text table.form port sayable.0 in
      let owner_is = IsPlainWord-decimal owner (omega (arith, sayable.1)) in
      ((plain_name refl, (port_is, (owner_is, tt))), omega arith)
  call_words-plain (Find port) sayable =
      let port_is = IsPlainWord-port_text table.form port sayable in
      ((plain_name refl, (port_is, tt)), omega arith)
  call_words-plain (ListAll port) sayable =
      let port_is = IsPlainWord-port_text table.form port sayable in
      ((plain_name refl, (port_is, tt)), omega arith)
  call_words-plain (Release port owner) sayable =
      let port_is = IsPlainWord-port_text table.form port sayable.0 in
      let owner_is = IsPlainWord-decimal owner (omega (arith, sayable.1)) in
      ((plain_name refl, (port_is, (owner_is, tt))), omega arith)
  call_words-plain (Rebind port owner new) sayable =
      let port_is = IsPlainWord-port_text table.form port sayable.0 in
      let owner_is = IsPlainWord-decimal owner (omega (arith, sayable.1)) in
      let new_is = IsPlainWord-decimal new (omega (arith, sayable.2)) in
      ((plain_name refl, (port_is, (owner_is, (new_is, tt)))), omega arith)
  call_words-plain (Walk from limit) sayable = ((plain_name refl, tt), omega arith)
  call_words-plain Work sayable = ((plain_name refl, tt), omega arith)
  call_words-plain Tidy sayable = ((plain_name refl, tt), omega arith)
  call_words-plain Count sayable = ((plain_name refl, tt), omega arith)

-- ---- commands

module _ (table : TableLine) (callers : table.config.callers < 2 ^ 32) where
  -- a worker's number, and a number of events or calls, is read as it is, and is a plain word
  worker_read : (worker : ℕ) → IsWithinLimits (worker_limits table.config) worker
      → number_of (worker_limits table.config) (decimal worker) ≡ Ok worker
  worker_read worker within =
      number_of-decimal worker (omega (arith, within, callers)) (worker_limits table.config) within

  worker_plain : (worker : ℕ) → IsWithinLimits (worker_limits table.config) worker
      → IsPlainWord (decimal worker)
  worker_plain worker within = IsPlainWord-decimal worker (omega (arith, within, callers))

  number_read : (number : ℕ) → IsWithinLimits event_limits number
      → number_of event_limits (decimal number) ≡ Ok number
  number_read number within = number_of-decimal number (omega (arith, within)) event_limits within

  number_plain : (number : ℕ) → IsWithinLimits event_limits number → IsPlainWord (decimal number)
  number_plain number within = IsPlainWord-decimal number (omega (arith, within))

  command_of-plain : (command : ℕ × Call) → IsSayableCommand table.form table.config command
      → command_of table (command_words command) ≡ Ok command
  unfolding command_of worker_of
  command_of-plain command sayable =
      let other = BeginsNoSchedule-decimal command.0 (omega (arith, sayable.0, callers)) in
      let worker_is = worker_read command.0 sayable.0 in
      let call_is = call_of-plain table command.1 sayable.1 in
      rw (other.step, other.skip, other.finish, worker_is, call_is) refl

  -- the words of a command are plain, and at most five
  command_words-plain : (command : ℕ × Call) → IsSayableCommand table.form table.config command
      → AllByRecursion IsPlainWord (command_words command) × (length (command_words command) ≤ 5)
  command_words-plain command sayable =
      let call = call_words-plain table command.1 sayable.1 in
      ((worker_plain command.0 sayable.0, call.0), omega (arith, call.1))

  -- ---- lines of the schedule

  sched_of-plain : (sched : Sched) → IsSayableSched table.config sched
      → line_of table (sched_words sched) ≡ Ok (Schedule sched)
  unfolding line_of events_of
  sched_of-plain (Step worker number) sayable =
      rw (worker_read worker sayable.0, number_read number sayable.1) refl
  sched_of-plain (Skip worker number) sayable =
      rw (worker_read worker sayable.0, number_read number sayable.1) refl
  sched_of-plain (Finish worker number) sayable =
      rw (worker_read worker sayable.0, number_read number sayable.1) refl

  -- its words are plain, and three
  sched_words-plain : (sched : Sched) → IsSayableSched table.config sched
      → AllByRecursion IsPlainWord (sched_words sched) × (length (sched_words sched) ≤ 5)
  sched_words-plain (Step worker number) sayable =
      ((plain_name refl, (worker_plain worker sayable.0, (number_plain number sayable.1, tt))), omega arith)
  sched_words-plain (Skip worker number) sayable =
      ((plain_name refl, (worker_plain worker sayable.0, (number_plain number sayable.1, tt))), omega arith)
  sched_words-plain (Finish worker number) sayable =
      ((plain_name refl, (worker_plain worker sayable.0, (number_plain number sayable.1, tt))), omega arith)

  -- ---- lines below the table line

  -- a line can say this
  abbrev IsSayableLine : ScriptLine → Type 0
  IsSayableLine line = HoldsOfLine (IsSayableCommand table.form table.config) (IsSayableSched table.config) line

  line_of-plain : (line : ScriptLine) → IsSayableLine line → line_of table (line_words line) ≡ Ok line
  unfolding line_of
  line_of-plain (Command command) sayable =
      let worker : command.0 < 2 ^ 32 = omega (arith, sayable.0, callers) in
      let other = BeginsNoSchedule-decimal command.0 worker in
      rw (other.step, other.skip, other.finish, command_of-plain command sayable) refl
  line_of-plain (Schedule sched) sayable = sched_of-plain sched sayable

  -- its words are plain, at most five, and no comment
  line_words-plain : (line : ScriptLine) → IsSayableLine line
      → AllByRecursion IsPlainWord (line_words line) × (length (line_words line) ≤ 5)
  line_words-plain (Command command) sayable = command_words-plain command sayable
  line_words-plain (Schedule sched) sayable = sched_words-plain sched sayable

  line_words-said : (line : ScriptLine) → IsSayableLine line → is_skipped (line_words line) ≡ false
  line_words-said (Command command) sayable =
      is_comment-decimal command.0 (omega (arith, sayable.0, callers))
  line_words-said (Schedule (Step worker number)) sayable = refl
  line_words-said (Schedule (Skip worker number)) sayable = refl
  line_words-said (Schedule (Finish worker number)) sayable = refl

  -- By induction: a line is neither skipped nor too long, and is read as what it says.
  lines_from-plain : (number : ℕ) (lines : List ScriptLine) → AllByRecursion IsSayableLine lines
      → number + length lines ≤ most_lines + 1
      → lines_from number table (lines_of (flat_map (λ line. plain_line (line_words line)) lines)) ≡ Ok lines
  lines_from-plain number [] sayable few = ap (lines_from number table) lines_of-empty
  lines_from-plain number (line ∷ lines) sayable few =
      let words = line_words line in
      let plain = line_words-plain line sayable.0 in
      let behind = flat_map (λ line. plain_line (line_words line)) lines in
      let read : words_at number (spaced_words words) ≡ Ok words =
      words_at-right number (spaced_words words) (omega (arith, few))
      (omega (arith, length-spaced words, letters-plain words plain.0, plain.1))
      ∙ ap (λ (ws : List (List ℕ)). Ok ws) (words_of-spaced words plain.0) in
      let onward = lines_from-plain (number + 1) lines sayable.1 (omega (arith, few)) in
      ap (lines_from number table) (lines_of-plain words behind plain.0)
      ∙ rw (read, line_words-said line sayable.0, line_of-plain line sayable.0, onward) refl

-- ---- the table line

-- each option with its value, as it is set
set_number : (setting : ℕ → Setting) (limits : Limits) (name : List ℕ)
    → ((value : List ℕ)
    → setting_of name value ≡ (number_of limits value >>= (λ number. Ok (setting number))))
    → (number : ℕ) → number < 2 ^ 32 → IsWithinLimits limits number
    → setting_of name (decimal number) ≡ Ok (setting number)
set_number setting limits name is number small within =
    is (decimal number) ∙ rw (number_of-decimal number small limits within) refl

set_nodes : (number : ℕ) → IsWithinLimits node_limits number
    → setting_of (codes "nodes") (decimal number) ≡ Ok (Nodes number)
unfolding setting_of
set_nodes number within =
    set_number Nodes node_limits (codes "nodes") (λ value. refl) number (omega (arith, within)) within

set_min : (number : ℕ) → IsWithinLimits min_limits number
    → setting_of (codes "min") (decimal number) ≡ Ok (Min number)
unfolding setting_of
set_min number within = set_number Min min_limits (codes "min") (λ value. refl) number
    (omega (arith, within)) within

set_max : (number : ℕ) → IsWithinLimits max_limits number
    → setting_of (codes "max") (decimal number) ≡ Ok (Max number)
unfolding setting_of
set_max number within = set_number Max max_limits (codes "max") (λ value. refl) number
    (omega (arith, within)) within

set_hint : (number : ℕ) → IsWithinLimits hint_limits number
    → setting_of (codes "hint") (decimal number) ≡ Ok (Hint number)
unfolding setting_of
set_hint number within = set_number Hint hint_limits (codes "hint") (λ value. refl) number
    (omega (arith, within)) within

set_pages : (number : ℕ) → IsWithinLimits page_limits number
    → setting_of (codes "pages") (decimal number) ≡ Ok (Pages number)
unfolding setting_of
set_pages number within =
    set_number Pages page_limits (codes "pages") (λ value. refl) number (omega (arith, within)) within

set_workers : (number : ℕ) → IsWithinLimits caller_limits number
    → setting_of (codes "workers") (decimal number) ≡ Ok (Workers number)
unfolding setting_of
set_workers number within =
    set_number Workers caller_limits (codes "workers") (λ value. refl) number (omega (arith, within)) within

set_seed : (number : ℕ) → IsWithinLimits seed_limits number
    → setting_of (codes "seed") (decimal number) ≡ Ok (Seed number)
unfolding setting_of
set_seed number within = set_number Seed seed_limits (codes "seed") (λ value. refl) number
    (omega (arith, within)) within

set_rewalks : (number : ℕ) → IsWithinLimits rewalk_limits number
    → setting_of (codes "rewalks") (decimal number) ≡ Ok (Rewalks number)
unfolding setting_of
set_rewalks number within =
    set_number Rewalks rewalk_limits (codes "rewalks") (λ value. refl) number (omega (arith, within)) within

set_form : (number : ℕ) → IsForm number → setting_of (codes "form") (decimal number) ≡ Ok (Form number)
unfolding setting_of
set_form number within = set_number Form form_limits (codes "form") (λ value. refl) number
    (omega (arith, within)) within

set_hash : (hash : Hash) → setting_of (codes "hash") (hash_word hash) ≡ Ok (Hashing hash)
unfolding setting_of
set_hash Mix = refl
set_hash Low = refl

set_shrink : (shrink : Bool) → setting_of (codes "shrink") (switch_word shrink) ≡ Ok (Shrink shrink)
unfolding setting_of
set_shrink true = refl
set_shrink false = refl

set_auto : (auto : Bool) → setting_of (codes "work") (auto_word auto) ≡ Ok (Auto auto)
unfolding setting_of
set_auto true = refl
set_auto false = refl

-- one option further
options_from-step : (options : Options) (setting : Setting) (name value : List ℕ) (words : List (List ℕ))
    → setting_of name value ≡ Ok setting
    → options_from options (name ∷ value ∷ words) ≡ options_from (with_setting options setting) words
options_from-step options setting name value words is = rw is refl

-- a config of these numbers
made : Config → ℕ → ℕ → ℕ → Config
made config hint min max = record config {
  hint = hint;
  min = min;
  max = max;
}

-- a config is made of its own numbers
made-same : (config : Config)
    → made config config.hint config.min config.max ≡ config
unfolding made
made-same config = refl

-- the options that the line of a config, of whether workers run `work` by themselves, and of a form sets
abbrev options_said : Config → Bool → ℕ → Option ℕ → Option ℕ → Options
options_said config auto form hint most = record {
  nodes = Some config.nodes;
  hint = hint;
  min = Some config.min;
  max = most;
  pages = Some config.pages;
  workers = Some config.callers;
  seed = Some config.seed;
  rewalks = Some config.rewalks;
  form = Some form;
  hash = Some config.hash;
  shrink = Some config.shrink;
  auto = Some auto;
  twice = false;
}

-- a kind is read from its word
kind_of-plain : (kind : Kind) → kind_of (kind_word kind) ≡ Ok kind
kind_of-plain Single = refl
kind_of-plain Listed = refl

-- the words for a kind, a hash and a switch are plain
kind_word-plain : (kind : Kind) → IsPlainWord (kind_word kind)
kind_word-plain Single = plain_name refl
kind_word-plain Listed = plain_name refl

hash_word-plain : (hash : Hash) → IsPlainWord (hash_word hash)
hash_word-plain Mix = plain_name refl
hash_word-plain Low = plain_name refl

switch_word-plain : (on : Bool) → IsPlainWord (switch_word on)
switch_word-plain true = plain_name refl
switch_word-plain false = plain_name refl

auto_word-plain : (auto : Bool) → IsPlainWord (auto_word auto)
auto_word-plain true = plain_name refl
auto_word-plain false = plain_name refl

-- so is a name with its number, or without one
number_or_none-plain : (name : List ℕ) → IsPlainWord name → (number : ℕ) → number < 2 ^ 32
    → AllByRecursion IsPlainWord (number_or_none name number)
    × (letters (number_or_none name number) ≤ length name + 12)
number_or_none-plain name plain number small = elim (cases_Bool (number == 0)) [
  | inl none ↦ rw none (tt, omega arith)
  | inr some ↦ rw some ((plain, (IsPlainWord-decimal number small, tt)), omega (arith, digits_few number small))
]

module _ (config : Config) (auto : Bool) (form : ℕ) (settled : IsSettled config) (is_form : IsForm form) where
  -- the hint and the greatest size, where there is one
  abbrev hint_said : Option ℕ
  hint_said = cond (config.hint == 0) None (Some config.hint)

  abbrev max_said : Option ℕ
  max_said = cond (config.max == 0) None (Some config.max)

  options_from-max : (hint : Option ℕ)
      → options_from (options_said config auto form hint None) (number_or_none (codes "max") config.max) ≡ Ok
      (options_said config auto form hint max_said)
  options_from-max hint = elim (cases_Bool (config.max == 0)) [
    | inl none ↦ rw none refl
    | inr some ↦
        rw some
        (options_from-step (options_said config auto form hint None) (Max config.max) (codes "max")
        (decimal config.max) []
        (set_max config.max (settled.greatest.within (eqb-false config.max 0 some))))
  ]

  options_from-hint : options_from (options_said config auto form None None) (number_or_none (codes "hint") config.hint
      ++ number_or_none (codes "max") config.max) ≡ Ok (options_said config auto form hint_said max_said)
  options_from-hint = elim (cases_Bool (config.hint == 0)) [
    | inl none ↦ rw none (options_from-max None)
    | inr some ↦
        let positive : 1 ≤ config.hint = omega (arith, eqb-false config.hint 0 some) in
        rw some
        (options_from-step (options_said config auto form None None) (Hint config.hint) (codes "hint")
        (decimal config.hint) (number_or_none (codes "max") config.max)
        (set_hint config.hint (positive, settled.hint))
        ∙ options_from-max (Some config.hint))
  ]

  -- the words of the table line from the seed on, from the form on, and all behind the kind (split so, the options are
  -- set in few steps at a time)
  abbrev last_words : List (List ℕ)
  last_words =
      codes "seed" ∷ decimal config.seed ∷ codes "rewalks" ∷ decimal config.rewalks
      ∷ (number_or_none (codes "hint") config.hint ++ number_or_none (codes "max") config.max)

  abbrev number_words : List (List ℕ)
  number_words =
      codes "form" ∷ decimal form ∷ codes "nodes" ∷ decimal config.nodes ∷ codes "min" ∷ decimal config.min
      ∷ codes "pages" ∷ decimal config.pages ∷ codes "workers" ∷ decimal config.callers ∷ last_words

  abbrev option_words : List (List ℕ)
  option_words =
      codes "hash" ∷ hash_word config.hash ∷ codes "shrink" ∷ switch_word config.shrink
      ∷ codes "work" ∷ auto_word auto ∷ number_words

  -- what is set before each of them
  abbrev set_before_last : Options
  set_before_last = record (options_said config auto form None None) { seed = None; rewalks = None }

  abbrev set_before_numbers : Options
  set_before_numbers =
      record no_options { hash = Some config.hash; shrink = Some config.shrink; auto = Some auto }

  options_from-last : options_from set_before_last last_words ≡ Ok (options_said config auto form hint_said max_said)
  options_from-last =
      rw (set_seed config.seed (omega arith, settled.seed))
      (rw (set_rewalks config.rewalks (omega arith, settled.rewalks)) options_from-hint)

  options_from-numbers : options_from set_before_numbers number_words ≡ Ok (options_said config auto form hint_said max_said)
  options_from-numbers =
      rw (set_form form is_form)
      (rw (set_nodes config.nodes settled.geometry.nodes_within)
      (rw (set_min config.min (omega (arith, settled.least.within), settled.least.within.1))
      (rw (set_pages config.pages settled.geometry.pages_within)
      (rw (set_workers config.callers settled.geometry.callers_within) options_from-last))))

  options_from-plain : options_from no_options option_words ≡ Ok (options_said config auto form hint_said max_said)
  options_from-plain = rw set_hash (rw (set_shrink config.shrink) (rw (set_auto auto) options_from-numbers))

  hint_same : unwrap_or hint_said plain_config.hint ≡ config.hint
  hint_same = elim (cases_Bool (config.hint == 0)) [
    | inl none ↦ rw none (sym (eqb-true config.hint 0 none))
    | inr some ↦ rw some refl
  ]

  min_same : rounded_min config.min ≡ config.min
  min_same =
      let least = settled.least in
      ap (max 4) least.rounded ∙ omega (arith, least.within)

  max_same : rounded_down (unwrap_or max_said plain_config.max) ≡ config.max
  max_same = elim (cases_Bool (config.max == 0)) [
    | inl none ↦ rw none (rounded_down-zero ∙ sym (eqb-true config.max 0 none))
    | inr some ↦ rw some settled.greatest.rounded
  ]

  -- the options stand for the config
  configured-said : configured config.kind (options_said config auto form hint_said max_said) ≡ config
  unfolding configured made
  configured-said =
      let hint = unwrap_or hint_said plain_config.hint in
      let most = rounded_down (unwrap_or max_said plain_config.max) in
      let same : made config hint (rounded_min config.min) most ≡ made config config.hint config.min config.max =
      rw (hint_same, min_same, max_same) refl in
      same ∙ made-same config

  sizes_agree-settled : sizes_agree config ≡ true
  sizes_agree-settled = elim (cases_Bool (config.max == 0)) [
    | inl none ↦ rw none refl
    | inr some ↦
        rw some
        (le-leb config.min config.max (settled.agree (eqb-false config.max 0 some)))
  ]

  config_of-plain : config_of config.kind (options_said config auto form hint_said max_said) ≡ Ok config
  unfolding config_of
  config_of-plain =
      let room : has_room config ≡ true = le-leb (first_size config) (page_words * config.pages)
      settled.starts in
      rw (configured-said, sizes_agree-settled, room) refl

  table_of-plain : table_of (table_words config auto form) ≡ Ok (record { config = config; auto = auto; form = form })
  unfolding table_of
  table_of-plain = rw (kind_of-plain config.kind, options_from-plain, config_of-plain) refl

  -- the greatest size has up to six digits
  max_small : config.max < 2 ^ 32
  max_small = elim (cases_Bool (config.max == 0)) [
    | inl none ↦ omega (arith, eqb-true config.max 0 none)
    | inr some ↦ omega (arith, settled.greatest.within (eqb-false config.max 0 some))
  ]

  -- the words of the table line are plain
  table_words-plain : AllByRecursion IsPlainWord (table_words config auto form)
  table_words-plain =
      let number = IsPlainWord-decimal in
      let hint = number_or_none-plain (codes "hint") (plain_name refl) config.hint (omega (arith, settled.hint)) in
      let max = number_or_none-plain (codes "max") (plain_name refl) config.max max_small in
      let behind = AllByRecursion-append IsPlainWord (number_or_none (codes "hint") config.hint)
      (number_or_none (codes "max") config.max) hint.0 max.0 in
      let last : AllByRecursion IsPlainWord last_words = (
        plain_name refl,
        (
          number config.seed (omega (arith, settled.seed)),
          (plain_name refl, (number config.rewalks (omega (arith, settled.rewalks)), behind)),
        ),
      ) in
      let numbers : AllByRecursion IsPlainWord number_words = (
        plain_name refl,
        (
          number form (omega (arith, is_form)),
          (
            plain_name refl,
            (
              number config.nodes (omega (arith, settled.geometry.nodes_within)),
              (
                plain_name refl,
                (
                  number config.min (omega (arith, settled.least.within)),
                  (
                    plain_name refl,
                    (
                      number config.pages (omega (arith, settled.geometry.pages_within)),
                      (plain_name refl, (number config.callers (omega (arith, settled.geometry.callers_within)), last)),
                    ),
                  ),
                ),
              ),
            ),
          ),
        ),
      ) in (
        plain_name refl,
        (
          kind_word-plain config.kind,
          (
            plain_name refl,
            (
              hash_word-plain config.hash,
              (plain_name refl, (switch_word-plain config.shrink, (plain_name refl, (auto_word-plain auto, numbers)))),
            ),
          ),
        ),
      )

  -- how long the numbers' words are together: each has up to ten digits
  letters-last : letters last_words ≤ 66
  letters-last =
      let hint = number_or_none-plain (codes "hint") (plain_name refl) config.hint (omega (arith, settled.hint)) in
      let max = number_or_none-plain (codes "max") (plain_name refl) config.max max_small in
      let seed = digits_few config.seed (omega (arith, settled.seed)) in
      let rewalks = digits_few config.rewalks (omega (arith, settled.rewalks)) in
      omega (
        arith,
        hint.1,
        max.1,
        seed,
        rewalks,
        letters-append (number_or_none (codes "hint") config.hint) (number_or_none (codes "max") config.max),
      )

  letters-numbers : letters number_words ≤ 150
  letters-numbers =
      let form_few = digits_few form (omega (arith, is_form)) in
      let nodes = digits_few config.nodes (omega (arith, settled.geometry.nodes_within)) in
      let min = digits_few config.min (omega (arith, settled.least.within)) in
      let pages = digits_few config.pages (omega (arith, settled.geometry.pages_within)) in
      let workers = digits_few config.callers (omega (arith, settled.geometry.callers_within)) in
      omega (arith, form_few, nodes, min, pages, workers, letters-last)

  -- The other words have up to 91 bytes, each with a space, and so the line isn't too long: it has at most 241.
  table_words-short : length (spaced_words (table_words config auto form)) ≤ most_in_line
  table_words-short =
      let kind = (kind_word-plain config.kind).short in
      let hash = (hash_word-plain config.hash).short in
      let shrink = (switch_word-plain config.shrink).short in
      let work = (auto_word-plain auto).short in
      omega (arith, kind, hash, shrink, work, letters-numbers, length-spaced (table_words config auto form))

-- ---- the plain order

module _ (form : ℕ) (config : Config) where
  -- behind all commands comes the schedule, each line of which can be said
  schedule_each : (schedule : List Sched) → AllByRecursion (IsSayableSched config) schedule
      → AllByRecursion (HoldsOfLine (IsSayableCommand form config) (IsSayableSched config)) (map Schedule schedule)
  schedule_each [] each = tt
  schedule_each (sched ∷ schedule) each = (each.0, schedule_each schedule each.1)

  order_each : (commands : List (ℕ × Call)) (schedule : List Sched)
      → AllByRecursion (IsSayableCommand form config) commands → AllByRecursion (IsSayableSched config) schedule
      → AllByRecursion (HoldsOfLine (IsSayableCommand form config) (IsSayableSched config))
      (map Command commands ++ map Schedule schedule)
  order_each [] schedule each others = schedule_each schedule others
  order_each (command ∷ commands) schedule each others =
      (each.0, order_each commands schedule each.1 others)

-- there are as many lines as commands and lines of the schedule together
length-order : (commands : List (ℕ × Call)) (schedule : List Sched)
    → length (map Command commands ++ map Schedule schedule) ≡ length commands + length schedule
length-order [] [] = refl
length-order [] (sched ∷ schedule) = omega (arith, length-order [] schedule)
length-order (command ∷ commands) schedule = omega (arith, length-order commands schedule)

-- and both are found among them again
commands_among-order : (commands : List (ℕ × Call)) (schedule : List Sched)
    → commands_among (map Command commands ++ map Schedule schedule) ≡ commands
commands_among-order [] [] = refl
commands_among-order [] (sched ∷ schedule) = commands_among-order [] schedule
commands_among-order (command ∷ commands) schedule =
    ap (λ (others : List (ℕ × Call)). command ∷ others) (commands_among-order commands schedule)

schedule_among-order : (commands : List (ℕ × Call)) (schedule : List Sched)
    → schedule_among (map Command commands ++ map Schedule schedule) ≡ schedule
schedule_among-order [] [] = refl
schedule_among-order [] (sched ∷ schedule) =
    ap (λ (others : List Sched). sched ∷ others) (schedule_among-order [] schedule)
schedule_among-order (command ∷ commands) schedule = schedule_among-order commands schedule

-- ---- the whole script

pub reads_back : ReadsBack
unfolding plain_script
reads_back said can short =
    let config = said.config in
    let settled = can.config in
    let auto = said.auto in
    let form = said.form in
    let lines = plain_order said in
    let table : TableLine = record { config = config; auto = auto; form = form } in
    let words = table_words config auto form in
    let plain = table_words-plain config auto form settled can.form in
    let behind = flat_map (λ line. plain_line (line_words line)) lines in
    let callers : config.callers < 2 ^ 32 = omega (arith, settled.geometry.callers_within) in
    let read : words_at 1 (spaced_words words) ≡ Ok words =
    words_at-right 1 (spaced_words words) (omega arith) (table_words-short config auto form settled can.form)
    ∙ ap (λ (ws : List (List ℕ)). Ok ws) (words_of-spaced words plain) in
    let each = order_each form config said.commands said.schedule
    (recursion_from_All (IsSayableCommand form config) said.commands can.commands)
    (recursion_from_All (IsSayableSched config) said.schedule can.schedule) in
    let count = length-order said.commands said.schedule in
    let lines_read = lines_from-plain table callers 2 lines each (omega (arith, can.few, count)) in
    reading_of-lines (plain_line words ++ behind) short
    ∙ ap (said_from 1) (lines_of-plain words behind plain)
    ∙ rw (read, table_of-plain config auto form settled can.form, lines_read)
    (rw (commands_among-order said.commands said.schedule, schedule_among-order said.commands said.schedule) refl)
