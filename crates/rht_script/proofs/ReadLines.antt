-- What holds of each line below the table line that is read: it holds of what a command line asks and of what a schedule
-- line says, and so, by induction over the lines, of all commands of a script and of its schedule; and there are no more
-- of both than a script may have lines.
use Rattle.std.proofs.Common.{◌≡◌, ℕ, ◌+◌, ◌<◌, ◌≤◌, ◌==◌, ◌⊎◌, Bool, true, false, not, cond, Option, Some, None, Result, Ok, Err, List, [], ◌∷◌, length, codes, refl, inl, inr, arith}
use Rattle.std.specs.Prelude.{IfOk, nat_le, nat_lt, take, drop}
use Rattle.std.specs.List.{AllByRecursion}
use Rattle.std.proofs.lemmas.Bool.{cases_Bool, and_parts, leb-true, ltb-false, eqb-true}
use Rattle.std.proofs.lemmas.Result.{IfOk-at_ok}
use Rattle.rht_words.specs.declared.config.Config.{Config}
use Rattle.rht_words.specs.declared.limits.Limits.{Limits}
use Rattle.rht_words.specs.Limits.{IsWithinLimits}
use Rattle.rht_model.specs.declared.history.Call.{Call}
use Rattle.rht_model.specs.declared.history.Call.TheVariants.{Bind, Find, All, Release, Rebind, Work, Tidy, Count}
use Rattle.rht_script.specs.declared.script.TableLine.{TableLine}
use Rattle.rht_script.specs.declared.script.ScriptFault.{ScriptFault}
use Rattle.rht_script.specs.declared.script.Sched.{Sched}
use Rattle.rht_script.specs.declared.script.Sched.TheVariants.{Step, Skip, Finish}
use Rattle.rht_script.specs.declared.script.ScriptLine.{ScriptLine}
use Rattle.rht_script.specs.declared.script.ScriptLine.TheVariants.{Command, Schedule}
use Rattle.rht_script.specs.declared.cause.Cause.{Cause}
use Rattle.rht_script.specs.declared.cause.Cause.TheVariants.{BadNumber, OutOfRange, UnknownWord, TooManyLines, LineTooLong}
use Rattle.rht_script.specs.Grammar.{most_bytes, most_lines, most_in_line, at_line, words_at, lines_by, from_table, Said, below_by, script_by, reading_by, reading_of}
use Rattle.rht_script.specs.TableLines.{table_of}
use Rattle.rht_script.specs.CommandLines.{owner_limits, worker_limits, number_first, port_first, end_of, bind_of, find_of, all_of, release_of, rebind_of, bare_of, whole_walk, call_of, begins_schedule, worker_of, worker_first, asked_by, command_of}
use Rattle.rht_script.specs.ScheduleLines.{event_limits, events_of}
use Rattle.rht_script.specs.ScriptLines.{scheduled, line_of, commands_among, schedule_among}
use Rattle.rht_script.specs.PortWords.{net_and_number, IsPortIn, net_limits, port_number_limits, cut_of, port_in, port_of_parts, port_of_word}
use Rattle.rht_script.specs.Spelling.{◌>>=◌, is_word, is_number, value_of, is_within, number_of, lines_of, words_of, is_skipped}

-- ---- what holds of a value holds on the way to it

pub IfOk-then : {A B E : Type 0} (P : A → Type 0) (Q : B → Type 0) (read : Result A E) (next : A → Result B E)
    → IfOk read P
    → ((value : A) → P value → IfOk (next value) Q) → IfOk (read >>= next) Q
IfOk-then P Q (Ok value) next holds goes_on = goes_on value holds
IfOk-then P Q (Err fault) next holds goes_on = tt

pub IfOk-after : {A B E : Type 0} (Q : B → Type 0) (read : Result A E) (next : A → Result B E)
    → ((value : A) → IfOk (next value) Q) → IfOk (read >>= next) Q
IfOk-after Q (Ok value) next goes_on = goes_on value
IfOk-after Q (Err fault) next goes_on = tt

pub IfOk-cond : {A E : Type 0} (P : A → Type 0) (b : Bool) (x y : Result A E) → IfOk x P → IfOk y P
    → IfOk (cond b x y) P
IfOk-cond P true x y first second = first
IfOk-cond P false x y first second = second

pub IfOk-at_line : {A : Type 0} (P : A → Type 0) (number : ℕ) (read : Result A Cause) → IfOk read P
    → IfOk (at_line number read) P
IfOk-at_line P number (Ok value) holds = holds
IfOk-at_line P number (Err cause) holds = tt

-- ---- a command line

-- a number that is read is within its limits
pub number_within : (limits : Limits) (word : List ℕ)
    → IfOk (number_of limits word) (λ number. is_within limits number ≡ true)
unfolding number_of
number_within limits word =
    by_test (not (is_number word)) (is_within limits (value_of word)) refl
  where
    by_test : (no_number within : Bool) → is_within limits (value_of word) ≡ within
        → IfOk (cond no_number (Err BadNumber) (cond within (Ok (value_of word)) (Err OutOfRange)))
        (λ number. is_within limits number ≡ true)
    by_test true within is = tt
    by_test false true is = is
    by_test false false is = tt

-- the test of limits, as a fact
pub IsWithinLimits-test : (limits : Limits) (number : ℕ) → is_within limits number ≡ true
    → IsWithinLimits limits number
IsWithinLimits-test limits number within =
    let parts = and_parts (nat_le limits.least number) (nat_le number limits.greatest) within in
    (leb-true limits.least number parts.0, leb-true number limits.greatest parts.1)

-- A port that is read is one that scripts of this form can name: only in form 2 is a word cut, and its net any but 0.
module _ (form : ℕ) where
  in_net : (net : ℕ) (word : List ℕ) → net ≤ 65535 → (form ≡ net_and_number) ⊎ (net ≡ 0)
      → IfOk (port_in net word) (IsPortIn form)
  in_net net word small either =
      IfOk-then (λ number. is_within port_number_limits number ≡ true) (IsPortIn form)
      (number_of port_number_limits word) _ (number_within port_number_limits word) (λ number within.
      let few = (IsWithinLimits-test port_number_limits number within).1 in
      elim either [
        | inl two ↦ (omega (arith, small, few), inl two)
        | inr none ↦ (omega (arith, small, few), inr (omega (arith, none, few)))
      ])

  of_parts : form ≡ net_and_number → (cut : Option ℕ) (word : List ℕ)
      → IfOk (port_of_parts cut word) (IsPortIn form)
  of_parts two None word = in_net 0 word (omega arith) (inl two)
  of_parts two (Some dot) word =
      IfOk-then (λ net. is_within net_limits net ≡ true) (IsPortIn form)
      (number_of net_limits (take dot word)) _ (number_within net_limits (take dot word)) (λ net within.
      in_net net (drop (dot + 1) word) (IsWithinLimits-test net_limits net within).1 (inl two))

  port_named : (word : List ℕ) → IfOk (port_of_word form word) (IsPortIn form)
  unfolding port_of_word
  port_named word = elim (cases_Bool (form == net_and_number)) [
    | inl two ↦ of_parts (eqb-true form net_and_number two) (cut_of form word) word
    | inr other ↦ rw other (in_net 0 word (omega arith) (inr refl))
  ]

  -- so is the port that the next word stands for
  first_named : (words : List (List ℕ)) → IfOk (port_first form words) (λ read. IsPortIn form read.0)
  first_named [] = tt
  first_named (word ∷ words) =
      IfOk-then (IsPortIn form) (λ (read : ℕ × List (List ℕ)). IsPortIn form read.0) (port_of_word form word) _
      (port_named word) (λ port named. named)

-- the number that the next word stands for is within its limits
pub first_within : (limits : Limits) (words : List (List ℕ))
    → IfOk (number_first limits words) (λ read. is_within limits read.0 ≡ true)
first_within limits [] = tt
first_within limits (word ∷ words) =
    IfOk-then (λ number. is_within limits number ≡ true)
    (λ (read : ℕ × List (List ℕ)). is_within limits read.0 ≡ true)
    (number_of limits word) _ (number_within limits word) (λ number within. within)

-- the owner is within its limits
abbrev IsOwner : ℕ → Type 0
IsOwner owner = is_within owner_limits owner ≡ true

module _ (Q : Call → Type 0) where
  -- what holds behind a port that is read, and behind an owner
  behind_port : (form : ℕ) (words : List (List ℕ)) (next : ℕ × List (List ℕ) → Result Call Cause)
      → ((read : ℕ × List (List ℕ)) → IsPortIn form read.0 → IfOk (next read) Q)
      → IfOk (port_first form words >>= next) Q
  behind_port form words next holds =
      IfOk-then (λ (read : ℕ × List (List ℕ)). IsPortIn form read.0) Q (port_first form words) next
      (first_named form words) holds

  behind_owner : (words : List (List ℕ)) (next : ℕ × List (List ℕ) → Result Call Cause)
      → ((read : ℕ × List (List ℕ)) → IsOwner read.0 → IfOk (next read) Q)
      → IfOk (number_first owner_limits words >>= next) Q
  behind_owner words next holds =
      IfOk-then (λ (read : ℕ × List (List ℕ)). IsOwner read.0) Q (number_first owner_limits words) next
      (first_within owner_limits words) holds

-- It holds of each call that a line can ask below this table line, whatever the port and the owners.
pub record HoldsOfCalls (table : TableLine) (Q : Call → Type 0) : Type 0 where
  pub bind : (port owner : ℕ) → IsPortIn table.form port → IsOwner owner → Q (Bind port owner false)
  pub find : (port : ℕ) → IsPortIn table.form port → Q (Find port)
  pub list : (port : ℕ) → IsPortIn table.form port → Q (All port)
  pub release : (port owner : ℕ) → IsPortIn table.form port → IsOwner owner → Q (Release port owner)
  pub rebind : (port owner new : ℕ) → IsPortIn table.form port → IsOwner owner → IsOwner new → Q (Rebind port owner new)
  pub walk : Q (whole_walk table.config)
  pub work : Q Work
  pub tidy : Q Tidy
  pub count : Q Count

module _ (table : TableLine) (Q : Call → Type 0) (holds : HoldsOfCalls table Q) where
  bind_holds : (words : List (List ℕ)) → IfOk (bind_of table.form words) Q
  unfolding bind_of
  bind_holds words =
      behind_port Q table.form words _ (λ port is_port.
      behind_owner Q port.1 _ (λ owner is_owner.
      IfOk-after Q (end_of owner.1) _ (λ end. holds.bind port.0 owner.0 is_port is_owner)))

  find_holds : (words : List (List ℕ)) → IfOk (find_of table.form words) Q
  unfolding find_of
  find_holds words =
      behind_port Q table.form words _ (λ port is_port.
      IfOk-after Q (end_of port.1) _ (λ end. holds.find port.0 is_port))

  all_holds : (words : List (List ℕ)) → IfOk (all_of table.form words) Q
  unfolding all_of
  all_holds words =
      behind_port Q table.form words _ (λ port is_port.
      IfOk-after Q (end_of port.1) _ (λ end. holds.list port.0 is_port))

  release_holds : (words : List (List ℕ)) → IfOk (release_of table.form words) Q
  unfolding release_of
  release_holds words =
      behind_port Q table.form words _ (λ port is_port.
      behind_owner Q port.1 _ (λ owner is_owner.
      IfOk-after Q (end_of owner.1) _ (λ end. holds.release port.0 owner.0 is_port is_owner)))

  rebind_holds : (words : List (List ℕ)) → IfOk (rebind_of table.form words) Q
  unfolding rebind_of
  rebind_holds words =
      behind_port Q table.form words _ (λ port is_port.
      behind_owner Q port.1 _ (λ owner is_owner.
      behind_owner Q owner.1 _ (λ new is_new.
      IfOk-after Q (end_of new.1) _ (λ end. holds.rebind port.0 owner.0 new.0 is_port is_owner is_new))))

  bare_holds : (call : Call) → Q call → (words : List (List ℕ)) → IfOk (bare_of call words) Q
  unfolding bare_of
  bare_holds call so words = IfOk-after Q (end_of words) _ (λ end. so)

  -- what holds of each call that can be written holds of what a verb asks
  pub call_holds : (words : List (List ℕ)) → IfOk (call_of table words) Q
  unfolding call_of
  call_holds [] = tt
  call_holds (verb ∷ words) =
      IfOk-cond Q (is_word verb (codes "bind")) _ _ (bind_holds words)
      (IfOk-cond Q (is_word verb (codes "find")) _ _ (find_holds words)
      (IfOk-cond Q (is_word verb (codes "all")) _ _ (all_holds words)
      (IfOk-cond Q (is_word verb (codes "release")) _ _ (release_holds words)
      (IfOk-cond Q (is_word verb (codes "rebind")) _ _ (rebind_holds words)
      (IfOk-cond Q (is_word verb (codes "walk")) _ _ (bare_holds (whole_walk table.config) holds.walk words)
      (IfOk-cond Q (is_word verb (codes "work")) _ _ (bare_holds Work holds.work words)
      (IfOk-cond Q (is_word verb (codes "tidy")) _ _ (bare_holds Tidy holds.tidy words)
      (IfOk-cond Q (is_word verb (codes "count")) _ (Err UnknownWord) (bare_holds Count holds.count words) tt))))))))

-- the worker that a line begins with is one of the workers
worker_within : (config : Config) (word : List ℕ)
    → IfOk (worker_of config word) (λ worker. is_within (worker_limits config) worker ≡ true)
unfolding worker_of
worker_within config word =
    let limits = worker_limits config in
    IfOk-cond (λ worker. is_within limits worker ≡ true) (begins_schedule word) (Err UnknownWord) (number_of limits word) tt
    (number_within limits word)

worker_first_within : (config : Config) (words : List (List ℕ))
    → IfOk (worker_first config words) (λ read. is_within (worker_limits config) read.0 ≡ true)
worker_first_within config [] = tt
worker_first_within config (word ∷ words) =
    let limits = worker_limits config in
    IfOk-then (λ worker. is_within limits worker ≡ true) (λ (read : ℕ × List (List ℕ)). is_within limits read.0 ≡ true)
    (worker_of config word) _ (worker_within config word) (λ worker within. within)

module _ {X : Type 0} (P : ℕ × X → Type 0) (Q : X → Type 0) (ask_of : List (List ℕ) → Result X Cause) (config : Config)
    (both : (worker : ℕ) (ask : X) → is_within (worker_limits config) worker ≡ true → Q ask → P (worker, ask))
    (each : (words : List (List ℕ)) → IfOk (ask_of words) Q) where
  -- what holds of what a worker asks holds of the whole line
  pub asked_holds : (words : List (List ℕ)) → IfOk (asked_by ask_of config words) P
  asked_holds words =
      IfOk-then (λ (read : ℕ × List (List ℕ)). is_within (worker_limits config) read.0 ≡ true) P (worker_first config words) _
      (worker_first_within config words) (λ worker within.
      IfOk-then Q P (ask_of worker.1) _ (each worker.1) (λ ask holds. both worker.0 ask within holds))

module _ (P : ℕ × Call → Type 0) (Q : Call → Type 0) (table : TableLine)
    (both : (worker : ℕ) (call : Call) → is_within (worker_limits table.config) worker ≡ true → Q call
    → P (worker, call))
    (each : (words : List (List ℕ)) → IfOk (call_of table words) Q) where
  pub command_holds : (words : List (List ℕ)) → IfOk (command_of table words) P
  unfolding command_of
  command_holds words = asked_holds P Q (call_of table) table.config both each words

-- ---- a schedule line

-- the worker and the number of a schedule line are within their limits
abbrev pub AreEvents : Config → ℕ × ℕ → Type 0
AreEvents config events =
    (is_within (worker_limits config) events.0 ≡ true) × (is_within event_limits events.1 ≡ true)

events_within : (config : Config) (words : List (List ℕ)) → IfOk (events_of config words) (AreEvents config)
unfolding events_of
events_within config words =
    let limits = worker_limits config in
    IfOk-then (λ (read : ℕ × List (List ℕ)). is_within limits read.0 ≡ true) (AreEvents config)
    (number_first limits words) _ (first_within limits words) (λ worker is_worker.
    IfOk-then (λ (read : ℕ × List (List ℕ)). is_within event_limits read.0 ≡ true) (AreEvents config)
    (number_first event_limits worker.1) _ (first_within event_limits worker.1) (λ number is_number.
    IfOk-after (AreEvents config) (end_of number.1) _ (λ end. (is_worker, is_number))))

-- It holds of each schedule line of a worker of such a table.
pub record HoldsOfSchedule (config : Config) (Q : Sched → Type 0) : Type 0 where
  pub step : (worker number : ℕ) → AreEvents config (worker, number) → Q (Step worker number)
  pub skip : (worker number : ℕ) → AreEvents config (worker, number) → Q (Skip worker number)
  pub finish : (worker number : ℕ) → AreEvents config (worker, number) → Q (Finish worker number)

-- ---- any line below the table line

-- the first holds of it where it is a command, and the second where it is a line of the schedule
abbrev pub HoldsOfLine : (ℕ × Call → Type 0) → (Sched → Type 0) → ScriptLine → Type 0
HoldsOfLine P Q (Command command) = P command
HoldsOfLine P Q (Schedule sched) = Q sched

module _ (P : ℕ × Call → Type 0) (Q : Sched → Type 0) (table : TableLine)
    (command : (words : List (List ℕ)) → IfOk (command_of table words) P)
    (schedule : HoldsOfSchedule table.config Q) where
  scheduled_holds : (sched : ℕ → ℕ → Sched)
      → ((worker number : ℕ) → AreEvents table.config (worker, number) → Q (sched worker number))
      → (words : List (List ℕ)) → IfOk (scheduled sched table.config words) (HoldsOfLine P Q)
  scheduled_holds sched holds words =
      IfOk-then (AreEvents table.config) (HoldsOfLine P Q) (events_of table.config words) _
      (events_within table.config words) (λ events are. holds events.0 events.1 are)

  pub line_holds : (words : List (List ℕ)) → IfOk (line_of table words) (HoldsOfLine P Q)
  unfolding line_of
  line_holds [] = tt
  line_holds (word ∷ words) =
      IfOk-cond (HoldsOfLine P Q) (is_word word (codes "step")) _ _ (scheduled_holds Step schedule.step words)
      (IfOk-cond (HoldsOfLine P Q) (is_word word (codes "skip")) _ _ (scheduled_holds Skip schedule.skip words)
      (IfOk-cond (HoldsOfLine P Q) (is_word word (codes "finish")) _ _
      (scheduled_holds Finish schedule.finish words)
      (IfOk-then P (HoldsOfLine P Q) (command_of table (word ∷ words)) _ (command (word ∷ words))
      (λ asked is. is))))

-- ---- all lines below the table line

-- These are said by lines that are counted on from this number.
pub record AreLines {X : Type 0} (P : X → Type 0) (number : ℕ) (lines : List X) : Type 0 where
  pub each : AllByRecursion P lines
  pub few : length lines + number ≤ 1000001

pub words_few : (number : ℕ) (line : List ℕ) → IfOk (words_at number line) (λ words. number ≤ most_lines)
words_few number line = by_test (nat_lt most_lines number) refl
  where
    by_test : (many : Bool) → nat_lt most_lines number ≡ many
        → IfOk (cond many (Err TooManyLines) (cond (nat_lt most_in_line (length line)) (Err LineTooLong)
        (Ok (words_of line)))) (λ words. number ≤ most_lines)
    by_test true is = tt
    by_test false is =
        IfOk-cond (λ words. number ≤ most_lines) (nat_lt most_in_line (length line)) (Err LineTooLong)
        (Ok (words_of line)) tt (ltb-false most_lines number is)

module _ {X : Type 0} (line_by : TableLine → List (List ℕ) → Result X Cause) (P : X → Type 0) (table : TableLine)
    (each : (words : List (List ℕ)) → IfOk (line_by table words) P) where
  -- By induction over the lines: a line that is skipped says nothing, and any other is one more.
  pub lines_hold : (number : ℕ) (lines : List (List ℕ)) → number ≤ 1000001
      → IfOk (lines_by line_by number table lines) (AreLines P number)
  lines_hold number [] few = record { each = tt; few = omega arith }
  lines_hold number (line ∷ lines) few =
      IfOk-then (λ (words : List (List ℕ)). number ≤ most_lines) (AreLines P number)
      (at_line number (words_at number line)) _
      (IfOk-at_line (λ words. number ≤ most_lines) number (words_at number line) (words_few number line))
      (λ words here.
      let behind = lines_hold (number + 1) lines (omega (arith, here)) in
      IfOk-cond (AreLines P number) (is_skipped words) (lines_by line_by (number + 1) table lines) _
      (earlier (lines_by line_by (number + 1) table lines) behind)
      (IfOk-then P (AreLines P number) (at_line number (line_by table words)) _
      (IfOk-at_line P number (line_by table words) (each words)) (λ first holds.
      IfOk-then (AreLines P (number + 1)) (AreLines P number)
      (lines_by line_by (number + 1) table lines) _ behind (λ others are.
      record { each = (holds, are.each); few = (let more = are.few in omega arith) }))))
    where
      earlier : (read : Result (List X) ScriptFault) → IfOk read (AreLines P (number + 1))
          → IfOk read (AreLines P number)
      earlier (Ok others) are = record { each = are.each; few = (let more = are.few in omega arith) }
      earlier (Err fault) are = tt

-- ---- a table line, and what is said below it

module _ {X : Type 0} (T : TableLine → Type 0) (P : X → Type 0) (below : TableLine → ℕ → List (List ℕ) → Result X ScriptFault)
    (tables : (words : List (List ℕ)) → IfOk (table_of words) T)
    (holds : (table : TableLine) (number : ℕ) (lines : List (List ℕ)) → T table → 1 < number → number ≤ 1000001
    → IfOk (below table number lines) P) where
  -- By induction over the lines up to the table line.
  from_table_holds : (number : ℕ) (lines : List (List ℕ)) → 1 ≤ number → IfOk (from_table below number lines) P
  from_table_holds number [] first = tt
  from_table_holds number (line ∷ lines) first =
      IfOk-then (λ (words : List (List ℕ)). number ≤ most_lines) P
      (at_line number (words_at number line)) _
      (IfOk-at_line (λ words. number ≤ most_lines) number (words_at number line) (words_few number line))
      (λ words here.
      IfOk-cond P (is_skipped words) (from_table below (number + 1) lines) _ (from_table_holds (number + 1) lines (omega arith))
      (IfOk-then T P (at_line number (table_of words)) _ (IfOk-at_line T number (table_of words) (tables words)) (λ table is.
      holds table (number + 1) lines is (omega (arith, first)) (omega (arith, here)))))

  pub table_reading_holds : (bytes : List ℕ) (said : X) → reading_by (from_table below) bytes ≡ Ok said → P said
  table_reading_holds bytes said read =
      IfOk-at_ok P read
      (IfOk-cond P (nat_lt most_bytes (length bytes)) _ (from_table below 1 (lines_of bytes)) tt
      (from_table_holds 1 (lines_of bytes) (omega arith)))

-- ---- commands and schedule apart

-- each line is a command or a line of the schedule
length-among : (lines : List ScriptLine)
    → length (commands_among lines) + length (schedule_among lines) ≡ length lines
length-among [] = refl
length-among (Command command ∷ lines) = omega (arith, length-among lines)
length-among (Schedule sched ∷ lines) = omega (arith, length-among lines)

module _ (P : ℕ × Call → Type 0) (Q : Sched → Type 0) where
  -- what holds of each line holds of the commands among them, and of the schedule
  commands_hold : (lines : List ScriptLine) → AllByRecursion (HoldsOfLine P Q) lines
      → AllByRecursion P (commands_among lines)
  commands_hold [] each = tt
  commands_hold (Command command ∷ lines) each = (each.0, commands_hold lines each.1)
  commands_hold (Schedule sched ∷ lines) each = commands_hold lines each.1

  schedule_holds : (lines : List ScriptLine) → AllByRecursion (HoldsOfLine P Q) lines
      → AllByRecursion Q (schedule_among lines)
  schedule_holds [] each = tt
  schedule_holds (Command command ∷ lines) each = schedule_holds lines each.1
  schedule_holds (Schedule sched ∷ lines) each = (each.0, schedule_holds lines each.1)

-- ---- a whole script

-- What is said has such commands and such a schedule, and no more of both than a script may have lines below the table
-- line.
pub record AreSaid (P : ℕ → Config → ℕ × Call → Type 0) (Q : Config → Sched → Type 0) (said : Said) : Type 0 where
  pub commands : AllByRecursion (P said.form said.config) said.commands
  pub schedule : AllByRecursion (Q said.config) said.schedule
  pub few : length said.commands + length said.schedule < most_lines

module _ (line_by : TableLine → List (List ℕ) → Result ScriptLine Cause) (P : ℕ → Config → ℕ × Call → Type 0) (Q : Config → Sched → Type 0)
    (line : (table : TableLine) (words : List (List ℕ))
    → IfOk (line_by table words) (HoldsOfLine (P table.form table.config) (Q table.config))) where
  pub reading_by_holds : (bytes : List ℕ) (said : Said) → reading_by (script_by line_by) bytes ≡ Ok said → AreSaid P Q said
  reading_by_holds =
      table_reading_holds (λ table. Unit {0}) (AreSaid P Q) (below_by line_by) (λ words. any_table (table_of words))
      (λ table number lines is first few.
      let Commands = P table.form table.config in
      let Schedules = Q table.config in
      IfOk-then (AreLines (HoldsOfLine Commands Schedules) number) (AreSaid P Q)
      (lines_by line_by number table lines) _
      (lines_hold line_by (HoldsOfLine Commands Schedules) table (line table) number lines few)
      (λ others are.
      record {
        commands = commands_hold Commands Schedules others are.each;
        schedule = schedule_holds Commands Schedules others are.each;
        few = (let more = are.few in omega (arith, first, length-among others));
      }))
    where
      any_table : (read : Result TableLine Cause) → IfOk read (λ table. Unit {0})
      any_table (Ok table) = tt
      any_table (Err cause) = tt

-- where lines below the table line are commands and lines of the schedule
module _ (P : ℕ → Config → ℕ × Call → Type 0) (Q : Config → Sched → Type 0)
    (command : (table : TableLine) (words : List (List ℕ)) → IfOk (command_of table words) (P table.form table.config))
    (schedule : (config : Config) → HoldsOfSchedule config (Q config)) where
  pub reading_holds : (bytes : List ℕ) (said : Said) → reading_of bytes ≡ Ok said → AreSaid P Q said
  unfolding reading_of
  reading_holds bytes said read =
      reading_by_holds line_of P Q
      (λ table. line_holds (P table.form table.config) (Q table.config) table (command table) (schedule table.config))
      bytes said read
