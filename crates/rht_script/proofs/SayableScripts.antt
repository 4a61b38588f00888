-- Whatever is read, today's words can say. Each number of an option is read within its limits, so the options are
-- allowed, and where their first table has room their config is settled. Each command is read with its worker, port and
-- owner within their limits, and each line of the schedule with its worker and its number (`ReadLines`).
use Rattle.std.proofs.Common.{◌≡◌, ℕ, ◌*◌, ◌^◌, ◌==◌, Bool, true, false, not, ◌&&◌, cond, Option, Some, None, inl, inr, Result, Ok, Err, List, [], ◌∷◌, codes, refl, ap, ◌∙◌, arith}
use Rattle.std.specs.Prelude.{IfOk, IfSome, unwrap_or, nat_le, nat_lt}
use Rattle.std.proofs.lemmas.Bool.{le-leb, leb-true, lt-ltb, eq-eqb, and_from, and_parts, or_right}
use Rattle.std.proofs.lemmas.List.Elements.{All-from_recursion, All-weaker}
use Rattle.std.proofs.lemmas.List.Sums.{list_all-from_AllPass}
use Rattle.std.proofs.lemmas.Result.{IfOk-weaker}
use Rattle.rht_words.specs.declared.config.Config.{Config}
use Rattle.rht_words.specs.declared.config.Kind.{Kind}
use Rattle.rht_words.specs.declared.limits.Limits.{Limits}
use Rattle.rht_words.specs.Limits.{IsWithinLimits, node_limits, hint_limits, min_limits, max_limits, page_limits, caller_limits, seed_limits, rewalk_limits, page_words}
use Rattle.rht_words.specs.Ports.{net_of}
use Rattle.rht_words.specs.Settled.{IsSettled}
use Rattle.rht_words.specs.Sizes.{first_size}
use Rattle.rht_model.specs.Answers.{port_of}
use Rattle.rht_model.specs.declared.history.Call.{Call}
use Rattle.rht_model.specs.declared.history.Call.TheVariants.{Bind, Find, All as ListAll, Release, Rebind, Walk, Work, Tidy, Count}
use Rattle.rht_script.specs.declared.script.Script.{Script}
use Rattle.rht_script.specs.declared.script.TableLine.{TableLine}
use Rattle.rht_script.specs.declared.script.Sched.{Sched}
use Rattle.rht_script.specs.declared.script.Sched.TheVariants.{Step, Skip, Finish}
use Rattle.rht_script.specs.declared.script.ScriptLine.{ScriptLine}
use Rattle.rht_script.specs.declared.cause.Cause.{Cause}
use Rattle.rht_script.specs.declared.cause.Cause.TheVariants.{NoTableLine, UnknownWord, OptionsDisagree}
use Rattle.rht_script.specs.declared.options.Setting.{Setting}
use Rattle.rht_script.specs.declared.options.Setting.TheVariants.{Nodes, Hint, Min, Max, Pages, Workers, Seed, Rewalks, Form}
use Rattle.rht_script.specs.declared.options.Options.{Options}
use Rattle.rht_script.specs.Spelling.{is_word, is_within, number_of}
use Rattle.rht_script.specs.TableLines.{numbered, kind_of, hash_of, switch_of, auto_of, setting_of, no_options, with_setting, options_from, configured, sizes_agree, has_room, config_of, table_of}
use Rattle.rht_script.specs.CommandLines.{owner_limits, worker_limits, whole_walk, call_of, command_of}
use Rattle.rht_script.specs.PortWords.{one_number, net_and_number, form_limits, IsForm, IsPortIn, is_port_in}
use Rattle.rht_script.specs.ScheduleLines.{event_limits}
use Rattle.rht_script.specs.Grammar.{coded, Said, lines_by, below_by, script_by, reading_by, reading_of}
use Rattle.rht_script.specs.ScriptLines.{line_of}
use Rattle.rht_script.specs.Allowed.{IsAllowed, AreAllowed}
use Rattle.rht_script.specs.Plain.{IsSayableCall, IsSayableCommand, IsSayableSched, IsSayable}
use Rattle.rht_script.specs.Reading.{said_by}
use Rattle.rht_script.specs.Sound.{is_sound_call, has_sound_numbers, is_sound_command, is_sound_line, IsSoundScript}
use Rattle.rht_script.specs.Laws.{PlainPorts, SaysSayable}
use Rattle.rht_script.proofs.ConfigLemmas.{IsSettled-configured}
use Rattle.rht_script.proofs.ReadLines.{IfOk-then, IfOk-after, IfOk-cond, number_within, IsWithinLimits-test, call_holds, command_holds, table_reading_holds, AreEvents, HoldsOfSchedule, reading_holds}

-- ---- options

module _ (value : List ℕ) where
  numbered_allowed : (setting : ℕ → Setting) (limits : Limits)
      → ((number : ℕ) → IsWithinLimits limits number → IsAllowed (setting number))
      → IfOk (numbered setting limits value) IsAllowed
  numbered_allowed setting limits allowed =
      IfOk-then (λ number. is_within limits number ≡ true) IsAllowed (number_of limits value) _
      (number_within limits value) (λ number within. allowed number
      (IsWithinLimits-test limits number within))

  setting_allowed : (name : List ℕ) → IfOk (setting_of name value) IsAllowed
  unfolding setting_of
  setting_allowed name =
      IfOk-cond IsAllowed (is_word name (codes "nodes")) _ _
      (numbered_allowed Nodes node_limits (λ number within. within))
      (IfOk-cond IsAllowed (is_word name (codes "hint")) _ _
      (numbered_allowed Hint hint_limits (λ number within. within))
      (IfOk-cond IsAllowed (is_word name (codes "min")) _ _
      (numbered_allowed Min min_limits (λ number within. within))
      (IfOk-cond IsAllowed (is_word name (codes "max")) _ _
      (numbered_allowed Max max_limits (λ number within. within))
      (IfOk-cond IsAllowed (is_word name (codes "pages")) _ _
      (numbered_allowed Pages page_limits (λ number within. within))
      (IfOk-cond IsAllowed (is_word name (codes "workers")) _ _
      (numbered_allowed Workers caller_limits (λ number within. within))
      (IfOk-cond IsAllowed (is_word name (codes "seed")) _ _
      (numbered_allowed Seed seed_limits (λ number within. within))
      (IfOk-cond IsAllowed (is_word name (codes "rewalks")) _ _
      (numbered_allowed Rewalks rewalk_limits (λ number within. within))
      (IfOk-cond IsAllowed (is_word name (codes "form")) _ _
      (numbered_allowed Form form_limits (λ number within. within))
      (IfOk-cond IsAllowed (is_word name (codes "hash")) _ _
      (IfOk-after IsAllowed (hash_of value) _ (λ hash. tt))
      (IfOk-cond IsAllowed (is_word name (codes "shrink")) _ _
      (IfOk-after IsAllowed (switch_of value) _ (λ shrink. tt))
      (IfOk-cond IsAllowed (is_word name (codes "work")) _ (Err UnknownWord)
      (IfOk-after IsAllowed (auto_of value) _ (λ auto. tt)) tt)))))))))))

-- by cases of the setting
AreAllowed-with : (options : Options) (setting : Setting) → AreAllowed options → IsAllowed setting
    → AreAllowed (with_setting options setting)
AreAllowed-with options (Nodes number) are is =
    record { nodes = is; hint = are.hint; min = are.min; max = are.max; pages = are.pages; workers = are.workers; seed = are.seed; rewalks = are.rewalks; form = are.form }
AreAllowed-with options (Hint number) are is =
    record { nodes = are.nodes; hint = is; min = are.min; max = are.max; pages = are.pages; workers = are.workers; seed = are.seed; rewalks = are.rewalks; form = are.form }
AreAllowed-with options (Min number) are is =
    record { nodes = are.nodes; hint = are.hint; min = is; max = are.max; pages = are.pages; workers = are.workers; seed = are.seed; rewalks = are.rewalks; form = are.form }
AreAllowed-with options (Max number) are is =
    record { nodes = are.nodes; hint = are.hint; min = are.min; max = is; pages = are.pages; workers = are.workers; seed = are.seed; rewalks = are.rewalks; form = are.form }
AreAllowed-with options (Pages number) are is =
    record { nodes = are.nodes; hint = are.hint; min = are.min; max = are.max; pages = is; workers = are.workers; seed = are.seed; rewalks = are.rewalks; form = are.form }
AreAllowed-with options (Workers number) are is =
    record { nodes = are.nodes; hint = are.hint; min = are.min; max = are.max; pages = are.pages; workers = is; seed = are.seed; rewalks = are.rewalks; form = are.form }
AreAllowed-with options (Seed number) are is =
    record { nodes = are.nodes; hint = are.hint; min = are.min; max = are.max; pages = are.pages; workers = are.workers; seed = is; rewalks = are.rewalks; form = are.form }
AreAllowed-with options (Rewalks number) are is =
    record { nodes = are.nodes; hint = are.hint; min = are.min; max = are.max; pages = are.pages; workers = are.workers; seed = are.seed; rewalks = is; form = are.form }
AreAllowed-with options (Form number) are is =
    record { nodes = are.nodes; hint = are.hint; min = are.min; max = are.max; pages = are.pages; workers = are.workers; seed = are.seed; rewalks = are.rewalks; form = is }
AreAllowed-with options _ are is =
    record { nodes = are.nodes; hint = are.hint; min = are.min; max = are.max; pages = are.pages; workers = are.workers; seed = are.seed; rewalks = are.rewalks; form = are.form }

-- by induction over the words, two at a time
options_allowed : (options : Options) (words : List (List ℕ)) → AreAllowed options
    → IfOk (options_from options words) AreAllowed
options_allowed options [] are = are
options_allowed options (name ∷ []) are = tt
options_allowed options (name ∷ value ∷ words) are =
    IfOk-then IsAllowed AreAllowed (setting_of name value) _ (setting_allowed value name)
    (λ setting is. options_allowed (with_setting options setting) words
    (AreAllowed-with options setting are is))

no_options_allowed : AreAllowed no_options
no_options_allowed = record { nodes = tt; hint = tt; min = tt; max = tt; pages = tt; workers = tt; seed = tt; rewalks = tt; form = tt }

-- ---- the table line

module _ (kind : Kind) (options : Options) (are : AreAllowed options) where
  -- what a table of this kind is opened with
  abbrev opened : Config
  opened = configured kind options

  where_agreed : (agreed : Bool) → (sizes_agree opened && has_room opened) ≡ agreed
      → IfOk (cond agreed (Ok opened) (Err OptionsDisagree)) IsSettled
  unfolding configured
  where_agreed true is =
      let parts = and_parts (sizes_agree opened) (has_room opened) is in
      let room = leb-true (first_size opened) (page_words * opened.pages) parts.1 in
      IsSettled-configured kind options are parts.0 room
  where_agreed false is = tt

  config_settled : IfOk (config_of kind options) IsSettled
  unfolding config_of
  config_settled =
      IfOk-cond IsSettled options.twice (Err OptionsDisagree) _ tt
      (where_agreed (sizes_agree opened && has_room opened) refl)

-- what a table line says: a config that a table can be opened with
abbrev pub IsSettledTable : TableLine → Type 0
IsSettledTable table = IsSettled table.config

pub table_settled : (words : List (List ℕ)) → IfOk (table_of words) IsSettledTable
unfolding table_of
table_settled [] = tt
table_settled (table ∷ []) = IfOk-cond IsSettledTable (is_word table (codes "table")) _ (Err NoTableLine)
    tt tt
table_settled (table ∷ kind ∷ words) =
    IfOk-cond IsSettledTable (is_word table (codes "table")) _ (Err NoTableLine)
    (IfOk-after IsSettledTable (kind_of kind) _ (λ kind.
    IfOk-then AreAllowed IsSettledTable (options_from no_options words) _
    (options_allowed no_options words no_options_allowed) (λ options are.
    IfOk-then IsSettled IsSettledTable (config_of kind options) _ (config_settled kind options are)
    (λ config is. is))))
    tt

-- and a form that there is, where it names one and where it doesn't
form_or_one : (form : Option ℕ) → IfSome form IsForm → IsForm (unwrap_or form one_number)
form_or_one None is = (omega arith, omega arith)
form_or_one (Some form) is = is

abbrev pub HasForm : TableLine → Type 0
HasForm table = IsForm table.form

pub table_form : (words : List (List ℕ)) → IfOk (table_of words) HasForm
unfolding table_of
table_form [] = tt
table_form (table ∷ []) = IfOk-cond HasForm (is_word table (codes "table")) _ (Err NoTableLine) tt tt
table_form (table ∷ kind ∷ words) =
    IfOk-cond HasForm (is_word table (codes "table")) _ (Err NoTableLine)
    (IfOk-after HasForm (kind_of kind) _ (λ kind.
    IfOk-then AreAllowed HasForm (options_from no_options words) _
    (options_allowed no_options words no_options_allowed) (λ options are.
    IfOk-after HasForm (config_of kind options) _ (λ config. form_or_one options.form are.form))))
    tt

-- ---- the whole script

-- what is said has a config that a table can be opened with, and a form that there is, as the table line decides
abbrev pub IsTableSaid : TableLine → Type 0
IsTableSaid table = IsSettledTable table × HasForm table

abbrev pub IsSettledSaid : Said → Type 0
IsSettledSaid said = IsSettled said.config × IsForm said.form

pub table_said : (words : List (List ℕ)) → IfOk (table_of words) IsTableSaid
table_said words = both (table_of words) (table_settled words) (table_form words)
  where
    both : (read : Result TableLine Cause) → IfOk read IsSettledTable → IfOk read HasForm → IfOk read IsTableSaid
    both (Ok table) settled form = (settled, form)
    both (Err cause) settled form = tt

-- so it is of bytes that are read, whatever their lines below the table line are
pub IsSettledSaid-read : (line_by : TableLine → List (List ℕ) → Result ScriptLine Cause) (bytes : List ℕ) (said : Said)
    → reading_by (script_by line_by) bytes ≡ Ok said → IsSettledSaid said
IsSettledSaid-read line_by =
    table_reading_holds IsTableSaid IsSettledSaid (below_by line_by) table_said (λ table number lines is first few.
    IfOk-after IsSettledSaid (lines_by line_by number table lines) _ (λ others. is))

-- each call that is read has a verb
pub call_sayable : (table : TableLine) (words : List (List ℕ))
    → IfOk (call_of table words) (IsSayableCall table.form table.config)
call_sayable table =
    let owner_is = IsWithinLimits-test owner_limits in
    call_holds table (IsSayableCall table.form table.config) record {
      bind = λ port owner is_port is_owner. (is_port, owner_is owner is_owner, refl);
      find = λ port is_port. is_port;
      list = λ port is_port. is_port;
      release = λ port owner is_port is_owner. (is_port, owner_is owner is_owner);
      rebind = λ port owner new is_port is_owner is_new. (is_port, owner_is owner is_owner, owner_is new is_new);
      walk = refl;
      work = tt;
      tidy = tt;
      count = tt;
    }

-- and each command is one of a worker
pub command_sayable : (table : TableLine) (words : List (List ℕ))
    → IfOk (command_of table words) (IsSayableCommand table.form table.config)
command_sayable table =
    let form = table.form in
    let config = table.config in
    command_holds (IsSayableCommand form config) (IsSayableCall form config) table
    (λ worker call within sayable. (IsWithinLimits-test (worker_limits config) worker within, sayable))
    (call_sayable table)

-- each line of the schedule is one of a worker, with a number of events or calls
sched_sayable : (config : Config) → HoldsOfSchedule config (IsSayableSched config)
sched_sayable config =
    let both : (worker number : ℕ) → AreEvents config (worker, number)
    → IsWithinLimits (worker_limits config) worker × IsWithinLimits event_limits number =
    λ worker number are. (
      IsWithinLimits-test (worker_limits config) worker are.0,
      IsWithinLimits-test event_limits number are.1,
    ) in
    record { step = both; skip = both; finish = both }

pub says_sayable : SaysSayable
unfolding reading_of
says_sayable bytes said read =
    let settled = IsSettledSaid-read line_of bytes said read in
    let are = reading_holds IsSayableCommand IsSayableSched command_sayable sched_sayable bytes said read in
    record {
      config = settled.0;
      form = settled.1;
      commands = All-from_recursion (IsSayableCommand said.form said.config) said.commands are.commands;
      schedule = All-from_recursion (IsSayableSched said.config) said.schedule are.schedule;
      few = are.few;
    }

net_none : (form port : ℕ) → form ≡ one_number → IsPortIn form port → net_of port ≡ 0
net_none form port one is = elim is.1 [
  | inl two ↦ absurd (omega (arith, one, two))
  | inr none ↦ none
]

-- a call for which there is a verb in form 1 has a port of net 0, if it has one
plain_port : (form : ℕ) (config : Config) (call : Call) → form ≡ one_number → IsSayableCall form config call
    → IfSome (port_of call) (λ port. net_of port ≡ 0)
plain_port form config (Bind port owner once) one sayable = net_none form port one sayable.0
plain_port form config (Find port) one sayable = net_none form port one sayable
plain_port form config (ListAll port) one sayable = net_none form port one sayable
plain_port form config (Release port owner) one sayable = net_none form port one sayable.0
plain_port form config (Rebind port owner new) one sayable = net_none form port one sayable.0
plain_port form config _ one sayable = tt

pub plain_ports : PlainPorts
plain_ports bytes said read one =
    All-weaker (IsSayableCommand said.form said.config)
    (λ command. IfSome (port_of command.1) (λ port. net_of port ≡ 0))
    (λ command sayable. plain_port said.form said.config command.1 one sayable.1)
    said.commands (says_sayable bytes said read).commands

-- ---- sound scripts

-- a walk over the whole table can be run
whole_walk-sound : (config : Config) → is_sound_call config (whole_walk config) ≡ true
whole_walk-sound config = eq-eqb config.nodes config.nodes refl

-- a call for which there is a verb can be run
pub is_sound_call-sayable : (form : ℕ) (config : Config) (call : Call) → IsSayableCall form config call
    → is_sound_call config call ≡ true
is_sound_call-sayable form config (Bind port owner once) sayable = ap not sayable.2
is_sound_call-sayable form config (Find port) sayable = refl
is_sound_call-sayable form config (ListAll port) sayable = refl
is_sound_call-sayable form config (Release port owner) sayable = refl
is_sound_call-sayable form config (Rebind port owner new) sayable = refl
is_sound_call-sayable form config (Walk from limit) sayable =
    ap (is_sound_call config) sayable ∙ whole_walk-sound config
is_sound_call-sayable form config Work sayable = refl
is_sound_call-sayable form config Tidy sayable = refl
is_sound_call-sayable form config Count sayable = refl

-- the test of limits, of what is within them
is_within-IsWithinLimits : (limits : Limits) (number : ℕ) → IsWithinLimits limits number
    → is_within limits number ≡ true
is_within-IsWithinLimits limits number within =
    and_from (nat_le limits.least number) (nat_le number limits.greatest)
    (le-leb limits.least number within.0) (le-leb number limits.greatest within.1)

-- the test of a port of this form
is_port_in-IsPortIn : (form port : ℕ) → IsPortIn form port → is_port_in form port ≡ true
is_port_in-IsPortIn form port is =
    and_from (nat_lt port (2 ^ 48)) _ (lt-ltb port (2 ^ 48) is.0) (elim is.1 [
      | inl two ↦ rw (eq-eqb form net_and_number two) refl
      | inr none ↦ or_right (form == net_and_number) (net_of port == 0) (eq-eqb (net_of port) 0 none)
    ])

-- so are a port and an owner together
port_and_owner : (form port owner : ℕ) → IsPortIn form port → IsWithinLimits owner_limits owner
    → (is_port_in form port && is_within owner_limits owner) ≡ true
port_and_owner form port owner port_in owner_in =
    and_from (is_port_in form port) (is_within owner_limits owner) (is_port_in-IsPortIn form port port_in)
    (is_within-IsWithinLimits owner_limits owner owner_in)

-- and a worker's number and a number of events or calls
both_within : (config : Config) (worker number : ℕ)
    → IsWithinLimits (worker_limits config) worker × IsWithinLimits event_limits number
    → (is_within (worker_limits config) worker && is_within event_limits number) ≡ true
both_within config worker number both =
    and_from (is_within (worker_limits config) worker) (is_within event_limits number)
    (is_within-IsWithinLimits (worker_limits config) worker both.0)
    (is_within-IsWithinLimits event_limits number both.1)

-- the numbers of a call for which there is a verb are within their limits
pub has_sound_numbers-sayable : (form : ℕ) (config : Config) (call : Call) → IsSayableCall form config call
    → has_sound_numbers form call ≡ true
has_sound_numbers-sayable form config (Bind port owner once) sayable = port_and_owner form port owner sayable.0 sayable.1
has_sound_numbers-sayable form config (Find port) sayable = is_port_in-IsPortIn form port sayable
has_sound_numbers-sayable form config (ListAll port) sayable = is_port_in-IsPortIn form port sayable
has_sound_numbers-sayable form config (Release port owner) sayable = port_and_owner form port owner sayable.0 sayable.1
has_sound_numbers-sayable form config (Rebind port owner new) sayable =
    and_from (is_port_in form port) (is_within owner_limits owner && is_within owner_limits new)
    (is_port_in-IsPortIn form port sayable.0)
    (and_from (is_within owner_limits owner) (is_within owner_limits new)
    (is_within-IsWithinLimits owner_limits owner sayable.1) (is_within-IsWithinLimits owner_limits new sayable.2))
has_sound_numbers-sayable form config _ sayable = refl

-- so a command that can be said is sound
pub is_sound_command-sayable : (form : ℕ) (config : Config) (command : ℕ × Call) → IsSayableCommand form config command
    → is_sound_command form config command ≡ true
is_sound_command-sayable form config command sayable =
    let limits = worker_limits config in
    and_from (is_within limits command.0) (has_sound_numbers form command.1 && is_sound_call config command.1)
    (is_within-IsWithinLimits limits command.0 sayable.0)
    (and_from (has_sound_numbers form command.1) (is_sound_call config command.1)
    (has_sound_numbers-sayable form config command.1 sayable.1)
    (is_sound_call-sayable form config command.1 sayable.1))

-- and so is a line of the schedule
is_sound_line-sayable : (config : Config) (sched : Sched) → IsSayableSched config sched
    → is_sound_line config sched ≡ true
is_sound_line-sayable config (Step worker number) sayable = both_within config worker number sayable
is_sound_line-sayable config (Skip worker number) sayable = both_within config worker number sayable
is_sound_line-sayable config (Finish worker number) sayable = both_within config worker number sayable

-- and so is a script that can be said
pub IsSoundScript-sayable : (script : Script) → IsSayable (said_by script) → IsSoundScript script
IsSoundScript-sayable script sayable =
    let each = All-weaker (IsSayableCommand script.form script.config)
    (λ command. is_sound_command script.form script.config command ≡ true)
    (is_sound_command-sayable script.form script.config) script.commands.items sayable.commands in
    let lines = All-weaker (IsSayableSched script.config) (λ sched. is_sound_line script.config sched ≡ true)
    (is_sound_line-sayable script.config) script.schedule.items sayable.schedule in
    record {
      settled = sayable.config;
      form = sayable.form;
      few = (let few = sayable.few in omega (arith, script.commands.ok.0));
      commands = list_all-from_AllPass (is_sound_command script.form script.config) script.commands.items each;
      schedule = list_all-from_AllPass (is_sound_line script.config) script.schedule.items lines;
    }

-- ---- one line

-- what a command line says can be run
pub command_sound : (table : TableLine) (words : List (List ℕ))
    → IfOk (command_of table words) (λ command. is_sound_command table.form table.config command ≡ true)
command_sound table words =
    IfOk-weaker (command_of table words) (IsSayableCommand table.form table.config) _
    (is_sound_command-sayable table.form table.config) (command_sayable table words)

-- and so can what words ask behind a worker
pub call_sound : (table : TableLine) (words : List (List ℕ)) → IfOk (call_of table words) (λ call. is_sound_call table.config call ≡ true)
call_sound table words =
    IfOk-weaker (call_of table words) (IsSayableCall table.form table.config) _
    (is_sound_call-sayable table.form table.config) (call_sayable table words)

-- what holds of what was read holds with the cause told by its number too
pub IfOk-coded : {X : Type 0} (P : X → Type 0) (read : Result X Cause) → IfOk read P → IfOk (coded read) P
IfOk-coded P (Ok value) holds = holds
IfOk-coded P (Err cause) holds = tt
