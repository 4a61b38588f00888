-- What today's words can say, and how that is spelled plainly: one table line, one line a command, and behind all of them
-- the schedule's lines, numbers in decimal, one space between two words, and a line feed behind each line.
use Rattle.std.specs.Prelude.{◌≡◌, ℕ, ◌+◌, ◌<◌, ◌==◌, Bool, false, if◌then◌else◌, All, List, [], ◌∷◌, ◌++◌, length, map, codes, decimal}
use Rattle.std.specs.List.{flat_map, join_with_byte}
use Rattle.rht_words.specs.declared.config.Config.{Config}
use Rattle.rht_words.specs.declared.config.Kind.{Kind}
use Rattle.rht_words.specs.declared.config.Kind.TheVariants.{Single, Listed}
use Rattle.rht_words.specs.declared.config.Hash.{Hash}
use Rattle.rht_words.specs.declared.config.Hash.TheVariants.{Mix, Low}
use Rattle.rht_words.specs.Limits.{IsWithinLimits}
use Rattle.rht_words.specs.Settled.{IsSettled}
use Rattle.rht_model.specs.declared.history.Call.{Call}
use Rattle.rht_model.specs.declared.history.Call.TheVariants.{Bind, Find, All as ListAll, Release, Rebind, Walk, Work, Tidy, Count}
use Rattle.rht_script.specs.declared.script.Sched.{Sched}
use Rattle.rht_script.specs.declared.script.Sched.TheVariants.{Step, Skip, Finish}
use Rattle.rht_script.specs.declared.script.ScriptLine.{ScriptLine}
use Rattle.rht_script.specs.declared.script.ScriptLine.TheVariants.{Command, Schedule}
use Rattle.rht_script.specs.Grammar.{most_lines, Said}
use Rattle.rht_script.specs.CommandLines.{owner_limits, worker_limits, whole_walk}
use Rattle.rht_script.specs.PortWords.{IsForm, IsPortIn, port_text}
use Rattle.rht_script.specs.ScheduleLines.{event_limits}

-- ---- what can be said

-- In scripts of this form there is a verb for the call in a table of this config. A bind, a look-up, a listing, a release and
-- a rebind are of any port of this form and any owners. A bind is tried until it ends. A walk goes over the whole table. The
-- work, a tidying and a reading of the count have no numbers.
abbrev pub IsSayableCall : ℕ → Config → Call → Type 0
IsSayableCall form config (Bind port owner once) =
    IsPortIn form port × IsWithinLimits owner_limits owner × (once ≡ false)
IsSayableCall form config (Find port) = IsPortIn form port
IsSayableCall form config (ListAll port) = IsPortIn form port
IsSayableCall form config (Release port owner) = IsPortIn form port × IsWithinLimits owner_limits owner
IsSayableCall form config (Rebind port owner new) =
    IsPortIn form port × IsWithinLimits owner_limits owner × IsWithinLimits owner_limits new
IsSayableCall form config (Walk from limit) = Walk from limit ≡ whole_walk config
IsSayableCall form config Work = Unit {0}
IsSayableCall form config Tidy = Unit {0}
IsSayableCall form config Count = Unit {0}

-- a command line can say the command: it is one of a worker of the table
abbrev pub IsSayableCommand : ℕ → Config → ℕ × Call → Type 0
IsSayableCommand form config command =
    IsWithinLimits (worker_limits config) command.0 × IsSayableCall form config command.1

-- a schedule line can say this: it is one of a worker of the table, with a number of events or calls
abbrev pub IsSayableSched : Config → Sched → Type 0
IsSayableSched config (Step worker number) =
    IsWithinLimits (worker_limits config) worker × IsWithinLimits event_limits number
IsSayableSched config (Skip worker number) =
    IsWithinLimits (worker_limits config) worker × IsWithinLimits event_limits number
IsSayableSched config (Finish worker number) =
    IsWithinLimits (worker_limits config) worker × IsWithinLimits event_limits number

-- Today's words can say this: any config that a table can be opened with, whether workers run `work` by themselves, and how
-- ports are written. Lines can say the commands and the schedule, one line each, and there are fewer of them than a script
-- may have.
pub record IsSayable (said : Said) : Type 0 where
  pub config : IsSettled said.config
  pub form : IsForm said.form
  pub commands : All (IsSayableCommand said.form said.config) said.commands
  pub schedule : All (IsSayableSched said.config) said.schedule
  pub few : length said.commands + length said.schedule < most_lines

-- ---- how it is spelled

-- the words for an option that is a number or none, which is 0; no words say that there is none
abbrev pub number_or_none : List ℕ → ℕ → List (List ℕ)
number_or_none name number = if number == 0 then [] else name ∷ decimal number ∷ []

-- the word for a kind
abbrev pub kind_word : Kind → List ℕ
kind_word Single = codes "single"
kind_word Listed = codes "listed"

-- the word for a hash
abbrev pub hash_word : Hash → List ℕ
hash_word Mix = codes "mix"
hash_word Low = codes "low"

-- the word for whether something is on
abbrev pub switch_word : Bool → List ℕ
switch_word on = if on then codes "on" else codes "off"

-- the word for whether a worker runs `work` by itself
abbrev pub auto_word : Bool → List ℕ
auto_word auto = if auto then codes "auto" else codes "manual"

-- the words of the table line of a config, of whether workers run `work` by themselves, and of how ports are written: every
-- option
abbrev pub table_words : Config → Bool → ℕ → List (List ℕ)
table_words config auto form =
    codes "table" ∷ kind_word config.kind ∷ codes "hash" ∷ hash_word config.hash
    ∷ codes "shrink" ∷ switch_word config.shrink ∷ codes "work" ∷ auto_word auto
    ∷ codes "form" ∷ decimal form
    ∷ codes "nodes" ∷ decimal config.nodes ∷ codes "min" ∷ decimal config.min
    ∷ codes "pages" ∷ decimal config.pages ∷ codes "workers" ∷ decimal config.callers
    ∷ codes "seed" ∷ decimal config.seed ∷ codes "rewalks" ∷ decimal config.rewalks
    ∷ (number_or_none (codes "hint") config.hint ++ number_or_none (codes "max") config.max)

-- the words of a call: its verb, its port as it is printed, and its other numbers
abbrev pub call_words : Call → List (List ℕ)
call_words (Bind port owner once) = codes "bind" ∷ port_text port ∷ decimal owner ∷ []
call_words (Find port) = codes "find" ∷ port_text port ∷ []
call_words (ListAll port) = codes "all" ∷ port_text port ∷ []
call_words (Release port owner) = codes "release" ∷ port_text port ∷ decimal owner ∷ []
call_words (Rebind port owner new) =
    codes "rebind" ∷ port_text port ∷ decimal owner ∷ decimal new ∷ []
call_words (Walk from limit) = codes "walk" ∷ []
call_words Work = codes "work" ∷ []
call_words Tidy = codes "tidy" ∷ []
call_words Count = codes "count" ∷ []

-- the words of a command: its worker, and the call's
abbrev pub command_words : ℕ × Call → List (List ℕ)
command_words command = decimal command.0 ∷ call_words command.1

-- the words of a line of a schedule
abbrev pub sched_words : Sched → List (List ℕ)
sched_words (Step worker number) = codes "step" ∷ decimal worker ∷ decimal number ∷ []
sched_words (Skip worker number) = codes "skip" ∷ decimal worker ∷ decimal number ∷ []
sched_words (Finish worker number) = codes "finish" ∷ decimal worker ∷ decimal number ∷ []

-- the words of a line below the table line
abbrev pub line_words : ScriptLine → List (List ℕ)
line_words (Command command) = command_words command
line_words (Schedule sched) = sched_words sched

-- the lines below the table line, in the plain order: all commands, and then the schedule
abbrev pub plain_order : Said → List ScriptLine
plain_order said = map Command said.commands ++ map Schedule said.schedule

-- a line of these words
unfoldable pub plain_line : List (List ℕ) → List ℕ
plain_line words = join_with_byte 32 words ++ codes "\n"

-- a script that says this
unfoldable pub plain_script : Said → List ℕ
plain_script said =
    plain_line (table_words said.config said.auto said.form) ++ flat_map (λ line. plain_line (line_words line))
    (plain_order said)
