-- A dealt script that is read can be run: its config is settled, and each command is nobody's yet, has numbers that can be said, and is one
-- that any worker may do. Its lines say no schedule.
use Rattle.std.proofs.Common.{◌≡◌, ℕ, ◌==◌, ◌&&◌, Bool, true, false, cond, Result, Ok, Err, List, [], ◌∷◌, codes, refl, arith}
use Rattle.std.specs.Prelude.{IfOk}
use Rattle.std.specs.List.{AllByRecursion}
use Rattle.std.proofs.lemmas.Bool.{eq-eqb, and_from}
use Rattle.std.proofs.lemmas.List.Elements.{All-from_recursion, All-weaker}
use Rattle.std.proofs.lemmas.List.Sums.{list_all-from_AllPass}
use Rattle.rht_words.specs.declared.config.Config.{Config}
use Rattle.rht_model.specs.declared.history.Call.{Call}
use Rattle.rht_script.specs.declared.script.Script.{Script}
use Rattle.rht_script.specs.declared.script.Sched.{Sched}
use Rattle.rht_script.specs.declared.script.ScriptLine.{ScriptLine}
use Rattle.rht_script.specs.declared.script.ScriptLine.TheVariants.{Command}
use Rattle.rht_script.specs.declared.script.TableLine.{TableLine}
use Rattle.rht_script.specs.declared.script.Below.TheVariants.{Workers, Any}
use Rattle.rht_script.specs.declared.cause.Cause.{Cause}
use Rattle.rht_script.specs.declared.cause.Cause.TheVariants.{UnknownWord}
use Rattle.rht_script.specs.Spelling.{is_word}
use Rattle.rht_script.specs.CommandLines.{call_of}
use Rattle.rht_script.specs.Grammar.{reading_of}
use Rattle.rht_script.specs.Plain.{IsSayableCall}
use Rattle.rht_script.specs.Reading.{said_by}
use Rattle.rht_script.specs.Sound.{is_sound_call, has_sound_numbers}
use Rattle.rht_script.specs.Dealt.{is_dealt_call, nobody, dealt_of, dealing_of, SaysDealt, reading_as, is_dealt_command, IsDealtScript}
use Rattle.rht_script.proofs.ReadLines.{IfOk-then, IfOk-cond, HoldsOfLine, reading_by_holds}
use Rattle.rht_script.proofs.SayableScripts.{IsSettledSaid-read, call_sayable, is_sound_call-sayable, has_sound_numbers-sayable}

-- the two readings of one reader

pub reading_as-workers : (bytes : List ℕ) → reading_as Workers bytes ≡ reading_of bytes
unfolding reading_of
reading_as-workers bytes = refl

pub reading_as-any : (bytes : List ℕ) → reading_as Any bytes ≡ dealing_of bytes
unfolding dealing_of
reading_as-any bytes = refl

-- ---- one line

-- the command is nobody's, its call can be said, and any worker may do it
abbrev IsForAny : ℕ → Config → ℕ × Call → Type 0
IsForAny form config command = (command.0 ≡ nobody) × IsSayableCall form config command.1 × (is_dealt_call command.1 ≡ true)

-- there is no line of a schedule
abbrev IsNoLine : Config → Sched → Type 0
IsNoLine config sched = ⊥

module _ (table : TableLine) where
  abbrev Holds : ScriptLine → Type 0
  Holds = HoldsOfLine (IsForAny table.form table.config) (IsNoLine table.config)

  -- the line of a call, by whether any worker may do it
  abbrev line_if : Bool → Call → Result ScriptLine Cause
  line_if dealt call = cond dealt (Ok (Command (nobody, call))) (Err UnknownWord)

  by_test : (call : Call) (dealt : Bool) → is_dealt_call call ≡ dealt → IsSayableCall table.form table.config call
      → IfOk (line_if dealt call) Holds
  by_test call true is sayable = (refl, sayable, is)
  by_test call false is sayable = tt

  line_for_any : (words : List (List ℕ)) → IfOk (dealt_of table words) Holds
  unfolding dealt_of
  line_for_any [] = tt
  line_for_any (word ∷ words) =
      IfOk-cond Holds (is_word word (codes "any")) _ (Err UnknownWord)
      (IfOk-then (IsSayableCall table.form table.config) Holds (call_of table words) _ (call_sayable table words)
      (λ call sayable. by_test call (is_dealt_call call) refl sayable))
      tt

-- ---- the whole

no_schedule : (config : Config) (schedule : List Sched) → AllByRecursion (IsNoLine config) schedule → schedule ≡ []
no_schedule config [] none = refl
no_schedule config (sched ∷ schedule) none = absurd none.0

is_dealt_command-read : (form : ℕ) (config : Config) (command : ℕ × Call) → IsForAny form config command
    → is_dealt_command form config command ≡ true
is_dealt_command-read form config command is =
    and_from (command.0 == nobody) _ (eq-eqb command.0 nobody is.0)
    (and_from (has_sound_numbers form command.1) (is_dealt_call command.1 && is_sound_call config command.1)
    (has_sound_numbers-sayable form config command.1 is.1)
    (and_from (is_dealt_call command.1) (is_sound_call config command.1) is.2
    (is_sound_call-sayable form config command.1 is.1)))

pub IsDealtScript-read : (bytes : List ℕ) (script : Script) → SaysDealt bytes script → IsDealtScript script
unfolding dealing_of
IsDealtScript-read bytes script read =
    let said = said_by script in
    let settled = IsSettledSaid-read dealt_of bytes said read in
    let are = reading_by_holds dealt_of IsForAny IsNoLine line_for_any bytes said read in
    let commands = script.commands.items in
    let each = All-weaker (IsForAny script.form script.config) (λ command. is_dealt_command script.form script.config command ≡ true)
    (is_dealt_command-read script.form script.config) commands
    (All-from_recursion (IsForAny script.form script.config) commands are.commands) in
    record {
      settled = settled.0;
      form = settled.1;
      few = (let few = are.few in omega (arith, script.commands.ok.0));
      commands = list_all-from_AllPass (is_dealt_command script.form script.config) commands each;
      schedule = no_schedule script.config script.schedule.items are.schedule;
    }
