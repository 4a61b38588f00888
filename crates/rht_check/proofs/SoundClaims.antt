-- A claimed history that is read can be judged: its config is settled, its commands are sound, and there are no more commands and no
-- more claims than lines.
use Rattle.std.proofs.Common.{◌≡◌, ℕ, ◌+◌, ◌<◌, ◌≤◌, true, Result, Ok, Err, List, [], ◌∷◌, length, codes, is_some, refl, arith}
use Rattle.std.specs.Prelude.{IfOk}
use Rattle.std.specs.List.{AllByRecursion}
use Rattle.std.proofs.lemmas.List.Elements.{All-from_recursion}
use Rattle.std.proofs.lemmas.List.Sums.{list_all-from_AllPass}
use Rattle.rht_words.specs.Settled.{IsSettled}
use Rattle.rht_model.specs.Answers.{port_of}
use Rattle.rht_script.specs.declared.script.TableLine.{TableLine}
use Rattle.rht_script.specs.declared.script.ScriptFault.{ScriptFault}
use Rattle.rht_script.specs.declared.cause.Cause.{Cause}
use Rattle.rht_script.specs.declared.cause.Cause.TheVariants.{UnknownWord}
use Rattle.rht_script.specs.Spelling.{is_word, is_skipped}
use Rattle.rht_script.specs.CommandLines.{end_of, command_of}
use Rattle.rht_script.specs.Grammar.{most_lines, at_line, words_at, lines_by}
use Rattle.rht_script.specs.PortWords.{IsForm}
use Rattle.rht_script.specs.Sound.{is_sound_command}
use Rattle.rht_script.proofs.ReadLines.{IfOk-then, IfOk-after, IfOk-cond, IfOk-at_line, AreLines, words_few, lines_hold, table_reading_holds}
use Rattle.rht_script.proofs.SayableScripts.{IsTableSaid, table_said, command_sound}
use Rattle.rht_check.specs.declared.claim.Claim.{Claim}
use Rattle.rht_check.specs.declared.reader.AskedLine.{AskedLine}
use Rattle.rht_check.specs.declared.reader.AskedLine.TheVariants.{Command, History}
use Rattle.rht_check.specs.Claims.{Told, IsSoundClaim}
use Rattle.rht_check.specs.ClaimLines.{about_bindings, asked_of, told_of}
use Rattle.rht_check.specs.Reading.{Asked, asked_by, asked_from, SaidClaim, claimed_with, claim_reading_of, said_by_claim, IsClaim}

-- ---- the lines above the claims

module _ (table : TableLine) where
  -- a line asks for a sound command, or ends the commands
  abbrev IsSoundLine : AskedLine → Type 0
  IsSoundLine (Command command) = is_sound_command table.form table.config command ≡ true
  IsSoundLine History = Unit {0}

  line_sound : (words : List (List ℕ)) → IfOk (asked_of table words) IsSoundLine
  unfolding asked_of
  line_sound [] = tt
  line_sound (word ∷ words) =
      IfOk-cond IsSoundLine (is_word word (codes "history")) _ _
      (IfOk-after IsSoundLine (end_of words) _ (λ end. tt))
      (IfOk-then (λ command. is_sound_command table.form table.config command ≡ true) IsSoundLine (command_of table (word ∷ words)) about_bindings
      (command_sound table (word ∷ words))
      (λ command sound. IfOk-cond IsSoundLine (is_some (port_of command.1)) (Ok (Command command)) (Err UnknownWord) sound tt))

  -- The commands from this number on are sound, and fewer than the lines up to the claims.
  record AreAsked (number : ℕ) (asked : Asked) : Type 0 where
    each : AllByRecursion (λ command. is_sound_command table.form table.config command ≡ true) asked.commands
    few : length asked.commands + number < asked.behind.number
    last : asked.behind.number ≤ 1000001

  earlier : (number : ℕ) (read : Result Asked ScriptFault) → IfOk read (AreAsked (number + 1)) → IfOk read (AreAsked number)
  earlier number (Ok asked) are = record { each = are.each; few = (let more = are.few in omega arith); last = are.last }
  earlier number (Err fault) are = tt

  one_more : (number : ℕ) (said : AskedLine) (lines : List (List ℕ)) (read : Result Asked ScriptFault) → IsSoundLine said
      → number ≤ most_lines → IfOk read (AreAsked (number + 1))
      → IfOk (asked_by said (record { number = number + 1; lines = lines }) read) (AreAsked number)
  one_more number History lines read sound here are = record { each = tt; few = omega arith; last = omega (arith, here) }
  one_more number (Command command) lines (Ok others) sound here are =
      record { each = (sound, are.each); few = (let more = are.few in omega arith); last = are.last }
  one_more number (Command command) lines (Err fault) sound here are = tt

  -- By induction over the lines up to the claims.
  asked_hold : (number : ℕ) (lines : List (List ℕ)) → IfOk (asked_from number table lines) (AreAsked number)
  asked_hold number [] = tt
  asked_hold number (line ∷ lines) =
      IfOk-then (λ (words : List (List ℕ)). number ≤ most_lines) (AreAsked number)
      (at_line number (words_at number line)) _
      (IfOk-at_line (λ words. number ≤ most_lines) number (words_at number line) (words_few number line))
      (λ words here.
      let behind = asked_hold (number + 1) lines in
      IfOk-cond (AreAsked number) (is_skipped words) (asked_from (number + 1) table lines) _
      (earlier number (asked_from (number + 1) table lines) behind)
      (IfOk-then IsSoundLine (AreAsked number) (at_line number (asked_of table words)) _
      (IfOk-at_line IsSoundLine number (asked_of table words) (line_sound words))
      (λ said sound. one_more number said lines (asked_from (number + 1) table lines) sound here behind)))

-- ---- the whole

-- What is said can be judged.
record IsJudgeable (said : SaidClaim) : Type 0 where
  settled : IsSettled said.script.config
  form : IsForm said.script.form
  commands : AllByRecursion (λ command. is_sound_command said.script.form said.script.config command ≡ true) said.script.commands
  schedule : said.script.schedule ≡ []
  few : length said.script.commands ≤ most_lines
  claims : length said.claims ≤ most_lines

with_hold : (table : TableLine) (number : ℕ) (lines : List (List ℕ)) → IsTableSaid table → 1 < number → number ≤ 1000001
    → IfOk (claimed_with table number lines) IsJudgeable
with_hold table number lines is first few =
    let Any : Told → Type 0 = λ told. Unit {0} in
    IfOk-then (AreAsked table number) IsJudgeable (asked_from number table lines) _ (asked_hold table number lines) (λ asked are.
    IfOk-then (AreLines Any asked.behind.number) IsJudgeable (lines_by told_of asked.behind.number table asked.behind.lines) _
    (lines_hold told_of Any table (λ words. any_told (told_of table words)) asked.behind.number asked.behind.lines are.last)
    (λ told told_are. record {
      settled = is.0;
      form = is.1;
      commands = are.each;
      schedule = refl;
      few = (let more = are.few in let last = are.last in omega arith);
      claims = (let more = are.few in let claims = told_are.few in omega (arith, more, claims));
    }))
  where
    any_told : (read : Result Told Cause) → IfOk read (λ told. Unit {0})
    any_told (Ok told) = tt
    any_told (Err cause) = tt

pub IsSoundClaim-read : (bytes : List ℕ) (claim : Claim) → IsClaim bytes claim → IsSoundClaim claim
unfolding claim_reading_of
IsSoundClaim-read bytes claim read =
    let are = table_reading_holds IsTableSaid IsJudgeable claimed_with table_said with_hold bytes (said_by_claim claim) read in
    record {
      script = record {
        settled = are.settled;
        form = are.form;
        few = (let few = are.few in omega (arith, claim.script.commands.ok.0));
        commands =
            list_all-from_AllPass (is_sound_command claim.script.form claim.script.config) claim.script.commands.items
            (All-from_recursion (λ command. is_sound_command claim.script.form claim.script.config command ≡ true) claim.script.commands.items are.commands);
        schedule = rw are.schedule refl;
      };
      few = (let few = are.claims in omega (arith, claim.claims.ok.0));
    }
