-- A resume script that is read can be run: its config is settled, each command is one of the workers' and is such as resume scripts have, and
-- there are no more commands than lines.
use Rattle.std.proofs.Common.{◌≡◌, ℕ, get_or, ◌<◌, ◌&&◌, nat_le, Bool, true, cond, inl, inr, Ok, List, [], ◌∷◌, length, map, codes, eq-eqb, refl, ◌∙◌, ap, arith}
use Rattle.std.specs.Prelude.{IfOk}
use Rattle.std.specs.List.{list_all}
use Rattle.std.proofs.lemmas.Bool.{and_parts, cases_Bool, leb-true}
use Rattle.std.proofs.lemmas.List.Folds.{list_all_at}
use Rattle.rht_words.specs.declared.config.Config.{Config}
use Rattle.rht_script.specs.declared.script.TableLine.{TableLine}
use Rattle.rht_script.specs.Spelling.{is_word, is_within}
use Rattle.rht_script.specs.CommandLines.{worker_limits, number_first, end_of, call_of}
use Rattle.rht_script.specs.Sound.{is_sound_call}
use Rattle.rht_script.proofs.ReadLines.{IfOk-then, IfOk-after, IfOk-cond, first_within, asked_holds}
use Rattle.rht_script.proofs.SayableScripts.{call_sound}
use Rattle.rht_script.proofs.CommandTexts.{AreSoundCommands-read}
use Rattle.rht_resume.specs.declared.resume.ResumeCall.{ResumeCall}
use Rattle.rht_resume.specs.declared.resume.ResumeCall.TheVariants as asks
use Rattle.rht_resume.specs.declared.resume.ResumeScript.{ResumeScript}
use Rattle.rht_resume.specs.Answers.{commands_of}
use Rattle.rht_resume.specs.Scripts.{limits_of_pieces, is_sound_ask, is_sound_command, IsSoundResume}
use Rattle.rht_resume.specs.ResumeLines.{piece_of, ask_of, resume_line_of}
use Rattle.rht_resume.specs.Reading.{resume_reading_of, said_by_resume, IsResumeScript}

-- ---- a command

both_true : (a b : Bool) → a ≡ true → b ≡ true → (a && b) ≡ true
both_true a b first second = rw (first, second) refl

module _ (table : TableLine) where
  -- what a worker asks is such as resume scripts have
  abbrev IsSoundAsk : ResumeCall → Type 0
  IsSoundAsk ask = is_sound_ask table.config ask ≡ true

  piece_sound : (words : List (List ℕ)) → IfOk (piece_of table.config words) IsSoundAsk
  unfolding piece_of
  piece_sound words =
      let limits = limits_of_pieces table.config in
      IfOk-then (λ (read : ℕ × List (List ℕ)). is_within limits read.0 ≡ true) IsSoundAsk
      (number_first limits words) _ (first_within limits words) (λ limit within.
      IfOk-after IsSoundAsk (end_of limit.1) _ (λ end. within))

  ask_sound : (words : List (List ℕ)) → IfOk (ask_of table words) IsSoundAsk
  unfolding ask_of
  ask_sound [] = tt
  ask_sound (verb ∷ words) =
      IfOk-cond IsSoundAsk (is_word verb (codes "next")) _ _ (piece_sound words)
      (IfOk-then (λ call. is_sound_call table.config call ≡ true) IsSoundAsk (call_of table (verb ∷ words)) (λ call. Ok (asks.Plain call))
      (call_sound table (verb ∷ words)) (λ call sound. sound))

  line_sound : (words : List (List ℕ)) → IfOk (resume_line_of table words) (λ command. is_sound_command table.config command ≡ true)
  unfolding resume_line_of
  line_sound =
      asked_holds (λ command. is_sound_command table.config command ≡ true) IsSoundAsk (ask_of table) table.config
      (λ worker ask within sound. both_true (is_within (worker_limits table.config) worker) (is_sound_ask table.config ask) within sound) ask_sound

-- ---- the whole

pub IsSoundResume-read : (bytes : List ℕ) (script : ResumeScript) → IsResumeScript bytes script → IsSoundResume script
unfolding resume_reading_of
IsSoundResume-read bytes script read =
    let are = AreSoundCommands-read is_sound_command resume_line_of line_sound bytes (said_by_resume script) read in
    record {
      settled = are.settled;
      few = (let few = are.few in omega (arith, few, script.commands.ok.0));
      commands = are.commands;
    }

-- ---- what a script that can be run says of each command

pub sound-at : (config : Config) (commands : List (ℕ × ResumeCall)) (i : ℕ) (default : ℕ × ResumeCall)
    → list_all (is_sound_command config) commands ≡ true → i < length commands → is_sound_ask config (get_or commands i default).1 ≡ true
sound-at config commands i default all within =
    let command = get_or commands i default in
    elim (cases_Bool (is_sound_command config command)) [
      | inl is ↦ (and_parts (is_within (worker_limits config) command.0) (is_sound_ask config command.1) is).1
      | inr isnt ↦ absurd (let none = list_all_at (is_sound_command config) commands i default within isnt in cc)
    ]

-- with one worker all commands are its own, in their order
pub commands_of-one : (config : Config) (commands : List (ℕ × ResumeCall)) → config.callers ≡ 1
    → list_all (is_sound_command config) commands ≡ true → commands_of 1 commands ≡ map (λ command. command.1) commands
commands_of-one config [] one all = refl
commands_of-one config (command ∷ commands) one all =
    let parts = and_parts (is_sound_command config command) (list_all (is_sound_command config) commands) all in
    let within = (and_parts (is_within (worker_limits config) command.0) (is_sound_ask config command.1) parts.0).0 in
    let bounds = and_parts (nat_le 1 command.0) (nat_le command.0 config.callers) within in
    let low = leb-true 1 command.0 bounds.0 in
    let high = leb-true command.0 config.callers bounds.1 in
    let own : command.0 ≡ 1 = omega (arith, low, high, one) in
    ap (λ b. cond b (command.1 ∷ commands_of 1 commands) (commands_of 1 commands)) (eq-eqb command.0 1 own)
    ∙ ap (λ l. command.1 ∷ l) (commands_of-one config commands one parts.1)
