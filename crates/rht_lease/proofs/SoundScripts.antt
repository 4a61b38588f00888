-- A lease script that is read can be run: its config is settled, each command is one of the workers' and is such as lease scripts have, and
-- there are no more commands than lines.
use Rattle.std.proofs.Common.{◌≡◌, ℕ, get_or, ◌<◌, ◌&&◌, nat_le, if◌then◌else◌, Bool, true, false, cond, inl, inr, Ok, Err, List, [], ◌∷◌, length, map, codes, eq-eqb, refl, ◌∙◌, ap, arith}
use Rattle.std.specs.Prelude.{IfOk}
use Rattle.std.specs.List.{list_all}
use Rattle.std.proofs.lemmas.Bool.{and_parts, cases_Bool, leb-true}
use Rattle.std.proofs.lemmas.List.Folds.{list_all_at}
use Rattle.rht_words.specs.declared.config.Config.{Config}
use Rattle.rht_model.specs.declared.history.Call.{Call}
use Rattle.rht_script.specs.declared.script.TableLine.{TableLine}
use Rattle.rht_script.specs.declared.cause.Cause.TheVariants.{UnknownWord}
use Rattle.rht_script.specs.Spelling.{between, is_word, is_within}
use Rattle.rht_script.specs.CommandLines.{owner_limits, worker_limits, number_first, port_first, end_of, call_of}
use Rattle.rht_script.proofs.ReadLines.{IfOk-after, IfOk-cond, asked_holds}
use Rattle.rht_script.proofs.CommandTexts.{AreSoundCommands-read}
use Rattle.rht_lease.specs.declared.lease.LeaseCall.{LeaseCall}
use Rattle.rht_lease.specs.declared.lease.LeaseCall.TheVariants as asks
use Rattle.rht_lease.specs.declared.lease.LeaseScript.{LeaseScript}
use Rattle.rht_lease.specs.Answers.{commands_of}
use Rattle.rht_lease.specs.Scripts.{is_plain_call, is_sound_ask, is_sound_command, IsSoundLeases}
use Rattle.rht_lease.specs.LeaseLines.{lease_of_words, grant_of, renew_of, cancel_of, sweep_of, plain_of, ask_of, lease_line_of}
use Rattle.rht_lease.specs.Reading.{lease_reading_of, said_by_leases, IsLeaseScript}

-- ---- a command

-- what such a verb asks is such as lease scripts have
abbrev IsSoundAsk : LeaseCall → Type 0
IsSoundAsk ask = is_sound_ask ask ≡ true

grant_sound : (form : ℕ) (words : List (List ℕ)) → IfOk (grant_of form words) IsSoundAsk
grant_sound form words = IfOk-after IsSoundAsk (lease_of_words form words) (λ lease. Ok (asks.Lease lease)) (λ lease. refl)

renew_sound : (form : ℕ) (words : List (List ℕ)) → IfOk (renew_of form words) IsSoundAsk
renew_sound form words = IfOk-after IsSoundAsk (lease_of_words form words) (λ lease. Ok (asks.Renew lease)) (λ lease. refl)

cancel_sound : (form : ℕ) (words : List (List ℕ)) → IfOk (cancel_of form words) IsSoundAsk
unfolding cancel_of
cancel_sound form words =
    IfOk-after IsSoundAsk (port_first form words) _ (λ port.
    IfOk-after IsSoundAsk (number_first owner_limits port.1) _ (λ owner.
    IfOk-after IsSoundAsk (end_of owner.1) _ (λ end. refl)))

sweep_sound : (words : List (List ℕ)) → IfOk (sweep_of words) IsSoundAsk
unfolding sweep_of
sweep_sound words =
    IfOk-after IsSoundAsk (number_first (between 0 18446744073709551615) words) _ (λ now.
    IfOk-after IsSoundAsk (end_of now.1) _ (λ end. refl))

both_true : (a b : Bool) → a ≡ true → b ≡ true → (a && b) ≡ true
both_true a b first second = rw (first, second) refl

plain_sound : (call : Call) → IfOk (plain_of call) IsSoundAsk
plain_sound call = by_test (is_plain_call call) refl
  where
    by_test : (plain : Bool) → is_plain_call call ≡ plain → IfOk (if plain then Ok (asks.Plain call) else Err UnknownWord) IsSoundAsk
    by_test true is = is
    by_test false is = tt

module _ (table : TableLine) where
  ask_sound : (words : List (List ℕ)) → IfOk (ask_of table words) IsSoundAsk
  unfolding ask_of
  ask_sound [] = tt
  ask_sound (verb ∷ words) =
      IfOk-cond IsSoundAsk (is_word verb (codes "lease")) _ _ (grant_sound table.form words)
      (IfOk-cond IsSoundAsk (is_word verb (codes "renew")) _ _ (renew_sound table.form words)
      (IfOk-cond IsSoundAsk (is_word verb (codes "cancel")) _ _ (cancel_sound table.form words)
      (IfOk-cond IsSoundAsk (is_word verb (codes "sweep")) _ _ (sweep_sound words)
      (IfOk-after IsSoundAsk (call_of table (verb ∷ words)) plain_of plain_sound))))

  line_sound : (words : List (List ℕ)) → IfOk (lease_line_of table words) (λ command. is_sound_command table.config command ≡ true)
  unfolding lease_line_of
  line_sound =
      asked_holds (λ command. is_sound_command table.config command ≡ true) IsSoundAsk (ask_of table) table.config
      (λ worker ask within sound. both_true (is_within (worker_limits table.config) worker) (is_sound_ask ask) within sound) ask_sound

-- ---- the whole

pub IsSoundLeases-read : (bytes : List ℕ) (script : LeaseScript) → IsLeaseScript bytes script → IsSoundLeases script
unfolding lease_reading_of
IsSoundLeases-read bytes script read =
    let are = AreSoundCommands-read is_sound_command lease_line_of line_sound bytes (said_by_leases script) read in
    record {
      settled = are.settled;
      few = (let few = are.few in omega (arith, few, script.commands.ok.0));
      commands = are.commands;
    }

-- ---- what a script that can be run says of each command

pub sound-at : (config : Config) (commands : List (ℕ × LeaseCall)) (i : ℕ) (default : ℕ × LeaseCall)
    → list_all (is_sound_command config) commands ≡ true → i < length commands → is_sound_ask (get_or commands i default).1 ≡ true
sound-at config commands i default all within =
    let command = get_or commands i default in
    elim (cases_Bool (is_sound_command config command)) [
      | inl is ↦ (and_parts (is_within (worker_limits config) command.0) (is_sound_ask command.1) is).1
      | inr isnt ↦ absurd (let none = list_all_at (is_sound_command config) commands i default within isnt in cc)
    ]

-- with one worker all commands are its own, in their order
pub commands_of-one : (config : Config) (commands : List (ℕ × LeaseCall)) → config.callers ≡ 1
    → list_all (is_sound_command config) commands ≡ true → commands_of 1 commands ≡ map (λ command. command.1) commands
commands_of-one config [] one all = refl
commands_of-one config (command ∷ commands) one all =
    let parts = and_parts (is_sound_command config command) (list_all (is_sound_command config) commands) all in
    let within = (and_parts (is_within (worker_limits config) command.0) (is_sound_ask command.1) parts.0).0 in
    let bounds = and_parts (nat_le 1 command.0) (nat_le command.0 config.callers) within in
    let low = leb-true 1 command.0 bounds.0 in
    let high = leb-true command.0 config.callers bounds.1 in
    let own : command.0 ≡ 1 = omega (arith, low, high, one) in
    ap (λ b. cond b (command.1 ∷ commands_of 1 commands) (commands_of 1 commands)) (eq-eqb command.0 1 own)
    ∙ ap (λ l. command.1 ∷ l) (commands_of-one config commands one parts.1)
