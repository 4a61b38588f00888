-- Each command of a sound script is one of its workers', and its call is one that a table of the script's config may be given. Where
-- there is one worker all calls are its own.
use Rattle.std.proofs.Common.{◌≡◌, ℕ, ◌^◌, ◌<◌, ◌≤◌, Bool, true, false, List, [], ◌∷◌, length, map, get_or, refl, sym, ap, subst, arith}
use Rattle.std.specs.Prelude.{IsTrue, ◌&&◌, ◌||◌, ◌==◌, Some, None, nat_le, nat_lt}
use Rattle.std.specs.List.{AllByRecursion, list_all}
use Rattle.std.proofs.lemmas.Bool.{leb-true, ltb-true, eq-eqb, eqb-true}
use Rattle.std.proofs.lemmas.List.Elements.{All-from_recursion}
use Rattle.rht_words.specs.declared.config.Config.{Config}
use Rattle.rht_words.specs.declared.limits.Limits.{Limits}
use Rattle.rht_words.specs.Ports.{IsPort, net_of}
use Rattle.rht_words.specs.Settled.{IsSettled}
use Rattle.rht_model.specs.declared.history.Call.{Call}
use Rattle.rht_model.specs.declared.history.Call.TheVariants.{Bind, Find, All, Release, Rebind, Walk, Work, Tidy, Count}
use Rattle.rht_core.specs.Runs.{IsAdmittedCall}
use Rattle.rht_core.specs.Serving.{calls_of}
use Rattle.rht_script.specs.CommandLines.{owner_limits, worker_limits}
use Rattle.rht_script.specs.PortWords.{net_and_number, is_port_in}
use Rattle.rht_script.specs.Sound.{is_sound_call, has_sound_numbers, is_sound_command}
use Rattle.rht_script.specs.Spelling.{is_within}

-- the command is one of so many workers', and its call is sound for a table of this config
pub record IsCommandFor (config : Config) (command : ℕ × Call) : Type 0 where
  pub first : 1 ≤ command.0
  pub last : command.0 ≤ config.callers
  pub sound : is_sound_call config command.1 ≡ true

-- both of two tests hold
both_true : (first second : Bool) → IsTrue (first && second) → (first ≡ true) × (second ≡ true)
both_true true true holds = (refl, refl)
both_true true false holds = absurd (cc)
both_true false second holds = absurd (cc)

-- the three tests of a command
sound-parts : (form : ℕ) (config : Config) (command : ℕ × Call) → IsTrue (is_sound_command form config command)
    → (is_within (worker_limits config) command.0 ≡ true) × (has_sound_numbers form command.1 ≡ true) × (is_sound_call config command.1 ≡ true)
sound-parts form config command sound =
    let first = both_true (is_within (worker_limits config) command.0) (has_sound_numbers form command.1 && is_sound_call config command.1) sound in
    let others = both_true (has_sound_numbers form command.1) (is_sound_call config command.1) first.1 in (first.0, others.0, others.1)

-- a number within limits is below what is above them
below-limits : (limits : Limits) (number end : ℕ) → limits.greatest < end → is_within limits number ≡ true → number < end
below-limits limits number end above within =
    let most = leb-true number limits.greatest (both_true (nat_le limits.least number) (nat_le number limits.greatest) within).1 in
    omega (arith, most, above)

-- a port that scripts of a form can name is one
port-small : (form port : ℕ) → is_port_in form port ≡ true → IsPort port
port-small form port named =
    ltb-true port (2 ^ 48) (both_true (nat_lt port (2 ^ 48)) (form == net_and_number || net_of port == 0) named).0

owner-small : (owner : ℕ) → is_within owner_limits owner ≡ true → owner < 2 ^ 32
owner-small owner within = below-limits owner_limits owner (2 ^ 32) (omega arith) within

-- each number of a command's call lies in the range of its type; a walk has no cursor, and no more than all nodes are asked for
sound-admitted : (form : ℕ) (config : Config) (call : Call) → IsSettled config → has_sound_numbers form call ≡ true → is_sound_call config call ≡ true
    → IsAdmittedCall call
sound-admitted form config (Bind port owner once) settled numbers sound =
    let both = both_true (is_port_in form port) (is_within owner_limits owner) numbers in
    (port-small form port both.0, owner-small owner both.1)
sound-admitted form config (Find port) settled numbers sound = port-small form port numbers
sound-admitted form config (All port) settled numbers sound = port-small form port numbers
sound-admitted form config (Release port owner) settled numbers sound =
    let both = both_true (is_port_in form port) (is_within owner_limits owner) numbers in
    (port-small form port both.0, owner-small owner both.1)
sound-admitted form config (Rebind port owner new) settled numbers sound =
    let first = both_true (is_port_in form port) (is_within owner_limits owner && is_within owner_limits new) numbers in
    let both = both_true (is_within owner_limits owner) (is_within owner_limits new) first.1 in
    (port-small form port first.0, owner-small owner both.0, owner-small new both.1)
sound-admitted form config (Walk None limit) settled numbers sound =
    let all = eqb-true limit config.nodes sound in
    let most = settled.geometry.nodes_within.1 in omega (arith, all, most)
sound-admitted form config (Walk (Some cursor) limit) settled numbers sound = absurd (cc)
sound-admitted form config Work settled numbers sound = tt
sound-admitted form config Tidy settled numbers sound = tt
sound-admitted form config Count settled numbers sound = tt

-- by induction over the commands
pub sound-commands : (form : ℕ) (config : Config) (commands : List (ℕ × Call)) → IsTrue (list_all (is_sound_command form config) commands)
    → AllByRecursion (IsCommandFor config) commands
sound-commands form config [] sound = tt
sound-commands form config (command ∷ commands) sound =
    let first_and_others = both_true (is_sound_command form config command) (list_all (is_sound_command form config) commands) sound in
    let parts = sound-parts form config command first_and_others.0 in
    let bounds = both_true _ _ parts.0 in (
      record {
        first = leb-true _ _ bounds.0;
        last = leb-true _ _ bounds.1;
        sound = parts.2;
      },
      sound-commands form config commands first_and_others.1,
    )

-- and so each has numbers of its types
pub sound-calls : (form : ℕ) (config : Config) (commands : List (ℕ × Call)) → IsSettled config
    → IsTrue (list_all (is_sound_command form config) commands)
    → AllByRecursion (λ command. IsAdmittedCall command.1) commands
sound-calls form config [] settled sound = tt
sound-calls form config (command ∷ commands) settled sound =
    let first_and_others = both_true (is_sound_command form config command) (list_all (is_sound_command form config) commands) sound in
    let parts = sound-parts form config command first_and_others.0 in (
      sound-admitted form config command.1 settled parts.1 parts.2,
      sound-calls form config commands settled first_and_others.1,
    )

-- what is so of each command is so of the one at a place
pub next-command : (P : ℕ × Call → Type 0) (items commands : List (ℕ × Call)) (i : ℕ) (default : ℕ × Call) → items ≡ commands
    → AllByRecursion P commands → i < length items → P (get_or items i default)
next-command P items commands i default same all within =
    All-from_recursion P items (subst (AllByRecursion P) (sym same) all) i default within

-- ---- one worker

-- all calls are its own
pub calls_of-one : (config : Config) (commands : List (ℕ × Call)) → config.callers ≡ 1
    → AllByRecursion (IsCommandFor config) commands
    → map (λ command. command.1) commands ≡ calls_of 1 commands
calls_of-one config [] one all = refl
calls_of-one config (command ∷ commands) one all =
    let first = all.0.first in
    let last = all.0.last in
    rw (eq-eqb command.0 1 (omega (arith, first, last, one)))
    (ap (λ l. command.1 ∷ l) (calls_of-one config commands one all.1))
