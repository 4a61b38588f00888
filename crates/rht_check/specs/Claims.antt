-- A claimed history: the commands of each worker, and replies to them in the order in which they are claimed to have come.
use Rattle.std.specs.Prelude.{◌≡◌, ℕ, ◌-◌, ◌==◌, ◌≤◌, Option, Some, List, [], ◌∷◌, ◌++◌, map, filter, count_by, slice_get, vec_len}
use Rattle.rht_model.specs.declared.history.Call.{Call}
use Rattle.rht_model.specs.declared.history.Reply.{Reply}
use Rattle.rht_model.specs.declared.history.Entry.{Entry}
use Rattle.rht_script.specs.Grammar.{most_lines}
use Rattle.rht_script.specs.Sound.{IsSoundScript}
use Rattle.rht_check.specs.declared.claim.Claim.{Claim}

-- a claim: a worker, counted from 1, its reply, and the owners beside the reply
abbrev pub Told : Type 0
Told = ℕ × Reply × List ℕ

-- a worker's commands, in their order, among those of all
abbrev pub commands_of : ℕ → List (ℕ × Call) → List Call
commands_of worker commands = map (λ command. command.1) (filter (λ command. command.0 == worker) commands)

-- how many of the claims are the worker's
abbrev pub claims_of : ℕ → List Told → ℕ
claims_of worker claims = count_by (λ told. told.0 == worker) claims

-- The command that a claim behind these answers, if there is one: where its worker has so many claims before it, the command
-- behind so many of its own.
abbrev pub command_behind : List (ℕ × Call) → List Told → Told → Option Call
command_behind commands before told = slice_get (commands_of told.0 commands) (claims_of told.0 before)

-- the entry of a claim that answers this command; callers are counted from 0
abbrev pub entry_of : Told → Call → Entry
entry_of told call = record { caller = told.0 - 1; call = call; reply = told.1; owners = told.2 }

-- this is the entry of a claim that stands behind these
abbrev pub IsEntryOf : List (ℕ × Call) → List Told → Told → Entry → Type 0
IsEntryOf commands before told entry =
    (command_behind commands before told ≡ Some entry.call) × (entry ≡ entry_of told entry.call)

-- these are the entries of claims that stand behind those before, each in its place
abbrev pub AreEntriesOf : List (ℕ × Call) → List Told → List Told → List Entry → Type 0
AreEntriesOf commands before [] [] = Unit {0}
AreEntriesOf commands before [] (entry ∷ entries) = ⊥
AreEntriesOf commands before (told ∷ claims) [] = ⊥
AreEntriesOf commands before (told ∷ claims) (entry ∷ entries) =
    IsEntryOf commands before told entry × AreEntriesOf commands (before ++ told ∷ []) claims entries

-- The script can be run, and there are not more claims than a text has lines.
pub record IsSoundClaim (claim : Claim) : Type 0 where
  pub script : IsSoundScript claim.script
  pub few : vec_len claim.claims ≤ most_lines
