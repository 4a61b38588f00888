-- The verdict on a claimed history.
-- Claims are right as far as each answers a command of its worker, and their entries are a legal history. The first claim that isn't
-- right is told by its number. Where all are right, a worker may still have commands left.
use Rattle.std.specs.Prelude.{◌≡◌, ℕ, ◌+◌, ◌<◌, ◌≤◌, None, Some, List, [], ◌∷◌, ◌++◌, length}
use Rattle.rht_words.specs.declared.config.Kind.{Kind}
use Rattle.rht_model.specs.declared.history.Call.{Call}
use Rattle.rht_model.specs.declared.history.Entry.{Entry}
use Rattle.rht_model.specs.Multimap.{Port, unbound}
use Rattle.rht_model.specs.Listing.{Lists}
use Rattle.rht_model.specs.Histories.{IsLegal, bindings_left}
use Rattle.rht_check.specs.declared.claim.Claim.{Claim}
use Rattle.rht_check.specs.declared.claim.Verdict.{Verdict}
use Rattle.rht_check.specs.declared.claim.Verdict.TheVariants.{Legal, Extra, Wrong, Unfinished}
use Rattle.rht_check.specs.Claims.{Told, commands_of, claims_of, command_behind, entry_of, AreEntriesOf}

module _ (kind : Kind) (commands : List (ℕ × Call)) where
  -- The claims are right, and these are their entries.
  pub record AreRight (claims : List Told) (entries : List Entry) : Type 0 where
    pub given : AreEntriesOf commands [] claims entries
    pub legal : IsLegal kind entries

  -- There is a claim of this number, counted from 1, and all claims before it are right.
  pub record IsReached (claims : List Told) (number : ℕ) : Type 0 where
    pub before : List Told
    pub told : Told
    pub behind : List Told
    pub entries : List Entry
    pub parts : claims ≡ before ++ told ∷ behind
    pub counted : number ≡ length before + 1
    pub right : AreRight before entries

  -- The claim of this number is the first for which its worker has no command left.
  pub record IsExtra (claims : List Told) (number : ℕ) : Type 0 where
    pub at : IsReached claims number
    pub none : command_behind commands at.before at.told ≡ None

  -- The claim of this number answers a command, and is the first with whose entry the history isn't legal.
  pub record IsWrong (claims : List Told) (number : ℕ) : Type 0 where
    pub at : IsReached claims number
    pub call : Call
    pub given : command_behind commands at.before at.told ≡ Some call
    pub illegal : ¬ IsLegal kind (at.entries ++ entry_of at.told call ∷ [])

  -- All claims are right, and this worker is the first that has more commands than claims.
  pub record IsUnfinished (claims : List Told) (worker : ℕ) : Type 0 where
    pub entries : List Entry
    pub right : AreRight claims entries
    pub more : claims_of worker claims < length (commands_of worker commands)
    pub first : (other : ℕ) → other < worker → length (commands_of other commands) ≤ claims_of other claims

  -- All claims are right, no worker has more commands than claims, and these are the bindings that the entries leave.
  pub record IsAccepted (claims : List Told) (pairs : List (Port × List ℕ)) : Type 0 where
    pub entries : List Entry
    pub right : AreRight claims entries
    pub all : (worker : ℕ) → length (commands_of worker commands) ≤ claims_of worker claims
    pub listed : Lists pairs (bindings_left kind unbound entries)

  -- this is the verdict on these claims
  abbrev pub IsVerdictOn : List Told → Verdict → Type 0
  IsVerdictOn claims (Legal bindings) = IsAccepted claims bindings.pairs
  IsVerdictOn claims (Extra number) = IsExtra claims number
  IsVerdictOn claims (Wrong number) = IsWrong claims number
  IsVerdictOn claims (Unfinished worker) = IsUnfinished claims worker

-- this is the verdict on a claimed history
abbrev pub IsVerdict : Claim → Verdict → Type 0
IsVerdict claim verdict =
    IsVerdictOn claim.script.config.kind claim.script.commands.items claim.claims.items verdict
