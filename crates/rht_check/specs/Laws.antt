-- What follows from the definitions alone, of all claimed histories.
use Rattle.std.specs.Prelude.{◌≡◌, ◌↔◌, ℕ, ◌+◌, ◌≤◌, ◌==◌, List, [], ◌++◌, length, map, filter}
use Rattle.rht_words.specs.declared.config.Kind.{Kind}
use Rattle.rht_model.specs.declared.history.Call.{Call}
use Rattle.rht_model.specs.declared.history.Entry.{Entry}
use Rattle.rht_model.specs.Multimap.{unbound}
use Rattle.rht_model.specs.Listing.{Listing, Lists}
use Rattle.rht_model.specs.Histories.{IsLegal, bindings_left}
use Rattle.rht_check.specs.declared.claim.Verdict.{Verdict}
use Rattle.rht_check.specs.declared.claim.Verdict.TheVariants.{Legal, Extra, Wrong, Unfinished}
use Rattle.rht_check.specs.Claims.{Told, commands_of, claims_of, AreEntriesOf}
use Rattle.rht_check.specs.Verdicts.{IsVerdictOn}

-- the claim that an entry is, by its worker, which is counted from 1
abbrev pub told_in : Entry → Told
told_in entry = (entry.caller + 1, entry.reply, entry.owners)

-- what a worker's entries answer, in their order
abbrev pub answered_by : ℕ → List Entry → List Call
answered_by worker entries = map (λ entry. entry.call) (filter (λ entry. entry.caller + 1 == worker) entries)

-- The entries of these claims are a legal history that has each worker's commands in their order, all of them.
pub record IsWholeHistory (kind : Kind) (commands : List (ℕ × Call)) (claims : List Told) (entries : List Entry) : Type 0 where
  pub told : map told_in entries ≡ claims
  pub in_order : (worker : ℕ) → answered_by worker entries ≡ commands_of worker commands
  pub legal : IsLegal kind entries

-- A verdict is that the history is legal exactly where it is such a history, and its bindings are those that it leaves. No command is of
-- a worker 0.
abbrev pub AcceptsWholeHistories : Type 0
AcceptsWholeHistories =
    (kind : Kind) (commands : List (ℕ × Call)) (claims : List Told) (bindings : Listing)
    → commands_of 0 commands ≡ []
    → IsVerdictOn kind commands claims (Legal bindings)
    ↔ ((entries : List Entry) × IsWholeHistory kind commands claims entries × Lists bindings.pairs (bindings_left kind unbound entries))

-- one claim more, or several, leave a wrong one wrong, at the same place
abbrev pub StaysWrong : Type 0
StaysWrong =
    (kind : Kind) (commands : List (ℕ × Call)) (claims more : List Told) (number : ℕ)
    → IsVerdictOn kind commands claims (Wrong number) → IsVerdictOn kind commands (claims ++ more) (Wrong number)

-- where all claims have entries and each worker has as many claims as commands, the history is accepted exactly if it is legal
abbrev pub JudgesHistories : Type 0
JudgesHistories =
    (kind : Kind) (commands : List (ℕ × Call)) (claims : List Told) (entries : List Entry) (bindings : Listing)
    → AreEntriesOf commands [] claims entries
    → ((worker : ℕ) → length (commands_of worker commands) ≤ claims_of worker claims)
    → Lists bindings.pairs (bindings_left kind unbound entries)
    → IsVerdictOn kind commands claims (Legal bindings) ↔ IsLegal kind entries

-- the verdict, but for how many more owners its bindings have room
abbrev pub without_room : Verdict → Verdict
without_room (Legal bindings) = Legal (record { pairs = bindings.pairs; room = 0 })
without_room (Extra number) = Extra number
without_room (Wrong number) = Wrong number
without_room (Unfinished worker) = Unfinished worker

-- two verdicts on the same claims are one
abbrev pub HasOneVerdict : Type 0
HasOneVerdict =
    (kind : Kind) (commands : List (ℕ × Call)) (claims : List Told) (first second : Verdict)
    → IsVerdictOn kind commands claims first → IsVerdictOn kind commands claims second
    → without_room first ≡ without_room second
