-- When a history fits a run: it is legal, its entries are those of the calls about bindings, each with the number of an event
-- between its call's beginning and last operation, and after each event its entries so far leave what the words stand for.
use Rattle.std.specs.Prelude.{◌≡◌, ◌≢◌, ℕ, ◌+◌, ◌<◌, ◌≤◌, if◌then◌else◌, Option, Some, None, is_some, List, [], ◌∷◌, length, take}
use Rattle.std.specs.List.{Any}
use Rattle.rht_words.specs.declared.env.Env.{Env}
use Rattle.rht_model.specs.declared.history.Call.{Call}
use Rattle.rht_model.specs.Multimap.{Multimap, Agree, unbound}
use Rattle.rht_model.specs.Answers.{port_of}
use Rattle.rht_model.specs.Histories.{IsLegal, bindings_left}
use Rattle.rht_core.specs.declared.event.Event.{Event}
use Rattle.rht_core.specs.Runs.{IsAdmitted}
use Rattle.rht_core.specs.Traces.{Did, Past, Traced, traced_of, behind_call}
use Rattle.rht_core.specs.Numbered.{Numbered, history_of, numbered_to, NeverFalls, entries_of}
use Rattle.rht_core.specs.Alone.{bindings_at}

-- the entry is of this call that has ended, and lies between its beginning and its last operation
pub record IsEntryOf (past : Past) (x : Numbered) : Type 0 where
  pub call : x.entry.call ≡ past.done.call
  pub reply : x.entry.reply ≡ past.done.reply
  pub owners : x.entry.owners ≡ past.done.owners
  pub begun : past.begin ≤ x.number
  pub ended : x.number < behind_call past

-- the entry is of the call in progress; which reply it will have isn't said
pub record IsEntryInProgress (begin count : ℕ) (call : Call) (x : Numbered) : Type 0 where
  pub same_call : x.entry.call ≡ call
  pub begun : begin ≤ x.number
  pub so_far : x.number < count

-- these are the entries of the call in progress: one where it has changed bindings, and else none
abbrev pub AreInProgress : Type 0 → Option Call → ℕ → ℕ → List Numbered → Type 0
AreInProgress Changed None begin count xs = xs ≡ []
AreInProgress Changed (Some call) begin count [] = ¬ Changed
AreInProgress Changed (Some call) begin count (x ∷ xs) = Changed × IsEntryInProgress begin count call x × (xs ≡ [])

-- the calls about bindings
abbrev pub about_bindings : List Past → List Past
about_bindings [] = []
about_bindings (past ∷ calls) =
    if is_some (port_of past.done.call) then past ∷ about_bindings calls else about_bindings calls

-- the entries are those of these calls, one for each, in order, and then that of the call in progress
abbrev pub AreOfCalls : Type 0 → Option Call → ℕ → ℕ → List Past → List Numbered → Type 0
AreOfCalls Changed call begin count [] xs = AreInProgress Changed call begin count xs
AreOfCalls Changed call begin count (past ∷ calls) [] = ⊥
AreOfCalls Changed call begin count (past ∷ calls) (x ∷ xs) = IsEntryOf past x × AreOfCalls Changed call begin count calls xs

module _ (M : Type 0) (mix : ℕ → ℕ → ℕ → ℕ) where
  -- what the words stand for after so many events
  abbrev pub bindings_behind : Env → List Event → ℕ → Multimap
  bindings_behind env events count = bindings_at M mix env (take count events)

  -- the operation has changed what some port is bound to
  abbrev pub ChangesBindings : Env → List Event → Did → Type 0
  ChangesBindings env events did =
      (port : ℕ) × (bindings_behind env events did.index port ≢ bindings_behind env events (did.index + 1) port)

  -- the history fits the run
  pub record Fits (env : Env) (events : List Event) (history : List Numbered) : Type 0 where
    pub legal : IsLegal env.config.kind (history_of history)
    pub rising : NeverFalls 0 history
    pub calls : (c : ℕ)
        → let r : Traced M = traced_of mix env events in
        AreOfCalls (Any (ChangesBindings env events) (r.traces c).steps) (r.world.books c).call (r.traces c).begin (length events) (about_bindings (r.traces c).past) (entries_of c history)
    pub agrees : (i : ℕ) → i < length events
        → Agree (bindings_left env.config.kind unbound (numbered_to i history)) (bindings_behind env events (i + 1))

  -- in every run there is a history that fits it
  abbrev pub HasFittingHistory : Type 0
  HasFittingHistory =
      (env : Env) (events : List Event) → IsAdmitted events → (history : List Numbered) × Fits env events history
