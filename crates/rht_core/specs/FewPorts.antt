-- Runs in which so few ports are bound that no table is full: then no table is made, and no bind is refused for its sake.
use Rattle.std.specs.Prelude.{◌≡◌, ◌≢◌, ℕ, ◌≤◌, ◌<◌, true, false, Option, None, Some, IfSome, List, length}
use Rattle.std.specs.List.{AllByRecursion}
use Rattle.rht_words.specs.declared.env.Env.{Env}
use Rattle.rht_words.specs.Members.{In}
use Rattle.rht_words.specs.Opening.{opening_word}
use Rattle.rht_words.specs.Places.{CurrentTable, NextSerial, Slot, SlotWord, IsSlotWord, word_at}
use Rattle.rht_words.specs.Sizes.{first_size}
use Rattle.rht_model.specs.Answers.{is_refusal}
use Rattle.rht_model.specs.Multimap.{Port}
use Rattle.rht_model.specs.declared.finished.Finished.{Finished}
use Rattle.rht_model.specs.declared.history.Call.{Call}
use Rattle.rht_model.specs.declared.history.Call.TheVariants.{Bind, Find, All, Release, Rebind, Walk, Work, Tidy, Count}
use Rattle.rht_model.specs.declared.history.Cursor.{Cursor}
use Rattle.rht_model.specs.declared.history.Reply.{Reply}
use Rattle.rht_model.specs.declared.history.Reply.TheVariants.{NoNode, Elsewhere, Again}
use Rattle.rht_core.specs.declared.book.Book.{Book}
use Rattle.rht_core.specs.declared.event.Event.{Event}
use Rattle.rht_core.specs.Runs.{World, run_of, IsAdmitted}
use Rattle.rht_stands.specs.StandsFor.{AreBound}
use Rattle.rht_core.specs.RunHistories.{bindings_behind}

-- a bind binds one of these ports; any other call binds none that isn't bound
abbrev pub BindsAmong : List Port → Call → Type 0
BindsAmong ports (Bind port owner once) = In port ports
BindsAmong ports (Find port) = Unit {0}
BindsAmong ports (All port) = Unit {0}
BindsAmong ports (Release port owner) = Unit {0}
BindsAmong ports (Rebind port owner new) = Unit {0}
BindsAmong ports (Walk from limit) = Unit {0}
BindsAmong ports Work = Unit {0}
BindsAmong ports Tidy = Unit {0}
BindsAmong ports Count = Unit {0}

-- so do a caller's calls that have ended, and the one in progress
pub record AreCallsAmong (ports : List Port) (book : Book) : Type 0 where
  pub ended : AllByRecursion (λ done. BindsAmong ports done.call) book.finished
  pub progress : IfSome book.call (BindsAmong ports)

-- The table begins with 64 buckets or more and doesn't shrink, and the binds of the run, those that have ended and those in progress,
-- have 15 ports at most.
pub record HasFewPorts {M : Type 0} (env : Env) (w : World M) : Type 0 where
  pub first : 64 ≤ first_size env.config
  pub keeps_size : env.config.shrink ≡ false
  pub ports : List Port
  pub few : length ports ≤ 15
  pub among : (c : ℕ) → AreCallsAmong ports (w.books c)

-- The first table is the current one, no serial was given to another one, and each word of each slot is as it was at opening: so no
-- table was made, and none was attached.
pub record IsNoTableMade (env : Env) (words : List ℕ) : Type 0 where
  pub current : word_at env.geometry words CurrentTable ≡ opening_word env CurrentTable
  pub serial : word_at env.geometry words NextSerial ≡ opening_word env NextSerial
  pub slots : (slot : ℕ) (word : SlotWord) → slot < 8 → IsSlotWord word
      → word_at env.geometry words (Slot slot word) ≡ opening_word env (Slot slot word)

-- a bind was refused for want of a node alone
abbrev pub IsBindTaken : Call → Reply → Type 0
IsBindTaken (Bind port owner once) reply = is_refusal reply ≡ true → reply ≡ NoNode
IsBindTaken (Find port) reply = Unit {0}
IsBindTaken (All port) reply = Unit {0}
IsBindTaken (Release port owner) reply = Unit {0}
IsBindTaken (Rebind port owner new) reply = Unit {0}
IsBindTaken (Walk from limit) reply = Unit {0}
IsBindTaken Work reply = Unit {0}
IsBindTaken Tidy reply = Unit {0}
IsBindTaken Count reply = Unit {0}

-- a walk that goes on from no cursor hasn't to begin anew
abbrev pub IsWalkTaken : Option Cursor → Reply → Type 0
IsWalkTaken None reply = (table : ℕ) → reply ≢ Again table
IsWalkTaken (Some cursor) reply = Unit {0}

-- and a resizing because another caller was at work alone
abbrev pub IsCallTaken : Call → Reply → Type 0
IsCallTaken (Bind port owner once) reply = is_refusal reply ≡ true → reply ≡ NoNode
IsCallTaken Work reply = is_refusal reply ≡ true → reply ≡ Elsewhere
IsCallTaken (Find port) reply = Unit {0}
IsCallTaken (All port) reply = Unit {0}
IsCallTaken (Release port owner) reply = Unit {0}
IsCallTaken (Rebind port owner new) reply = Unit {0}
IsCallTaken (Walk from limit) reply = IsWalkTaken from reply
IsCallTaken Tidy reply = Unit {0}
IsCallTaken Count reply = Unit {0}

-- no table was made, and no call was refused for want of one, or because one is full
pub record StaysWithFirst {M : Type 0} (env : Env) (w : World M) : Type 0 where
  pub none_made : IsNoTableMade env w.core.words
  pub taken : (c : ℕ) → AllByRecursion (λ (done : Finished). IsCallTaken done.call done.reply) (w.books c).finished

module _ (M : Type 0) (mix : ℕ → ℕ → ℕ → ℕ) where
  -- in every run with few ports the first table stays alone
  abbrev pub FewPorts : Type 0
  FewPorts =
      (env : Env) (events : List Event) → IsAdmitted events
      → let w : World M = run_of mix env events in HasFewPorts env w → StaysWithFirst env w

  -- The table has one caller, begins with 16 buckets or more and doesn't shrink, and fewer than 16 ports are bound after each event.
  pub record IsForOne (env : Env) (events : List Event) : Type 0 where
    pub one : env.config.callers ≡ 1
    pub first : 16 ≤ first_size env.config
    pub keeps_size : env.config.shrink ≡ false
    pub few : (i : ℕ) → AreBound (bindings_behind M mix env events i) 16 → ⊥

  -- in every such run no bind was refused but for want of a node
  abbrev pub OneCaller : Type 0
  OneCaller =
      (env : Env) (events : List Event) (c : ℕ) → IsAdmitted events → IsForOne env events
      → let w : World M = run_of mix env events in
      AllByRecursion (λ (done : Finished). IsBindTaken done.call done.reply) (w.books c).finished
