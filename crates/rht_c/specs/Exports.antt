-- What exports do: what the calls on handles do, and C is told how each ended.
use Rattle.std.specs.Prelude.{◌≡◌, ℕ, ◌⊎◌, true, false, Option, Result, MatchResult, IfOk, IfErr, List, map}
use Rattle.std.specs.List.{AllByRecursion, list_all}
use Rattle.rht_model.specs.declared.bindings.Closed.{Closed}
use Rattle.rht_model.specs.declared.history.Call.{Call}
use Rattle.rht_model.specs.declared.history.Call.TheVariants.{Find}
use Rattle.rht_model.specs.declared.history.Reply.{Reply}
use Rattle.rht_session.specs.declared.session.Session.{Session}
use Rattle.rht_session.specs.declared.handle.Handle.{Handle}
use Rattle.rht_session.specs.declared.refused.Refused.{Refused}
use Rattle.rht_session.specs.declared.refused.NotOpened.{NotOpened}
use Rattle.rht_session.specs.declared.refused.NotOpened.TheVariants as reasons
use Rattle.rht_session.specs.declared.closing.NotClosed.{NotClosed}
use Rattle.rht_session.specs.declared.plain.CPair.{CPair}
use Rattle.rht_session.specs.declared.plain.CClosed.{CClosed}
use Rattle.rht_session.specs.declared.plain.CConfig.{CConfig}
use Rattle.rht_session.specs.declared.plain.CReply.{CReply}
use Rattle.rht_session.specs.Plain.{config_said, has_no_spare, c_config}
use Rattle.rht_session.specs.Sessions.{Ends, LooksUp, Begins, SetsOut}
use Rattle.rht_session.specs.Closings.{HaveClosed, IsWhyNotClosed}
use Rattle.rht_session.specs.Handles.{sessions_of, is_blank, IsBlank, HadUntidied, IsFitHandle, IsNotFree, IsNotTidied, IsAnswered, IsGoneOn, Shows, AreToOpen, AreOpenedHandles, IsWhyNotOpened}
use Rattle.rht_session.specs.Told.{opening_code, closing_code, IsTold, IsToldWhole, IsToldFound, IsToldClosed, IsToldClosedNow}

-- a table can be opened with this config by these handles: also its spare words are 0
abbrev pub CanOpen : CConfig → List Handle → Type 0
CanOpen config handles = (has_no_spare config ≡ true) × AreToOpen (config_said config) handles

-- why none was opened: a spare word isn't 0, or the first reason that there is otherwise
abbrev pub IsWhyNone : CConfig → List Handle → NotOpened → Type 0
IsWhyNone config handles why =
    ((has_no_spare config ≡ false) × (why ≡ reasons.Config))
    ⊎ ((has_no_spare config ≡ true) × IsWhyNotOpened (config_said config) handles why)

-- a table was opened with the rounded config, which is written, or that was refused
pub record HasOpened (config_before : CConfig) (before : List Handle) (code : ℕ) (config_after : CConfig) (after : List Handle)
    : Type 0 where
  pub answer : Result (Unit {0}) NotOpened
  pub told : code ≡ opening_code answer
  pub opened : IfOk answer (λ _. AreOpenedHandles (config_said config_before) after)
  pub fit : IfOk answer (λ _. AllByRecursion IsFitHandle after)
  pub due : IfOk answer (λ _. CanOpen config_before before)
  pub written : IfOk answer (λ _. config_after ≡ c_config (config_said config_before))
  pub why : IfErr answer (IsWhyNone config_before before)
  pub same : IfErr answer (λ _. (config_after ≡ config_before) × (after ≡ before))

-- a handle was closed that had no nodes to tidy, or that was refused
pub record HasClosed (before : Handle) (code : ℕ) (after : Handle) : Type 0 where
  pub answer : Result (Unit {0}) Refused
  pub told : code ≡ closing_code answer
  pub closed : IfOk answer (λ _. IsBlank after × HadUntidied before 0)
  pub refused : IfErr answer (λ refused. IsNotTidied refused before after)

-- a handle was closed, and so many nodes given up that it hadn't tidied, or that was refused
pub record HasClosedNow (before : Handle) (told_before code told_after : ℕ) (after : Handle) : Type 0 where
  pub answer : Result ℕ Refused
  pub told : IsToldClosedNow answer code told_before told_after
  pub closed : IfOk answer (λ given_up. IsBlank after × HadUntidied before given_up)
  pub refused : IfErr answer (λ refused. IsNotFree refused before after)

-- handles of one table were closed together, or that was refused
pub record HasClosedAll (before : List Handle) (room_before : List CPair) (told_before : CClosed) (code : ℕ) (room_after : List CPair)
    (told_after : CClosed) (after : List Handle)
    : Type 0 where
  pub answer : Result (Option Closed) NotClosed
  pub told : IsToldClosed answer code room_before room_after told_before told_after
  pub blank : IfOk answer (λ _. list_all is_blank after ≡ true)
  pub closed : IfOk answer (HaveClosed before)
  pub same : IfErr answer (λ _. map sessions_of after ≡ map sessions_of before)
  pub why : IfErr answer (IsWhyNotClosed before)

-- a port was looked up, or that was refused
pub record HasFound (port : ℕ) (before : Handle) (owner_before code owner_after : ℕ) (after : Handle) : Type 0 where
  pub answer : Result Reply Refused
  pub told : IsToldFound answer code owner_before owner_after
  pub made : IsAnswered (λ reply old new. Ends (Find port) reply old new × LooksUp port reply old new) before answer after

-- a call was made as a whole, or that was refused
pub record HasMade (call : Call) (before : Handle) (reply_before : CReply) (code : ℕ) (reply_after : CReply) (after : Handle)
    : Type 0 where
  pub answer : Result Reply Refused
  pub told : IsToldWhole answer code reply_before reply_after
  pub made : IsAnswered (Ends call) before answer after

-- a call was begun, or that was refused
pub record HasBegun (call : Call) (before : Handle) (reply_before : CReply) (code : ℕ) (reply_after : CReply) (after : Handle)
    : Type 0 where
  pub answer : Result (Option Reply) Refused
  pub told : IsTold answer code reply_before reply_after
  pub made : IsAnswered (Begins call) before answer after

-- a call was begun and made as far as it need not wait, or that was refused
pub record HasSetOut (call : Call) (before : Handle) (reply_before : CReply) (code : ℕ) (reply_after : CReply) (after : Handle)
    : Type 0 where
  pub answer : Result (Option Reply) Refused
  pub told : IsTold answer code reply_before reply_after
  pub made : IsAnswered (SetsOut call) before answer after

-- the call in progress was gone on with by so many operations at most, or that was refused
pub record HasGoneOn (most : ℕ) (before : Handle) (reply_before : CReply) (code : ℕ) (reply_after : CReply) (after : Handle)
    : Type 0 where
  pub answer : Result (Option Reply) Refused
  pub told : IsTold answer code reply_before reply_after
  pub made : IsGoneOn most before answer after

-- so many of a list were written into a room; none where that was refused
pub record HasShown {A : Type 0} (list : Session → List A) (skip : ℕ) (before : Handle) (room_before : List A) (count : ℕ)
    (room_after : List A) (after : Handle)
    : Type 0 where
  pub answer : Result ℕ Refused
  pub told : MatchResult answer (λ written. count ≡ written) (λ _. (count ≡ 0) × (room_after ≡ room_before))
  pub made : IsAnswered (Shows list skip room_before room_after) before answer after
