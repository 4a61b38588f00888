-- What calls leave of a handle, and when they are refused.
use Rattle.std.specs.Prelude.{◌≡◌, ◌≢◌, ℕ, ◌<◌, Bool, true, false, not, Option, Result, Ok, Err, List, [], ◌∷◌, ◌++◌, length, map, drop}
use Rattle.std.specs.List.{AllByRecursion, list_all}
use Rattle.rht_words.specs.declared.config.Config.{Config}
use Rattle.rht_words.specs.Settled.{IsSettled}
use Rattle.rht_model.specs.declared.history.Reply.{Reply}
use Rattle.rht_session.specs.declared.session.Session.{Session}
use Rattle.rht_session.specs.declared.handle.Handle.{Handle}
use Rattle.rht_session.specs.declared.refused.Refused.{Refused}
use Rattle.rht_session.specs.declared.refused.Refused.TheVariants.{NotOpen, InCall, NoCall, NoSteps, Waiting}
use Rattle.rht_session.specs.declared.refused.NotOpened.{NotOpened}
use Rattle.rht_session.specs.declared.refused.NotOpened.TheVariants as reasons
use Rattle.rht_session.specs.Held.{is_some}
use Rattle.rht_session.specs.Lists.{shown}
use Rattle.rht_session.specs.Sessions.{IsFit, is_free, untidied_of, GoesOn, AreOpened}

-- the session of a handle, where it has one
abbrev pub sessions_of : Handle → List Session
sessions_of handle = handle.address.sessions

-- it has none
abbrev pub IsBlank : Handle → Type 0
IsBlank handle = sessions_of handle ≡ []

-- whether it has none
abbrev pub is_blank : Handle → Bool
is_blank handle = not (is_some (sessions_of handle))

-- it has this one
abbrev pub Holds : Handle → Session → Type 0
Holds handle session = sessions_of handle ≡ session ∷ []

-- it has one, in no call
abbrev pub HadFree : Handle → Type 0
HadFree handle = (session : Session) × Holds handle session × (is_free session ≡ true)

-- and this many nodes that aren't tidied
abbrev pub HadUntidied : Handle → ℕ → Type 0
HadUntidied handle nodes =
    (session : Session) × Holds handle session × (is_free session ≡ true) × (untidied_of session ≡ nodes)

-- it has one, in a call
abbrev pub HadBusy : Handle → Type 0
HadBusy handle = (session : Session) × Holds handle session × (is_free session ≡ false)

-- It is blank, or the pass of its session is one of its session's table. So it is of each handle that a call has left.
abbrev pub IsFitHandle : Handle → Type 0
IsFitHandle handle = AllByRecursion IsFit (sessions_of handle)

-- the handle had a session, which was in no call or was in one, and has it still; and this is so of it before and behind
pub record Changes (free : Bool) (Made : Session → Session → Type 0) (before after : Handle) : Type 0 where
  pub old : Session
  pub new : Session
  pub had : Holds before old
  pub has : Holds after new
  pub was : is_free old ≡ free
  pub made : Made old new

-- the handle has this session, in no call or in one, and has had it before
pub record Stays (free : Bool) (before after : Handle) : Type 0 where
  pub session : Session
  pub had : Holds before session
  pub has : Holds after session
  pub is : is_free session ≡ free

-- why a call that asks for a session in no call was refused, and that the handle is as it was
abbrev pub IsNotFree : Refused → Handle → Handle → Type 0
IsNotFree NotOpen before after = IsBlank before × IsBlank after
IsNotFree InCall before after = Stays false before after
IsNotFree NoCall before after = ⊥
IsNotFree NoSteps before after = ⊥
IsNotFree Waiting before after = ⊥

-- why a handle wasn't closed, where what isn't tidied is not to be given up, and that the handle is as it was
abbrev pub IsNotTidied : Refused → Handle → Handle → Type 0
IsNotTidied NotOpen before after = IsNotFree NotOpen before after
IsNotTidied InCall before after = IsNotFree InCall before after
IsNotTidied NoCall before after = ⊥
IsNotTidied NoSteps before after = ⊥
IsNotTidied Waiting before after = (stays : Stays true before after) × (0 < untidied_of stays.session)

-- why there was no session in a call
abbrev pub IsNotBusy : Refused → Handle → Handle → Type 0
IsNotBusy NotOpen before after = IsBlank before × IsBlank after
IsNotBusy NoCall before after = Stays true before after
IsNotBusy InCall before after = ⊥
IsNotBusy NoSteps before after = ⊥
IsNotBusy Waiting before after = ⊥

-- why a call wasn't gone on with by so many operations
abbrev pub IsNotGone : ℕ → Refused → Handle → Handle → Type 0
IsNotGone most NotOpen before after = (0 < most) × IsBlank before × IsBlank after
IsNotGone most NoCall before after = (0 < most) × Stays true before after
IsNotGone most NoSteps before after = (most ≡ 0) × (sessions_of after ≡ sessions_of before)
IsNotGone most InCall before after = ⊥
IsNotGone most Waiting before after = ⊥

-- a call that asks for a session in no call was made so, or refused
abbrev pub IsAnswered : {A : Type 0} → (A → Session → Session → Type 0) → Handle → Result A Refused → Handle → Type 0
IsAnswered made before (Ok answer) after = Changes true (made answer) before after
IsAnswered made before (Err refused) after = IsNotFree refused before after

-- the call in progress was gone on with so, by so many operations at most, or that was refused
abbrev pub IsGoneOn : ℕ → Handle → Result (Option Reply) Refused → Handle → Type 0
IsGoneOn most before (Ok answer) after = Changes false (GoesOn most answer) before after
IsGoneOn most before (Err refused) after = IsNotGone most refused before after

-- So many of the session's list, from the place `skip` on, stand at the front of the room, and nothing else of the room and of the session
-- is changed.
abbrev pub Shows : {A : Type 0} → (Session → List A) → ℕ → List A → List A → ℕ → Session → Session → Type 0
Shows list skip before after count old new =
    (new ≡ old)
    × (count ≡ length (shown (list old) skip (length before)))
    × (after ≡ shown (list old) skip (length before) ++ drop count before)

-- these handles have the sessions of a table that has just been opened with this config
abbrev pub AreOpenedHandles : Config → List Handle → Type 0
AreOpenedHandles config handles =
    (opened : List Session) × (map sessions_of handles ≡ map (λ session. session ∷ []) opened) × AreOpened config config.hash opened

-- a table can be opened with this config, and these are as many handles as it has callers
abbrev pub AreAsMany : Config → List Handle → Type 0
AreAsMany config handles = IsSettled config × (length handles ≡ config.callers)

-- and all of them are blank
abbrev pub AreToOpen : Config → List Handle → Type 0
AreToOpen config handles = AreAsMany config handles × (list_all is_blank handles ≡ true)

-- why no table was opened: the first reason that there is
abbrev pub IsWhyNotOpened : Config → List Handle → NotOpened → Type 0
IsWhyNotOpened config handles reasons.Config = ¬ IsSettled config
IsWhyNotOpened config handles reasons.Count = IsSettled config × (length handles ≢ config.callers)
IsWhyNotOpened config handles reasons.Open = AreAsMany config handles × (list_all is_blank handles ≡ false)
IsWhyNotOpened config handles reasons.Memory = AreToOpen config handles
