-- A handle stays fit where its session does, and where a call is refused.
use Rattle.std.proofs.Common.{Bool, true, false, sym, subst}
use Rattle.std.specs.List.{AllByRecursion}
use Rattle.rht_session.specs.declared.session.Session.{Session}
use Rattle.rht_session.specs.declared.handle.Handle.{Handle}
use Rattle.rht_session.specs.declared.refused.Refused.{Refused}
use Rattle.rht_session.specs.declared.refused.Refused.TheVariants.{NotOpen, InCall, NoCall, NoSteps, Waiting}
use Rattle.rht_session.specs.Sessions.{IsFit}
use Rattle.rht_session.specs.Handles.{IsBlank, Holds, IsFitHandle, Stays, IsNotFree, IsNotTidied, IsNotBusy}

pub blank_fit : (handle : Handle) → IsBlank handle → IsFitHandle handle
blank_fit handle blank = subst (AllByRecursion IsFit) (sym blank) tt

pub held_fit : (handle : Handle) (session : Session) → Holds handle session → IsFit session → IsFitHandle handle
held_fit handle session has fit = subst (AllByRecursion IsFit) (sym has) (fit, tt)

pub session_fit : (handle : Handle) (session : Session) → Holds handle session → IsFitHandle handle → IsFit session
session_fit handle session has fit = (subst (AllByRecursion IsFit) has fit).0

module _ (before after : Handle) (fit : IsFitHandle before) where
  stays_fit : (free : Bool) → Stays free before after → IsFitHandle after
  stays_fit free stays = held_fit after stays.session stays.has (session_fit before stays.session stays.had fit)

  pub not_free_fit : (refused : Refused) → IsNotFree refused before after → IsFitHandle after
  not_free_fit NotOpen is = blank_fit after is.1
  not_free_fit InCall is = stays_fit false is
  not_free_fit NoCall is = absurd is
  not_free_fit NoSteps is = absurd is
  not_free_fit Waiting is = absurd is

  pub not_tidied_fit : (refused : Refused) → IsNotTidied refused before after → IsFitHandle after
  not_tidied_fit NotOpen is = not_free_fit NotOpen is
  not_tidied_fit InCall is = not_free_fit InCall is
  not_tidied_fit NoCall is = absurd is
  not_tidied_fit NoSteps is = absurd is
  not_tidied_fit Waiting is = stays_fit true is.0

  pub not_busy_fit : (refused : Refused) → IsNotBusy refused before after → IsFitHandle after
  not_busy_fit NotOpen is = blank_fit after is.1
  not_busy_fit NoCall is = stays_fit true is
  not_busy_fit InCall is = absurd is
  not_busy_fit NoSteps is = absurd is
  not_busy_fit Waiting is = absurd is
