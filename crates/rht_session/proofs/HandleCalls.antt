-- What a call on a handle leaves: the session was asked whether it is in a call, and then it was lent and made the call.
use Rattle.std.proofs.Common.{◌≡◌, Bool, [], ◌∷◌, sym, ap, ◌∙◌}
use Rattle.rht_session.specs.declared.session.Session.{Session}
use Rattle.rht_session.specs.declared.handle.Handle.{Handle}
use Rattle.rht_session.specs.Sessions.{is_free}
use Rattle.rht_session.specs.Handles.{sessions_of, Holds, Changes}

module _ {free : Bool} {before after : Handle} (asked : Handle) where
  -- asking has changed no session, so the one that was lent is the handle's
  pub changes : {Made : Session → Session → Type 0} → sessions_of asked ≡ sessions_of before
      → (session : Session) × Holds asked session × (is_free session ≡ free) → (lent new : Session) → Holds asked lent
      → Holds after new → Made lent new → Changes free Made before after
  changes same was lent new holds has made =
      let both : was.0 ∷ [] ≡ lent ∷ [] = sym was.1 ∙ holds in
      let one : was.0 ≡ lent = cc in
      record {
        old = lent;
        new = new;
        had = sym same ∙ holds;
        has = has;
        was = ap is_free (sym one) ∙ was.2;
        made = made;
      }
