-- What lending a session leaves of its address.
use Rattle.std.specs.Prelude.{[], ◌∷◌}
use Rattle.std.specs.Borrow.{Lends, MutBor, Fml}
use Rattle.rht_session.specs.declared.address.Address.{Address}
use Rattle.rht_session.specs.declared.session.Session.{Session}
use Rattle.rht_session.specs.contracts.address.Address.{the_row as address_row}
use Rattle.rht_session.specs.contracts.session.Session.{the_row as session_row}

-- the address, of this session
abbrev pub with_session : Address → Session → Address
with_session address session = record address { sessions = session ∷ [] }

-- it ends with the last value behind the reference
abbrev pub LendsSession : MutBor Address → MutBor Session → Fml
LendsSession address lent = Lends address_row session_row address lent (with_session address.now)
