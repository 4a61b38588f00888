-- A handle alone is of one table.
use Rattle.std.proofs.Common.{List, [], ◌∷◌}
use Rattle.rht_session.specs.declared.session.Session.{Session}
use Rattle.rht_session.specs.declared.handle.Handle.{Handle}
use Rattle.rht_session.specs.Closings.{HaveAll, ShareOneTable}

pub one_alone : (handle : Handle) (all : List Session) → HaveAll (handle ∷ []) all → ShareOneTable all
one_alone handle [] have = tt
one_alone handle (session ∷ []) have = tt
one_alone handle (session ∷ other ∷ others) have = absurd cc
