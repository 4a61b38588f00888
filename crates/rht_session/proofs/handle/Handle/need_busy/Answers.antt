use Rattle.std.proofs.Common.{refl, sym, ap, ◌∙◌}
use Rattle.rht_session.specs.Held.{one_if}
use Rattle.rht_session.proofs.OneSession.{the_one}
use Rattle.rht_session.proofs.handle.Handle.need_busy.Goals as goal

pub session-requires : goal.session-requires
session-requires c = let handle = c.args.self.now in the_one handle.address.sessions (handle.told ∙ ap one_if c.if-not-self.false)

pub returns-then-is_free-clause-refused : goal.returns-then-is_free-clause-refused
returns-then-is_free-clause-refused c = record {
  session = c.session.result.now;
  had = c.session.ensures.value;
  has = refl;
  is = sym c.if-is_free.ensures;
}

pub returns-clause-busy : goal.returns-clause-busy
returns-clause-busy c = (c.session.result.now, refl, sym c.if-is_free.ensures)
