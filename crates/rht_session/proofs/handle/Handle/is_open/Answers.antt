use Rattle.rht_session.proofs.OneSession.{told_is_some}
use Rattle.rht_session.proofs.handle.Handle.is_open.Goals as goal

pub returns : goal.returns
returns c = told_is_some c.args.self.now.address.sessions c.args.self.now.in_use c.args.self.now.told
