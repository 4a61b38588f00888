use Rattle.std.proofs.Common.{◌∙◌, ap}
use Rattle.rht_session.specs.Held.{one_if}
use Rattle.rht_session.proofs.OneSession.{the_one}
use Rattle.rht_session.proofs.handle.Handle.into_box.Goals as goal

pub into_box-requires : goal.into_box-requires
into_box-requires c = the_one c.args.self.address.sessions (c.args.self.told ∙ ap one_if c.if-in_use.true)
