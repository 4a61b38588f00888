use Rattle.std.proofs.Common.{refl}
use Rattle.rht_session.proofs.HandleCalls.{changes}
use Rattle.rht_session.proofs.handle.Handle.set_out.Goals as goal

pub returns-clause-answer : goal.returns-clause-answer
returns-clause-answer c =
    changes c.need_free.new.self c.need_free.ensures.same c.in_ok-need_free.ensures.free c.session.result.now c.set_out.new.self c.session.ensures.value refl c.set_out.ensures.set_out
