use Rattle.std.proofs.Common.{refl}
use Rattle.rht_session.proofs.HandleCalls.{changes}
use Rattle.rht_session.proofs.handle.Handle.find.Goals as goal

pub returns-clause-answer : goal.returns-clause-answer
returns-clause-answer c =
    changes c.need_free.new.self c.need_free.ensures.same c.in_ok-need_free.ensures.free c.session.result.now c.find.new.self c.session.ensures.value refl (c.find.ensures.ended, c.find.ensures.looked)
