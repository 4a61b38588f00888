use Rattle.std.proofs.Common.{refl}
use Rattle.rht_session.proofs.HandleCalls.{changes}
use Rattle.rht_session.proofs.handle.Handle.go_on.Goals as goal

pub returns-clause-answer : goal.returns-clause-answer
returns-clause-answer c =
    changes c.need_busy.new.self c.need_busy.ensures.same c.in_ok-need_busy.ensures.busy c.session.result.now c.go_on.new.self c.session.ensures.value refl c.go_on.ensures.gone_on
