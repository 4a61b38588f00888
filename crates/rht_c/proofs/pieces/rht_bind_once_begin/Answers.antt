use Rattle.std.proofs.Common.{ℕ, true, subst}
use Rattle.rht_model.specs.declared.history.Call.TheVariants.{Bind}
use Rattle.rht_session.specs.Sessions.{Begins}
use Rattle.rht_session.specs.Handles.{IsAnswered}
use Rattle.rht_c.proofs.pieces.rht_bind_once_begin.Goals as goal

pub returns-clause-begun : goal.returns-clause-begun
returns-clause-begun c =
    let made = subst (λ (port : ℕ). IsAnswered (Begins (Bind port c.args.owner true)) c.args.handle.now c.begin.result c.begin.new.self) c.port.ensures
    c.begin.ensures.answer in
    record { answer = c.begin.result; told = c.told.ensures; made = made }
