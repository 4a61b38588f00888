use Rattle.std.proofs.Common.{ℕ, true, subst}
use Rattle.rht_model.specs.declared.history.Call.TheVariants.{Bind}
use Rattle.rht_session.specs.Sessions.{SetsOut}
use Rattle.rht_session.specs.Handles.{IsAnswered}
use Rattle.rht_c.proofs.pieces.rht_bind_once_in.Goals as goal

pub returns-clause-set_out : goal.returns-clause-set_out
returns-clause-set_out c =
    let made = subst (λ (port : ℕ). IsAnswered (SetsOut (Bind port c.args.owner true)) c.args.handle.now c.set_out.result c.set_out.new.self) c.port.ensures
    c.set_out.ensures.answer in
    record { answer = c.set_out.result; told = c.told.ensures; made = made }
