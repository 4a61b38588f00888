use Rattle.std.proofs.Common.{ℕ, subst}
use Rattle.rht_model.specs.declared.history.Call.TheVariants.{Rebind}
use Rattle.rht_session.specs.Sessions.{Begins}
use Rattle.rht_session.specs.Handles.{IsAnswered}
use Rattle.rht_c.proofs.pieces.rht_rebind_begin.Goals as goal

pub returns-clause-begun : goal.returns-clause-begun
returns-clause-begun c =
    let made = subst (λ (port : ℕ). IsAnswered (Begins (Rebind port c.args.owner c.args.with)) c.args.handle.now c.begin.result c.begin.new.self) c.port.ensures
    c.begin.ensures.answer in
    record { answer = c.begin.result; told = c.told.ensures; made = made }
