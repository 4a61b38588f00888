use Rattle.std.proofs.Common.{ℕ, subst}
use Rattle.rht_model.specs.declared.history.Call.TheVariants.{Release}
use Rattle.rht_session.specs.Sessions.{Begins}
use Rattle.rht_session.specs.Handles.{IsAnswered}
use Rattle.rht_c.proofs.pieces.rht_release_begin.Goals as goal

pub returns-clause-begun : goal.returns-clause-begun
returns-clause-begun c =
    let made = subst (λ (port : ℕ). IsAnswered (Begins (Release port c.args.owner)) c.args.handle.now c.begin.result c.begin.new.self) c.port-port.ensures
    c.begin.ensures.answer in
    record { answer = c.begin.result; told = c.told.ensures; made = made }
