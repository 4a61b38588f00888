use Rattle.std.proofs.Common.{ℕ, subst}
use Rattle.rht_model.specs.declared.history.Call.TheVariants.{Find}
use Rattle.rht_session.specs.Sessions.{Ends, LooksUp}
use Rattle.rht_session.specs.Handles.{IsAnswered}
use Rattle.rht_c.proofs.whole.rht_find.Goals as goal

pub returns-clause-found : goal.returns-clause-found
returns-clause-found c =
    let made = subst
    (λ (port : ℕ). IsAnswered (λ reply old new. Ends (Find port) reply old new × LooksUp port reply old new) c.args.handle.now c.find.result
    c.find.new.self) c.port.ensures c.find.ensures.answer in
    record { answer = c.find.result; told = c.told_found.ensures; made = made }
