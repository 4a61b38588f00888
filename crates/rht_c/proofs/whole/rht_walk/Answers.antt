use Rattle.std.proofs.Common.{subst}
use Rattle.std.specs.Prelude.{Option}
use Rattle.rht_model.specs.declared.history.Cursor.{Cursor}
use Rattle.rht_model.specs.declared.history.Call.TheVariants.{Walk}
use Rattle.rht_session.specs.Sessions.{Ends}
use Rattle.rht_session.specs.Handles.{IsAnswered}
use Rattle.rht_c.proofs.whole.rht_walk.Goals as goal

pub returns-clause-made : goal.returns-clause-made
returns-clause-made c =
    let made = subst (λ (from : Option Cursor). IsAnswered (Ends (Walk from c.args.limit)) c.args.handle.now c.walk.result c.walk.new.self)
    c.cursor.ensures c.walk.ensures.answer in
    record { answer = c.walk.result; told = c.told_whole.ensures; made = made }
