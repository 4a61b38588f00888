use Rattle.std.proofs.Common.{subst}
use Rattle.rht_model.specs.declared.history.Call.TheVariants.{Find}
use Rattle.rht_run.specs.declared.table.Table.{Table}
use Rattle.rht_session.specs.Sessions.{HasEnded}
use Rattle.rht_session.proofs.CallEnds.{ended}
use Rattle.rht_session.proofs.shared.Shared.find.Goals as goal

pub returns-clause-ended : goal.returns-clause-ended
returns-clause-ended g c =
    let now = c.find.new.pass in
    subst
    (λ (t : Table g.row.M.Denot). HasEnded g.M.Mix.mix_of t (Find c.args.port) c.find.result c.args.self.now.pass now)
    c.deref.ensures
    (ended g.M.Mix.mix_of c.deref.result.now (Find c.args.port) c.args.self.now.pass now c.find.result c.find.ensures.called)
