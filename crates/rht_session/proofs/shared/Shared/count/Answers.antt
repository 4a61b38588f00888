use Rattle.std.proofs.Common.{subst}
use Rattle.rht_model.specs.declared.history.Call.TheVariants.{Count}
use Rattle.rht_run.specs.declared.table.Table.{Table}
use Rattle.rht_session.specs.Sessions.{HasEnded}
use Rattle.rht_session.proofs.CallEnds.{ended}
use Rattle.rht_session.proofs.shared.Shared.count.Goals as goal

pub returns-clause-ended : goal.returns-clause-ended
returns-clause-ended g c =
    let now = c.count.new.pass in
    subst
    (λ (t : Table g.row.M.Denot). HasEnded g.M.Mix.mix_of t Count c.count.result c.args.self.now.pass now)
    c.deref.ensures
    (ended g.M.Mix.mix_of c.deref.result.now Count c.args.self.now.pass now c.count.result c.count.ensures.called)
