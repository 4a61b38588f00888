use Rattle.std.proofs.Common.{subst}
use Rattle.rht_model.specs.declared.history.Call.TheVariants.{Tidy}
use Rattle.rht_run.specs.declared.table.Table.{Table}
use Rattle.rht_session.specs.Sessions.{HasEnded}
use Rattle.rht_session.proofs.CallEnds.{ended}
use Rattle.rht_session.proofs.shared.Shared.tidy.Goals as goal

pub returns-clause-ended : goal.returns-clause-ended
returns-clause-ended g c =
    let now = c.tidy.new.pass in
    subst
    (λ (t : Table g.row.M.Denot). HasEnded g.M.Mix.mix_of t Tidy c.tidy.result c.args.self.now.pass now)
    c.deref.ensures
    (ended g.M.Mix.mix_of c.deref.result.now Tidy c.args.self.now.pass now c.tidy.result c.tidy.ensures.called)
