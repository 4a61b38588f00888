use Rattle.std.proofs.Common.{sym, subst}
use Rattle.rht_run.specs.declared.table.Table.{Table}
use Rattle.rht_run.specs.Passes.{IsPassOf}
use Rattle.rht_run.proofs.Performed.{own_batch}
use Rattle.rht_run.proofs.ServedCommands.{MayBegin-made}
use Rattle.rht_session.specs.Sessions.{HasBegun}
use Rattle.rht_session.proofs.CallEnds.{begun}
use Rattle.rht_session.proofs.shared.Shared.begin.Goals as goal

pub start-requires-clause-may : goal.start-requires-clause-may
start-requires-clause-may g c =
    let mix = g.M.Mix.mix_of in
    let table : Table g.row.M.Denot = c.deref.result.now in
    let pass = c.args.self.now.pass in
    let fit = subst (λ (t : Table g.row.M.Denot). IsPassOf mix t pass) (sym c.deref.ensures) c.requires.fit in
    MayBegin-made table.env pass.number c.args.call pass.local c.requires.free c.in_range.ensures (own_batch mix table pass fit c.requires.free)

pub returns-clause-begun : goal.returns-clause-begun
returns-clause-begun g c =
    let mix = g.M.Mix.mix_of in
    let before = c.args.self.now.pass in
    let now = c.start.new.pass in
    subst (λ (t : Table g.row.M.Denot). HasBegun mix t c.args.call before c.start.result now) c.deref.ensures
    (begun mix c.deref.result.now c.args.call before now c.start.result c.start.ensures.turned c.start.ensures.gone)
