use Rattle.std.proofs.Common.{sym, subst}
use Rattle.rht_run.specs.declared.table.Table.{Table}
use Rattle.rht_run.specs.Passes.{IsPassOf}
use Rattle.rht_run.proofs.Performed.{own_batch}
use Rattle.rht_run.proofs.ServedCommands.{MayBegin-made}
use Rattle.rht_session.specs.Sessions.{HasSetOut}
use Rattle.rht_session.proofs.CallEnds.{set_out}
use Rattle.rht_session.proofs.shared.Shared.set_out.Goals as goal

pub set_out-requires-clause-may : goal.set_out-requires-clause-may
set_out-requires-clause-may g c =
    let mix = g.M.Mix.mix_of in
    let table : Table g.row.M.Denot = c.deref.result.now in
    let pass = c.args.self.now.pass in
    let fit = subst (λ (t : Table g.row.M.Denot). IsPassOf mix t pass) (sym c.deref.ensures) c.requires.fit in
    MayBegin-made table.env pass.number c.args.call pass.local c.requires.free c.in_range.ensures (own_batch mix table pass fit c.requires.free)

pub returns-clause-set_out : goal.returns-clause-set_out
returns-clause-set_out g c =
    let mix = g.M.Mix.mix_of in
    let before = c.args.self.now.pass in
    let now = c.set_out.new.pass in
    subst (λ (t : Table g.row.M.Denot). HasSetOut mix t c.args.call before c.set_out.result now) c.deref.ensures
    (set_out mix c.deref.result.now c.args.call before now c.set_out.result c.set_out.ensures)
