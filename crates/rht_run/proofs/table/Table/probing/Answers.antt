use Rattle.std.proofs.Common.{sym, subst}
use Rattle.rht_words.specs.declared.geometry.Geometry.{Geometry}
use Rattle.rht_chain.specs.Probe.{IsProbeAtIn}
use Rattle.rht_run.proofs.table.Table.probing.Goals as goal

pub with-requires : goal.with-requires
with-requires g c =
    let is = g.met.F.Frame.within c.args.self.now.env g.K.Ride.riding.number c.args.frame.now
    (record c.args.probe.now { at = c.args.at }) c.requires.riding.in_range in
    subst (λ (geometry : Geometry). IsProbeAtIn geometry c.args.at) (sym is.geometry_same) is.at_in
