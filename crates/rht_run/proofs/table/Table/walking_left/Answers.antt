use Rattle.std.proofs.Common.{sym, subst}
use Rattle.rht_words.specs.declared.geometry.Geometry.{Geometry}
use Rattle.rht_chain.specs.LockedWalk.{LockedWalkModel}
use Rattle.rht_chain.specs.declared.locked_walk.LockedWalkAt.TheVariants.{Key}
use Rattle.rht_chain.specs.declared.probe.ProbeAt.TheVariants.{Walking}
use Rattle.rht_chain.specs.Probe.{IsProbeAtIn}
use Rattle.rht_run.proofs.table.Table.walking_left.Goals as goal

pub with-requires : goal.with-requires
with-requires g c =
    let is = g.met.F.Frame.within c.args.self.now.env g.K.Ride.riding.number c.args.frame.now
    (record c.args.probe.now { at = Walking c.args.bucket (record c.args.walk { at = Key c.args.node }) }) c.requires.riding.in_range in
    subst (λ (walk : LockedWalkModel). IsProbeAtIn c.args.probe.now.geometry (Walking c.args.bucket walk)) (sym c.at_key-walk.ensures)
    (subst (λ (geometry : Geometry). IsProbeAtIn geometry (Walking c.args.bucket (record c.args.walk { at = Key c.args.node })))
    (sym is.geometry_same) is.at_in)
