use Rattle.std.proofs.Common.{sym, subst}
use Rattle.rht_words.specs.declared.geometry.Geometry.{Geometry}
use Rattle.rht_words.specs.Places.{IsBucketPlace}
use Rattle.rht_chain.specs.Probe.{probe_new}
use Rattle.rht_run.proofs.table.Table.probe.Goals as goal

pub new-probe-requires : goal.new-probe-requires
new-probe-requires g c =
    let is = g.met.F.Frame.within c.args.self.now.env g.K.Ride.riding.number c.args.frame.now
    (probe_new c.args.starts.geometry c.args.place c.args.key) c.requires.in_range in
    subst (λ (geometry : Geometry). IsBucketPlace geometry c.args.place) (sym is.geometry_same) is.at_in.place_in
