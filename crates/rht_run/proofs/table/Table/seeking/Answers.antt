use Rattle.std.proofs.Common.{◌∙◌, sym, ap, subst}
use Rattle.rht_words.specs.declared.geometry.Geometry.{Geometry}
use Rattle.rht_release.specs.Seek.{SeekModel, IsSeekAtIn}
use Rattle.rht_run.specs.Seeks.{port_seek}
use Rattle.rht_run.proofs.table.Table.seeking.Goals as goal

pub with-seek-requires : goal.with-seek-requires
with-seek-requires g c =
    let is = g.met.F.Frame.within c.args.self.now.env g.K.Ride.riding.number c.args.frame.now
    (port_seek c.args.geometry c.args.port c.args.at) c.requires.in_range in
    subst (λ (geometry : Geometry). IsSeekAtIn geometry c.args.at)
    (sym is.geometry_same ∙ sym (ap (λ (m : SeekModel). m.geometry) c.new.ensures)) is.at_in
