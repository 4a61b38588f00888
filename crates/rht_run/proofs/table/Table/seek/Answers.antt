use Rattle.rht_release.specs.Seek.{locating}
use Rattle.rht_run.specs.Seeks.{port_seek}
use Rattle.rht_run.proofs.table.Table.seek.Goals as goal

pub locating-at-requires : goal.locating-at-requires
locating-at-requires g c =
    let is = g.met.F.Frame.within c.args.self.now.env g.K.Ride.riding.number c.args.frame.now
    (port_seek c.args.starts.geometry c.args.port (locating c.args.starts.geometry c.loop.table)) c.loop.invariant.in_range in
    is.at_in.table_in
