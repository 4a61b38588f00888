use Rattle.rht_nest.specs.Locate.{locate_new}
use Rattle.rht_run.specs.Pieces.{port_locate}
use Rattle.rht_run.proofs.table.Table.find_way.Goals as goal

pub new-locate-requires : goal.new-locate-requires
new-locate-requires g c =
    let is = g.met.F.Frame.within c.args.self.now.env g.K.Ride.riding.number c.args.frame.now
    (port_locate c.args.port (locate_new c.args.starts.geometry c.args.table)) c.requires.in_range in
    is.table_in
