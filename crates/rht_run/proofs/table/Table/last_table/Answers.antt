use Rattle.rht_move.specs.LastTable.{last_table_new}
use Rattle.rht_run.proofs.table.Table.last_table.Goals as goal

pub new-seek-requires : goal.new-seek-requires
new-seek-requires g c =
    (g.met.F.Frame.within c.args.self.now.env g.K.Ride.riding.number c.args.frame.now
    (last_table_new c.args.geometry c.loop.table) c.loop.invariant.in_range).at_in
