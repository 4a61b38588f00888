use Rattle.rht_run.proofs.ClosedTables.{joining}
use Rattle.rht_run.proofs.table.Table.absorb.Goals as goal

pub join_seat-requires : goal.join_seat-requires
join_seat-requires g c =
    joining g.M.Mix.mix_of c.args.self.now c.args.seat.now c.args.pass c.requires.seat.0 c.requires.seat.2 c.requires.pass
