use Rattle.std.proofs.Common.{refl}
use Rattle.rht_run.proofs.OpenedTables.{handing, handed, given}
use Rattle.rht_run.proofs.table.Table.hand.Goals as goal

pub split_seat-other-requires : goal.split_seat-other-requires
split_seat-other-requires g c =
    handing g.M.Mix.mix_of c.args.self.now c.args.number c.requires.opening.0 c.args.seat.now c.requires.opening.1

pub returns-clause-rest : goal.returns-clause-rest
returns-clause-rest g c drawn is =
    handed g.M.Mix.mix_of c.args.self.now c.args.number drawn c.args.seat.now c.split_seat-other.new.seat is
    c.split_seat-other.ensures.0 c.split_seat-other.ensures.2

pub returns-clause-pass : goal.returns-clause-pass
returns-clause-pass g c =
    given g.M.Mix.mix_of c.args.self.now c.args.number c.requires.opening.0 c.args.seat.now _ c.requires.opening.1
    c.split_seat-other.ensures.3 c.split_seat-other.ensures.4 refl c.requires.local
