use Rattle.std.proofs.Common.{◌∙◌, ap}
use Rattle.rht_run.specs.Layout.{physical}
use Rattle.rht_run.proofs.OpenedTables.{enrolling, enrolled}
use Rattle.rht_run.proofs.table.Table.enroll.Goals as goal

pub fetch_add-requires : goal.fetch_add-requires
fetch_add-requires g c =
    enrolling g.M.Mix.mix_of c.args.self.now c.requires.0 c.physical-at.result c.args.seat.now c.requires.1 c.requires.2
    (c.physical-at.ensures ∙ ap physical c.enrolled_callers.ensures.place)

pub returns : goal.returns
returns g c n is =
    enrolled g.M.Mix.mix_of c.args.self.now n c.fetch_add.result c.args.seat.now c.fetch_add.new.seat is
    c.fetch_add.ensures.0 c.fetch_add.ensures.2
