use Rattle.std.proofs.Common.{refl}
use Rattle.rht_run.proofs.Performed.{performs}
use Rattle.rht_run.proofs.table.Table.perform.Goals as goal

pub load-requires : goal.load-requires
load-requires g c =
    performs g.row.M.Denot g.M.Mix.mix_of g.K.Turn.begins c.args.self.now c.args.seat.now c.args.op _ _ _ c.requires.can
    c.in-Load.is c.requires.place (λ n fits. refl)

pub swap-requires : goal.swap-requires
swap-requires g c =
    performs g.row.M.Denot g.M.Mix.mix_of g.K.Turn.begins c.args.self.now c.args.seat.now c.args.op _ _ _ c.requires.can
    c.in-Store.is c.requires.place (λ n fits. refl)

pub compare_exchange-requires : goal.compare_exchange-requires
compare_exchange-requires g c =
    performs g.row.M.Denot g.M.Mix.mix_of g.K.Turn.begins c.args.self.now c.args.seat.now c.args.op _ _ _ c.requires.can
    c.in-Exchange.is c.requires.place (λ n fits. refl)

pub fetch_add-requires : goal.fetch_add-requires
fetch_add-requires g c =
    performs g.row.M.Denot g.M.Mix.mix_of g.K.Turn.begins c.args.self.now c.args.seat.now c.args.op _ _ _ c.requires.can
    c.in-Add.is c.requires.place (λ n fits. refl)

pub fetch_sub-requires : goal.fetch_sub-requires
fetch_sub-requires g c =
    performs g.row.M.Denot g.M.Mix.mix_of g.K.Turn.begins c.args.self.now c.args.seat.now c.args.op _ _ _ c.requires.can
    c.in-Sub.is c.requires.place (λ n fits. refl)

pub fetch_and-requires : goal.fetch_and-requires
fetch_and-requires g c =
    performs g.row.M.Denot g.M.Mix.mix_of g.K.Turn.begins c.args.self.now c.args.seat.now c.args.op _ _ _ c.requires.can
    c.in-And.is c.requires.place (λ n fits. refl)

pub fetch_or-requires : goal.fetch_or-requires
fetch_or-requires g c =
    performs g.row.M.Denot g.M.Mix.mix_of g.K.Turn.begins c.args.self.now c.args.seat.now c.args.op _ _ _ c.requires.can
    c.in-Or.is c.requires.place (λ n fits. refl)
