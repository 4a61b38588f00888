use Rattle.std.proofs.Common.{refl}
use Rattle.rht_model.specs.declared.history.Call.TheVariants.{Work}
use Rattle.rht_run.proofs.CallSteps.{answered}
use Rattle.rht_run.proofs.CallCauses.{called_caused}
use Rattle.rht_run.proofs.Rides.{before, called}
use Rattle.rht_run.proofs.table.Table.work.Goals as goal

pub drive_work-requires-clause-before : goal.drive_work-requires-clause-before
drive_work-requires-clause-before g c =
    before g.M.Mix.mix_of c.args.self.now c.args.pass.now Work c.requires.pass c.requires.idle

pub returns-clause-called : goal.returns-clause-called
returns-clause-called g c =
    called g.M.Mix.mix_of c.args.self.now c.args.pass.now Work c.requires.pass c.requires.idle _
    c.drive_work.result refl c.clear_rooms.ensures c.drive_work.ensures

pub returns-clause-reply : goal.returns-clause-reply
returns-clause-reply g c =
    let has = called g.M.Mix.mix_of c.args.self.now c.args.pass.now Work c.requires.pass c.requires.idle _
    c.drive_work.result refl c.clear_rooms.ensures c.drive_work.ensures in
    (answered g.M.Mix.mix_of c.args.self.now Work c.drive_work.result c.args.pass.now _ has).reply

pub returns-clause-cause : goal.returns-clause-cause
returns-clause-cause g c =
    let has = called g.M.Mix.mix_of c.args.self.now c.args.pass.now Work c.requires.pass c.requires.idle _
    c.drive_work.result refl c.clear_rooms.ensures c.drive_work.ensures in
    called_caused g.M.Mix.mix_of c.args.self.now Work c.drive_work.result c.args.pass.now _ has
