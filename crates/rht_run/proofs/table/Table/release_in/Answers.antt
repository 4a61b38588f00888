use Rattle.std.proofs.Common.{◌∙◌, ap, refl, sym, subst}
use Rattle.std.specs.Prelude.{Option}
use Rattle.rht_model.specs.declared.history.Call.TheVariants.{Release}
use Rattle.rht_model.specs.declared.history.Reply.{Reply}
use Rattle.rht_grace.specs.Batch.{BatchModel}
use Rattle.rht_callers.specs.Batches.{CanPut}
use Rattle.rht_callers.specs.declared.local.Local.{Local}
use Rattle.rht_run.specs.Rides.{riding_of, batch_with, HasEndedWith, released}
use Rattle.rht_run.specs.Seeks.{release_at}
use Rattle.rht_run.proofs.Performed.{number_few}
use Rattle.rht_run.proofs.KeptNodes.{may_keep}
use Rattle.rht_run.proofs.Rides.{own_batch, before, called_with, left_in}
use Rattle.rht_run.proofs.table.Table.release_in.Goals as goal

pub drive_release-came-requires-clause-before : goal.drive_release-came-requires-clause-before
drive_release-came-requires-clause-before g c =
    before g.M.Mix.mix_of c.args.self.now c.args.pass.now (Release c.args.port c.args.owner) c.requires.pass c.requires.idle

-- the node that was taken out isn't in the batch
pub keep_node-requires : goal.keep_node-requires
keep_node-requires g c =
    subst (λ (batch : Option BatchModel). CanPut batch c.in-Ok.removed)
    (sym (own_batch g.M.Mix.mix_of c.args.self.now c.args.pass.now (Release c.args.port c.args.owner) c.requires.pass c.requires.idle)
    ∙ sym (ap (λ (l : Local g.row.M.Denot). l.batch) c.clear_rooms.ensures))
    (may_keep g.M.Mix.mix_of c.args.self.now _ (released c.in-Ok.kick) c.in-Ok.removed c.drive_release-came.new.seat c.in-Ok.ensures)

pub leave_release-requires-clause-caller : goal.leave_release-requires-clause-caller
leave_release-requires-clause-caller g c = number_few g.M.Mix.mix_of c.args.self.now c.args.pass.now c.requires.pass

-- the release has ended
pub returns-in-Ok : goal.returns-in-Ok
returns-in-Ok g c =
    let ended =
    subst (λ (reply : Reply). HasEndedWith g.M.Mix.mix_of c.args.self.now (riding_of c.args.pass.now.number (Release c.args.port c.args.owner) c.args.pass.now.seat) reply c.in-Ok.removed c.drive_release-came.new.seat)
    (sym c.released.ensures) c.in-Ok.ensures in
    record {
      steps = 0;
      turned = called_with g.M.Mix.mix_of c.args.self.now c.args.pass.now (Release c.args.port c.args.owner) c.requires.pass c.requires.idle
          _ c.released.result c.in-Ok.removed refl
          (c.keep_node.ensures
          ∙ ap (λ (l : Local g.row.M.Denot). record l { batch = batch_with l.batch c.in-Ok.removed }) c.clear_rooms.ensures)
          ended;
    }

-- or the pass is in the middle of it
pub returns-in-Err : goal.returns-in-Err
returns-in-Err g c =
    let doing = release_at c.args.self.now.env c.args.pass.now.number c.args.port c.args.owner c.in-Err.at in
    record {
      steps = _;
      turned = left_in g.M.Mix.mix_of c.args.self.now c.args.pass.now (Release c.args.port c.args.owner) c.requires.pass c.requires.idle
          record { seat = c.drive_release-came.new.seat; number = c.args.pass.now.number; local = c.leave_release.new.local }
          doing refl
          (c.leave_release.ensures ∙ ap (λ (l : Local g.row.M.Denot). record l { doing = doing }) c.clear_rooms.ensures)
          refl c.in-Err.ensures;
    }
