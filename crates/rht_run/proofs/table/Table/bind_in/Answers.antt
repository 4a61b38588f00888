use Rattle.std.proofs.Common.{◌∙◌, ap, refl}
use Rattle.rht_model.specs.declared.history.Call.TheVariants.{Bind}
use Rattle.rht_callers.specs.declared.local.Local.{Local}
use Rattle.rht_run.specs.PieceFrames.{bind_at}
use Rattle.rht_run.proofs.Performed.{number_few}
use Rattle.rht_run.proofs.Rides.{before, called, left_in}
use Rattle.rht_run.proofs.table.Table.bind_in.Goals as goal

pub drive_bind-came-requires-clause-before : goal.drive_bind-came-requires-clause-before
drive_bind-came-requires-clause-before g c =
    before g.M.Mix.mix_of c.args.self.now c.args.pass.now (Bind c.args.port c.args.owner c.args.once) c.requires.pass c.requires.idle

pub leave_bind-requires-clause-caller : goal.leave_bind-requires-clause-caller
leave_bind-requires-clause-caller g c = number_few g.M.Mix.mix_of c.args.self.now c.args.pass.now c.requires.pass

-- the bind has ended
pub returns-in-Ok : goal.returns-in-Ok
returns-in-Ok g c =
    record {
      steps = 0;
      turned = called g.M.Mix.mix_of c.args.self.now c.args.pass.now (Bind c.args.port c.args.owner c.args.once) c.requires.pass
          c.requires.idle _ c.in-Ok.reply refl c.clear_rooms.ensures c.in-Ok.ensures;
    }

-- or the pass is in the middle of it
pub returns-in-Err : goal.returns-in-Err
returns-in-Err g c =
    let doing = bind_at c.args.self.now.env c.args.pass.now.number c.args.port c.args.owner c.args.once c.in-Err.at in
    record {
      steps = _;
      turned = left_in g.M.Mix.mix_of c.args.self.now c.args.pass.now (Bind c.args.port c.args.owner c.args.once) c.requires.pass
          c.requires.idle
          record { seat = c.drive_bind-came.new.seat; number = c.args.pass.now.number; local = c.leave_bind.new.local }
          doing refl
          (c.leave_bind.ensures ∙ ap (λ (l : Local g.row.M.Denot). record l { doing = doing }) c.clear_rooms.ensures)
          refl c.in-Err.ensures;
    }
