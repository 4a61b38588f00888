use Rattle.std.proofs.Common.{◌∙◌, ap, refl, sym, subst}
use Rattle.std.specs.Prelude.{Option}
use Rattle.rht_model.specs.declared.history.Call.TheVariants.{Rebind}
use Rattle.rht_grace.specs.Batch.{BatchModel}
use Rattle.rht_callers.specs.Batches.{CanPut}
use Rattle.rht_callers.specs.declared.local.Local.{Local}
use Rattle.rht_run.specs.Rides.{batch_with}
use Rattle.rht_run.proofs.CallSteps.{answered}
use Rattle.rht_run.proofs.CallCauses.{called_caused}
use Rattle.rht_run.proofs.KeptNodes.{may_keep}
use Rattle.rht_run.proofs.Rides.{own_batch, before, called_with}
use Rattle.rht_run.proofs.table.Table.rebind.Goals as goal

pub drive_rebind-reply-requires-clause-before : goal.drive_rebind-reply-requires-clause-before
drive_rebind-reply-requires-clause-before g c =
    before g.M.Mix.mix_of c.args.self.now c.args.pass.now (Rebind c.args.port c.args.owner c.args.new) c.requires.pass c.requires.idle

-- the node that was taken out isn't in the batch
pub keep_node-requires : goal.keep_node-requires
keep_node-requires g c =
    subst (λ (batch : Option BatchModel). CanPut batch c.drive_rebind-reply.result.1)
    (sym (own_batch g.M.Mix.mix_of c.args.self.now c.args.pass.now (Rebind c.args.port c.args.owner c.args.new) c.requires.pass c.requires.idle)
    ∙ sym (ap (λ (l : Local g.row.M.Denot). l.batch) c.clear_rooms.ensures))
    (may_keep g.M.Mix.mix_of c.args.self.now _ c.drive_rebind-reply.result.0 c.drive_rebind-reply.result.1 c.drive_rebind-reply.new.seat c.drive_rebind-reply.ensures)

pub returns-clause-called : goal.returns-clause-called
returns-clause-called g c =
    called_with g.M.Mix.mix_of c.args.self.now c.args.pass.now (Rebind c.args.port c.args.owner c.args.new) c.requires.pass c.requires.idle _
    c.drive_rebind-reply.result.0 c.drive_rebind-reply.result.1 refl
    (c.keep_node.ensures
    ∙ ap (λ (l : Local g.row.M.Denot). record l { batch = batch_with l.batch c.drive_rebind-reply.result.1 }) c.clear_rooms.ensures)
    c.drive_rebind-reply.ensures

pub returns-clause-reply : goal.returns-clause-reply
returns-clause-reply g c =
    let has = returns-clause-called g c in
    (answered g.M.Mix.mix_of c.args.self.now (Rebind c.args.port c.args.owner c.args.new) c.drive_rebind-reply.result.0 c.args.pass.now _ has).reply

pub returns-clause-cause : goal.returns-clause-cause
returns-clause-cause g c =
    let has = returns-clause-called g c in
    called_caused g.M.Mix.mix_of c.args.self.now (Rebind c.args.port c.args.owner c.args.new) c.drive_rebind-reply.result.0 c.args.pass.now _ has
