use Rattle.std.proofs.Common.{◌∙◌, ap, subst, sym, arith}
use Rattle.std.specs.Prelude.{Option}
use Rattle.rht_model.specs.declared.history.Call.{Call}
use Rattle.rht_core.specs.Locals.{plan_of}
use Rattle.rht_callers.specs.Batches.{CanPut, out_of}
use Rattle.rht_callers.specs.declared.local.Local.{Local}
use Rattle.rht_run.specs.Rule.{Went}
use Rattle.rht_run.specs.Passes.{CanPerform}
use Rattle.rht_run.proofs.Performed.{place_small, number_few, room_for, ready}
use Rattle.rht_run.proofs.KeptNodes.{may_take}
use Rattle.rht_run.proofs.table.Table.go.Goals as goal

pub begin_if-requires-clause-caller : goal.begin_if-requires-clause-caller
begin_if-requires-clause-caller g c = number_few g.M.Mix.mix_of c.args.self.now c.args.pass.now c.requires.pass

pub begin_if-requires-clause-room : goal.begin_if-requires-clause-room
begin_if-requires-clause-room g c =
    room_for g.M.Mix.mix_of c.args.self.now c.args.pass.now c.requires.pass c.args.begins c.requires.can

pub perform-old-requires-clause-can : goal.perform-old-requires-clause-can
perform-old-requires-clause-can g c =
    subst (λ (b : Option Call). CanPerform b c.args.self.now c.args.pass.now.seat c.in-Some.op) c.requires.begins
    (ready g.M.Mix.mix_of c.args.self.now c.args.pass.now c.args.begins c.in-Some.op c.requires.pass c.requires.can
    (ap plan_of (sym c.begin_if.ensures) ∙ sym c.plan.ensures.plan ∙ c.in-Some.is))

pub physical-at-requires : goal.physical-at-requires
physical-at-requires g c =
    let can = ready g.M.Mix.mix_of c.args.self.now c.args.pass.now c.args.begins c.in-Some.op c.requires.pass c.requires.can
    (ap plan_of (sym c.begin_if.ensures) ∙ sym c.plan.ensures.plan ∙ c.in-Some.is) in
    omega (arith, c.place.ensures, place_small g.row.M.Denot g.M.Mix.mix_of c.args.begins c.args.self.now c.args.pass.now.seat c.in-Some.op can)

-- what the operation hands out may be put into the pass's batch
pub take-requires : goal.take-requires
take-requires g c =
    let went = subst (λ (b : Option Call). Went g.M.Mix.mix_of b c.args.pass.now.seat.me.0 c.perform-old.result c.perform-old.new.seat.me.0)
    (sym c.requires.begins) c.perform-old.ensures.went in
    record {
      put = subst (λ (l : Local g.row.M.Denot). CanPut l.batch (out_of g.M.Mix.mix_of l.doing c.perform-old.result)) (sym c.begin_if.ensures)
          (may_take g.M.Mix.mix_of c.args.self.now c.args.pass.now c.args.begins c.perform-old.new.seat c.perform-old.result c.requires.pass
          c.perform-old.ensures.seat went);
    }
