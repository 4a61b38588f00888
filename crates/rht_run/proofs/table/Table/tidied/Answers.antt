use Rattle.std.proofs.Common.{◌≡◌, ◌+◌, ◌∙◌, sym, subst, arith}
use Rattle.std.specs.Prelude.{Some, None}
use Rattle.rht_model.specs.declared.history.Call.TheVariants.{Tidy}
use Rattle.rht_grace.specs.Batch.{BatchModel}
use Rattle.rht_callers.specs.declared.local.Doing.TheVariants.{Tidying}
use Rattle.rht_run.specs.Passes.{EndsWithin}
use Rattle.rht_run.specs.Tidying.{TidiesBatch}
use Rattle.rht_run.proofs.PassTidyings.{IsTidyingPass, own_of, is_own, begins-tidying, gone-on}
use Rattle.rht_run.proofs.TidyRides.{with_tidying, tidies_on, tidies_to}
use Rattle.rht_run.proofs.Performed.{own_batch}
use Rattle.rht_run.proofs.ServedCommands.{MayBegin-made}
use Rattle.rht_run.proofs.ShortCalls.{tidying_ends}
use Rattle.rht_run.proofs.table.Table.tidied.Goals as goal

pub start-requires-clause-may : goal.start-requires-clause-may
start-requires-clause-may g c =
    MayBegin-made c.args.self.now.env c.args.pass.now.number Tidy c.args.pass.now.local c.requires.idle tt
    (own_batch g.M.Mix.mix_of c.args.self.now c.args.pass.now c.requires.pass c.requires.idle)

pub returns-in-Some-clause-batch : goal.returns-in-Some-clause-batch
returns-in-Some-clause-batch g c =
    let mix = g.M.Mix.mix_of in
    let t = c.args.self.now in
    let p = c.args.pass.now in
    gone-on mix t.env.geometry (own_of mix t p) t (Some Tidy) p _ c.start.new.pass
    (begins-tidying mix t p c.requires.pass c.requires.idle) c.in-Some.ensures.gone (is_own mix t p c.requires.pass c.requires.idle)

-- the machine was that of the pass
pub loop-rounds-init : goal.loop-rounds-init
loop-rounds-init g c =
    let mix = g.M.Mix.mix_of in
    let t = c.args.self.now in
    let p = c.args.pass.now in
    let now = c.start.new.pass in
    let had : now.local.doing ≡ Tidying c.in-Tidying.tidy = sym c.replace-doing.ensures.value ∙ c.in-Tidying.is in
    record {
      tidying = subst (IsTidyingPass mix t 1 p)
          (λ i. record { seat = now.seat; number = now.number; local = record now.local { doing = had i } })
          record {
            calling = c.in_default.ensures.turned;
            tidying =
                gone-on mix t.env.geometry (own_of mix t p) t (Some Tidy) p None now
                (begins-tidying mix t p c.requires.pass c.requires.idle) c.in_default.ensures.gone;
          };
      idle = c.replace-doing.ensures.after;
    }

pub returns-in-Done-clause-batch : goal.returns-in-Done-clause-batch
returns-in-Done-clause-batch g c =
    let mix = g.M.Mix.mix_of in
    let t = c.args.self.now in
    let p = c.args.pass.now in
    let ended = tidies_to mix t (c.loop-rounds.rounds + 1) p c.loop-rounds.pass c.loop-rounds.tidy c.perform-old.new.seat
    c.perform-old.result c.loop-rounds.invariant.tidying c.perform-old.ensures.seat c.perform-old.ensures.went c.take.new.self
    c.in-Done.reply c.in-Done.ensures in
    subst (λ (batch : BatchModel). TidiesBatch c.in-Done.reply (own_of mix t p) batch) (sym c.into_parts.ensures)
    (ended.tidied (is_own mix t p c.requires.pass c.requires.idle))

pub loop-rounds-preserved : goal.loop-rounds-preserved
loop-rounds-preserved g c =
    record {
      tidying = tidies_on g.M.Mix.mix_of c.args.self.now (c.loop-rounds.rounds + 1) c.args.pass.now c.loop-rounds.pass
          c.loop-rounds.tidy c.perform-old.new.seat c.perform-old.result c.loop-rounds.invariant.tidying c.perform-old.ensures.seat
          c.perform-old.ensures.went c.take.new.self c.in_default-take.ensures;
      idle = c.loop-rounds.invariant.idle;
    }

pub unreachable-requires-2 : goal.unreachable-requires-2
unreachable-requires-2 g c =
    let ends = subst (EndsWithin g.M.Mix.mix_of c.args.self.now Tidy) (sym c.most_of_tidying-most.ensures)
    (tidying_ends g.M.Mix.mix_of c.args.self.now) in
    let few = ends (c.loop-rounds.rounds + 1) c.args.pass.now (with_tidying c.loop-rounds.pass c.loop-rounds.tidy)
    c.loop-rounds.invariant.tidying.calling in
    omega (arith, few, c.loop-rounds-test.false)
