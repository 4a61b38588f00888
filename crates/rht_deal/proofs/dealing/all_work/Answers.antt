use Rattle.std.proofs.Common.{◌≡◌, ℕ, ◌+◌, ◌<◌, length, sym, ◌∙◌, ap, subst, arith}
use Rattle.std.specs.Prelude.{IfOk, slice_index_or}
use Rattle.std.proofs.lemmas.Result.{IfOk-weaker}
use Rattle.rht_deal.specs.Workers.{IsReady, HasWorked, HaveWorked}
use Rattle.rht_deal.proofs.ReadyWorkers.{AreReady-at, HaveWorked-each, IfOk-both}
use Rattle.rht_deal.proofs.dealing.all_work.Goals as goal

pub map_vec-requires-after_bounds : goal.map_vec-requires-after_bounds
map_vec-requires-after_bounds g c κs within i job below is =
    let mix = g.M.Mix.mix_of in
    let table = c.args.deal.now.table.now in
    let queue = c.args.deal.now.queue.now in
    let script = c.args.deal.now.script.now in
    let ready = AreReady-at mix table queue script 1 c.args.jobs.items i job c.requires.jobs below in
    let one : IsReady mix table queue script (1 + i) job.0 job.1 =
    subst (λ (j : _). IsReady mix table queue script (1 + i) j.0 j.1) (sym is) ready in (
      c.requires.can,
      subst (λ (n : ℕ). IsReady mix table queue script n job.0 job.1) (sym one.number_is) one,
    )

pub returns-clause-worked : goal.returns-clause-worked
returns-clause-worked g c =
    let mix = g.M.Mix.mix_of in
    let table = c.args.deal.now.table.now in
    let queue = c.args.deal.now.queue.now in
    let script = c.args.deal.now.script.now in
    IfOk-weaker c.map_vec.result _
    (λ left. HaveWorked mix table queue script 1 left.items)
    (λ left both. HaveWorked-each mix table queue script 1 left.items
    (λ i default below.
    let many = both.0 in
    let few : i < length c.args.jobs.items = omega (arith, below, many, c.args.jobs.ok.0, left.ok.0) in
    let given = (both.1 i default few).1 in
    let ready = AreReady-at mix table queue script 1 c.args.jobs.items i given.job c.requires.jobs few in
    let same = given.job_is given.job in
    let own : given.job.0.number ≡ 1 + i = ap (λ (j : _). j.0.number) (sym same) ∙ ready.number_is in
    subst (λ (n : ℕ). IfOk (slice_index_or left.items i default) (λ worked. HasWorked mix table queue script n worked.0 worked.1))
    own given.call.met))
    (IfOk-both c.map_vec.result _ _ c.map_vec.ensures.len c.map_vec.ensures.each)
