use Rattle.std.proofs.Common.{◌≡◌, ◌≤◌, length, sym, ◌∙◌, ap, subst, arith}
use Rattle.std.specs.Prelude.{vec_len}
use Rattle.std.specs.List.{AllByRecursion}
use Rattle.std.specs.declared.alloc.Global.{Global}
use Rattle.std.specs.declared.collections.VecDeque.{VecDeque}
use Rattle.std.proofs.lemmas.List.{length-map}
use Rattle.rht_policy.specs.Mix.{mix_named}
use Rattle.rht_run.specs.Passes.{IsClosedWith}
use Rattle.rht_run.specs.Workers.{HaveServedAll}
use Rattle.rht_run.proofs.ServedWorkers.{HaveServedAll-passes, IsServedRun-closed}
use Rattle.rht_script.specs.declared.done.Done.{Done}
use Rattle.rht_deal.specs.declared.worker.Worker.{Worker}
use Rattle.rht_deal.specs.DoneCommands.{all_endings, as_done}
use Rattle.rht_deal.specs.Numbers.{numbers_to}
use Rattle.rht_deal.specs.Ordering.{AreOwn, AreEachOnce, kept_items}
use Rattle.rht_deal.specs.Workers.{CanDeal}
use Rattle.rht_deal.proofs.WorkersDone.{AreOwn-workers, AreEachOnce-workers, HaveServedAll-parted}
use Rattle.rht_deal.proofs.dealing.run_dealt.Goals as goal

pub dealt_out-requires-clause-can : goal.dealt_out-requires-clause-can
dealt_out-requires-clause-can g c κs within =
    let can : CanDeal c.in_ok-table.table c.args.script.now =
    record { config_same = c.in_ok-table.ensures.config; dealt = c.requires.dealt } in
    can

pub in_order-requires-clause-own : goal.in_order-requires-clause-own
in_order-requires-clause-own g c =
    let script = c.args.script.now in
    let workers = c.in_ok-workers.workers in
    subst (AreOwn 1) (sym c.in_ok-passes.ensures.kept)
    (AreOwn-workers g.M.Mix.mix_of c.in_ok-table.table script 1 workers.items c.in_ok-workers.ensures.workers)

pub in_order-requires-clause-once : goal.in_order-requires-clause-once
in_order-requires-clause-once g c =
    let script = c.args.script.now in
    let workers = c.in_ok-workers.workers in
    let count : length script.commands.items ≡ c.len.result = sym script.commands.ok.0 ∙ sym c.len.ensures in
    subst (λ n. AreEachOnce n (kept_items c.in_ok-passes.kept)) count
    (subst (AreEachOnce (length script.commands.items)) (sym c.in_ok-passes.ensures.kept)
    (AreEachOnce-workers g.M.Mix.mix_of c.in_ok-table.table script (length script.commands.items) workers.items c.in_ok-workers.ensures.once))

pub close-requires-clause-passes : goal.close-requires-clause-passes
close-requires-clause-passes g c pass among =
    let mix = g.M.Mix.mix_of in
    let script = c.args.script.now in
    let table = c.in_ok-table.table in
    let workers = c.in_ok-workers.workers in
    let passes = c.in_ok-passes.passes in
    let kept = c.in_ok-passes.kept in
    let done = c.in_ok-done.done in
    let many : length workers.items ≡ script.config.callers =
    sym workers.ok.0 ∙ c.in_ok-workers.ensures.count ∙ c.in_ok-table.ensures.count in
    let as_kept = length-map kept.items (λ (own : VecDeque Done Global). own.items) in
    let all = HaveServedAll-parted mix table script workers.items passes.items (kept_items kept) done.items c.len.result
    c.in_ok-table.ensures.config c.in_ok-table.ensures.ways c.in_ok-workers.ensures.workers many c.in_ok-passes.ensures.passes c.in_ok-passes.ensures.kept
    (c.len.ensures ∙ script.commands.ok.0) c.in_ok-done.ensures.numbers
    (λ i below. c.in_ok-done.ensures.own i (omega (arith, below, as_kept, kept.ok.0))) in
    HaveServedAll-passes mix script.config table script.auto (as_done done.items script.commands.items) passes.items
    (all_endings script.config.callers done.items) all pass among

pub returns-in-Ok : goal.returns-in-Ok
returns-in-Ok g c =
    let mix = g.M.Mix.mix_of in
    let script = c.args.script.now in
    let table = c.in_ok-table.table in
    let workers = c.in_ok-workers.workers in
    let passes = c.in_ok-passes.passes in
    let kept = c.in_ok-passes.kept in
    let done = c.in_ok-done.done in
    let commands = as_done done.items script.commands.items in
    let endings = all_endings script.config.callers done.items in
    let many : length workers.items ≡ script.config.callers =
    sym workers.ok.0 ∙ c.in_ok-workers.ensures.count ∙ c.in_ok-table.ensures.count in
    let as_kept = length-map kept.items (λ (own : VecDeque Done Global). own.items) in
    let count : c.len.result ≡ length script.commands.items = c.len.ensures ∙ script.commands.ok.0 in
    let all = HaveServedAll-parted mix table script workers.items passes.items (kept_items kept) done.items c.len.result
    c.in_ok-table.ensures.config c.in_ok-table.ensures.ways c.in_ok-workers.ensures.workers many c.in_ok-passes.ensures.passes c.in_ok-passes.ensures.kept
    count c.in_ok-done.ensures.numbers
    (λ i below. c.in_ok-done.ensures.own i (omega (arith, below, as_kept, kept.ok.0))) in
    let kept_many : vec_len kept ≡ script.config.callers =
    kept.ok.0 ∙ sym as_kept ∙ ap length c.in_ok-passes.ensures.kept ∙ length-map workers.items (λ (w : Worker g.row.M.Denot). w.done.items) ∙ many in
    record {
      done = record {
        numbers = c.in_ok-done.ensures.numbers ∙ ap numbers_to count;
        workers = subst (λ n. AllByRecursion (λ (one : Done). (1 ≤ one.worker) × (one.worker ≤ n)) done.items) kept_many
            c.in_ok-done.ensures.workers;
      };
      served = IsServedRun-closed (mix_named script.config) script.config table script.auto commands passes.items endings
          (subst (λ m. HaveServedAll m script.config table script.auto commands passes.items endings) c.requires.mix all)
          c.in-Ok.closed (subst (λ m. IsClosedWith m table.env passes.items c.in-Ok.closed) c.requires.mix c.in-Ok.ensures.closed);
    }
