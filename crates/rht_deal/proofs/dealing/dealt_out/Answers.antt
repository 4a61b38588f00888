use Rattle.std.proofs.Common.{◌≡◌, ◌<◌, [], length, sym, ◌∙◌, ap, subst, arith}
use Rattle.crossbeam_queue.specs.Passes.{view}
use Rattle.rht_deal.specs.declared.numbers.Hand.{Hand}
use Rattle.rht_deal.specs.declared.worker.Worker.{Worker}
use Rattle.rht_deal.specs.DoneCommands.{numbers_of}
use Rattle.rht_deal.specs.Numbers.{hand, all_parts}
use Rattle.rht_deal.specs.Workers.{IsWorking, HasTaken, AreAmong}
use Rattle.rht_deal.proofs.WorkersDone.{AreWorking-at}
use Rattle.rht_deal.proofs.ReadyWorkers.{HaveWorked-of_queue}
use Rattle.rht_deal.proofs.FirstWorker.{gathered-working, gathered-joined, gathered-many, first-among, first-working, first-done}
use Rattle.rht_deal.proofs.dealing.dealt_out.Goals as goal

pub ready-requires-clause-dealer : goal.ready-requires-clause-dealer
ready-requires-clause-dealer g c = record {
  of_queue = c.in_ok-queue.ensures.queue;
  hand_is = c.in_ok-queue.ensures.pass ∙ ap (λ n. hand all_parts n []) (c.len.ensures ∙ c.args.script.now.commands.ok.0);
}

pub gathered-requires-clause-left : goal.gathered-requires-clause-left
gathered-requires-clause-left g c =
    HaveWorked-of_queue g.M.Mix.mix_of c.args.table.now c.in_ok-queue.queue c.args.script.now 1 c.in_ok-left.left.items
    c.in_ok-left.ensures.worked

pub work-requires-clause-working : goal.work-requires-clause-working
work-requires-clause-working g c =
    let mix = g.M.Mix.mix_of in
    let table = c.args.table.now in
    let queue = c.in_ok-queue.queue in
    let script = c.args.script.now in
    let left = c.in_ok-left.left in
    let workers = c.in_ok-workers.workers.items in
    let old = view c.ready.new.dealer in
    let new = view c.gathered.new.dealer in
    let many = gathered-many mix table queue script left.items workers old new c.in_ok-left.ensures.worked c.in_ok-workers.ensures.gathered in
    let some : 0 < length workers =
    (let one = c.requires.can.dealt.settled.geometry.callers_within.0 in
    omega (arith, many, left.ok.0, c.in_ok-left.ensures.len, c.in_ok-jobs.ensures.count, c.requires.count, one)) in
    let all = gathered-working mix table queue script left.items workers old new c.in_ok-left.ensures.worked
    c.in_ok-workers.ensures.gathered in
    let first = c.index_mut.result.now in
    subst (IsWorking mix table script) (sym c.index_mut.ensures.value) (AreWorking-at mix table script 1 workers 0 first all some).0

pub work-requires-clause-among : goal.work-requires-clause-among
work-requires-clause-among g c =
    let mix = g.M.Mix.mix_of in
    let table = c.args.table.now in
    let queue = c.in_ok-queue.queue in
    let script = c.args.script.now in
    let left = c.in_ok-left.left in
    let workers = c.in_ok-workers.workers.items in
    let old = view c.ready.new.dealer in
    let new = view c.gathered.new.dealer in
    let many = gathered-many mix table queue script left.items workers old new c.in_ok-left.ensures.worked c.in_ok-workers.ensures.gathered in
    let some : 0 < length workers =
    (let one = c.requires.can.dealt.settled.geometry.callers_within.0 in
    omega (arith, many, left.ok.0, c.in_ok-left.ensures.len, c.in_ok-jobs.ensures.count, c.requires.count, one)) in
    let joined = gathered-joined mix table queue script left.items workers old new c.in_ok-left.ensures.worked
    c.in_ok-workers.ensures.gathered in
    let first = c.index_mut.result.now in
    subst (λ (w : Worker g.row.M.Denot). AreAmong (numbers_of w.done.items) new.taken) (sym c.index_mut.ensures.value)
    (first-among mix table script workers first old new some joined)

pub work-requires-clause-part : goal.work-requires-clause-part
work-requires-clause-part g c =
    let mix = g.M.Mix.mix_of in
    let table = c.args.table.now in
    let queue = c.in_ok-queue.queue in
    let script = c.args.script.now in
    let left = c.in_ok-left.left in
    let workers = c.in_ok-workers.workers.items in
    let old = view c.ready.new.dealer in
    let new = view c.gathered.new.dealer in
    let many = gathered-many mix table queue script left.items workers old new c.in_ok-left.ensures.worked c.in_ok-workers.ensures.gathered in
    let some : 0 < length workers =
    (let one = c.requires.can.dealt.settled.geometry.callers_within.0 in
    omega (arith, many, left.ok.0, c.in_ok-left.ensures.len, c.in_ok-jobs.ensures.count, c.requires.count, one)) in
    let joined = gathered-joined mix table queue script left.items workers old new c.in_ok-left.ensures.worked
    c.in_ok-workers.ensures.gathered in
    let parts = joined.parts in
    omega (arith, parts, some)

pub work-requires-clause-pushed : goal.work-requires-clause-pushed
work-requires-clause-pushed g c =
    let mix = g.M.Mix.mix_of in
    let table = c.args.table.now in
    let queue = c.in_ok-queue.queue in
    let script = c.args.script.now in
    let left = c.in_ok-left.left in
    let workers = c.in_ok-workers.workers.items in
    let old = view c.ready.new.dealer in
    let new = view c.gathered.new.dealer in
    let joined = gathered-joined mix table queue script left.items workers old new c.in_ok-left.ensures.worked
    c.in_ok-workers.ensures.gathered in
    joined.pushed ∙ ap (λ (v : Hand). v.pushed) c.in_ok-jobs.ensures.dealer.0

pub returns-clause-workers : goal.returns-clause-workers
returns-clause-workers g c =
    let mix = g.M.Mix.mix_of in
    let table = c.args.table.now in
    let queue = c.in_ok-queue.queue in
    let script = c.args.script.now in
    let left = c.in_ok-left.left in
    let workers = c.in_ok-workers.workers.items in
    let old = view c.ready.new.dealer in
    let new = view c.gathered.new.dealer in
    let many = gathered-many mix table queue script left.items workers old new c.in_ok-left.ensures.worked c.in_ok-workers.ensures.gathered in
    let some : 0 < length workers =
    (let one = c.requires.can.dealt.settled.geometry.callers_within.0 in
    omega (arith, many, left.ok.0, c.in_ok-left.ensures.len, c.in_ok-jobs.ensures.count, c.requires.count, one)) in
    let all = gathered-working mix table queue script left.items workers old new c.in_ok-left.ensures.worked
    c.in_ok-workers.ensures.gathered in
    let first = c.index_mut.result.now in
    first-working mix table script workers first c.work.new.self some all c.in_ok-work.ensures.working
    (c.in_ok-work.ensures.taken.same ∙ ap (λ (w : Worker g.row.M.Denot). w.number) c.index_mut.ensures.value)

pub returns-clause-count : goal.returns-clause-count
returns-clause-count g c =
    let mix = g.M.Mix.mix_of in
    let table = c.args.table.now in
    let queue = c.in_ok-queue.queue in
    let script = c.args.script.now in
    let left = c.in_ok-left.left in
    let workers = c.in_ok-workers.workers.items in
    let old = view c.ready.new.dealer in
    let new = view c.gathered.new.dealer in
    let many = gathered-many mix table queue script left.items workers old new c.in_ok-left.ensures.worked c.in_ok-workers.ensures.gathered in
    omega (arith, many, left.ok.0, c.in_ok-workers.workers.ok.0, c.in_ok-left.ensures.len, c.in_ok-jobs.ensures.count)

pub returns-clause-once : goal.returns-clause-once
returns-clause-once g c =
    let mix = g.M.Mix.mix_of in
    let table = c.args.table.now in
    let queue = c.in_ok-queue.queue in
    let script = c.args.script.now in
    let left = c.in_ok-left.left in
    let workers = c.in_ok-workers.workers.items in
    let old = view c.ready.new.dealer in
    let new = view c.gathered.new.dealer in
    let many = gathered-many mix table queue script left.items workers old new c.in_ok-left.ensures.worked c.in_ok-workers.ensures.gathered in
    let some : 0 < length workers =
    (let one = c.requires.can.dealt.settled.geometry.callers_within.0 in
    omega (arith, many, left.ok.0, c.in_ok-left.ensures.len, c.in_ok-jobs.ensures.count, c.requires.count, one)) in
    let joined = gathered-joined mix table queue script left.items workers old new c.in_ok-left.ensures.worked
    c.in_ok-workers.ensures.gathered in
    let first = c.index_mut.result.now in
    let dealer = view c.work.new.numbers in
    let count = length script.commands.items in
    let before = c.in_ok-jobs.ensures.dealer in
    let none : old.taken ≡ [] = ap (λ (v : Hand). v.taken) before.0 ∙ ap (λ (v : Hand). v.taken) c.in_ok-queue.ensures.pass in
    let takes = subst (λ (w : Worker g.row.M.Denot). HasTaken w c.work.new.self new dealer) c.index_mut.ensures.value
    c.in_ok-work.ensures.taken in
    let same : dealer.parts ≡ new.parts = ap (λ (v : Hand). v.parts) takes.taken in
    let parts : dealer.parts ≡ all_parts =
    (let given = before.1 in let back = joined.parts in
    omega (arith, same, given, back, many, left.ok.0, c.in_ok-left.ensures.len)) in
    let pushed : dealer.pushed ≡ count =
    ap (λ (v : Hand). v.pushed) takes.taken ∙ joined.pushed ∙ ap (λ (v : Hand). v.pushed) before.0 in
    first-done mix table script count workers first c.work.new.self old new dealer some joined none takes c.in_ok-work.ensures.all parts pushed
