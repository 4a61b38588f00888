use Rattle.std.proofs.Common.{◌≡◌, ◌+◌, ◌<◌, length, take, arith}
use Rattle.rht_run.proofs.ServedWorkers.{new-below}
use Rattle.rht_registry.proofs.ServedCalls.{served-kept, served-own, served-other, served-same}
use Rattle.rht_registry.proofs.registry.ServingJob.work.Goals.{then-command-worker+in_ok-push, else-command-worker}
use Rattle.rht_registry.proofs.registry.ServingJob.work.Goals as goal

pub overflow_add-worker : goal.overflow_add-worker
overflow_add-worker g c =
    let few = new-below g.M.Mix.mix_of c.args.table.now c.args.number c.args.pass c.requires.new in
    omega (arith, few)

pub loop-command-preserved : goal.loop-command-preserved
loop-command-preserved g c =
    let mix = g.M.Mix.mix_of in
    let table = c.args.table.now in
    let auto = c.args.self.now.script.now.auto in
    let number = c.args.number in
    let items = c.deref-command-items.result.now in
    let i = c.loop-command.command-index in
    let before = c.loop-command.invariant in
    let few = before.few in
    let within : i < length items = omega arith in
    let here = c.command-item.result in
    let is = c.command-item.is in
    let pass = c.if-command-worker.pass in
    let replies = c.if-command-worker.replies in
    elim c.if-command-worker.branch [
      | then-command-worker+in_ok-push w ↦
          let own : here.0 ≡ number + 1 = omega (arith, w.if-command-worker.true) in
          let now = w.serve-reply.new.pass in
          let all = w.push.new.self in
          let kept =
          served-kept mix table auto (take i items) number here.1 w.serve-reply.result c.loop-command.pass now c.loop-command.replies
          all w.owners.result.now w.pairs.result.now w.serve-reply.ensures.served w.owners.ensures.owners w.pairs.ensures.pairs
          w.in_ok-push.ensures.ok before.served in
          let index_is = w.index-is in
          record {
            served =
                served-same mix table auto (take (i + 1) items) number pass now replies all w.pass-is w.replies-is
                (served-own mix table auto items i here here is number now all within own kept);
            items = before.items;
            few = omega (arith, few, index_is);
          }
      | else-command-worker w ↦
          let other = w.if-command-worker.false in
          let index_is = w.index-is in
          record {
            served =
                served-same mix table auto (take (i + 1) items) number pass c.loop-command.pass replies c.loop-command.replies w.pass-is
                w.replies-is
                (served-other mix table auto items i here here is number c.loop-command.pass c.loop-command.replies within
                (λ same. absurd (omega (arith, same, other))) before.served);
            items = before.items;
            few = omega (arith, few, index_is);
          }
    ]
