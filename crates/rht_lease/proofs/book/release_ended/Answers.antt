use Rattle.std.proofs.Common.{◌+◌, ◌<◌, [], ◌∷◌, ◌++◌, take, length, sym, ◌∙◌, subst, arith, take_all}
use Rattle.rht_lease.specs.Answers.{counting}
use Rattle.rht_lease.specs.Books.{release_of, sweep_calls}
use Rattle.rht_lease.specs.ServedLeases.{HasSwept}
use Rattle.rht_lease.proofs.ServedCommands.{HasSwept-none, HasSwept-more, HasSwept-same}
use Rattle.rht_lease.proofs.SweptLeases.{length-sweep_calls, sweep_calls-ended, sweep_calls-lasting}
use Rattle.rht_lease.proofs.book.release_ended.Goals.{then-is_ended, else-is_ended}
use Rattle.rht_lease.proofs.book.release_ended.Goals as goal

pub loop-lease-init : goal.loop-lease-init
loop-lease-init g c =
    HasSwept-none g.M.Mix.mix_of c.args.table.now c.args.auto c.args.pass.now c.requires.pass c.requires.idle

pub serve-requires-clause-pass : goal.serve-requires-clause-pass
serve-requires-clause-pass g c = c.loop-lease.invariant.served.pass

pub serve-requires-clause-idle : goal.serve-requires-clause-idle
serve-requires-clause-idle g c = c.loop-lease.invariant.served.idle

pub counting-swept-requires : goal.counting-swept-requires
counting-swept-requires g c =
    let few = length-sweep_calls c.args.now c.args.leases.now c.loop-lease.lease-index in
    let each = c.loop-lease.invariant.each in
    let short = c.requires.few in
    let within : c.loop-lease.lease-index < length c.args.leases.now = omega arith in
    omega (arith, few, each, short, within)

pub loop-lease-preserved : goal.loop-lease-preserved
loop-lease-preserved g c =
    let mix = g.M.Mix.mix_of in
    let table = c.args.table.now in
    let now = c.args.now in
    let leases = c.args.leases.now in
    let i = c.loop-lease.lease-index in
    let lease = c.lease-item.result in
    let within : i < length leases = omega arith in
    elim c.if-is_ended.branch [
      | then-is_ended w ↦
          HasSwept-same mix table c.args.auto (sweep_calls now (take i leases) ++ release_of lease ∷ []) (sweep_calls now (take (i + 1) leases))
          (counting c.loop-lease.swept w.serve.result) c.if-is_ended.swept c.args.pass.now w.serve.new.pass c.if-is_ended.pass
          (sweep_calls-ended now leases i lease within c.lease-item.is (sym c.is_ended.ensures ∙ w.if-is_ended.true))
          (w.swept-is ∙ w.counting-swept.ensures) w.pass-is
          (HasSwept-more mix table c.args.auto (sweep_calls now (take i leases)) lease.port lease.owner c.loop-lease.swept w.serve.result
          c.args.pass.now c.loop-lease.pass w.serve.new.pass c.loop-lease.invariant w.serve.ensures.served w.serve.ensures.reply)
      | else-is_ended w ↦
          HasSwept-same mix table c.args.auto (sweep_calls now (take i leases)) (sweep_calls now (take (i + 1) leases))
          c.loop-lease.swept c.if-is_ended.swept c.args.pass.now c.loop-lease.pass c.if-is_ended.pass
          (sweep_calls-lasting now leases i lease within c.lease-item.is (sym c.is_ended.ensures ∙ w.if-is_ended.false))
          w.swept-is w.pass-is c.loop-lease.invariant
    ]

pub returns : goal.returns
returns g c =
    subst (λ l. HasSwept g.M.Mix.mix_of c.args.table.now c.args.auto (sweep_calls c.args.now l) c.loop-lease.swept c.args.pass.now
    c.loop-lease.pass) (take_all c.loop-lease.lease-index c.args.leases.now (omega arith)) c.loop-lease.invariant
