use Rattle.std.proofs.Common.{◌≡◌, ◌+◌, ◌≤◌, subst, arith}
use Rattle.rht_session.proofs.GoingOn.{IsOnItsWay, sets_out, goes_farther, comes_to, stops}
use Rattle.rht_session.proofs.shared.gone_on.Goals as goal

pub loop-made-init : goal.loop-made-init
loop-made-init g c =
    let none : 0 ≤ c.args.most = omega arith in
    (none, sets_out g.M.Mix.mix_of c.args.table.now c.args.pass.now c.requires.fit c.requires.busy)

pub loop-made-preserved : goal.loop-made-preserved
loop-made-preserved g c =
    let below = c.loop-made-test.true in
    let one = c.in_default.ensures in
    let next : c.loop-made.made + 1 ≤ c.args.most = omega (arith, below) in (
      next,
      goes_farther g.M.Mix.mix_of c.args.table.now c.args.pass.now c.loop-made.made c.loop-made.pass c.step.new.pass
          c.loop-made.invariant.1 one.gone one.pass one.same one.turned,
    )

pub returns-in-Some : goal.returns-in-Some
returns-in-Some g c =
    let one = c.in-Some.ensures in
    comes_to g.M.Mix.mix_of c.args.table.now c.args.pass.now c.loop-made.made c.loop-made.pass c.step.new.pass c.loop-made.invariant.1
    c.args.most c.in-Some.reply c.loop-made-test.true one.gone one.pass one.same one.turned

pub returns : goal.returns
returns g c =
    let not_below = c.loop-made-test.false in
    let within = c.loop-made.invariant.0 in
    let all : c.loop-made.made ≡ c.args.most = omega (arith, not_below, within) in
    stops g.M.Mix.mix_of c.args.table.now c.args.pass.now c.args.most c.loop-made.pass c.requires.some
    (subst (λ n. IsOnItsWay g.M.Mix.mix_of c.args.table.now c.args.pass.now n c.loop-made.pass) all c.loop-made.invariant.1)
