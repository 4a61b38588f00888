use Rattle.rht_run.proofs.ServedCommands.{works_begin, works_on, works_end}
use Rattle.rht_run.proofs.table.Table.work_off.Goals as goal

pub loop-init : goal.loop-init
loop-init g c = works_begin g.M.Mix.mix_of c.args.self.now c.args.pass.now c.requires.pass c.requires.idle

pub returns-then-not-is_again : goal.returns-then-not-is_again
returns-then-not-is_again g c =
    works_end g.M.Mix.mix_of c.args.self.now c.args.pass.now c.loop.pass c.work.new.pass c.work.result c.loop.invariant
    c.work.ensures.called (λ moved. let is = c.is_again.ensures.1 moved in let not = c.if-not-is_again.true in absurd (cc))

pub loop-preserved : goal.loop-preserved
loop-preserved g c =
    works_on g.M.Mix.mix_of c.args.self.now c.args.pass.now c.loop.pass c.work.new.pass c.work.result c.loop.invariant
    c.work.ensures.called (c.is_again.ensures.0 c.if-not-is_again.false)
