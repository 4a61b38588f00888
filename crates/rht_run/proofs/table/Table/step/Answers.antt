use Rattle.std.specs.Prelude.{None}
use Rattle.rht_run.proofs.CallSteps.{turned}
use Rattle.rht_run.proofs.table.Table.step.Goals as goal

pub returns-clause-turned : goal.returns-clause-turned
returns-clause-turned g c call steps before is =
    turned g.M.Mix.mix_of c.args.self.now before c.args.pass.now c.go.new.pass None call steps c.go.result is.same
    c.requires.busy is.book c.go.ensures.pass c.go.ensures.same c.go.ensures.gone
