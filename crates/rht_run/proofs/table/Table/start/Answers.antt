use Rattle.std.proofs.Common.{refl}
use Rattle.std.specs.Prelude.{Some}
use Rattle.rht_run.proofs.CallSteps.{turned}
use Rattle.rht_run.proofs.table.Table.start.Goals as goal

pub returns-clause-turned : goal.returns-clause-turned
returns-clause-turned g c =
    turned g.M.Mix.mix_of c.args.self.now c.args.pass.now c.args.pass.now c.go.new.pass (Some c.args.call) c.args.call 0
    c.go.result (record { table = refl; number = refl }) c.requires.may refl c.go.ensures.pass c.go.ensures.same
    c.go.ensures.gone
