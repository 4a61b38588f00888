use Rattle.std.specs.Prelude.{Some}
use Rattle.std.proofs.lemmas.List.Elements.{All-pop}
use Rattle.rht_bench.specs.Ready.{IsReady}
use Rattle.rht_bench.proofs.measure.resizer.Goals as goal

pub returns-clause-passes : goal.returns-clause-passes
returns-clause-passes g c =
    (All-pop (IsReady g.M.Mix.mix_of c.args.table.now) c.args.passes.now.items c.pop.new.self.items (Some c.in_ok-pass.pass)
    c.in_ok-pass.ensures.items c.requires).0

pub returns-clause-job : goal.returns-clause-job
returns-clause-job g c =
    (All-pop (IsReady g.M.Mix.mix_of c.args.table.now) c.args.passes.now.items c.pop.new.self.items (Some c.in_ok-pass.pass)
    c.in_ok-pass.ensures.items c.requires).1
