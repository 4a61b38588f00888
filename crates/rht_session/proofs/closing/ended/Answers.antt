use Rattle.std.proofs.Common.{sym, subst}
use Rattle.rht_run.specs.declared.table.Table.{Table}
use Rattle.rht_run.specs.Passes.{IsPassOf}
use Rattle.rht_session.proofs.closing.ended.Goals as goal

pub close_in-requires-clause-passes : goal.close_in-requires-clause-passes
close_in-requires-clause-passes g c =
    λ p among. subst (λ (t : Table g.row.M.Denot). IsPassOf g.M.Mix.mix_of t p) (sym c.in-Some.ensures) (c.requires.passes p among)
