use Rattle.std.proofs.Common.{◌≡◌, List, [], ◌∷◌, ◌++◌, ⊎_elim, ◌∙◌, ap, sym, subst}
use Rattle.rht_run.specs.declared.pass.Pass.{Pass}
use Rattle.rht_run.specs.Passes.{IsPassOf, Among}
use Rattle.rht_run_tests.proofs.run.closed.Goals as goal

pub close-requires-clause-passes : goal.close-requires-clause-passes
close-requires-clause-passes g c p among =
    let one : c.push.new.self.items ≡ c.args.pass ∷ [] =
    c.in_ok-push.ensures.items
    ∙ ap (λ (ps : List (Pass g.row.M.Denot)). ps ++ c.args.pass ∷ []) c.new-passes.ensures.items in
    ⊎_elim (λ (e : p ≡ c.args.pass). subst (IsPassOf g.M.Mix.mix_of c.args.table) (sym e) c.requires) absurd
    (subst (Among p) one among)
