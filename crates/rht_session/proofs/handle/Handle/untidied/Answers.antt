use Rattle.std.proofs.Common.{◌≡◌, [], ◌∷◌, refl, sym, ap, ◌∙◌}
use Rattle.rht_session.specs.Sessions.{is_free}
use Rattle.rht_session.proofs.handle.Handle.untidied.Goals as goal

pub returns-clause-nodes : goal.returns-clause-nodes
returns-clause-nodes c =
    let was = c.in_ok-need_free.ensures.free in
    let lent = c.session.result.now in
    let both : was.0 ∷ [] ≡ lent ∷ [] = sym was.1 ∙ c.session.ensures.value in
    let one : was.0 ≡ lent = cc in
    (lent, refl, ap is_free (sym one) ∙ was.2, sym c.untidied.ensures)
