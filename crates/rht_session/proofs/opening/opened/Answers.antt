use Rattle.std.proofs.Common.{◌≡◌, [], ◌∷◌, map, sym, ap, ◌∙◌}
use Rattle.std.proofs.lemmas.List.{map-id}
use Rattle.std.proofs.lemmas.Iterator.Adapters.{YieldsList-from_vec}
use Rattle.std.proofs.lemmas.Iterator.Consumers.{YieldsList-end}
use Rattle.rht_session.specs.declared.session.Session.{Session}
use Rattle.rht_session.proofs.OpenedHandles.{opened_fit, handles_fit}
use Rattle.rht_session.proofs.opening.opened.Goals as goal

pub returns-clause-fit : goal.returns-clause-fit
returns-clause-fit c =
    let sessions = c.in_ok-sessions.sessions.items in
    let given = c.loop-session.yielded in
    let end = YieldsList-end (YieldsList-from_vec sessions (cc) (cc)) given c.loop-session.session-iterator
    c.loop-session.yielded_by c.next.result c.next.new.self c.in-None.is c.next.ensures.steps in
    let whole : given ≡ sessions = sym (map-id given) ∙ end.0 in
    handles_fit c.loop-session.handles.items sessions
    (c.loop-session.invariant.all ∙ ap (map (λ (session : Session). session ∷ [])) whole)
    (opened_fit c.args.config c.args.config.hash sessions c.in_ok-sessions.ensures)
