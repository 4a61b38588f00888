use Rattle.std.proofs.Common.{sym, ◌∙◌, arith}
use Rattle.rht_session.proofs.handle.Handle.close.Goals as goal

pub returns-then-nodes-gt0-clause-refused : goal.returns-then-nodes-gt0-clause-refused
returns-then-nodes-gt0-clause-refused c =
    let had = c.in_ok-nodes.ensures.nodes in
    let some = c.if-nodes-gt0.true in (
      record { session = had.0; had = sym c.untidied.ensures.same ∙ had.1; has = had.1; is = had.2 },
      omega (arith, some, had.3),
    )

pub returns-clause-closed : goal.returns-clause-closed
returns-clause-closed c =
    let had = c.in_ok-nodes.ensures.nodes in
    let none = c.if-nodes-gt0.false in
    (c.let_go.ensures, (had.0, sym c.untidied.ensures.same ∙ had.1, had.2, omega (arith, none, had.3)))
