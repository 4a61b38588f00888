use Rattle.rht_session.proofs.WrittenBindings.{written_at, written_past}
use Rattle.rht_session.proofs.lists.write_at.Goals as goal

pub returns-then-place-into : goal.returns-then-place-into
returns-then-place-into c =
    λ before list was. written_at before list c.args.into.now c.args.pair c.args.place was c.if-place-into.true

pub returns-else-place-into : goal.returns-else-place-into
returns-else-place-into c =
    λ before list was. written_past before list c.args.into.now c.args.pair c.args.place was c.if-place-into.false
