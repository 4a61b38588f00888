use Rattle.std.proofs.Common.{map, length, sym, ap, ◌∙◌, subst, arith}
use Rattle.std.proofs.lemmas.List.{length-map}
use Rattle.std.specs.List.{list_all}
use Rattle.rht_session.specs.Sessions.{is_free}
use Rattle.rht_session.specs.Closings.{AreRoomsFor}
use Rattle.rht_session.proofs.ClosedSessions.{all_read}
use Rattle.rht_session.proofs.closing.closed.Goals as goal

pub returns-then-not-are_together-clause-why : goal.returns-then-not-are_together-clause-why
returns-then-not-are_together-clause-why c =
    let some = c.are_together.ensures c.if-not-are_together.true in
    let boxes = ap length c.deref.ensures.value in
    omega (arith, some, boxes, length-map c.args.sessions.items (λ b. b.value))

pub returns-then-not-are_free-clause-why : goal.returns-then-not-are_free-clause-why
returns-then-not-are_free-clause-why c =
    sym (all_read is_free (λ b. b.value) c.args.sessions.items)
    ∙ ap (λ boxes. list_all (λ b. is_free b.value) boxes) (sym c.deref-2.ensures.value) ∙ sym c.are_free.ensures ∙ c.if-not-are_free.true

pub mixed_closed-requires-clause-rooms : goal.mixed_closed-requires-clause-rooms
mixed_closed-requires-clause-rooms c =
    subst (AreRoomsFor (map (λ b. b.value) c.args.sessions.items)) c.in-Ok-Mix.field-0-is
    (subst (λ boxes. AreRoomsFor (map (λ b. b.value) boxes) c.in-Ok-Mix.field-0) c.deref-3.ensures.value c.in-Ok-Mix.ensures)

pub low_closed-requires-clause-rooms : goal.low_closed-requires-clause-rooms
low_closed-requires-clause-rooms c =
    subst (AreRoomsFor (map (λ b. b.value) c.args.sessions.items)) c.in-Ok-Low.field-0-is
    (subst (λ boxes. AreRoomsFor (map (λ b. b.value) boxes) c.in-Ok-Low.field-0) c.deref-3.ensures.value c.in-Ok-Low.ensures)

pub returns-in-Ok-Mix-clause-free : goal.returns-in-Ok-Mix-clause-free
returns-in-Ok-Mix-clause-free c =
    sym (all_read is_free (λ b. b.value) c.args.sessions.items)
    ∙ ap (λ boxes. list_all (λ b. is_free b.value) boxes) (sym c.deref-2.ensures.value) ∙ sym c.are_free.ensures ∙ c.if-not-are_free.false

pub returns-in-Ok-Low-clause-free : goal.returns-in-Ok-Low-clause-free
returns-in-Ok-Low-clause-free c =
    sym (all_read is_free (λ b. b.value) c.args.sessions.items)
    ∙ ap (λ boxes. list_all (λ b. is_free b.value) boxes) (sym c.deref-2.ensures.value) ∙ sym c.are_free.ensures ∙ c.if-not-are_free.false
