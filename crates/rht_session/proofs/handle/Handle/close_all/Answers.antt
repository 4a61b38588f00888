use Rattle.std.proofs.Common.{◌≡◌, [], ◌∷◌, true, false, map, sym, ap, ◌∙◌}
use Rattle.rht_session.specs.declared.session.Session.{Session}
use Rattle.rht_session.proofs.TakenHandles.{none_have, some_have, have_open, have_fit, open_have, all_blank_fit, all_same_fit, why_kept}
use Rattle.rht_session.proofs.handle.Handle.close_all.Goals as goal
use Rattle.rht_session.proofs.handle.Handle.close_all.Goals.{then-is_empty-via-then-is_empty, then-is_empty-via-else-is_empty+then-not-are_open}

pub returns-then-is_empty-clause-why : goal.returns-then-is_empty-clause-why
returns-then-is_empty-clause-why c = λ all have some.
    elim c.then-is_empty.branch [
      | then-is_empty-via-then-is_empty w ↦ none_have c.args.handles.now all have w.if-is_empty.ensures some
      | then-is_empty-via-else-is_empty+then-not-are_open w ↦
          let no : false ≡ true = w.if-not-are_open.ensures ∙ have_open c.args.handles.now all have in
          absurd cc
    ]

pub returns-in_default-clause-why : goal.returns-in_default-clause-why
returns-in_default-clause-why c =
    let handles = c.args.handles.now in
    let have = open_have handles (sym c.are_open.ensures ∙ c.if-not-are_open.false) in
    (have.0, some_have handles have.0 have.1 (sym c.is_empty.ensures ∙ c.if-is_empty.false), have.1)

pub closed-requires-clause-fit : goal.closed-requires-clause-fit
closed-requires-clause-fit c =
    have_fit c.args.handles.now (map (λ b. b.value) c.taken_out.result.items) c.taken_out.ensures.taken c.requires.fit

pub returns-in-Ok-closed-clause-closed : goal.returns-in-Ok-closed-clause-closed
returns-in-Ok-closed-clause-closed c =
    let handles = c.args.handles.now in
    let all = map (λ b. b.value) c.taken_out.result.items in
    let have = c.taken_out.ensures.taken in (
      all,
      some_have handles all have (sym c.is_empty.ensures ∙ c.if-is_empty.false),
      have,
      c.in-Ok-closed.ensures.free,
      c.in-Ok-closed.ensures.closed,
    )

pub returns-in-Ok-closed-clause-fit : goal.returns-in-Ok-closed-clause-fit
returns-in-Ok-closed-clause-fit c = all_blank_fit c.taken_out.new.handles c.taken_out.ensures.blank

pub returns-in-Err-clause-why : goal.returns-in-Err-clause-why
returns-in-Err-clause-why c =
    let handles = c.args.handles.now in
    let all = map (λ b. b.value) c.taken_out.result.items in
    let have = c.taken_out.ensures.taken in
    let some = some_have handles all have (sym c.is_empty.ensures ∙ c.if-is_empty.false) in
    why_kept handles all have some c.in-Err.field-0.why c.in-Err.ensures.why

pub returns-in-Err-clause-fit : goal.returns-in-Err-clause-fit
returns-in-Err-clause-fit c =
    all_same_fit c.args.handles.now c.put_back.new.handles
    (c.put_back.ensures
    ∙ ap (λ boxes. map (λ (s : Session). s ∷ []) (map (λ b. b.value) boxes))
    c.in-Err.ensures.kept ∙ sym c.taken_out.ensures.taken)
    c.requires.fit
