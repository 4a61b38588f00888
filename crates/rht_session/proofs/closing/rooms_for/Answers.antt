use Rattle.std.proofs.Common.{◌∷◌, map, drop, sym, ap, ◌∙◌, subst, arith}
use Rattle.std.proofs.lemmas.List.{length-map}
use Rattle.rht_run.specs.declared.table.Table.{Table}
use Rattle.rht_run.specs.ClosingSpaces.{IsSpaceFor}
use Rattle.rht_session.proofs.ClosedSessions.{first_of}
use Rattle.rht_session.proofs.closing.rooms_for.Goals as goal

pub returns-in_ok-closing_space-in-Mix : goal.returns-in_ok-closing_space-in-Mix
returns-in_ok-closing_space-in-Mix c =
    let boxes = c.args.sessions.now in
    let first = c.index-sessions-0.result in
    let capacity = c.in_ok-with_capacity-in-Mix.ensures.capacity in (
      c.in_ok-with_capacity-in-Mix.ensures.items,
      omega (arith, capacity, length-map boxes (λ b. b.value)),
      c.in-Mix.shared,
      map (λ b. b.value) (drop 1 boxes),
      ap (map (λ b. b.value)) (first_of boxes first first c.requires c.index-sessions-0.is)
          ∙ ap (λ s. s ∷ map (λ b. b.value) (drop 1 boxes)) (sym c.deref.ensures ∙ c.in-Mix.is),
      subst (λ (t : Table _). IsSpaceFor t.env.geometry c.in_ok-closing_space-in-Mix.field-0) c.deref-in-Mix.ensures
          c.in_ok-closing_space-in-Mix.ensures,
    )

pub returns-in_ok-closing_space-in-Low : goal.returns-in_ok-closing_space-in-Low
returns-in_ok-closing_space-in-Low c =
    let boxes = c.args.sessions.now in
    let first = c.index-sessions-0.result in
    let capacity = c.in_ok-with_capacity-in-Low.ensures.capacity in (
      c.in_ok-with_capacity-in-Low.ensures.items,
      omega (arith, capacity, length-map boxes (λ b. b.value)),
      c.in-Low.shared,
      map (λ b. b.value) (drop 1 boxes),
      ap (map (λ b. b.value)) (first_of boxes first first c.requires c.index-sessions-0.is)
          ∙ ap (λ s. s ∷ map (λ b. b.value) (drop 1 boxes)) (sym c.deref.ensures ∙ c.in-Low.is),
      subst (λ (t : Table _). IsSpaceFor t.env.geometry c.in_ok-closing_space-in-Low.field-0) c.deref-in-Low.ensures
          c.in_ok-closing_space-in-Low.ensures,
    )
