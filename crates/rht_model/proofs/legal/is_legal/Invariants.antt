use Rattle.std.proofs.Common.{drop, ◌↔◌}
use Rattle.rht_model.specs.Pairs.{bindings_in}
use Rattle.rht_model.specs.Histories.{IsLegal, IsLegalFrom}
use Rattle.rht_model.proofs.legal.is_legal.Given as goal

-- the history is legal exactly where the entries from here on are, on the bindings so far
abbrev pub invariant-loop-entry : goal.invariant-loop-entry
invariant-loop-entry l =
    IsLegal l.kind l.history.items ↔ IsLegalFrom l.kind (bindings_in l.bindings)
    (drop l.entry-index l.history.items)
