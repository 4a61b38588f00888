use Rattle.rht_model.proofs.Agreements.{Agree-refl}
use Rattle.rht_model.proofs.Refusals.{left_by-IsRefused}
use Rattle.rht_model.proofs.laws.refused_without_change.Goals as goal

pub returns : goal.returns
returns c kind bindings entry refused = rw (left_by-IsRefused kind bindings entry refused)
    (Agree-refl bindings)
