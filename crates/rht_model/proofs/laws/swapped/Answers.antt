use Rattle.std.proofs.Common.{◌∷◌}
use Rattle.rht_model.specs.Multimap.{unbound}
use Rattle.rht_model.specs.Histories.{bindings_left}
use Rattle.rht_model.proofs.LongerHistories.{IsLegalFrom-behind, bindings_left-behind}
use Rattle.rht_model.proofs.PortsApart.{IsLegalFrom-swapped, bindings_left-swapped}
use Rattle.rht_model.proofs.laws.swapped.Goals as goal

pub returns : goal.returns
returns c kind before behind first second apart legal =
    let here = bindings_left kind unbound before in
    let one = first ∷ second ∷ behind in
    let other = second ∷ first ∷ behind in (
      IsLegalFrom-behind kind unbound before one other
          (IsLegalFrom-swapped kind here first second behind apart) legal,
      bindings_left-behind kind unbound before one other
          (bindings_left-swapped kind here first second behind apart),
    )
