use Rattle.rht_model.specs.Multimap.{unbound}
use Rattle.rht_model.proofs.UnchangedBindings.{IsLegalFrom-added, bindings_left-added}
use Rattle.rht_model.proofs.laws.added_or_taken_out.Goals as goal

pub returns : goal.returns
returns c kind before behind entry legal unchanged = (
  IsLegalFrom-added kind unbound before behind entry legal unchanged,
  bindings_left-added kind unbound
      before behind entry unchanged,
)
