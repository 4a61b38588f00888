use Rattle.rht_model.specs.Multimap.{unbound}
use Rattle.rht_model.proofs.CallEffects.{IsSingle-unbound, IsSingle-bindings_left}
use Rattle.rht_model.proofs.laws.one_owner.Goals as goal

pub returns : goal.returns
returns c history = IsSingle-bindings_left unbound history IsSingle-unbound
