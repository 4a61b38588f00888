use Rattle.rht_model.specs.Multimap.{unbound}
use Rattle.rht_model.proofs.LongerHistories.{IsLegalFrom-alike, bindings_left-alike}
use Rattle.rht_model.proofs.laws.gone_on_alike.Goals as goal

pub returns : goal.returns
returns c kind first second more agree legal goes_on = (
  IsLegalFrom-alike kind unbound first second more agree legal goes_on,
  bindings_left-alike kind
      unbound first second more agree,
)
