use Rattle.rht_nest.proofs.MissingEntries.{place_or_missing}
use Rattle.rht_nest.proofs.laws.place_or_missing.Goals as goal

pub returns : goal.returns
returns c = place_or_missing
