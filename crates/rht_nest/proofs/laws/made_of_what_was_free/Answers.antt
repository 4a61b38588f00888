use Rattle.rht_nest.proofs.MakesMade.{made_of_what_was_free}
use Rattle.rht_nest.proofs.laws.made_of_what_was_free.Goals as goal

pub returns : goal.returns
returns c = made_of_what_was_free
