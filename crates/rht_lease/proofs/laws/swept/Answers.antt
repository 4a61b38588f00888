use Rattle.rht_lease.proofs.BookLaws.{sweeps}
use Rattle.rht_lease.proofs.laws.swept.Goals as goal

pub returns : goal.returns
returns c = sweeps
