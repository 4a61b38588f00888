use Rattle.rht_lease.proofs.BookLaws.{holds}
use Rattle.rht_lease.proofs.laws.held.Goals as goal

pub returns : goal.returns
returns c = holds
