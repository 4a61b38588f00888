use Rattle.rht_lease.proofs.BookLaws.{misses}
use Rattle.rht_lease.proofs.laws.missed.Goals as goal

pub returns : goal.returns
returns c = misses
