use Rattle.rht_lease.proofs.BookLaws.{owns}
use Rattle.rht_lease.proofs.laws.own_calls.Goals as goal

pub returns : goal.returns
returns c = owns
