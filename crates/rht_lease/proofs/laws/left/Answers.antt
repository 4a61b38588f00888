use Rattle.rht_lease.proofs.BookLaws.{leaves}
use Rattle.rht_lease.proofs.laws.left.Goals as goal

pub returns : goal.returns
returns c = leaves
